-- Two equal L steps, two equal turns, and a split with the join of its halves, each give the list back, where both steps are done.
-- Assumes nothing.
use mathlib.Core.Path.{◌≡◌, sym, ap, ap₂, ◌∙◌}
use mathlib.Core.Logic.{◌≢◌}
use mathlib.Core.List.{List, [], ◌∷◌, ◌++◌, map}
use Prim.Native.Nat.{ℕ, ◌<◌}
use native.Mathlib.Decide.{ℕ_discrete}
use native.Mathlib.Omega.{arith}
use lib.ListN.{length, set, length-set, get_or-append}
use lib.Seq.{get_or-set_same, get_or-set_other, set-set, set_comm, set-get_or, set-append_left, get_or_at}
use Rattle.bits.specs.Sums.{All}
use Rattle.records.specs.Places.{remove_at}
use Rattle.cube.specs.declared.Cube.{Cube}
use Rattle.cube.specs.Cubes.{code, put, one, Good}
use Rattle.cube.proofs.Apart.{Two, apart_one}
use Rattle.cube.proofs.Codes.{code_lt, code_same, code_other, put_put, put_self}
use Rattle.cube.proofs.Lists.{good_at}
use Rattle.orders.specs.Codes.{third, lower, higher}
use Rattle.orders.proofs.Codes.{third_lt, third_comm, third_not_second, third_back, lower_lt, lower_other, higher_lt, higher_third}
use Rattle.steps.specs.Moves.{next, join_at, split_at, turn_at}
use Rattle.steps.specs.Steps.{Step, join, split, turn, L, Allowed, cube_at, third_at, exchanged, step}
use Rattle.steps.specs.Effects.{JoinDone, SplitDone, TurnDone}
use Rattle.steps.proofs.Balanced.{next_same}
use Rattle.steps.proofs.Inversion.{join_accepted, split_accepted, turn_accepted, turn_two}
use Rattle.steps.proofs.Linear.{exchanged_list_twice}
use Rattle.steps.proofs.Places.{remove_last}
use Rattle.compactor.specs.Compact.{Pair, two_l, two_turns, split_and_join}

-- the third of two cubes, and then the third of that and a cube with the second's code, is the first cube
third_at_back : (n : ℕ) (c d y : Cube) (v : ℕ) → Good n c → v < n → code d v ≢ code c v → code y v ≡ code d v → third_at (third_at c d v) y v ≡ c
third_at_back n c d y v g h f e =
    let z : ℕ = third (code c v) (code d v) in
    put_put c v z (third (code (put c v z) v) (code y v))
    ∙ ap (put c v) (ap₂ third (code_same c v z (third_lt (code c v) (code d v))) e ∙ third_back (code c v) (code d v) (code_lt c v) (code_lt d v) f)
    ∙ put_self n c v g h

module _ (n cap : ℕ) (l m r : List Cube) (a : All (Good n) l) where
  l_twice : (v b : ℕ) → v < n → b < 2 → step n cap (L v b) l ≡ next m → step n cap (L v b) m ≡ next r → r ≡ l
  unfolding step
  l_twice v b hv hb e f = sym (next_same f) ∙ ap (map (exchanged v b)) (sym (next_same e)) ∙ exchanged_list_twice n v b hv hb l a

  turn_twice : (v i j : ℕ) → v < n → step n cap (turn v i j) l ≡ next m → step n cap (turn v i j) m ≡ next r → r ≡ l
  unfolding turn_at
  turn_twice v i j hv e f =
      t.list
      ∙ ap₂ (λ (x y : Cube). set (set m i (third_at x y v)) j (third_at y x t.u)) at_i at_j
      ∙ ap (λ (u : ℕ). set (set m i (third_at x y v)) j (third_at y x u)) same_u
      ∙ ap₂ (λ (b w : Cube). set (set m i b) j w) back_c back_d
      ∙ ap (λ (k : List Cube). set (set k i c) j d) s.list
      ∙ ap (λ (k : List Cube). set k j d) (set_comm (set l i x) j i y c (λ k. s.places.unlike (sym k)))
      ∙ set-set (set (set l i x) i c) j y d
      ∙ ap (λ (k : List Cube). set k j d) (set-set l i x c ∙ set-get_or l i one)
      ∙ set-get_or l j one
    where
      s : TurnDone n v i j l m
      s = turn_accepted n cap v i j l m e

      t : TurnDone n v i j m r
      t = turn_accepted n cap v i j m r f

      c : Cube
      c = cube_at l i

      d : Cube
      d = cube_at l j

      first : Two n c d v s.u
      first = turn_two n cap v i j l m s

      second : Two n (cube_at m i) (cube_at m j) v t.u
      second = turn_two n cap v i j m r t

      x : Cube
      x = third_at c d v

      y : Cube
      y = third_at d c s.u

      at_i : cube_at m i ≡ x
      at_i = ap (λ (k : List Cube). cube_at k i) s.list ∙ get_or-set_other (set l i x) j i y one s.places.unlike ∙ get_or-set_same l i x one s.places.first

      at_j : cube_at m j ≡ y
      at_j = ap (λ (k : List Cube). cube_at k j) s.list ∙ get_or-set_same (set l i x) j y one (omega (arith, s.places.second, length-set l i x))

      code_x : code x s.u ≡ code c s.u
      code_x = code_other c v (third (code c v) (code d v)) s.u (λ k. first.distinct (sym k))

      code_y : code y v ≡ code d v
      code_y = code_other d s.u (third (code d s.u) (code c s.u)) v first.distinct

      other : code c s.u ≢ code d s.u
      other k = first.at_q (sym k)

      back_c : third_at x y v ≡ c
      back_c = third_at_back n c d y v (good_at n l a i) hv first.at_p code_y

      back_d : third_at y x s.u ≡ d
      back_d = third_at_back n d c x s.u (good_at n l a j) first.q_lt other code_x

      -- the cubes still differ at the other variable
      differ : code y s.u ≢ code x s.u
      differ k =
          third_not_second (code d s.u) (code c s.u) (code_lt d s.u) (code_lt c s.u) other
          (sym (code_same d s.u (third (code d s.u) (code c s.u)) (third_lt (code d s.u) (code c s.u))) ∙ k ∙ code_x)

      -- which is the other variable of the second turn too
      same_u : t.u ≡ s.u
      same_u = elim (ℕ_discrete t.u s.u) [
        | yes k ↦ k
        | no k ↦ absurd (differ (sym (
            sym (ap (λ (b : Cube). code b s.u) at_i)
            ∙ second.elsewhere s.u first.q_lt (λ h. first.distinct (sym h)) (λ h. k (sym h))
            ∙ ap (λ (b : Cube). code b s.u) at_j)))
      ]

  split_joined : (v i : ℕ) → v < n → step n cap (split v i) l ≡ next m → step n cap (join i (length l)) m ≡ next r → r ≡ l
  unfolding split_at join_at
  split_joined v i hv e f =
      t.list
      ∙ ap₂ (λ (b w : Cube). remove_at one (set m i (third_at b w t.v)) (length l)) at_i at_j
      ∙ ap (λ (k : ℕ). remove_at one (set m i (third_at x y k)) (length l)) same_v
      ∙ ap₂ (λ (k : List Cube) (b : Cube). remove_at one (set k i b) (length l)) s.list back
      ∙ ap (λ (k : List Cube). remove_at one k (length l))
      (set-append_left (set l i x) (y ∷ []) i c (omega (arith, s.place, length-set l i x)) ∙ ap (λ (k : List Cube). k ++ y ∷ []) (set-set l i x c ∙ set-get_or l i one))
      ∙ remove_last one l y
    where
      s : SplitDone cap v i l m
      s = split_accepted n cap v i l m e

      t : JoinDone n i (length l) m r
      t = join_accepted n cap i (length l) m r f

      c : Cube
      c = cube_at l i

      low : ℕ
      low = lower (code c v)

      x : Cube
      x = put c v low

      y : Cube
      y = put c v (higher (code c v))

      at_i : cube_at m i ≡ x
      at_i =
          ap (λ (k : List Cube). cube_at k i) s.list ∙ get_or-append (set l i x) (y ∷ []) one i (omega (arith, s.place, length-set l i x))
          ∙ get_or-set_same l i x one s.place

      at_j : cube_at m (length l) ≡ y
      at_j = ap (λ (k : List Cube). cube_at k (length l)) s.list ∙ get_or_at (set l i x) y [] one (length l) (length-set l i x)

      -- the halves differ at v alone
      same_v : t.v ≡ v
      same_v = elim (ℕ_discrete t.v v) [
        | yes k ↦ k
        | no k ↦ absurd ((apart_one n (cube_at m i) (cube_at m (length l)) t.v t.differ).1 (
            ap (λ (b : Cube). code b t.v) at_j ∙ code_other c v (higher (code c v)) t.v k
            ∙ sym (ap (λ (b : Cube). code b t.v) at_i ∙ code_other c v low t.v k)))
      ]

      back : third_at x y v ≡ c
      back =
          put_put c v low (third (code x v) (code y v))
          ∙ ap (put c v)
          (ap₂ third (code_same c v low (lower_lt (code c v))) (code_same c v (higher (code c v)) (higher_lt (code c v)) ∙ higher_third (code c v) (code_lt c v))
          ∙ third_comm low (third (code c v) low)
          ∙ third_back (code c v) low (code_lt c v) (lower_lt (code c v)) (lower_other (code c v) (code_lt c v)))
          ∙ put_self n c v (good_at n l a i) hv

  -- the list is what it was
  pub pair_back : (x y : Step) → Pair (length l) x y → Allowed n x → step n cap x l ≡ next m → step n cap y m ≡ next r → r ≡ l
  pair_back x y p = go p
    where
      go : {x y : Step} → Pair (length l) x y → Allowed n x → step n cap x l ≡ next m → step n cap y m ≡ next r → r ≡ l
      go (two_l {v} {b}) h e f = l_twice v b h.0 h.1 e f
      go (two_turns {v} {i} {j}) h e f = turn_twice v i j h e f
      go (split_and_join {v} {i}) h e f = split_joined v i h e f

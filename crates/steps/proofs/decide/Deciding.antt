-- What is decided on values: two places by the number that refuses them, and each step by the set of the variables in which two cubes differ.
-- Assumes nothing.
use mathlib.Core.Path.{◌≡◌, refl, sym, ap, ap₂, ◌∙◌, subst}
use mathlib.Core.Logic.{◌≢◌}
use mathlib.Core.Bool.{true, not, cond}
use mathlib.Core.List.{List, [], ◌∷◌}
use Prim.Native.Nat.{ℕ, zero, suc, ◌^◌, ◌≤◌, ◌<◌}
use native.Mathlib.Decide.{ℕ_discrete, dec_lt}
use native.Mathlib.Omega.{arith}
use lib.Bits.{bit_xor, differ}
use lib.Count.{ones, count_trailing_zeros}
use lib.Dec.{lit<, eqb}
use lib.ListN.{length}
use borrow.Author.Tests.{eqb-true, eqb-false, eq-eqb, ne_eqb, lt-ltb, le-ltb, not-true, not-false}
use Rattle.std.specs.Prelude.{Some}
use Rattle.bits.specs.Bits.{bit}
use Rattle.bits.proofs.Bools.{all_at}
use Rattle.bits.proofs.Bits.{bit_lt, bit_ext, bit_high, bit_xor_lem, pow_bit, pow_bit_other}
use Rattle.records.specs.declared.reason.Reason.{Reason}
use Rattle.records.specs.Reasons.{number_of}
use Rattle.cube.specs.declared.Cube.{Cube}
use Rattle.cube.specs.Cubes.{code, put, with_code, Good, apart, differing, mask_bits}
use Rattle.cube.specs.Lists.{most_variables}
use Rattle.cube.proofs.Codes.{code_lt, code_above, with_put}
use Rattle.cube.proofs.Masks.{differing_bit, apart_count}
use Rattle.cube.proofs.Apart.{apart_none, apart_one, Two, apart_two, two_swap}
use Rattle.orders.specs.Codes.{third, third_of, lower, higher}
use Rattle.orders.proofs.Codes.{third_of_codes}
use Rattle.steps.specs.declared.Change.{Change}
use Rattle.steps.specs.declared.Change.TheVariants as change_is
use Rattle.steps.specs.Moves.{step_refusal, step_refusal_with, Move, refuse, drops, joins, splits, turns}
use Rattle.steps.specs.Steps.{third_at, at_two_places, unfit_by, dropped, drop_move, joined, join_move, split_move, turned, turn_move}
use Rattle.steps.specs.Changes.{move_of, places_number, Misplaced}
use Rattle.steps.proofs.Places.{two_tests}

-- ---- a test of one number

module _ (x k y z : ℕ) where
  pub is_then : x ≡ k → y ≡ cond (eqb x k) y z
  is_then e = simp (eq-eqb x k e)

  pub is_else : (x ≡ k → ⊥) → z ≡ cond (eqb x k) y z
  is_else ne = simp (ne_eqb x k ne)

-- ---- two places

module _ (count i j : ℕ) where
  pub places_first : count ≤ i → 10 ≡ places_number count i j
  unfolding places_number
  places_first h = simp (le-ltb i count h)

  pub places_second : i < count → count ≤ j → 10 ≡ places_number count i j
  unfolding places_number
  places_second hi h = simp (lt-ltb i count hi, le-ltb j count h)

  pub places_equal : i < count → j < count → i ≡ j → 11 ≡ places_number count i j
  unfolding places_number
  places_equal hi hj e = simp (lt-ltb i count hi, lt-ltb j count hj, eq-eqb i j e)

  pub places_fine : i < count → j < count → (i ≡ j → ⊥) → 0 ≡ places_number count i j
  unfolding places_number
  places_fine hi hj ne = simp (lt-ltb i count hi, lt-ltb j count hj, ne_eqb i j ne)

  module _ {A : Type 0} (p : ℕ) (e : p ≡ places_number count i j) (m : Move A) where
    pub number_refused : (p ≡ 0 → ⊥) → refuse (step_refusal p) ≡ at_two_places count i j m
    unfolding places_number
    number_refused ne =
        two_tests count i j
        (λ t u. p ≡ cond t (cond u 11 0) 10 → refuse (step_refusal p) ≡ cond t (cond u (refuse (step_refusal 11)) m) (refuse (step_refusal 10)))
        (λ u h q. ap (λ (k : ℕ). refuse (step_refusal k)) q) (λ h f q. ap (λ (k : ℕ). refuse (step_refusal k)) q) (λ two q. absurd (ne q)) e

    pub number_passed : p ≡ 0 → m ≡ at_two_places count i j m
    unfolding places_number
    number_passed z =
        two_tests count i j (λ t u. ◌≡◌ {A = ℕ} 0 (cond t (cond u 11 0) 10) → m ≡ cond t (cond u (refuse (step_refusal 11)) m) (refuse (step_refusal 10)))
        (λ u h q. absurd (omega arith)) (λ h f q. absurd (omega arith)) (λ two q. refl) (sym z ∙ e)

-- a step that is refused for its places, whatever is decided of its records
pub places_refused : {A : Type 0} (count i j : ℕ) (reason : Reason) → Misplaced count i j (Some reason) → (m : Move A) → (c : Change A)
    → c ≡ change_is.Refuse (step_refusal (number_of reason)) → move_of c ≡ at_two_places count i j m
unfolding move_of
places_refused count i j reason e m c ec = ap move_of ec ∙ number_refused count i j (number_of reason) e.0 m e.1

-- ---- the set of the variables in which two good cubes differ

-- a set with one member
is_pow : (x v : ℕ) → bit x v ≡ 1 → ((k : ℕ) → k ≢ v → bit x k ≡ 0) → x ≡ 2 ^ v
is_pow x v e f = bit_ext x (2 ^ v) (λ k. go k (ℕ_discrete k v))
  where
    go : (k : ℕ) → Dec (k ≡ v) → bit x k ≡ bit (2 ^ v) k
    go k (yes p) = subst (λ (m : ℕ). bit x m ≡ bit (2 ^ v) m) (sym p) (e ∙ sym (pow_bit v))
    go k (no d) = f k d ∙ sym (pow_bit_other v k d)

-- its lowest member
lowest_pow : (v : ℕ) → v < mask_bits → count_trailing_zeros 32 (2 ^ v) ≡ v
unfolding count_trailing_zeros
lowest_pow v h = eqb-true _ _ (all_at 32 (λ v. eqb (count_trailing_zeros 32 (2 ^ v)) v) refl v h)

module _ (n : ℕ) (a b : Cube) (g : Good n a) (h : Good n b) where
  bit_unlike : (k : ℕ) → code b k ≢ code a k → bit (differing a b) k ≡ 1
  bit_unlike k ne =
      let t : not (eqb (bit (differing a b) k) 0) ≡ true =
      sym (differing_bit n a b g h k) ∙ ap not (ne_eqb (code a k) (code b k) (λ e. ne (sym e))) in
      let set : bit (differing a b) k ≢ 0 = eqb-false _ 0 (not-true _ t) in
      one (bit (differing a b) k) (bit_lt (differing a b) k) set
    where
      one : (x : ℕ) → x < 2 → x ≢ 0 → x ≡ 1
      one zero l ne = absurd (ne refl)
      one (suc zero) l ne = refl
      one (suc (suc x)) l ne = absurd (omega arith)

  bit_alike : (k : ℕ) → code a k ≡ code b k → bit (differing a b) k ≡ 0
  bit_alike k e =
      eqb-true _ 0 (not-false _ (sym (differing_bit n a b g h k) ∙ ap not (eq-eqb (code a k) (code b k) e)))

  -- past the n variables the cubes agree
  bit_apart : (k : ℕ) → (k < n → code a k ≡ code b k) → bit (differing a b) k ≡ 0
  bit_apart k f = bit_alike k (elim (dec_lt k n) [ yes l ↦ f l | no l ↦ code_above n a g k (omega arith) ∙ sym (code_above n b h k (omega arith)) ])

  pub none_set : apart n a b ≡ [] → differing a b ≡ 0
  none_set e = bit_ext (differing a b) 0 (λ k. bit_apart k (apart_none n a b e k) ∙ sym (bit_high 0 0 k (lit< tt) (omega arith)))

  one_set : (v : ℕ) → apart n a b ≡ v ∷ [] → differing a b ≡ 2 ^ v
  one_set v e =
      let t = apart_one n a b v e in
      is_pow (differing a b) v (bit_unlike v t.1) (λ k d. bit_apart k (λ l. t.2 k l d))

  -- where they differ at p and q, the set without p is that of q
  other_set : (p q : ℕ) → Two n a b p q → bit_xor (differing a b) (2 ^ p) ≡ 2 ^ q
  other_set p q t =
      is_pow (bit_xor (differing a b) (2 ^ p)) q
      (bit_xor_lem (differing a b) (2 ^ p) q ∙ ap₂ differ (bit_unlike q t.at_q) (pow_bit_other p q (λ e. t.distinct (sym e))))
      (λ k d. bit_xor_lem (differing a b) (2 ^ p) k ∙ at k d (ℕ_discrete k p))
    where
      at : (k : ℕ) → k ≢ q → Dec (k ≡ p) → differ (bit (differing a b) k) (bit (2 ^ p) k) ≡ 0
      at k d (yes e) =
          subst (λ (m : ℕ). differ (bit (differing a b) m) (bit (2 ^ p) m) ≡ 0) (sym e) (ap₂ differ (bit_unlike p t.at_p) (pow_bit p))
      at k d (no c) = ap₂ differ (bit_apart k (λ l. t.elsewhere k l c d)) (pow_bit_other p k c)

-- the only member of a set, as its lowest
only : (x v u : ℕ) → u < mask_bits → x ≡ 2 ^ u → v ≡ count_trailing_zeros 32 x → v ≡ u
only x v u l e f = f ∙ ap (count_trailing_zeros 32) e ∙ lowest_pow u l

pub third_made : (c d r : Cube) (v x y z : ℕ) → x ≡ code c v → y ≡ code d v → z ≡ third_of x y → r ≡ with_code c v z
    → r ≡ with_code c v (third_of (code c v) (code d v))
third_made c d r v x y z ex ey ez er =
    er ∙ ap (with_code c v) (ez ∙ ap₂ third_of ex ey)

third_put : (c d x : Cube) (v u : ℕ) → u < mask_bits → v ≡ u → code d u ≢ code c u → x ≡ with_code c v (third_of (code c v) (code d v)) → x ≡ third_at c d u
third_put c d x v u l e ne f =
    f ∙ ap (λ (w : ℕ). with_code c w (third_of (code c w) (code d w))) e
    ∙ ap (with_code c u) (third_of_codes (code c u) (code d u) (code_lt c u) (code_lt d u) ne) ∙ with_put c u (third (code c u) (code d u)) l

-- the third that a join writes, where the lowest variable of the set is the only one
pub join_cube : (n : ℕ) (a b : Cube) → Good n a → Good n b → n ≤ most_variables → (u : ℕ) → apart n a b ≡ u ∷ [] → (s v : ℕ) → s ≡ differing a b → v ≡ count_trailing_zeros 32 s
    → (c : Cube) → c ≡ with_code a v (third_of (code a v) (code b v)) → c ≡ third_at a b u
join_cube n a b g h few u el s v es ev c ec =
    let l : u < mask_bits = omega (arith, (apart_one n a b u el).0) in
    third_put a b c v u l (only s v u l (es ∙ one_set n a b g h u el) ev) (apart_one n a b u el).1 ec

-- ---- the decisions at two places

module _ (n count i j : ℕ) (a b : Cube) (e : 0 ≡ places_number count i j) where
  module _ (g : Good n a) (h : Good n b) (s : ℕ) (es : s ≡ differing a b) where
    passed : {m r : Move Cube} → r ≡ m → r ≡ at_two_places count i j m
    passed {m} {r} f = f ∙ number_passed count i j 0 e m refl

    many : (l : List ℕ) → apart n a b ≡ l → length l ≡ ones s
    many l el = sym (ap length el) ∙ apart_count n a b g h ∙ ap ones (sym es)

    -- the third answer is the set's count of ones
    by_ones : (k : ℕ) (l : List ℕ) → apart n a b ≡ l → refuse (step_refusal_with k (ones s)) ≡ unfit_by k l
    by_ones k l el = ap (λ (m : ℕ). refuse (step_refusal_with k m)) (sym (many l el))

    -- drop

    pub drop_unlike : (s ≡ 0 → ⊥) → (c : Change Cube) → c ≡ change_is.Refuse (step_refusal_with 16 (ones s)) → move_of c ≡ drop_move n count i j a b
    unfolding move_of drop_move
    drop_unlike ne c ec = ap move_of ec ∙ passed (go (apart n a b) refl)
      where
        go : (l : List ℕ) → apart n a b ≡ l → refuse (step_refusal_with 16 (ones s)) ≡ dropped l
        go [] el = absurd (ne (es ∙ none_set n a b g h el))
        go (v ∷ l) el = by_ones 16 (v ∷ l) el

    pub drop_equal : s ≡ 0 → move_of change_is.Drop ≡ drop_move n count i j a b
    unfolding move_of drop_move ones
    drop_equal q = passed (go (apart n a b) refl)
      where
        go : (l : List ℕ) → apart n a b ≡ l → drops ≡ dropped l
        go [] el = refl
        go (v ∷ l) el = absurd (omega (arith, many (v ∷ l) el ∙ ap ones q))

    -- join

    pub join_unlike : (ones s ≡ 1 → ⊥) → (c : Change Cube) → c ≡ change_is.Refuse (step_refusal_with 17 (ones s)) → move_of c ≡ join_move n count i j a b
    unfolding move_of join_move
    join_unlike ne c ec = ap move_of ec ∙ passed (go (apart n a b) refl)
      where
        go : (l : List ℕ) → apart n a b ≡ l → refuse (step_refusal_with 17 (ones s)) ≡ joined a b l
        go [] el = by_ones 17 [] el
        go (v ∷ []) el = absurd (ne (sym (many (v ∷ []) el)))
        go (v ∷ u ∷ l) el = by_ones 17 (v ∷ u ∷ l) el

    pub join_third : n ≤ most_variables → ones s ≡ 1 → (v : ℕ) → v ≡ count_trailing_zeros 32 s → (c : Cube) → c ≡ with_code a v (third_of (code a v) (code b v))
        → move_of (change_is.Join c) ≡ join_move n count i j a b
    unfolding move_of join_move
    join_third few q v ev c ec = passed (go (apart n a b) refl)
      where
        go : (l : List ℕ) → apart n a b ≡ l → joins c ≡ joined a b l
        go [] el = absurd (omega (arith, many [] el))
        go (u ∷ []) el = ap joins (join_cube n a b g h few u el s v es ev c ec)
        go (u ∷ w ∷ l) el = absurd (omega (arith, many (u ∷ w ∷ l) el))

    -- turn

    module _ (v : ℕ) where
      pub turn_unlike : (ones s ≡ 2 → ⊥) → (c : Change Cube) → c ≡ change_is.Refuse (step_refusal_with 18 (ones s)) → move_of c ≡ turn_move n count v i j a b
      unfolding move_of turn_move
      turn_unlike ne c ec = ap move_of ec ∙ passed (go (apart n a b) refl)
        where
          go : (l : List ℕ) → apart n a b ≡ l → refuse (step_refusal_with 18 (ones s)) ≡ turned a b v l
          go [] el = by_ones 18 [] el
          go (p ∷ []) el = by_ones 18 (p ∷ []) el
          go (p ∷ q ∷ []) el = absurd (ne (sym (many (p ∷ q ∷ []) el)))
          go (p ∷ q ∷ r ∷ l) el = by_ones 18 (p ∷ q ∷ r ∷ l) el

      -- v is in the set where it is p or q
      at_v : (u t : ℕ) → t ≡ bit s v → code b u ≢ code a u → v ≡ u → t ≡ 1
      at_v u t et ne e = et ∙ ap₂ bit es e ∙ bit_unlike n a b g h u ne

      pub turn_elsewhere : ones s ≡ 2 → (t : ℕ) → t ≡ bit s v → t ≡ 0 → (c : Change Cube) → c ≡ change_is.Refuse (step_refusal_with 19 (ones s))
          → move_of c ≡ turn_move n count v i j a b
      unfolding move_of turn_move
      turn_elsewhere two t et q c ec = ap move_of ec ∙ passed (go (apart n a b) refl)
        where
          go : (l : List ℕ) → apart n a b ≡ l → refuse (step_refusal_with 19 (ones s)) ≡ turned a b v l
          go [] el = absurd (omega (arith, many [] el))
          go (p ∷ []) el = absurd (omega (arith, many (p ∷ []) el))
          go (p ∷ r ∷ []) el =
              let w : Two n a b p r = apart_two n a b p r el in
              by_ones 19 (p ∷ r ∷ []) el
              ∙ sym (simp (ne_eqb v p (λ e. omega (arith, at_v p t et w.at_p e)), ne_eqb v r (λ e. omega (arith, at_v r t et w.at_q e))))
          go (p ∷ q ∷ r ∷ l) el = absurd (omega (arith, many (p ∷ q ∷ r ∷ l) el))

      pub turn_both : n ≤ most_variables → ones s ≡ 2 → (t : ℕ) → t ≡ bit s v → (t ≡ 0 → ⊥) → (m : ℕ) → m ≡ 2 ^ v → (u : ℕ) → u ≡ count_trailing_zeros 32 (bit_xor s m)
          → (c d : Cube) → c ≡ with_code a v (third_of (code a v) (code b v)) → d ≡ with_code b u (third_of (code b u) (code a u))
          → move_of (change_is.Turn c d) ≡ turn_move n count v i j a b
      unfolding move_of turn_move
      turn_both few two t et ne m em u eu c d ec ed = passed (go (apart n a b) refl)
        where
          made : (p q : ℕ) → Two n a b p q → v ≡ p → turns c d ≡ turns (third_at a b p) (third_at b a q)
          made p q w e =
              let lp : p < mask_bits = omega (arith, w.p_lt) in
              let lq : q < mask_bits = omega (arith, w.q_lt) in
              let rest : bit_xor s m ≡ 2 ^ q = ap₂ bit_xor es (em ∙ ap (λ (k : ℕ). 2 ^ k) e) ∙ other_set n a b g h p q w in
              ap₂ turns (third_put a b c v p lp e w.at_p ec) (third_put b a d u q lq (only (bit_xor s m) u q lq rest eu) (λ z. w.at_q (sym z)) ed)

          pick : (p q : ℕ) → Two n a b p q → Dec (v ≡ p) → Dec (v ≡ q) → turns c d ≡ turned a b v (p ∷ q ∷ [])
          pick p q w (yes e) y = made p q w e ∙ sym (simp (eq-eqb v p e))
          pick p q w (no f) (yes e) = made q p (two_swap n a b p q w) e ∙ sym (simp (ne_eqb v p f, eq-eqb v q e))
          pick p q w (no f) (no k) = absurd (ne (et ∙ ap (λ (x : ℕ). bit x v) es ∙ bit_apart n a b g h v (λ l. w.elsewhere v l f k)))

          go : (l : List ℕ) → apart n a b ≡ l → turns c d ≡ turned a b v l
          go [] el = absurd (omega (arith, many [] el))
          go (p ∷ []) el = absurd (omega (arith, many (p ∷ []) el))
          go (p ∷ q ∷ []) el = pick p q (apart_two n a b p q el) (ℕ_discrete v p) (ℕ_discrete v q)
          go (p ∷ q ∷ r ∷ l) el = absurd (omega (arith, many (p ∷ q ∷ r ∷ l) el))

-- ---- split

module _ (count cap v i : ℕ) (a : Cube) where
  pub split_place : count ≤ i → (c : Change Cube) → c ≡ change_is.Refuse (step_refusal 10) → move_of c ≡ split_move count cap v i a
  unfolding move_of split_move
  split_place h c ec = ap move_of ec ∙ sym (simp (le-ltb i count h))

  pub split_full : i < count → cap ≤ count → (c : Change Cube) → c ≡ change_is.Refuse (step_refusal 13) → move_of c ≡ split_move count cap v i a
  unfolding move_of split_move
  split_full hi h c ec = ap move_of ec ∙ sym (simp (lt-ltb i count hi, le-ltb count cap h))

  pub split_halves : i < count → count < cap → v < mask_bits → (x y z : ℕ) → x ≡ code a v → y ≡ lower x → z ≡ higher x
      → (c d : Cube) → c ≡ with_code a v y → d ≡ with_code a v z → move_of (change_is.Split c d) ≡ split_move count cap v i a
  unfolding move_of split_move
  split_halves hi hc hv x y z ex ey ez c d ec ed =
      ap₂ splits
      (ec ∙ with_put a v y hv ∙ ap (put a v) (ey ∙ ap lower ex))
      (ed ∙ with_put a v z hv ∙ ap (put a v) (ez ∙ ap higher ex))
      ∙ sym (simp (lt-ltb i count hi, lt-ltb count cap hc))

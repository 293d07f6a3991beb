-- The rules (S1) to (S6), (1S) and (2S) of source document 000, in any product t: what the steps decide of their codes, and that each keeps the function.
-- Assumes nothing.
use mathlib.Core.Path.{◌≡◌, refl, sym, ap, ap₂, ◌∙◌, subst}
use mathlib.Core.Logic.{◌≢◌, ◌⊎◌, inl, inr}
use mathlib.Core.List.{List, [], ◌∷◌}
use Prim.Native.Nat.{ℕ, zero, suc, ◌<◌, zero-le}
use native.Mathlib.Decide.{dec_lt}
use native.Mathlib.Omega.{arith}
use borrow.Author.Tests.{lt-ltb}
use Rattle.bits.specs.Sums.{All}
use Rattle.records.specs.Places.{remove_at}
use Rattle.cube.specs.declared.Cube.{Cube}
use Rattle.cube.specs.Cubes.{code, put, one, apart, Good}
use Rattle.cube.proofs.Codes.{code_same, code_other, put_put, put_comm, put_good}
use Rattle.orders.specs.Codes.{third, lower, higher}
use Rattle.orders.proofs.Codes.{third_comm}
use Rattle.steps.specs.Moves.{joins, splits, turns, drops, drop_at, join_at, split_at, turn_at, next, applied}
use Rattle.steps.specs.Steps.{Step, drop, join, split, turn, Allowed, dropped, drop_move, joined, join_move, split_move, turned, turn_move, step}
use Rattle.steps.specs.Effects.{TwoPlaces, IsRewrite}
use Rattle.steps.specs.Rules.{complemented, plain, absent, bar, IsThird, Same, DropRule, JoinRule, SplitRule, TurnRule}
use Rattle.steps.proofs.Inversion.{two_passed, turned_made}
use Rattle.steps.proofs.Kept.{rewrite_value}
use Rattle.steps.proofs.ApartFrom.{apart_of}

-- ---- the steps' rules, over any product and any codes: each keeps the function, because the step does on the list of its left side

sides : (n : ℕ) (x : Step) → IsRewrite x → Allowed n x → (l m : List Cube) → All (Good n) l → step n 2 x l ≡ next m → Same n l m
sides n x r h l m g e t = sym (rewrite_value n 2 x r h l m g e t)

-- places 0 and 1 of two
first_two : TwoPlaces 2 0 1
first_two = record { first = omega arith; second = omega arith; unlike = omega arith }

module _ (n : ℕ) (t : Cube) (g : Good n t) where
  -- t ⊕ t → 0
  pub drop_codes : DropRule n t t
  unfolding drop_move step applied drop_at remove_at
  drop_codes = record {
    decided = decided;
    same = sides n (drop 0 1) (tt {0}) (tt {0}) (t ∷ t ∷ []) [] (g, (g, tt {0})) (ap (applied one 0 1 (t ∷ t ∷ [])) (decided 2 0 1 first_two));
  }
    where
      decided : (count i j : ℕ) → TwoPlaces count i j → drop_move n count i j t t ≡ drops
      decided count i j p = two_passed count i j (dropped (apart n t t)) p ∙ ap dropped (apart_of n t t [] (tt {0}) (tt {0}) (λ k h f. refl))

  module _ (v : ℕ) (hv : v < n) where
    -- xt ⊕ yt → zt, where z is the third of x and y
    pub join_codes : (x y z : ℕ) → IsThird x y z → JoinRule n (put t v x) (put t v y) (put t v z)
    unfolding join_move step applied join_at remove_at
    join_codes x y z h = record {
      decided = decided;
      same = sides n (join 0 1) (tt {0}) (tt {0}) (a ∷ b ∷ []) (put t v z ∷ [])
          (put_good n t v x g hv h.first, (put_good n t v y g hv h.second, tt {0})) (ap (applied one 0 1 (a ∷ b ∷ [])) (decided 2 0 1 first_two));
    }
      where
        a : Cube
        a = put t v x

        b : Cube
        b = put t v y

        at_x : code a v ≡ x
        at_x = code_same t v x h.first

        at_y : code b v ≡ y
        at_y = code_same t v y h.second

        decided : (count i j : ℕ) → TwoPlaces count i j → join_move n count i j a b ≡ joins (put t v z)
        decided count i j p =
            two_passed count i j (joined a b (apart n a b)) p
            ∙ ap (joined a b) (apart_of n a b (v ∷ []) (zero-le, hv, tt {0}) ((λ e. h.unlike (sym at_y ∙ e ∙ at_x)), tt {0}) (λ k hk f. code_other t v x k f.0 ∙ sym (code_other t v y k f.0)))
            ∙ ap joins (put_put t v x (third (code a v) (code b v)) ∙ ap (put t v) (ap₂ third at_x at_y ∙ h.is))

    -- xt → yt ⊕ zt, where y and z are the lower and the higher of the codes that are not x
    pub split_codes : (x y z : ℕ) → x < 3 → lower x ≡ y → higher x ≡ z → SplitRule n v (put t v x) (put t v y) (put t v z)
    unfolding split_move step applied split_at
    split_codes x y z h el eh = record {
      decided = decided;
      same = sides n (split v 0) (tt {0}) hv (a ∷ []) (put t v y ∷ put t v z ∷ []) (put_good n t v x g hv h, tt {0})
          (ap (applied one 0 0 (a ∷ [])) (decided 1 2 0 (omega arith) (omega arith)));
    }
      where
        a : Cube
        a = put t v x

        at : (f : ℕ → ℕ) (k : ℕ) → f x ≡ k → put a v (f (code a v)) ≡ put t v k
        at f k e = put_put t v x (f (code a v)) ∙ ap (put t v) (ap f (code_same t v x h) ∙ e)

        decided : (count cap i : ℕ) → i < count → count < cap → split_move count cap v i a ≡ splits (put t v y) (put t v z)
        decided count cap i p q = simp (lt-ltb i count p, lt-ltb count cap q) (ap₂ splits (at lower y el) (at higher z eh))

  -- two variables v and u, with two codes each
  module _ (v u : ℕ) (hv : v < n) (hu : u < n) (vu : v ≢ u) (x x' z y y' w : ℕ) where
    -- the turn at v makes z of x and x' in the first product, and w of y' and y in the second
    pub turn_codes : IsThird x x' z → IsThird y' y w
        → TurnRule n v (put (put t v x) u y) (put (put t v x') u y') (put (put t v z) u y) (put (put t v x') u w)
    unfolding turn_move step applied turn_at
    turn_codes h k = record {
      decided = decided;
      same = sides n (turn v 0 1) (tt {0}) hv (a ∷ b ∷ []) (put (put t v z) u y ∷ put (put t v x') u w ∷ [])
          (good x y h.first k.second, (good x' y' h.second k.first, tt {0})) (ap (applied one 0 1 (a ∷ b ∷ [])) (decided 2 0 1 first_two));
    }
      where
        both : ℕ → ℕ → Cube
        both p q = put (put t v p) u q

        a : Cube
        a = both x y

        b : Cube
        b = both x' y'

        good : (p q : ℕ) → p < 3 → q < 3 → Good n (both p q)
        good p q hp hq = put_good n (put t v p) u q (put_good n t v p g hv hp) hu hq

        at_v : (p q : ℕ) → p < 3 → code (both p q) v ≡ p
        at_v p q hp = code_other (put t v p) u q v vu ∙ code_same t v p hp

        at_u : (p q : ℕ) → q < 3 → code (both p q) u ≡ q
        at_u p q hq = code_same (put t v p) u q hq

        put_v : (p q r : ℕ) → put (both p q) v r ≡ both r q
        put_v p q r = ap (λ (c : Cube). put c v r) (put_comm t v u p q vu) ∙ put_put (put t u q) v p r ∙ sym (put_comm t v u r q vu)

        unlike_v : code b v ≢ code a v
        unlike_v e = h.unlike (sym (at_v x' y' h.second) ∙ e ∙ at_v x y h.first)

        unlike_u : code b u ≢ code a u
        unlike_u e = k.unlike (sym (at_u x y k.second) ∙ sym e ∙ at_u x' y' k.first)

        elsewhere : (i : ℕ) → i ≢ v → i ≢ u → code a i ≡ code b i
        elsewhere i p q = code_other (put t v x) u y i q ∙ code_other t v x i p ∙ sym (code_other (put t v x') u y' i q ∙ code_other t v x' i p)

        differ : (apart n a b ≡ v ∷ u ∷ []) ⊎ (apart n a b ≡ u ∷ v ∷ [])
        differ = elim (dec_lt v u) [
          | yes l ↦ inl (apart_of n a b (v ∷ u ∷ []) (zero-le, hv, (l, hu, tt {0})) (unlike_v, (unlike_u, tt {0})) (λ i hi f. elsewhere i f.0 f.1.0))
          | no l ↦ inr (apart_of n a b (u ∷ v ∷ []) (zero-le, hu, (omega arith, hv, tt {0})) (unlike_u, (unlike_v, tt {0})) (λ i hi f. elsewhere i f.1.0 f.0))
        ]

        decided : (count i j : ℕ) → TwoPlaces count i j → turn_move n count v i j a b ≡ turns (both z y) (both x' w)
        decided count i j p =
            two_passed count i j (turned a b v (apart n a b)) p ∙ turned_made n a b v u differ
            ∙ ap₂ turns
            (put_v x y _ ∙ ap (λ (r : ℕ). both r y) (ap₂ third (at_v x y h.first) (at_v x' y' h.second) ∙ h.is))
            (put_put (put t v x') u y' _ ∙ ap (both x') (ap₂ third (at_u x' y' k.first) (at_u x y k.second) ∙ k.is))

-- the turn at u: the same, with the variables exchanged
pub turn_codes_second : (n : ℕ) (t : Cube) → Good n t → (v u : ℕ) → v < n → u < n → v ≢ u → (x x' z y y' w : ℕ) → IsThird y y' w → IsThird x' x z
    → TurnRule n u (put (put t v x) u y) (put (put t v x') u y') (put (put t v x) u w) (put (put t v z) u y')
turn_codes_second n t g v u hv hu vu x x' z y y' w h k =
    subst (λ (f : ℕ → ℕ → Cube). TurnRule n u (f x y) (f x' y') (f x w) (f z y')) (λ i p q. put_comm t u v q p (λ e. vu (sym e)) i)
    (turn_codes n t g u v hu hv (λ e. vu (sym e)) y y' w x x' z h k)

-- ---- a literal p, its complement and none

-- what holds of both literals
either : (P : ℕ → Type 0) → P complemented → P plain → (p : ℕ) → p < 2 → P p
either P x y zero h = x
either P x y (suc zero) h = y
either P x y (suc (suc p)) h = absurd (omega arith)

third_bar : (p : ℕ) → p < 2 → IsThird p (bar p) absent
unfolding third
third_bar p h = record { first = omega arith; second = omega arith; unlike = omega arith; is = either (λ p. third p (bar p) ≡ absent) refl refl p h }

third_absent : (p : ℕ) → p < 2 → IsThird p absent (bar p)
unfolding third
third_absent p h = record { first = omega arith; second = omega arith; unlike = omega arith; is = either (λ p. third p absent ≡ bar p) refl refl p h }

third_swap : {x y z : ℕ} → IsThird x y z → IsThird y x z
third_swap h = record { first = h.second; second = h.first; unlike = (λ e. h.unlike (sym e)); is = third_comm _ _ ∙ h.is }

-- ---- the rules by their names in 000, where x is the literal p of the variable v, and y the literal q of u: either of the two literals each

module _ (n : ℕ) (t : Cube) (g : Good n t) where
  -- (S6) 1 ⊕ 1 → 0
  pub rule_s6 : DropRule n t t
  rule_s6 = drop_codes n t g

  module _ (v : ℕ) (hv : v < n) where
    -- (1S) 1 → x ⊕ x̄: x̄ stays, x is appended
    pub rule_1_s : SplitRule n v (put t v absent) (put t v complemented) (put t v plain)
    rule_1_s = split_codes n t g v hv absent complemented plain (omega arith) refl refl

    module _ (p : ℕ) (hp : p < 2) where
      -- (S1) x ⊕ x̄ → 1
      pub rule_s1 : JoinRule n (put t v p) (put t v (bar p)) (put t v absent)
      rule_s1 = join_codes n t g v hv p (bar p) absent (third_bar p hp)

      -- (S2) x ⊕ 1 → x̄
      pub rule_s2 : JoinRule n (put t v p) (put t v absent) (put t v (bar p))
      rule_s2 = join_codes n t g v hv p absent (bar p) (third_absent p hp)

      -- (2S) x̄ → x ⊕ 1
      pub rule_2_s : SplitRule n v (put t v (bar p)) (put t v p) (put t v absent)
      rule_2_s =
          split_codes n t g v hv (bar p) p absent (omega arith) (either (λ p. lower (bar p) ≡ p) refl refl p hp) (either (λ p. higher (bar p) ≡ absent) refl refl p hp)

      module _ (u : ℕ) (hu : u < n) (vu : v ≢ u) (q : ℕ) (hq : q < 2) where
        -- (S3) xy ⊕ ȳ → 1 ⊕ x̄y: the turn at x makes x̄y of the first and 1 of the second
        pub rule_s3 : TurnRule n v (put (put t v p) u q) (put (put t v absent) u (bar q)) (put (put t v (bar p)) u q) (put (put t v absent) u absent)
        rule_s3 = turn_codes n t g v u hv hu vu p absent (bar p) q (bar q) absent (third_absent p hp) (third_swap (third_bar q hq))

        -- (S4) xy ⊕ x̄ȳ → x̄ ⊕ y: the turn at x makes y of the first and x̄ of the second
        pub rule_s4 : TurnRule n v (put (put t v p) u q) (put (put t v (bar p)) u (bar q)) (put (put t v absent) u q) (put (put t v (bar p)) u absent)
        rule_s4 = turn_codes n t g v u hv hu vu p (bar p) absent q (bar q) absent (third_bar p hp) (third_swap (third_bar q hq))

        -- (S5) xy ⊕ x̄ȳ → x ⊕ ȳ: the turn at y makes x of the first and ȳ of the second
        pub rule_s5 : TurnRule n u (put (put t v p) u q) (put (put t v (bar p)) u (bar q)) (put (put t v p) u absent) (put (put t v absent) u (bar q))
        rule_s5 = turn_codes_second n t g v u hv hu vu p (bar p) absent q (bar q) absent (third_bar q hq) (third_swap (third_bar p hp))

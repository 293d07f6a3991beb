-- The L-transformation of source document 000: definition 4.1, that it is its own inverse, that two on different variables commute, and corollary 4.3.
-- Assumes nothing.
use mathlib.Core.Path.{◌≡◌, refl, sym, ap, ap₂, ◌∙◌}
use mathlib.Core.Logic.{◌≢◌}
use mathlib.Core.Bool.{Bool, true, false, not, ◌&&◌, beq}
use mathlib.Core.List.{List, [], ◌∷◌, map}
use Prim.Native.Nat.{ℕ, ◌-◌, ◌<◌}
use native.Mathlib.Omega.{arith}
use lib.Dec.{eqb}
use borrow.Author.Tests.{eq-eqb, ne_eqb}
use Rattle.bits.specs.Bits.{bit, with_bit}
use Rattle.bits.specs.Sums.{◌⊕◌, sum, All}
use Rattle.bits.proofs.Bools.{beq_eq, all_at₃, xor_assoc, xor_swap, and_xor}
use Rattle.bits.proofs.Bits.{bit_lt, with_same, with_other}
use Rattle.bits.proofs.Sums.{map_map}
use Rattle.cube.specs.declared.Cube.{Cube}
use Rattle.cube.specs.Cubes.{code, put, Good, met, holds}
use Rattle.cube.proofs.Codes.{code_lt, code_same, code_other, put_self}
use Rattle.orders.specs.Codes.{exchange}
use Rattle.orders.proofs.Codes.{exchange_lt}
use Rattle.steps.specs.Steps.{exchanged}
use Rattle.steps.specs.Rules.{Same, Transformed}
use Rattle.steps.proofs.Linear.{all_one, moved, moved_comm, exchanged_list_twice}
use Rattle.steps.proofs.Kept.{value_of_sum, sum_of_value}

module _ (n v b : ℕ) (hv : v < n) (hb : b < 2) where
  pub definition_4_1 : (c : Cube) → Good n c → Transformed v b c (exchanged v b c)
  unfolding exchanged
  definition_4_1 c g = record {
    deletes = λ e. ap (put c v) (simp (eq-eqb (code c v) b e));
    adds = λ e. ap (put c v) (ap (exchange b) e ∙ simp (ne_eqb 2 b (omega arith)));
    leaves = λ p q. ap (put c v) (simp (ne_eqb (code c v) b p, ne_eqb (code c v) 2 q)) ∙ put_self n c v g hv;
  }

  -- 000: it is its own inverse
  pub own_inverse : (f : List Cube) → All (Good n) f → map (exchanged v b) (map (exchanged v b) f) ≡ f
  own_inverse f a = exchanged_list_twice n v b hv hb f a

-- 000: two at different variables commute
pub commutes : (u v a b : ℕ) → u ≢ v → (f : List Cube) → map (exchanged v b) (map (exchanged u a) f) ≡ map (exchanged u a) (map (exchanged v b) f)
unfolding exchanged moved
commutes u v a b d f =
    map_map (exchanged v b) (exchanged u a) f ∙ (λ k. map (λ c. moved_comm (exchange a) (exchange b) u v c d k) f) ∙ sym (map_map (exchanged u a) (exchanged v b) f)

-- ---- corollary 4.3

-- a literal after the exchange, where the variable is t: as before it where t is the literal's value, else the sum of both values
met_exchange : (b x t : ℕ) → b < 2 → x < 3 → t < 2 → met (exchange b x) t ≡ met x t ⊕ (not (eqb t b) && met x (1 - t))
met_exchange b x t hb hx ht =
    beq_eq _ _ (all_at₃ 2 3 2 (λ b x t. beq (met (exchange b x) t) (met x t ⊕ (not (eqb t b) && met x (1 - t)))) refl b x t hb hx ht)

-- the assignment with the variable v the other way
abbrev flipped : ℕ → ℕ → ℕ
flipped a v = with_bit a v (1 - bit a v)

module _ (n v b : ℕ) (hv : v < n) (hb : b < 2) where
  holds_exchanged : (c : Cube) (a : ℕ) → holds n (exchanged v b c) a ≡ holds n c a ⊕ (not (eqb (bit a v) b) && holds n c (flipped a v))
  unfolding holds exchanged
  holds_exchanged c a =
      let other : 1 - bit a v < 2 = omega arith in
      all_one n v (not (eqb (bit a v) b)) (λ k. met (code (put c v (exchange b (code c v))) k) (bit a k)) (λ k. met (code c k) (bit a k))
      (λ k. met (code c k) (bit (flipped a v) k)) hv
      (λ k e. ap (λ (x : ℕ). met x (bit a k)) (code_other c v (exchange b (code c v)) k e))
      (λ k e. ap (met (code c k)) (with_other a v (1 - bit a v) k other e))
      (ap (λ (x : ℕ). met x (bit a v)) (code_same c v (exchange b (code c v)) (exchange_lt b (code c v) hb (code_lt c v)))
      ∙ met_exchange b (code c v) (bit a v) hb (code_lt c v) (bit_lt a v)
      ∙ ap (λ (t : ℕ). met (code c v) (bit a v) ⊕ (not (eqb (bit a v) b) && met (code c v) t)) (sym (with_same a v (1 - bit a v) other)))

  sum_exchanged : (f : List Cube) (a : ℕ) → sum (λ c. holds n c a) (map (exchanged v b) f)
      ≡ sum (λ c. holds n c a) f ⊕ (not (eqb (bit a v) b) && sum (λ c. holds n c (flipped a v)) f)
  unfolding sum
  sum_exchanged [] a = none (not (eqb (bit a v) b))
    where
      none : (s : Bool) → false ≡ (s && false)
      none true = refl
      none false = refl
  sum_exchanged (c ∷ f) a =
      let s : Bool = not (eqb (bit a v) b) in
      let x : Bool = holds n c a in
      let y : Bool = holds n c (flipped a v) in
      let X : Bool = sum (λ c. holds n c a) f in
      let Y : Bool = sum (λ c. holds n c (flipped a v)) f in
      ap₂ ◌⊕◌ (holds_exchanged c a) (sum_exchanged f a)
      ∙ sym (xor_assoc (x ⊕ (s && y)) X (s && Y))
      ∙ ap (λ (z : Bool). z ⊕ (s && Y)) (xor_swap x (s && y) X)
      ∙ xor_assoc (x ⊕ X) (s && y) (s && Y)
      ∙ ap (λ (z : Bool). x ⊕ X ⊕ z) (sym (and_xor s y Y))

  same_exchanged : (f g : List Cube) → Same n f g → Same n (map (exchanged v b) f) (map (exchanged v b) g)
  same_exchanged f g h a =
      value_of_sum n (map (exchanged v b) g) (map (exchanged v b) f) a
      (sum_exchanged f a
      ∙ ap₂ (λ (x y : Bool). x ⊕ (not (eqb (bit a v) b) && y)) (sum_of_value n g f a (h a)) (sum_of_value n g f (flipped a v) (h (flipped a v)))
      ∙ sym (sum_exchanged g a))

  -- f ≡ g just where [r] ⊙ f ≡ [r] ⊙ g
  pub corollary_4_3 : (f g : List Cube) → All (Good n) f → All (Good n) g
      → (Same n f g → Same n (map (exchanged v b) f) (map (exchanged v b) g)) × (Same n (map (exchanged v b) f) (map (exchanged v b) g) → Same n f g)
  corollary_4_3 f g p q = (
    same_exchanged f g,
    λ h.
        rw (own_inverse n v b hv hb f p, own_inverse n v b hv hb g q) at (same_exchanged (map (exchanged v b) f) (map (exchanged v b) g) h),
  )

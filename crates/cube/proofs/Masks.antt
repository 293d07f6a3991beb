-- From codes to masks: a product's truth by one masked comparison, and the set of the variables in which two cubes differ. Over n.
-- Assumes nothing.
use mathlib.Core.Path.{◌≡◌, refl, sym, ap, ap₂, ◌∙◌}
use mathlib.Core.Bool.{Bool, true, not, cond, beq}
use Prim.Native.Nat.{ℕ, ◌^◌, ◌≤◌, ◌<◌, min, max}
use native.Mathlib.Nat.{lt_of_le_of_lt}
use borrow.Author.Tests.{le-leb}
use Rattle.bits.specs.Sums.{one_if}
use lib.Bits.{bit_and, bit_xor, differ, and_le_l, or_lt, xor_lt}
use lib.Count.{ones, count_trailing_zeros}
use lib.Dec.{eqb, leb}
use lib.ListN.{length}
use Rattle.bits.specs.Bits.{bit}
use Rattle.bits.specs.Below.{all_below}
use Rattle.bits.proofs.Bools.{beq_eq, all_at₃, all_at, bit_one, all_ext}
use Rattle.bits.proofs.Bits.{bit_lt, bit_and_lem, bit_or_lem, bit_xor_lem}
use Rattle.bits.proofs.Below.{eqb_bits, those_cong, set_bits, count_set_bits, head_or, first_set_bit}
use Rattle.cube.specs.declared.Cube.{Cube}
use Rattle.cube.specs.Cubes.{code_of, code, Good, met, holds, differ_at, apart, differing}
use Rattle.cube.proofs.Codes.{good_seen, good_value}

-- ---- truth at an assignment

-- at one variable, computed over all bits: a literal is met exactly where seen and the assignment make the value
met_test : ℕ → ℕ → ℕ → Bool
met_test s v a = cond (leb v s) (beq (met (code_of s v) a) (eqb (min s a) v)) true

met_bits : (s v a : ℕ) → s < 2 → v < 2 → a < 2 → v ≤ s → met (code_of s v) a ≡ eqb (min s a) v
unfolding met_test
met_bits s v a hs hv ha l =
    let t : cond (leb v s) (beq (met (code_of s v) a) (eqb (min s a) v)) true ≡ true = all_at₃ 2 2 2 met_test refl s v a hs hv ha in
    beq_eq _ _ (rw (le-leb v s l) at t)

-- a product is true where each literal is met, per variable: for a good cube and an assignment of n variables that is one masked comparison
pub holds_mask : (n : ℕ) (c : Cube) (a : ℕ) → Good n c → a < 2 ^ n → holds n c a ≡ eqb (bit_and c.seen a) c.value
unfolding holds code
holds_mask n c a g h =
    all_ext n _ _ (λ k l.
    met_bits (bit c.seen k) (bit c.value k) (bit a k) (bit_lt _ k) (bit_lt _ k) (bit_lt _ k) (g.inside k)
    ∙ ap (λ (x : ℕ). eqb x (bit c.value k)) (sym (bit_and_lem c.seen a k)))
    ∙ eqb_bits n (bit_and c.seen a) c.value (lt_of_le_of_lt (and_le_l c.seen a) (good_seen n c g)) (good_value n c g)

-- ---- the variables in which two cubes differ

-- at one variable, computed over all pairs of bits
differ_test : ℕ → ℕ → ℕ → ℕ → Bool
differ_test s b t e =
    cond (leb b s) (cond (leb e t) (beq (not (eqb (code_of s b) (code_of t e))) (not (eqb (max (differ s t) (differ b e)) 0))) true) true

differ_bits : (s b t e : ℕ) → s < 2 → b < 2 → t < 2 → e < 2 → b ≤ s → e ≤ t
    → not (eqb (code_of s b) (code_of t e)) ≡ not (eqb (max (differ s t) (differ b e)) 0)
unfolding differ_test
differ_bits s b t e hs hb ht he l m =
    let u : cond (leb b s) (cond (leb e t) (beq (not (eqb (code_of s b) (code_of t e))) (not (eqb (max (differ s t) (differ b e)) 0))) true) true ≡ true
    = all_at₃ 2 2 2 (differ_test s) (all_at 2 (λ s. all_below 2 (λ b. all_below 2 (λ t. all_below 2 (differ_test s b t)))) refl s hs) b t e hb ht he in
    beq_eq _ _ (rw (le-leb e t m) at (rw (le-leb b s l) at u))

module _ (n : ℕ) (c d : Cube) (g : Good n c) (h : Good n d) where
  -- a variable is in the set exactly where the codes differ
  pub differing_bit : (k : ℕ) → differ_at c d k ≡ not (eqb (bit (differing c d) k) 0)
  unfolding code differing
  differing_bit k =
      differ_bits (bit c.seen k) (bit c.value k) (bit d.seen k) (bit d.value k)
      (bit_lt _ k) (bit_lt _ k) (bit_lt _ k) (bit_lt _ k) (g.inside k) (h.inside k)
      ∙ ap (λ (x : ℕ). not (eqb x 0))
      (sym (bit_or_lem (bit_xor c.seen d.seen) (bit_xor c.value d.value) k ∙ ap₂ max (bit_xor_lem c.seen d.seen k) (bit_xor_lem c.value d.value k)))

  pub differing_is : (k : ℕ) → bit (differing c d) k ≡ one_if (differ_at c d k)
  differing_is k = sym (bit_one (bit (differing c d) k) (bit_lt (differing c d) k)) ∙ ap one_if (sym (differing_bit k))

  pub differing_lt : differing c d < 2 ^ n
  unfolding differing
  differing_lt =
      or_lt n _ _ (xor_lt n _ _ (good_seen n c g) (good_seen n d h)) (xor_lt n _ _ (good_value n c g) (good_value n d h))

  -- the differing variables are the members of the set, ascending
  pub apart_set : apart n c d ≡ set_bits n (differing c d)
  unfolding apart
  apart_set = those_cong (differ_at c d) (λ k. not (eqb (bit (differing c d) k) 0)) differing_bit n 0

  -- how many they are, and the lowest of them
  pub apart_count : length (apart n c d) ≡ ones (differing c d)
  apart_count = ap length apart_set ∙ count_set_bits n (differing c d) differing_lt

  pub apart_first : head_or n (apart n c d) ≡ count_trailing_zeros n (differing c d)
  apart_first = ap (head_or n) apart_set ∙ first_set_bit n (differing c d)

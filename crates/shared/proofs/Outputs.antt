-- Laws of outputs: the value of each as a sum of weights, their word bit by bit, and that a product without bit k never sways output k.
-- Assumes nothing.
use mathlib.Core.Path.{◌≡◌, refl, sym, ap, ◌∙◌}
use mathlib.Core.Bool.{Bool, true, false, cond, ◌&&◌, beq}
use mathlib.Core.List.{List, [], ◌∷◌, ◌++◌}
use Prim.Native.Nat.{ℕ, suc, ◌^◌, ◌≤◌, ◌<◌}
use native.Mathlib.Nat.{le_refl, mod-lt, zero-lt-suc}
use native.Mathlib.Omega.{arith}
use lib.Bits.{bit_xor, differ}
use lib.Dec.{eqb}
use lib.ListN.{length}
use Rattle.bits.specs.Bits.{bit}
use Rattle.bits.specs.Sums.{◌⊕◌, one_if, sum, All}
use Rattle.bits.proofs.Bools.{beq_eq, all_at₂}
use Rattle.bits.proofs.Bits.{bit_lt, bit_xor_lem}
use Rattle.bits.proofs.Sums.{tally_sum}
use Rattle.bits.proofs.Weights.{weighted_lt, weighted_bit}
use Rattle.cube.specs.declared.Cube.{Cube}
use Rattle.cube.specs.Cubes.{Good, holds}
use Rattle.cube.specs.Lists.{trues, list_value}
use Rattle.shared.specs.declared.Shared.{Shared}
use Rattle.shared.specs.SharedRecord.{Fine}
use Rattle.shared.specs.Outputs.{carries, carrying, output_value, output_count, value_word}

-- ---- the value of an output as a sum

-- the sum over the products that carry bit k
pub sum_carrying : (k : ℕ) (w : Cube → Bool) (l : List Shared) → sum w (carrying k l) ≡ sum (λ r. carries k r && w r.cube) l
unfolding sum carrying
sum_carrying k w [] = refl
sum_carrying k w (r ∷ l) = go (carries k r) (sum_carrying k w l)
  where
    go : (t : Bool) → sum w (carrying k l) ≡ sum (λ r. carries k r && w r.cube) l
        → sum w (cond t (r.cube ∷ carrying k l) (carrying k l)) ≡ (t && w r.cube) ⊕ sum (λ r. carries k r && w r.cube) l
    go true e = ap (λ (s : Bool). w r.cube ⊕ s) e
    go false e = e

pub output_sum : (n k : ℕ) (l : List Shared) (a : ℕ) → output_value n k l a ≡ one_if (sum (λ r. carries k r && holds n r.cube a) l)
unfolding output_value list_value trues
output_sum n k l a = tally_sum (λ c. holds n c a) (carrying k l) ∙ ap one_if (sum_carrying k (λ c. holds n c a) l)

-- ---- the products that carry bit k

pub carrying_le : (k : ℕ) (l : List Shared) → length (carrying k l) ≤ length l
unfolding carrying
carrying_le k [] = le_refl 0
carrying_le k (r ∷ l) = go (carries k r) (carrying_le k l)
  where
    go : (t : Bool) → length (carrying k l) ≤ length l → length (cond t (r.cube ∷ carrying k l) (carrying k l)) ≤ suc (length l)
    go true h = omega arith
    go false h = omega arith

pub carrying_good : (n k : ℕ) (l : List Shared) → All (Fine n) l → All (Good n) (carrying k l)
unfolding carrying
carrying_good n k [] f = tt
carrying_good n k (r ∷ l) f = go (carries k r) (carrying_good n k l f.1)
  where
    go : (t : Bool) → All (Good n) (carrying k l) → All (Good n) (cond t (r.cube ∷ carrying k l) (carrying k l))
    go true g = (f.0.good, g)
    go false g = g

-- ---- all of them as one word

output_lt : (n : ℕ) (l : List Shared) (a k : ℕ) → output_value n k l a < 2
unfolding output_value list_value
output_lt n l a k = mod-lt (trues n (carrying k l) a) (zero-lt-suc 1)

pub word_lt : (n : ℕ) (l : List Shared) (a : ℕ) → value_word n l a < 2 ^ output_count
unfolding value_word
word_lt n l a = weighted_lt (λ k. output_value n k l a) (output_lt n l a) output_count

pub word_bit : (n : ℕ) (l : List Shared) (a k : ℕ) → k < output_count → bit (value_word n l a) k ≡ output_value n k l a
unfolding value_word
word_bit n l a k h = weighted_bit (λ k. output_value n k l a) (output_lt n l a) output_count k h

-- ---- the EXOR of outputs, bit by bit

pub carries_xor : (o p k : ℕ) → eqb (bit (bit_xor o p) k) 1 ≡ eqb (bit o k) 1 ⊕ eqb (bit p k) 1
carries_xor o p k =
    ap (λ (x : ℕ). eqb x 1) (bit_xor_lem o p k)
    ∙ beq_eq _ _ (all_at₂ 2 2 (λ x y. beq (eqb (differ x y) 1) (eqb x 1 ⊕ eqb y 1)) refl (bit o k) (bit p k) (bit_lt o k) (bit_lt p k))

-- ---- a product without bit k

pub carrying_without : (k : ℕ) (p s : List Shared) (x : Shared) → carries k x ≡ false → carrying k (p ++ (x ∷ s)) ≡ carrying k (p ++ s)
unfolding carrying
carrying_without k [] s x e = ap (λ (t : Bool). cond t (x.cube ∷ carrying k s) (carrying k s)) e
carrying_without k (r ∷ p) s x e = ap (λ (l : List Cube). cond (carries k r) (r.cube ∷ l) l) (carrying_without k p s x e)

module _ (n k : ℕ) (p s : List Shared) (x : Shared) (e : carries k x ≡ false) where
  -- added, it does not sway output k
  pub sway_added : (a : ℕ) → output_value n k (p ++ s) a ≡ output_value n k (p ++ (x ∷ s)) a
  unfolding output_value
  sway_added a = ap (λ (l : List Cube). list_value n l a) (sym (carrying_without k p s x e))

  -- nor does it where it is changed to another one without the bit
  pub sway_changed : (y : Shared) → carries k y ≡ false → (a : ℕ) → output_value n k (p ++ (x ∷ s)) a ≡ output_value n k (p ++ (y ∷ s)) a
  unfolding output_value
  sway_changed y f a = ap (λ (l : List Cube). list_value n l a) (carrying_without k p s x e ∙ sym (carrying_without k p s y f))

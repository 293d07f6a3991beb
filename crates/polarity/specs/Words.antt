-- Inside: what the functions of this crate do with the bits of a vector in four words. No call of document 01 needs it to be read.
-- Assumes nothing.
use Rattle.std.specs.Prelude.{◌≡◌, Bool, true, false, not, cond, ℕ, zero, suc, ◌+◌, ◌%◌, ◌^◌, ◌≤◌, ◌<◌, eqb, ltb}
use Rattle.bits.specs.Bits.{bit}
use Rattle.bits.specs.Below.{sum_below}
use Rattle.bits.specs.Packed.{bit_at, lowered}
use Rattle.bits.specs.declared.packed.Packed.{Packed}
use Rattle.polarity.specs.declared.Counts.{Counts}
use Rattle.polarity.specs.declared.choose.Chosen.{Chosen}
use Rattle.polarity.specs.Forms.{coefficient, value_back, form_list, best_polarity}
use Rattle.polarity.specs.Ranks.{rank_of, rank}

-- bit t is f at t, for each t of n variables, and every other bit is 0
pub record Shows (n : ℕ) (f : ℕ → ℕ) (w : Packed) : Type 0 where
  pub low : (t : ℕ) → t < 2 ^ n → bit_at w t ≡ f t
  pub high : (t : ℕ) → 2 ^ n ≤ t → t < 256 → bit_at w t ≡ 0

-- ---- coefficients and back

-- one pass for each variable below k, in turn
unfoldable pub passed : (ℕ → Packed → Packed) → ℕ → Packed → Packed
passed pass zero w = w
passed pass (suc k) w = pass k (passed pass k w)

-- from the coefficients under one polarity to those with variable k turned in it, where p has k
unfoldable pub turned_at : ℕ → ℕ → Packed → Packed
turned_at p k w = cond (eqb (bit p k) 0) w (lowered k w)

-- the coefficients under p of a vector, or the vector of such coefficients
abbrev pub transformed : Bool → ℕ → ℕ → (ℕ → ℕ) → ℕ → ℕ
transformed true n p f = value_back n p f
transformed false n p f = coefficient n p f

-- ---- counts, and the search for the best polarity

-- the test of a coefficient that has a product
abbrev pub nonzero : ℕ → Bool
nonzero x = not (eqb x 0)

-- the products of the form with these coefficients, and whether the one without literals is among them
unfoldable pub counts_in : Packed → Counts
counts_in w = record { products = sum_below 256 (bit_at w); constant = nonzero (w.a % 2) }

-- a polarity and the rank of its form, from the coefficients under it
unfoldable pub best_of_one : Packed → ℕ → Chosen
best_of_one w p = record { polarity = p; rank = rank_of (counts_in w) }

-- the upper one where it ranks lower, else the lower one
unfoldable pub lesser_of : Chosen → Chosen → Chosen
lesser_of lower upper = cond (ltb upper.rank lower.rank) upper lower

-- the best of the 2 ^ k polarities from p on, from the coefficients under p, which has no variable below k
unfoldable pub best_from : ℕ → Packed → ℕ → Chosen
best_from zero w p = best_of_one w p
best_from (suc k) w p = lesser_of (best_from k w p) (best_from k (lowered k w) (p + 2 ^ k))

-- the best polarity of a function, and the rank of its form
pub record ChosenIs (n : ℕ) (f : ℕ → ℕ) (c : Chosen) : Type 0 where
  pub polarity_is : c.polarity ≡ best_polarity n f
  pub rank_is : c.rank ≡ rank (form_list n c.polarity f)

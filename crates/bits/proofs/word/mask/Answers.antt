-- `word::mask` meets its contract.
-- Assumes nothing.
use mathlib.Core.Path.{◌≡◌, refl, sym, ap, ◌∙◌}
use Prim.Native.Nat.{ℕ}
use native.Mathlib.Omega.{arith}
use Rattle.bits.specs.Packed.{mask_of}
use Rattle.bits.proofs.word.mask.Goals as goal

-- a test of the variable, and the mask of the one that it found
mask_at : (k j m : ℕ) → k ≡ j → m ≡ mask_of j → m ≡ mask_of k
mask_at k j m e is = is ∙ ap mask_of (sym e)

pub returns-in-0 : goal.returns-in-0
unfolding mask_of
returns-in-0 c = mask_at _ 0 _ c.in-0.is refl

pub returns-in-1 : goal.returns-in-1
unfolding mask_of
returns-in-1 c = mask_at _ 1 _ c.in-1.is refl

pub returns-in-2 : goal.returns-in-2
unfolding mask_of
returns-in-2 c = mask_at _ 2 _ c.in-2.is refl

pub returns-in-3 : goal.returns-in-3
unfolding mask_of
returns-in-3 c = mask_at _ 3 _ c.in-3.is refl

pub returns-in-4 : goal.returns-in-4
unfolding mask_of
returns-in-4 c = mask_at _ 4 _ c.in-4.is refl

pub returns-in_default : goal.returns-in_default
unfolding mask_of
returns-in_default c = mask_at _ 5 _ (omega arith) refl

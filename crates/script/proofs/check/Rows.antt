-- Rule 9 of a step's record, by a row for each operation.
-- Assumes nothing.
use mathlib.Core.Path.{◌≡◌, sym, ap}
use mathlib.Core.Logic.{◌≢◌}
use mathlib.Core.Bool.{Bool, true, false, ◌&&◌}
use Prim.Native.Nat.{ℕ, ◌≤◌, ◌<◌}
use native.Mathlib.Nat.{lt_of_not-le}
use native.Mathlib.Decide.{dec_le}
use native.Mathlib.Omega.{arith}
use borrow.Author.Tests.{le-leb, lt-leb}
use lib.Dec.{eqb, ltb, leb}
use Rattle.steps.specs.declared.StepRecord.{StepRecord}
use Rattle.script.specs.Scripts.{known, uses_v, uses_i, uses_j, uses_literal, field, fits}

module _ (n : ℕ) (x : StepRecord) where
  -- the tests of the operation op
  abbrev row : ℕ → Bool
  row op =
      known op
      && (field (uses_v op) (ltb x.v n) x.v
      && (field (uses_i op) true x.i
      && (field (uses_j op) true x.j
      && (field (uses_literal op) (leb x.literal 1) x.literal
      && eqb x.zero 0))))

  pub fits_row : (op : ℕ) → x.op ≡ op → row op ≡ fits n x
  unfolding fits
  fits_row op e = ap row (sym e)

  few : (op : ℕ) → op ≤ 5 → op ≢ 3 → op ≢ 4 → op ≢ 5 → op ≤ 2
  few op h d₃ d₄ d₅ = omega arith

  none : (op : ℕ) → op ≤ 2 → op ≢ 1 → op ≢ 2 → op ≡ 0
  none op h d₁ d₂ = omega arith

  pub fits_unknown : x.op ≢ 1 → x.op ≢ 2 → x.op ≢ 3 → x.op ≢ 4 → x.op ≢ 5 → false ≡ fits n x
  unfolding fits
  fits_unknown d₁ d₂ d₃ d₄ d₅ = go (dec_le x.op 5)
    where
      go : Dec (x.op ≤ 5) → false ≡ fits n x
      go (yes h) = sym (ap row (none x.op (few x.op h d₃ d₄ d₅) d₁ d₂))
      go (no h) = let l : 5 < x.op = lt_of_not-le h in sym (simp (le-leb 1 x.op (omega (arith, l)), lt-leb x.op 5 l))

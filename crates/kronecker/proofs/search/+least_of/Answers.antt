-- The proof of the cycle of calls {least_of}. The measure is the number of variables that are left.
-- Assumes nothing.
use mathlib.Core.Path.{sym, subst, subst₂}
use Prim.Native.Nat.{ℕ}
use native.Mathlib.Omega.{arith}
use lib.Seq.{length-take-le}
use Rattle.bits.specs.Bits.{bit}
use Rattle.kronecker.specs.declared.WrittenKronecker.{WrittenKronecker}
use Rattle.kronecker.specs.Words.{Covers, FoundIn}
use Rattle.kronecker.proofs.search.Parts.{found_few, Parted, table_few, half_few, first_some, middle, last, parts_found, lowest_some, lowest_most, lowest_found}
use Rattle.kronecker.proofs.search.+least_of.Goals as goal
use Rattle.kronecker.proofs.search.+least_of.Goals.{Else-left-eq1, Then-left-eq0}

-- with no variable left
none : (t : ℕ) (e : Then-left-eq0 t) → Covers 0 (bit e.args.w) e.args.table.now
none t e = subst (λ (k : ℕ). Covers k (bit e.args.w) e.args.table.now) e.if-left-eq0.true e.requires.1

pub bounds-table-0 : goal.bounds-table-0
bounds-table-0 t c = lowest_some _ _ (none t (goal.at.bounds-table-0 t c).Then-left-eq0)

pub lowest-requires : goal.lowest-requires
lowest-requires t c = lowest_most _ _ (none t (goal.at.lowest-requires t c).Then-left-eq0)

pub returns-then-left-eq0 : goal.returns-then-left-eq0
returns-then-left-eq0 t c =
    subst₂ (λ (k : ℕ) (r : WrittenKronecker). FoundIn k (bit c.args.w) c.args.table.now r) (sym c.if-left-eq0.true) (sym c.lowest.ensures) (lowest_found _ _ (none t (goal.at.returns-then-left-eq0 t c).Then-left-eq0))

-- with one
pub least_of_one-requires : goal.least_of_one-requires
least_of_one-requires t c = subst (λ (k : ℕ). Covers k (bit c.args.w) c.args.table.now) c.if-left-eq1.true c.requires.1

pub returns-then-left-eq1 : goal.returns-then-left-eq1
returns-then-left-eq1 t c =
    subst (λ (k : ℕ). FoundIn k (bit c.args.w) c.args.table.now c.least_of_one.result) (sym c.if-left-eq1.true) c.least_of_one.ensures

-- with more
parted : (t : ℕ) (e : Else-left-eq1 t) → Parted e.args.left e.args.w e.args.table.now
parted t e = record { few = e.requires.0; more = e.if-left-eq0.false; covers = e.requires.1 }

pub overflow_mul-end : goal.overflow_mul-end
overflow_mul-end t c = omega (arith, table_few (parted t c))

pub slice_bounds-least_entry-end : goal.slice_bounds-least_entry-end
slice_bounds-least_entry-end t c = sym (length-take-le _ _ (omega arith))

pub least_entry-shannon-requires : goal.least_entry-shannon-requires
least_entry-shannon-requires t c = first_some (parted t c)

pub least_of-positive-requires : goal.least_of-positive-requires
least_of-positive-requires t c = (omega arith, (omega arith, (middle (parted t (goal.at.least_of-positive-requires t c).Else-left-eq1)).covers))

pub overflow_shr-w : goal.overflow_shr-w
overflow_shr-w t c = omega (arith, half_few (parted t (goal.at.overflow_shr-w t c).Else-left-eq1))

pub least_of-negative-requires : goal.least_of-negative-requires
least_of-negative-requires t c = (omega arith, (omega arith, (last (parted t (goal.at.least_of-negative-requires t c).Else-left-eq1)).covers))

pub lesser_from-requires : goal.lesser_from-requires
lesser_from-requires t c = (omega (arith, table_few (parted t (goal.at.lesser_from-requires t c).Else-left-eq1)), found_few _ _ _ _ (omega arith) c.least_of-positive.ensures)

pub lesser_from-requires-2 : goal.lesser_from-requires-2
lesser_from-requires-2 t c = (omega (arith, table_few (parted t (goal.at.lesser_from-requires-2 t c).Else-left-eq1)), found_few _ _ _ _ (omega arith) c.least_of-negative.ensures)

pub returns : goal.returns
returns t c =
    parts_found (parted t (goal.at.returns t c).Else-left-eq1) _ _ _ _ _ c.least_entry-shannon.ensures c.least_of-positive.ensures c.least_of-negative.ensures
    c.lesser_from.ensures c.lesser_from-2.ensures

-- For readers: what a label's line gives, and that a line that is no number is refused by 6.
-- Assumes nothing.
use mathlib.Core.Path.{◌≡◌, ap, ◌∙◌}
use mathlib.Core.List.{List}
use Prim.Native.Nat.{ℕ, ◌^◌, ◌<◌}
use native.Mathlib.Omega.{arith}
use lib.Pow.{pow_mono}
use borrow.Author.Tests.{le-ltb}
use Rattle.records.specs.Answers.{refused, refusal}
use Rattle.records.proofs.Answers.{and_then_lem, unless_fails}
use Rattle.cube.specs.Lists.{cubes, most_variables}
use Rattle.cube.specs.Calls.{check_at}
use Rattle.cube.proofs.Lists.{AcceptedList, accepts_check}
use Rattle.text.specs.Numbers.{decimal}
use Rattle.text.proofs.Numbers.{decimal_short}
use Rattle.std.proofs.Common.{Some, None}
use Rattle.program.proofs.Lines.{decimal_line}
use Rattle.program.specs.Labels.{no_label, label_number, label_of, label_line}

-- a line of a number gives that number
pub label_number_lem : (l : List ℕ) (a : ℕ) → label_number l ≡ Some a → label_line l ≡ a
unfolding label_line
label_number_lem l a e = ap label_of e

-- a label in decimal is its line's label, for every label of 32 variables
pub label_decimal : (a : ℕ) → a < 2 ^ 32 → label_line (decimal a) ≡ a
label_decimal a h = label_number_lem (decimal a) a (decimal_line 10 no_label a (omega arith) (decimal_short 9 a (omega arith)))

-- a line that is no number of one to ten digits is refused by 6, where the list passes
pub label_refused : (n : ℕ) (b l : List ℕ) → AcceptedList cubes most_variables n b → label_number l ≡ None → check_at n b (label_line l) ≡ refused (refusal 6 0)
unfolding label_line check_at
label_refused n b l p e =
    and_then_lem _ _ _ (accepts_check cubes most_variables n b p)
    ∙ unless_fails _ 6 0 _ (le-ltb (label_of (label_number l)) (2 ^ n) (omega (arith, ap label_of e, pow_mono p.few)))

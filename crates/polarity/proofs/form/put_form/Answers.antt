-- `form::put_form` meets its contract: the loop keeps `Writing`.
-- Assumes nothing.
use mathlib.Core.Path.{sym, ap, subst₂}
use mathlib.Core.Bool.{not}
use mathlib.Core.List.{List}
use Prim.Native.Nat.{ℕ, ◌+◌}
use native.Mathlib.Omega.{arith}
use borrow.Author.Tests.{ne_eqb}
use Rattle.records.proofs.Picking.{picking_none, picking_skip, picking_more}
use Rattle.polarity.specs.Words.{nonzero}
use Rattle.polarity.proofs.Vectors.{vector_most}
use Rattle.polarity.proofs.form.Writing.{Writing, writing_all}
use Rattle.polarity.proofs.form.put_form.Goals as goal
use Rattle.polarity.proofs.form.put_form.Goals.{then-coefficients-s-ne0, else-coefficients-s-ne0}

pub loop-s-init : goal.loop-s-init
loop-s-init c = picking_none _ _ _ _ _

pub overflow_cast-s : goal.overflow_cast-s
overflow_cast-s c =
    omega (arith, c.requires.long, vector_most _ _ c.requires, c.loop-s-test.true)

pub loop-s-preserved : goal.loop-s-preserved
loop-s-preserved c =
    let b = c.loop-s-test.true in
    let again : List ℕ → ℕ → Type 0 = λ (out : List ℕ) (place : ℕ). Writing c.args.p c.args.coefficients.now c.args.out.now out place (c.loop-s.s + 1) in
    elim c.if-coefficients-s-ne0.branch [
      | then-coefficients-s-ne0 w ↦ subst₂ again (sym w.out-is) (sym w.place-is) (picking_more _ _ _ _ _ _ _ _ c.loop-s.invariant _ _ b (ap not (ne_eqb _ 0 w.if-coefficients-s-ne0.true)) w.product_of.ensures w.put_cube.ensures)
      | else-coefficients-s-ne0 w ↦ subst₂ again (sym w.out-is) (sym w.place-is) (picking_skip _ _ _ _ _ _ _ _ c.loop-s.invariant b (ap nonzero w.if-coefficients-s-ne0.false))
    ]

pub shape_of-out : goal.shape_of-out
shape_of-out c = c.loop-s.invariant.long

pub returns : goal.returns
returns c = search writing_all

-- `steps::reorder::reorder_on` meets its contract. The pass ends at the count: the buffer has room for it.
-- Assumes nothing.
use mathlib.Core.Path.{sym, ap, ◌∙◌}
use Prim.Native.Nat.{ℕ, ◌/◌, min}
use native.Mathlib.Omega.{arith}
use lib.ListN.{length}
use Rattle.cube.specs.Lists.{most_variables}
use Rattle.steps.proofs.reorder.Reordering.{mapped_none, mapped_end, whole_count, mapped_fine, mapped_recoded}
use Rattle.steps.proofs.reorder.reorder_on.Goals as goal

pub loop-i-init : goal.loop-i-init
loop-i-init g c = search (mapped_none, g.met.K.Decides.lawful)

pub recode-requires-clause-fine : goal.recode-requires-clause-fine
recode-requires-clause-fine g c =
    let end = whole_count g.K.Decides.codec g.met.K.Decides.lawful _ _ c.requires.held _
    (c.min-end.ensures ∙ ap (λ (w : ℕ). min c.args.count (length c.args.work.now / w)) (c.WIDTH.ensures ∙ sym g.met.K.Decides.width_is)) in
    mapped_fine g.K.Decides.codec g.met.K.Decides.lawful _ g.K.Decides.moved _ _ _ _ _ _ c.loop-i.invariant (omega (arith, end, c.loop-i-test.true)) c.requires.all

pub loop-i-preserved : goal.loop-i-preserved
loop-i-preserved g c =
    let end = whole_count g.K.Decides.codec g.met.K.Decides.lawful _ _ c.requires.held _
    (c.min-end.ensures ∙ ap (λ (w : ℕ). min c.args.count (length c.args.work.now / w)) (c.WIDTH.ensures ∙ sym g.met.K.Decides.width_is)) in
    mapped_recoded g.K.Decides.codec g.met.K.Decides.lawful (g.K.Decides.Fine most_variables) g.K.Decides.moved _ _ _ _ _ _ c.loop-i.invariant (omega (arith, end, c.loop-i-test.true)) _ c.masks_at-masks.ensures
    c.requires.v_lt_most_variables _ c.recode.ensures

pub returns : goal.returns
returns g c =
    let end = whole_count g.K.Decides.codec g.met.K.Decides.lawful _ _ c.requires.held _
    (c.min-end.ensures ∙ ap (λ (w : ℕ). min c.args.count (length c.args.work.now / w)) (c.WIDTH.ensures ∙ sym g.met.K.Decides.width_is)) in
    mapped_end g.K.Decides.codec g.met.K.Decides.lawful _ _ _ _ _ c.loop-i.invariant (omega (arith, end, c.loop-i-test.false))

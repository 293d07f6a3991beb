-- `shared_steps::rewrites::OnProductsDecides::recode` meets its contract.
-- Assumes nothing.
use mathlib.Core.Path.{sym, ap, ◌∙◌, subst}
use Rattle.records.specs.Records.{stored}
use Rattle.cube.specs.Cubes.{Good}
use Rattle.cube.specs.Lists.{most_variables}
use Rattle.steps.specs.Steps.{reordered}
use Rattle.steps.proofs.reorder.ByMasks.{recoded_is}
use Rattle.shared.specs.declared.Shared.{Shared}
use Rattle.shared.specs.SharedRecord.{sharing, shares}
use Rattle.shared_steps.specs.SharedSteps.{on_cube}
use Rattle.shared_steps.proofs.rewrites.OnProductsDecides.recode.Goals as goal

pub returns : goal.returns
returns c =
    let good : Good most_variables c.record_at-s.result.cube = subst (λ (t : Shared). Good most_variables t.cube) (sym c.record_at-s.ensures) c.requires.fine.good in
    record {
      is = λ v o below masks.
          c.put_record.ensures
          ∙ ap (stored shares c.args.list.now c.args.i)
          (ap (sharing c.record_at-s.result.outputs) (c.recoded.ensures ∙ recoded_is c.args.masks c.record_at-s.result.cube good v o below masks)
          ∙ ap (on_cube (reordered v o)) c.record_at-s.ensures);
    }

-- `steps::rewrites::OnCubesDecides::recode` meets its contract.
-- Assumes nothing.
use mathlib.Core.Path.{ap, ◌∙◌}
use Rattle.records.specs.Records.{stored}
use Rattle.cube.specs.Lists.{cubes}
use Rattle.steps.specs.Changes.{by_masks}
use Rattle.steps.proofs.reorder.ByMasks.{halves_word, recoded_is}
use Rattle.steps.proofs.rewrites.OnCubesDecides.recode.Goals as goal

pub returns : goal.returns
returns c = record {
  is = λ v o below masks.
      c.recode.ensures
      ∙ ap (stored cubes c.args.list.now c.args.i) (ap (by_masks c.args.masks) (halves_word _ c.requires.fine) ∙ recoded_is c.args.masks _ c.requires.fine v o below masks);
}

-- `tree::bits_of` meets its contract.
-- Assumes nothing.
use mathlib.Core.Path.{◌∙◌}
use Rattle.polarity.proofs.Shown.{alone_packed}
use Rattle.trees.proofs.tree.bits_of.Goals as goal

pub returns-then-n-le-VARIABLES : goal.returns-then-n-le-VARIABLES
returns-then-n-le-VARIABLES c = c.alone.ensures ∙ alone_packed c.args.n _ c.requires c.if-n-le-VARIABLES.true _ c.pack_word.ensures

pub returns : goal.returns
returns c = c.of.ensures

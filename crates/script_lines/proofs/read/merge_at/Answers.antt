-- `read::merge_at` meets its contract: the word of a merge stands for its operation.
-- Assumes nothing.
use mathlib.Core.Path.{refl}
use Rattle.script_lines.proofs.Saying.{merge_read}
use Rattle.script_lines.proofs.read.merge_at.Goals as goal

pub returns : goal.returns
returns c = merge_read _ _ c.in_ok-word.ensures refl c.in_ok-i.ensures refl c.in_ok-j.ensures refl

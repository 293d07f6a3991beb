-- `files::lay_path` meets its contract: four texts, one after the other.
-- Assumes nothing.
use Rattle.text.proofs.Laying.{after}
use Rattle.selector_files.specs.Paths.{bit_path}
use Rattle.selector_files.proofs.files.lay_path.Goals as goal

pub returns : goal.returns
unfolding bit_path
returns c =
    after (after (after c.put_text-name.ensures c.put_text-number.ensures) c.put_number-dot.ensures) c.put_text.ensures

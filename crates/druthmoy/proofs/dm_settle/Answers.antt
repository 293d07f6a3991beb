-- `dm_settle` meets its contract.
-- Assumes nothing.
use mathlib.Core.Path.{◌∙◌}
use Rattle.druthmoy.specs.Faces.{settled_words}
use Rattle.words.proofs.Words.{words_of, settled_put}
use Rattle.druthmoy.proofs.dm_settle.Goals as goal

pub returns-clause-answer_after : goal.returns-clause-answer_after
returns-clause-answer_after c = words_of settled_words (c.put_answer.ensures ∙ settled_put _) c.settle-settled.ensures.result_value

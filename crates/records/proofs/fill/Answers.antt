-- `fill` meets its contract: the list, and zeros after it.
-- Assumes nothing.
use mathlib.Core.Path.{sym, ap₂, ◌∙◌}
use mathlib.Core.List.{◌++◌}
use Rattle.records.proofs.Filling.{filled_not, filled_parts}
use Rattle.records.proofs.fill.Goals as goal

pub returns-then-buf-list : goal.returns-then-buf-list
returns-then-buf-list c = sym (filled_not _ _ c.if-buf-list.true)

pub returns : goal.returns
returns c = ap₂ ◌++◌ c.copy.ensures (c.fill.ensures.after (λ y h. h)) ∙ filled_parts _ _ _ c.split_at_mut-front.ensures.back_len

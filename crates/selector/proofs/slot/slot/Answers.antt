-- `slot::slot` meets its contract.
-- Assumes nothing.
use mathlib.Core.Path.{sym, ◌∙◌}
use Rattle.selector.specs.Calls.{slot_outcome}
use Rattle.selector.proofs.Checks.{map_accepts}
use Rattle.selector.proofs.Handing.{handed_map}
use Rattle.selector.proofs.Left.{starts_sum}
use Rattle.selector.proofs.Turning.{check_refused, check_accepted}
use Rattle.selector.proofs.slot.slot.Goals as goal

pub returns-in_err-check_map : goal.returns-in_err-check_map
unfolding slot_outcome
returns-in_err-check_map c = handed_map _ _ _ c.from_residual.ensures (check_refused _ _ _ (sym c.in_err-check_map.ensures))

pub invariant_of-lists : goal.invariant_of-lists
invariant_of-lists c = record { fits = sym (starts_sum c.args.lengths.now) ∙ (map_accepts _ _ _ (sym c.in_ok-check_map.ensures)).adds }

pub slot_bits-requires : goal.slot_bits-requires
slot_bits-requires c = map_accepts _ _ _ (sym c.in_ok-check_map.ensures)

pub returns : goal.returns
unfolding slot_outcome
returns c = c.slot_bits.ensures ∙ sym (check_accepted _ _ _ (sym c.in_ok-check_map.ensures))

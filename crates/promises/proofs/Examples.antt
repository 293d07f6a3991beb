-- The starred examples of document 01 hold of the written meaning: every row of the table, computed; and its printed example, from bytes to bytes.
-- Assumes nothing.
use mathlib.Core.Path.{◌≡◌, refl}
use mathlib.Core.Bool.{true}
use mathlib.Core.List.{[], ◌∷◌}
use lib.ListN.{replicate}
use Rattle.bits.specs.Bits.{with_bit}
use Rattle.bits.specs.Below.{those, sum_below, list_below, first_below}
use Rattle.bits.specs.Sums.{tally, first_bad}
use Rattle.records.specs.Numbers.{bytes_of, number_at}
use Rattle.records.specs.Places.{remove_at}
use Rattle.records.specs.Records.{list_of, records, capacity_of, image, filled, zeros}
use Rattle.records.specs.Answers.{accepted}
use Rattle.cube.specs.Cubes.{code, put, with_code, holds, apart, good}
use Rattle.cube.specs.Lists.{trues, list_value}
use Rattle.cube.specs.Calls.{check_list_of}
use Rattle.orders.specs.Codes.{third}
use Rattle.steps.specs.Moves.{join_at, turn_at, applied}
use Rattle.steps.specs.Steps.{join_move, turn_move, exchanged, step, meaning}
use Rattle.script.specs.Run.{steps_from, undo_by, run}
use Rattle.script.specs.Scripts.{fits, steps_of}
use Rattle.script.specs.Calls.{check_script, run_of}
use Rattle.polarity.specs.Cost.{cost, cheaper}
use Rattle.polarity.specs.Forms.{parity_within, form_from, best_polarity}
use Rattle.trees.specs.Trees.{leaf_list, products}
use Rattle.trees.specs.Least.{first_least, least, choice, chosen}
use Rattle.settling.specs.Candidates.{best_form, tree_form, burned_list, fixed_of}
use Rattle.settling.specs.Calls.{check_settle, settle_outcome, settle_work, settle_out}
use Rattle.promises.specs.Calls.{settle, answers, leaves, Called}
use Rattle.promises.specs.Marked.{table, cube_from, same_numbers, same_cubes, right, all_right, printed_list, printed_script, printed_counts, printed_burned}

pub marked : all_right table ≡ true
unfolding all_right right table cube_from same_numbers same_cubes with_bit those sum_below list_below first_below tally bytes_of number_at remove_at code put with_code holds apart trues list_value third join_at turn_at applied join_move turn_move exchanged step steps_from undo_by run parity_within form_from cost cheaper best_polarity best_form leaf_list products first_least least choice chosen tree_form burned_list
marked = refl

-- The printed example is a call of settle: the list's and the script's bytes, and buffers of 32 bytes that held anything; the counts that the program
-- prints, work all zero, and the two cubes that it prints at the front of the output.
pub printed : Called (settle 2 printed_list printed_script (replicate 32 7) (replicate 32 9)) (accepted printed_counts) (zeros 32 ∷ printed_burned ∷ [])
unfolding answers leaves settle_outcome settle_work settle_out check_settle check_list_of check_script first_bad list_of records good fits steps_of meaning run_of with_bit those sum_below list_below first_below tally bytes_of number_at remove_at code put with_code holds apart trues list_value third join_at turn_at applied join_move turn_move exchanged step steps_from undo_by run parity_within form_from cost cheaper best_polarity best_form leaf_list products first_least least choice chosen tree_form burned_list fixed_of capacity_of image filled
printed = record { answer = refl; left = refl }

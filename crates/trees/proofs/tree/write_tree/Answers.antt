-- `tree::write_tree` meets its contract.
-- Assumes nothing.
use mathlib.Core.Path.{◌≡◌, sym}
use mathlib.Core.List.{[], ◌∷◌}
use native.Mathlib.Omega.{arith}
use Rattle.records.specs.Answers.{accepted}
use Rattle.records.proofs.Answers.{call_refused, call_accepted, handed_on}
use Rattle.polarity.specs.Vectors.{Vector, check_vector}
use Rattle.polarity.proofs.Vectors.{check_accepts, vector_most}
use Rattle.trees.specs.Calls.{tree_after}
use Rattle.trees.proofs.Halves.{stands_vector}
use Rattle.trees.proofs.tree.Calling.{tree_refused, tree_5, tree_0}
use Rattle.trees.proofs.tree.write_tree.Goals as goal
use Rattle.trees.proofs.tree.write_tree.Goals.{In_ok-check_vector}

told : (a : In_ok-check_vector) → check_vector a.args.n a.args.vector.now ≡ accepted (a.in_ok-check_vector.field-0 ∷ [])
told a = sym a.in_ok-check_vector.ensures

ok : (a : In_ok-check_vector) → Vector a.args.n a.args.vector.now
ok a = check_accepts _ _ _ (told a)

pub bits_of-w-requires : goal.bits_of-w-requires
bits_of-w-requires c = ok c

pub least_costs-costs-requires : goal.least_costs-costs-requires
least_costs-costs-requires c = omega (arith, (ok (goal.at.least_costs-costs-requires c).In_ok-check_vector).few)

pub returns-then-capacity-costs : goal.returns-then-capacity-costs
unfolding tree_after
returns-then-capacity-costs c = let both = call_refused _ _ _ _ (tree_5 _ _ _ _ (told (goal.at.returns-then-capacity-costs c).In_ok-check_vector) _ c.bits_of-w.ensures _ c.least_costs-costs.ensures _ c.capacity.ensures
    _ c.at.ensures c.if-capacity-costs.true) in record { result_value = both.0; out_after = both.1 }

pub put_tree-requires : goal.put_tree-requires
put_tree-requires c = let v = ok (goal.at.put_tree-requires c).In_ok-check_vector in (omega (arith, v.few), omega (arith, vector_most _ _ v))

pub returns-in_err-check_vector : goal.returns-in_err-check_vector
unfolding tree_after
returns-in_err-check_vector c = let both = call_refused _ _ _ _ (tree_refused _ _ _ _ (sym c.in_err-check_vector.ensures)) in record { result_value = handed_on _ _ _ _ c.from_residual.ensures both.0; out_after = both.1 }

pub returns : goal.returns
unfolding tree_after
returns c = let both = call_accepted _ _ _ _ _ (tree_0 _ _ _ _ (told (goal.at.returns c).In_ok-check_vector) _ c.bits_of-w.ensures _ c.least_costs-costs.ensures _ c.capacity.ensures c.if-capacity-costs.false)
    (c.put_tree.ensures.bytes _ (stands_vector _ _ (ok (goal.at.returns c).In_ok-check_vector) _ c.bits_of-w.ensures)) in record { result_value = both.0; out_after = both.1 }

-- The steps on a list of shared products: the five of a plain script, and the merge. Document 02, Nine; document 01, "The steps of a script".
-- Assumes nothing.
use Rattle.std.specs.Prelude.{Bool, true, false, cond, List, [], ◌∷◌, map, ℕ, eqb, length, get_or}
use Rattle.std.specs.Int.Bits.{bit_xor}
use Rattle.cube.specs.declared.Cube.{Cube}
use Rattle.cube.specs.Cubes.{apart}
use Rattle.steps.specs.declared.StepRecord.{StepRecord}
use Rattle.steps.specs.Moves.{step_refusal, Move, refuse, drops, joins, splits, turns, After, next, applied, map_move}
use Rattle.steps.specs.Steps.{Step, drop, join, split, turn, L, Allowed, meaning, at_two_places, drop_move, join_move, split_move, turn_move, exchanged}
use Rattle.shared.specs.declared.Shared.{Shared}
use Rattle.shared.specs.SharedRecord.{sharing, no_shared}

pub data SharedStep : Type 0 where
  plain : Step → SharedStep
  merge : ℕ → ℕ → SharedStep

-- what refusal 9 leaves; a merge uses i and j alone
abbrev pub SharedAllowed : ℕ → SharedStep → Type 0
SharedAllowed n (plain x) = Allowed n x
SharedAllowed n (merge i j) = Unit {0}

-- "A new step, op 6"
abbrev pub merge_operation : ℕ
merge_operation = 6

-- the step of a record, by its operation: 6 merge, and the others as before
unfoldable pub shared_meaning : StepRecord → SharedStep
shared_meaning r = cond (eqb r.op merge_operation) (merge r.i r.j) (plain (meaning r))

-- the shared product at a place; past the end the record whose bytes are all zero
abbrev pub shared_at : List Shared → ℕ → Shared
shared_at l i = get_or l i no_shared

-- ---- decisions: from the count, the places and the products as they stand

-- a move that is not refused, refused by this number unless the test passes; its own refusal comes first
abbrev pub or_refuse : {A : Type 0} → Bool → ℕ → Move A → Move A
or_refuse true number m = m
or_refuse false number (refuse why) = refuse why
or_refuse false number drops = refuse (step_refusal number)
or_refuse false number (joins x) = refuse (step_refusal number)
or_refuse false number (splits x y) = refuse (step_refusal number)
or_refuse false number (turns x y) = refuse (step_refusal number)

-- a move of cubes, all of whose products have the outputs of a
abbrev pub carried : Shared → Move Cube → Move Shared
carried a m = map_move (sharing a.outputs) m

-- "Drop, join and turn need equal outputs"; "22 for outputs that must be equal and aren't, after 16 to 19"
unfoldable pub alike : Shared → Shared → Move Cube → Move Shared
alike a b m = or_refuse (eqb a.outputs b.outputs) 22 (carried a m)

-- "merges two equal cubes with different outputs into place i with the EXOR of the outputs and removes j"; "23 for a merge whose cubes differ or whose
-- outputs are equal"
abbrev pub merged : Shared → Shared → List ℕ → Move Shared
merged a b [] = cond (eqb a.outputs b.outputs) (refuse (step_refusal 23)) (joins (sharing (bit_xor a.outputs b.outputs) a.cube))
merged a b (v ∷ vs) = refuse (step_refusal 23)

unfoldable pub merge_move : ℕ → ℕ → ℕ → ℕ → Shared → Shared → Move Shared
merge_move n count i j a b = at_two_places count i j (merged a b (apart n a.cube b.cube))

-- what is decided of a step, from the count and the products at its places: "a split gives both halves i's"; an L step decides nothing
unfoldable pub shared_decision : ℕ → ℕ → ℕ → SharedStep → Shared → Shared → Move Shared
shared_decision n count cap (plain (drop i j)) a b = alike a b (drop_move n count i j a.cube b.cube)
shared_decision n count cap (plain (join i j)) a b = alike a b (join_move n count i j a.cube b.cube)
shared_decision n count cap (plain (split v i)) a b = carried a (split_move count cap v i a.cube)
shared_decision n count cap (plain (turn v i j)) a b = alike a b (turn_move n count v i j a.cube b.cube)
shared_decision n count cap (plain (L v x)) a b = refuse (step_refusal 0)
shared_decision n count cap (merge i j) a b = merge_move n count i j a b

-- ---- L

-- what is done to a product's cube alone: its outputs stay
abbrev pub on_cube : (Cube → Cube) → Shared → Shared
on_cube f r = sharing r.outputs (f r.cube)

-- ---- one step on a list of shared products over n variables, with room for cap of them

unfoldable pub shared_step : ℕ → ℕ → SharedStep → List Shared → After Shared
shared_step n cap (plain (drop i j)) l = applied no_shared i j l (shared_decision n (length l) cap (plain (drop i j)) (shared_at l i) (shared_at l j))
shared_step n cap (plain (join i j)) l = applied no_shared i j l (shared_decision n (length l) cap (plain (join i j)) (shared_at l i) (shared_at l j))
shared_step n cap (plain (split v i)) l = applied no_shared i i l (shared_decision n (length l) cap (plain (split v i)) (shared_at l i) (shared_at l i))
shared_step n cap (plain (turn v i j)) l = applied no_shared i j l (shared_decision n (length l) cap (plain (turn v i j)) (shared_at l i) (shared_at l j))
shared_step n cap (plain (L v b)) l = next (map (on_cube (exchanged v b)) l)
shared_step n cap (merge i j) l = applied no_shared i j l (shared_decision n (length l) cap (merge i j) (shared_at l i) (shared_at l j))

-- ---- the kind of a step: 1 for a merge, and for the others as before

abbrev pub is_merge : SharedStep → ℕ
is_merge (plain x) = 0
is_merge (merge i j) = 1

abbrev pub of_plain : (Step → ℕ) → SharedStep → ℕ
of_plain kind (plain x) = kind x
of_plain kind (merge i j) = 0

-- The five steps of a script on a list of cubes. Document 01, "The steps of a script"; document 02, Four; 000's rules S1 to S6, 1S, 2S and definition 4.1.
-- Assumes nothing.
use Rattle.std.specs.Prelude.{ℕ, zero, suc, ◌<◌, cond, ◌&&◌, List, [], ◌∷◌, map, eqb, ltb, length, get_or}
use Rattle.cube.specs.declared.Cube.{Cube}
use Rattle.cube.specs.Cubes.{code, put, one, apart}
use Rattle.orders.specs.Codes.{third, lower, higher, exchange}
use Rattle.orders.specs.Orders.{code_after}
use Rattle.steps.specs.declared.StepRecord.{StepRecord}
use Rattle.steps.specs.Moves.{step_refusal, step_refusal_with, Move, refuse, drops, joins, splits, turns, After, next, applied}

pub data Step : Type 0 where
  drop : ℕ → ℕ → Step
  join : ℕ → ℕ → Step
  split : ℕ → ℕ → Step
  turn : ℕ → ℕ → ℕ → Step
  L : ℕ → ℕ → Step

-- what refusal 9 leaves: "a used v" below n, "a used literal" at most 1
abbrev pub Allowed : ℕ → Step → Type 0
Allowed n (drop i j) = Unit {0}
Allowed n (join i j) = Unit {0}
Allowed n (split v i) = v < n
Allowed n (turn v i j) = v < n
Allowed n (L v b) = (v < n) × (b < 2)

-- the step of a record, by its operation: 1 drop, 2 join, 3 split, 4 turn, 5 L
abbrev pub meaning_by : ℕ → StepRecord → Step
meaning_by zero r = drop r.i r.j
meaning_by (suc zero) r = drop r.i r.j
meaning_by (suc (suc zero)) r = join r.i r.j
meaning_by (suc (suc (suc zero))) r = split r.v r.i
meaning_by (suc (suc (suc (suc zero)))) r = turn r.v r.i r.j
meaning_by (suc (suc (suc (suc (suc op))))) r = L r.v r.literal

unfoldable pub meaning : StepRecord → Step
meaning r = meaning_by r.op r

-- the cube at a place; past the end the product with no literal
abbrev pub cube_at : List Cube → ℕ → Cube
cube_at l i = get_or l i one

-- c with the third of c's and d's codes at v
abbrev pub third_at : Cube → Cube → ℕ → Cube
third_at c d v = put c v (third (code c v) (code d v))

-- ---- decisions: from the count, the places and the cubes as they stand

-- 10: "a used i or j not below the present count"; 11: "i equals j in a step with two cubes"
abbrev pub at_two_places : {A : Type 0} → ℕ → ℕ → ℕ → Move A → Move A
at_two_places count i j m = cond (ltb i count && ltb j count) (cond (eqb i j) (refuse (step_refusal 11)) m) (refuse (step_refusal 10))

-- the cubes are not as the step needs: with the number of the variables in which they differ (document 02, Four)
abbrev pub unfit_by : ℕ → List ℕ → Move Cube
unfit_by number vs = refuse (step_refusal_with number (length vs))

-- drop needs "equal cubes": by the variables in which they differ; 16: "drop of unequal cubes"
abbrev pub dropped : List ℕ → Move Cube
dropped [] = drops
dropped (v ∷ vs) = unfit_by 16 (v ∷ vs)

unfoldable pub drop_move : ℕ → ℕ → ℕ → ℕ → Cube → Cube → Move Cube
drop_move n count i j a b = at_two_places count i j (dropped (apart n a b))

-- join needs cubes that "differ in exactly one variable": "i gets the third there"; 17: "join, number not one"
abbrev pub joined : Cube → Cube → List ℕ → Move Cube
joined a b [] = unfit_by 17 []
joined a b (v ∷ []) = joins (third_at a b v)
joined a b (v ∷ u ∷ vs) = unfit_by 17 (v ∷ u ∷ vs)

unfoldable pub join_move : ℕ → ℕ → ℕ → ℕ → Cube → Cube → Move Cube
join_move n count i j a b = at_two_places count i j (joined a b (apart n a b))

-- split: 10, then 13: "split with the count at capacity"
unfoldable pub split_move : ℕ → ℕ → ℕ → ℕ → Cube → Move Cube
split_move count cap v i a =
    cond (ltb i count) (cond (ltb count cap) (splits (put a v (lower (code a v))) (put a v (higher (code a v)))) (refuse (step_refusal 13))) (refuse (step_refusal 10))

-- turn needs cubes that "differ in exactly two variables, v one of them": "i gets the third at v; j gets the third at the other variable"; 18: "turn, number
-- not two"; 19: "turn at a variable where the cubes agree, number two"
abbrev pub turned : Cube → Cube → ℕ → List ℕ → Move Cube
turned a b v [] = unfit_by 18 []
turned a b v (p ∷ []) = unfit_by 18 (p ∷ [])
turned a b v (p ∷ q ∷ []) =
    cond (eqb v p) (turns (third_at a b p) (third_at b a q)) (cond (eqb v q) (turns (third_at a b q) (third_at b a p)) (unfit_by 19 (p ∷ q ∷ [])))
turned a b v (p ∷ q ∷ r ∷ vs) = unfit_by 18 (p ∷ q ∷ r ∷ vs)

unfoldable pub turn_move : ℕ → ℕ → ℕ → ℕ → ℕ → Cube → Cube → Move Cube
turn_move n count v i j a b = at_two_places count i j (turned a b v (apart n a b))

-- what is decided of a step, from the count and the cubes at its places; an L step decides nothing
unfoldable pub decision : ℕ → ℕ → ℕ → Step → Cube → Cube → Move Cube
decision n count cap (drop i j) a b = drop_move n count i j a b
decision n count cap (join i j) a b = join_move n count i j a b
decision n count cap (split v i) a b = split_move count cap v i a
decision n count cap (turn v i j) a b = turn_move n count v i j a b
decision n count cap (L v x) a b = refuse (step_refusal 0)

-- ---- L

-- "in every cube, at v, that literal's code and 2 are exchanged" (000, definition 4.1)
unfoldable pub exchanged : ℕ → ℕ → Cube → Cube
exchanged v b c = put c v (exchange b (code c v))

-- a cube with its code at v moved by one of the six orders
unfoldable pub reordered : ℕ → ℕ → Cube → Cube
reordered v o c = put c v (code_after o (code c v))

-- ---- one step on a list of cubes over n variables, with room for cap of them

unfoldable pub step : ℕ → ℕ → Step → List Cube → After Cube
step n cap (drop i j) l = applied one i j l (drop_move n (length l) i j (cube_at l i) (cube_at l j))
step n cap (join i j) l = applied one i j l (join_move n (length l) i j (cube_at l i) (cube_at l j))
step n cap (split v i) l = applied one i 0 l (split_move (length l) cap v i (cube_at l i))
step n cap (turn v i j) l = applied one i j l (turn_move n (length l) v i j (cube_at l i) (cube_at l j))
step n cap (L v b) l = next (map (exchanged v b) l)

-- ---- the kind of a step: 1 for a split, a join, a drop, an L step

-- a number for each kind: drop, join, split, turn, L
abbrev pub by_kind : ℕ → ℕ → ℕ → ℕ → ℕ → Step → ℕ
by_kind a b c d e (drop i j) = a
by_kind a b c d e (join i j) = b
by_kind a b c d e (split v i) = c
by_kind a b c d e (turn v i j) = d
by_kind a b c d e (L v x) = e

abbrev pub is_drop : Step → ℕ
is_drop x = by_kind 1 0 0 0 0 x

abbrev pub is_join : Step → ℕ
is_join x = by_kind 0 1 0 0 0 x

abbrev pub is_split : Step → ℕ
is_split x = by_kind 0 0 1 0 0 x

abbrev pub is_l : Step → ℕ
is_l x = by_kind 0 0 0 0 1 x

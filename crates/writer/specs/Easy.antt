-- The easy script of a list. Document 02, Three: "write a drop or a join; go on from the new list. It has finished exactly when the end list has no such pair, even
-- after exactly 1,024 steps; else it stops there".
-- Assumes nothing.
use Rattle.std.specs.Prelude.{ℕ, zero, suc, Bool, cond, not, List, [], ◌∷◌, length}
use Rattle.cube.specs.declared.Cube.{Cube}
use Rattle.cube.specs.Cubes.{differing_number}
use Rattle.steps.specs.Moves.{After, stop, next}
use Rattle.steps.specs.Steps.{Step, drop, join, cube_at, step}
use Rattle.writer.specs.Pairs.{partner, lowest, has_pair}

-- "a drop or a join", by the number of variables in which the cubes differ
abbrev pub step_by : ℕ → ℕ → ℕ → Step
step_by zero i j = drop i j
step_by (suc k) i j = join i j

-- the step for the cubes at two places
abbrev pub step_at : ℕ → List Cube → ℕ → ℕ → Step
step_at n l i j = step_by (differing_number n (cube_at l i) (cube_at l j)) i j

-- the step that is written for a list that has a pair
unfoldable pub easy_step : ℕ → List Cube → Step
easy_step n l = step_at n l (lowest n l) (partner n l (lowest n l))

-- the list after a step; the step of a pair is never refused (`easy_accepted`), so that what stands for a refusal is not read
abbrev pub came : List Cube → After Cube → List Cube
came l (stop why) = l
came l (next m) = m

-- "the new list". A drop and a join ask for no room, so that any capacity gives it (`easy_accepted`)
unfoldable pub easy_next : ℕ → List Cube → List Cube
easy_next n l = came l (step n (length l) (easy_step n l) l)

-- the steps, at most m of them
unfoldable pub easy_steps : ℕ → ℕ → List Cube → List Step
easy_steps n zero l = []
easy_steps n (suc m) l = cond (has_pair n l) (easy_step n l ∷ easy_steps n m (easy_next n l)) []

-- "the end list"
unfoldable pub easy_end : ℕ → ℕ → List Cube → List Cube
easy_end n zero l = l
easy_end n (suc m) l = cond (has_pair n l) (easy_end n m (easy_next n l)) l

-- "finished exactly when the end list has no such pair"
abbrev pub easy_finished : ℕ → ℕ → List Cube → Bool
easy_finished n m l = not (has_pair n (easy_end n m l))

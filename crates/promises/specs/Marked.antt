-- The starred examples of document 01, "Marked examples", as a single table, and what it says of the written meaning.
-- Assumes nothing.
use Rattle.std.specs.Prelude.{Bool, true, false, ◌&&◌, List, [], ◌∷◌, map, ℕ, suc, eqb, length}
use Rattle.records.specs.Records.{flat, zeros}
use Rattle.cube.specs.declared.Cube.{Cube}
use Rattle.cube.specs.Cubes.{put, one}
use Rattle.cube.specs.Lists.{cubes, most_records, list_value}
use Rattle.steps.specs.Moves.{After, stop, next}
use Rattle.steps.specs.Steps.{Step, join, turn, L, step}
use Rattle.script.specs.Run.{Ran, stopped, ended, run}
use Rattle.polarity.specs.Forms.{form_list, size, best_polarity}
use Rattle.polarity.specs.Vectors.{byte_at}
use Rattle.settling.specs.Candidates.{best_of, best_form, burned_list}

-- a cube written out by its codes, variable 0 first: 0 complemented, 1 plain, 2 absent
abbrev pub Written : Type 0
Written = List ℕ

-- what an example says; lists of cubes are written out
pub data Row : Type 0 where
  -- n, vector: the best polarity and its size
  best_is : ℕ → List ℕ → ℕ → ℕ → Row
  -- n, vector, polarity: the size under it
  size_is : ℕ → List ℕ → ℕ → ℕ → Row
  -- n, vector, polarity: the form's list, and its bytes
  form_is : ℕ → List ℕ → ℕ → List Written → List ℕ → Row
  -- n, step, list: the list after it
  step_is : ℕ → Step → List Written → List Written → Row
  -- n, list: the best polarity of its function and its size
  fixed_is : ℕ → List Written → ℕ → ℕ → Row
  -- n, list, script: the burned list
  burned_is : ℕ → List Written → List Step → List Written → Row
  -- n, list, assignment: the value
  value_is : ℕ → List Written → ℕ → ℕ → Row

unfoldable pub table : List Row
table =
    -- "n=2, vector 0 1 1 0: polarity 0, size 2 (polarity 3 has 2 also)"
    best_is 2 (0 ∷ 1 ∷ 1 ∷ 0 ∷ []) 0 2
    ∷ size_is 2 (0 ∷ 1 ∷ 1 ∷ 0 ∷ []) 3 2
    -- "n=2, vector 0 1 1 1: polarity 3, size 2; polarity 0 has 3"
    ∷ best_is 2 (0 ∷ 1 ∷ 1 ∷ 1 ∷ []) 3 2
    ∷ size_is 2 (0 ∷ 1 ∷ 1 ∷ 1 ∷ []) 0 3
    -- "The form of the last: -- then 00", whose bytes are two records of 8 (document 02, Seven): 00 00 00 00 00 00 00 00 03 00 00 00 00 00 00 00
    ∷ form_is 2 (0 ∷ 1 ∷ 1 ∷ 1 ∷ []) 3 ((2 ∷ 2 ∷ []) ∷ (0 ∷ 0 ∷ []) ∷ [])
    (0 ∷ 0 ∷ 0 ∷ 0 ∷ 0 ∷ 0 ∷ 0 ∷ 0 ∷ 3 ∷ 0 ∷ 0 ∷ 0 ∷ 0 ∷ 0 ∷ 0 ∷ 0 ∷ [])
    -- "Join of -1 and 11: 01"
    ∷ step_is 2 (join 0 1) ((2 ∷ 1 ∷ []) ∷ (1 ∷ 1 ∷ []) ∷ []) ((0 ∷ 1 ∷ []) ∷ [])
    -- "Turn at 0 of 1-, 01: --, 00. Turn at 1: 10, -1"
    ∷ step_is 2 (turn 0 0 1) ((1 ∷ 2 ∷ []) ∷ (0 ∷ 1 ∷ []) ∷ []) ((2 ∷ 2 ∷ []) ∷ (0 ∷ 0 ∷ []) ∷ [])
    ∷ step_is 2 (turn 1 0 1) ((1 ∷ 2 ∷ []) ∷ (0 ∷ 1 ∷ []) ∷ []) ((1 ∷ 0 ∷ []) ∷ (2 ∷ 1 ∷ []) ∷ [])
    -- "L with v=0, literal 1 on 1-, -1, 11: --, 11, -1"
    ∷ step_is 2 (L 0 1) ((1 ∷ 2 ∷ []) ∷ (2 ∷ 1 ∷ []) ∷ (1 ∷ 1 ∷ []) ∷ []) ((2 ∷ 2 ∷ []) ∷ (1 ∷ 1 ∷ []) ∷ (2 ∷ 1 ∷ []) ∷ [])
    -- "n=1, list 0 1 -, no steps: burned list empty"
    ∷ burned_is 1 ((0 ∷ []) ∷ (1 ∷ []) ∷ (2 ∷ []) ∷ []) [] []
    -- "n=3, list 000 111: best polarity 1, size 4; the given list is burned"
    ∷ fixed_is 3 ((0 ∷ 0 ∷ 0 ∷ []) ∷ (1 ∷ 1 ∷ 1 ∷ []) ∷ []) 1 4
    ∷ burned_is 3 ((0 ∷ 0 ∷ 0 ∷ []) ∷ (1 ∷ 1 ∷ 1 ∷ []) ∷ []) [] ((0 ∷ 0 ∷ 0 ∷ []) ∷ (1 ∷ 1 ∷ 1 ∷ []) ∷ [])
    -- "n=0, one empty cube: value 1; two of them: value 0"
    ∷ value_is 0 ([] ∷ []) 0 1
    ∷ value_is 0 ([] ∷ [] ∷ []) 0 0
    -- "n=0, vector 1: polarity 0, size 1"
    ∷ best_is 0 (1 ∷ []) 0 1
    ∷ []

-- ---- when a row is right

-- the cube whose codes from variable k on are written, and which has no literal elsewhere
unfoldable pub cube_from : ℕ → Written → Cube
cube_from k [] = one
cube_from k (x ∷ xs) = put (cube_from (suc k) xs) k x

abbrev pub cubes_from : List Written → List Cube
cubes_from l = map (cube_from 0) l

unfoldable pub same_numbers : List ℕ → List ℕ → Bool
same_numbers [] [] = true
same_numbers [] (y ∷ ys) = false
same_numbers (x ∷ xs) [] = false
same_numbers (x ∷ xs) (y ∷ ys) = eqb x y && same_numbers xs ys

unfoldable pub same_cubes : List Cube → List Cube → Bool
same_cubes [] [] = true
same_cubes [] (d ∷ ds) = false
same_cubes (c ∷ cs) [] = false
same_cubes (c ∷ cs) (d ∷ ds) = eqb c.seen d.seen && (eqb c.value d.value && same_cubes cs ds)

abbrev pub after_is : After Cube → List Cube → Bool
after_is (stop why) l = false
after_is (next m) l = same_cubes m l

abbrev pub ran_is : ℕ → List Cube → Ran Cube → List Cube → Bool
ran_is n given (stopped why s) l = false
ran_is n given (ended result peak) l = same_cubes (burned_list n result given) l

unfoldable pub right : Row → Bool
right (best_is n v p k) = eqb (best_polarity n (byte_at v)) p && eqb (size n p (byte_at v)) k
right (size_is n v p k) = eqb (size n p (byte_at v)) k
right (form_is n v p l bytes) =
    same_cubes (form_list n p (byte_at v)) (cubes_from l) && same_numbers (flat cubes.enc (form_list n p (byte_at v))) bytes
right (step_is n x l m) = after_is (step n most_records x (cubes_from l)) (cubes_from m)
right (fixed_is n l p k) = eqb (best_of n (cubes_from l)) p && eqb (length (best_form n (cubes_from l))) k
right (burned_is n l xs m) = ran_is n (cubes_from l) (run n most_records xs (cubes_from l)) (cubes_from m)
right (value_is n l a x) = eqb (list_value n (cubes_from l) a) x

unfoldable pub all_right : List Row → Bool
all_right [] = true
all_right (r ∷ rs) = right r && all_right rs

-- ---- the printed example: "For n = 2, list 1- -1 11, script join 1 2, turn v=0 0 1, this is all of it"

abbrev pub printed_list : List ℕ
printed_list = 1 ∷ 0 ∷ 0 ∷ 0 ∷ 1 ∷ 0 ∷ 0 ∷ 0 ∷ 2 ∷ 0 ∷ 0 ∷ 0 ∷ 2 ∷ 0 ∷ 0 ∷ 0 ∷ 3 ∷ 0 ∷ 0 ∷ 0 ∷ 3 ∷ 0 ∷ 0 ∷ 0 ∷ []

abbrev pub printed_script : List ℕ
printed_script = 2 ∷ 0 ∷ 1 ∷ 0 ∷ 2 ∷ 0 ∷ 0 ∷ 0 ∷ 4 ∷ 0 ∷ 0 ∷ 0 ∷ 1 ∷ 0 ∷ 0 ∷ 0 ∷ []

-- "in 3 peak 3 script 2 fixed 3 2 out 2"
abbrev pub printed_counts : List ℕ
printed_counts = 3 ∷ 3 ∷ 2 ∷ 3 ∷ 2 ∷ 2 ∷ []

-- "--" and "00", at the front of a buffer of 32 bytes
abbrev pub printed_burned : List ℕ
printed_burned = 0 ∷ 0 ∷ 0 ∷ 0 ∷ 0 ∷ 0 ∷ 0 ∷ 0 ∷ 3 ∷ 0 ∷ 0 ∷ 0 ∷ zeros 20

-- Inside: what the functions within the call promise one another. None of it is needed to read the call.
-- Assumes nothing.
use Rattle.std.specs.Prelude.{◌≡◌, ◌⊎◌, Bool, false, cond, List, map, ℕ, ◌≤◌, eqb, ltb, length, get_or, Option, None, Some}
use Rattle.std.specs.Int.Count.{ones}
use Rattle.records.specs.Records.{image, stored, written}
use Rattle.cube.specs.declared.Cube.{Cube}
use Rattle.cube.specs.Cubes.{one, differing}
use Rattle.cube.specs.Lists.{cubes}
use Rattle.script.specs.Scripts.{step_records, most_steps, record_of}
use Rattle.writer.specs.declared.Pair.{Pair}
use Rattle.writer.specs.declared.Written.{Written}
use Rattle.writer.specs.Pairs.{partner, has_pair, IsPair, First}
use Rattle.writer.specs.Easy.{easy_step, easy_next, easy_steps, easy_end, easy_finished}

-- ---- the search

-- the masks of two cubes differ in one bit at most: of good cubes, that they are equal or differ in one variable
unfoldable pub near : Cube → Cube → Bool
near c d = ltb (ones (differing c d)) 2

-- so do those of c and of the cube at a place
abbrev pub near_at : Cube → List Cube → ℕ → Bool
near_at c l i = near c (get_or l i one)

-- a row that is marked is not looked at
unfoldable pub looked : ℕ → ℕ → List Cube → ℕ → ℕ
looked mark n l i = cond (eqb mark 0) (partner n l i) (length l)

-- A row is marked by 1 where no later place makes a pair with it. Of the pairs of a list, each is made by an unmarked row that is not below `row`, or with the place `new`
pub record Watched (n : ℕ) (l : List Cube) (row new : ℕ) (marks : List ℕ) : Type 0 where
  pub only : (r s : ℕ) → IsPair n l r s → (s ≡ new) ⊎ ((row ≤ r) × (get_or marks r 0 ≡ 0))

-- the first pair of a list, and marks that miss only pairs with its j; or none
pub record FoundPair (n : ℕ) (l : List Cube) (marks : List ℕ) (p : Pair) : Type 0 where
  pub first : First n l p.i p.j
  pub kept : Watched n l 0 p.j marks

abbrev pub Found : (n : ℕ) (l : List Cube) (marks : List ℕ) → Option Pair → Type 0
Found n l marks None = has_pair n l ≡ false
Found n l marks (Some p) = FoundPair n l marks p

-- marks for so many rows, none of them set
pub record Unmarked (count : ℕ) (marks : List ℕ) : Type 0 where
  pub room : count ≤ length marks
  pub none : (r : ℕ) → get_or marks r 0 ≡ 0

-- ---- the steps

-- the step of the list l written and done: the count after it, and the buffers
pub record Made (n : ℕ) (l : List Cube) (k : ℕ) (work work' script script' : List ℕ) (count : ℕ) : Type 0 where
  pub many : count ≡ length (easy_next n l)
  pub buffer : work' ≡ image cubes (length work) (easy_next n l)
  pub bytes : script' ≡ stored step_records script k (record_of (easy_step n l))

-- all steps of the list l: the answer r, and the buffers after it
pub record WritingIs (n : ℕ) (l : List Cube) (work work' script script' : List ℕ) (r : Written) : Type 0 where
  pub steps_are : r.steps ≡ length (easy_steps n most_steps l)
  pub finished_is : r.finished ≡ easy_finished n most_steps l
  pub buffer : work' ≡ image cubes (length work) (easy_end n most_steps l)
  pub bytes : script' ≡ written step_records 0 (map record_of (easy_steps n most_steps l)) script

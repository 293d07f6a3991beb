-- What each call refuses, in its order. Document 01, "Refusal numbers and places": its table, and its paragraph "Order"; document 02, Four: "16 (drop
-- of unequal cubes), 17 (join, number not one), 18 (turn, number not two), 19 (turn at a variable where the cubes agree, number two), 18 before 19", and "the
-- number of differing variables as a third answer".
-- Assumes nothing.
use Rattle.std.specs.Prelude.{◌≡◌, ◌⊎◌, ◌≢◌, Bool, true, false, ◌&&◌, ◌||◌, List, [], ◌∷◌, ◌++◌, ℕ, ◌*◌, ◌/◌, ◌%◌, ◌^◌, ◌≤◌, ◌<◌, min, eqb, leb, length, get_or}
use Rattle.bits.specs.Below.{list_below}
use Rattle.records.specs.declared.Refusal.{Refusal}
use Rattle.records.specs.Records.{Codec, records, list_of, zeros}
use Rattle.records.specs.Places.{place_width, places}
use Rattle.cube.specs.declared.Cube.{Cube}
use Rattle.cube.specs.Cubes.{good, one}
use Rattle.cube.specs.Lists.{most_variables, vector_variables, most_records, record_width, cubes, cubes_of, cube_capacity}
use Rattle.converters.specs.NarrowRecord.{narrow_width, narrow_cubes, narrow_cubes_of, narrow_variables}
use Rattle.polarity.specs.Forms.{form_from}
use Rattle.polarity.specs.Vectors.{byte_at, is_bit}
use Rattle.trees.specs.Least.{tree_list}
use Rattle.kronecker.specs.Choices.{kronecker_list}
use Rattle.kronecker.specs.Calls.{kronecker_variables}
use Rattle.steps.specs.declared.StepRefusal.{StepRefusal}
use Rattle.steps.specs.Steps.{drop}
use Rattle.steps.specs.Effects.{StepRefused, by_step, third_answer}
use Rattle.script.specs.Run.{Refused}
use Rattle.script.specs.Scripts.{step_records, step_width, most_steps, fits, steps_of}
use Rattle.script.specs.Calls.{of_step}
use Rattle.index.specs.Index.{group_count, list_index, list_starts}
use Rattle.shared.specs.SharedRecord.{no_shared, shared_width, shares_of, shared_capacity, fine}
use Rattle.shared_steps.specs.SharedSteps.{plain}
use Rattle.shared_steps.specs.Effects.{SharedStepRefused, by_shared, shared_third}
use Rattle.shared_run.specs.SharedScripts.{shared_fits, shared_steps_of}
use Rattle.shared_run.specs.SharedRun.{SharedRefused}
use Rattle.promises.specs.Calls.{Call, check, value, reasons, truth_vector, coefficients, vector_back, write_form, best_polarity, write_tree, write_kronecker, run, build_index, group, run_indexed, write_script, compact, settle, wide_from_narrow, narrow_from_wide, shared_check, shared_value, shared_run, shared_settle, lent}

-- ---- a fault

-- "the lowest record that breaks the rule": the test fails at this place, and at none below it
pub record Lowest {A : Type 0} (test : A → Bool) (d : A) (l : List A) (place : ℕ) : Type 0 where
  pub inside : place < length l
  pub fails : test (get_or l place d) ≡ false
  pub passed : (i : ℕ) → i < place → test (get_or l i d) ≡ true

-- a row of document 01's table for some input: its number; "when", and the place, or the test that a list's elements have to pass
pub data Fault : Type 1 where
  at : ℕ → ℕ → Type 0 → Fault
  lowest : {A : Type 0} → ℕ → (A → Bool) → A → List A → Fault

abbrev pub fault_number : Fault → ℕ
fault_number (at number place when) = number
fault_number (lowest number test d l) = number

-- the fault is there, at this place
abbrev pub Wrong : Fault → ℕ → Type 0
Wrong (at number place when) q = (q ≡ place) × when
Wrong (lowest number test d l) q = Lowest test d l q

-- none of them is there
abbrev pub NoneWrong : List Fault → Type 0
NoneWrong [] = Unit {0}
NoneWrong (x ∷ xs) = ((q : ℕ) → Wrong x q → ⊥) × NoneWrong xs

-- the first of them that is there has this number, and is at this place
abbrev pub FirstWrong : List Fault → ℕ → ℕ → Type 0
FirstWrong [] number place = ⊥
FirstWrong (x ∷ xs) number place = ((number ≡ fault_number x) × Wrong x place) ⊎ (((q : ℕ) → Wrong x q → ⊥) × FirstWrong xs number place)

-- ---- the order of each call

-- 2 to 4, of a list of this kind of record
unfoldable pub record_faults : Codec Cube → ℕ → List ℕ → List Fault
record_faults C n list =
    at 2 0 (length list % C.width ≢ 0)
    ∷ at 3 0 (most_records < length list / C.width)
    ∷ lowest 4 (good n) one (list_of C list)
    ∷ []

-- "Checking a list: 1 to 4", for a call that takes up to `limit` variables
unfoldable pub list_faults : Codec Cube → ℕ → ℕ → List ℕ → List Fault
list_faults C limit n list = at 1 0 (limit < n) ∷ record_faults C n list

-- "1 to 4, 6": "assignment has a bit at or above n"
unfoldable pub at_faults : ℕ → List ℕ → ℕ → List Fault
at_faults n list a = list_faults cubes most_variables n list ++ (at 6 0 (2 ^ n ≤ a) ∷ [])

-- "7, 8, 9"
unfoldable pub script_faults : ℕ → List ℕ → List Fault
script_faults n script =
    at 7 0 (length script % step_width ≢ 0)
    ∷ at 8 0 (most_steps < length script / step_width)
    ∷ lowest 9 (fits n) step_records.none (list_of step_records script)
    ∷ []

-- "1, 14": "vector or coefficient length not 2^n (place 2^n), else a byte above 1", "lowest such byte"
unfoldable pub vector_faults : ℕ → List ℕ → List Fault
vector_faults n vector =
    at 1 0 (vector_variables < n)
    ∷ at 14 (2 ^ n) (length vector ≢ 2 ^ n)
    ∷ lowest 14 is_bit 0 vector
    ∷ []

-- "1 to 4, then 5 for an index buffer shorter than 2 bytes a record" (document 02, Eight)
unfoldable pub index_faults : ℕ → List ℕ → List ℕ → List Fault
index_faults n list index = list_faults cubes most_variables n list ++ (at 5 0 (length index < place_width * length (cubes_of list)) ∷ [])

-- 25 at the lowest of m places at which a number is not the right one
abbrev pub not_right : ℕ → List ℕ → List ℕ → Fault
not_right m l right = lowest 25 (λ i. eqb (get_or l i 0) (get_or right i 0)) 0 (list_below m (λ i. i))

-- 1 to 4, of a list of shared products: "refusal 2 go[es] by 12 bytes", "4 also for zero outputs" (document 02, Nine)
unfoldable pub shared_faults : ℕ → List ℕ → List Fault
shared_faults n list =
    at 1 0 (most_variables < n)
    ∷ at 2 0 (length list % shared_width ≢ 0)
    ∷ at 3 0 (most_records < length list / shared_width)
    ∷ lowest 4 (fine n) no_shared (shares_of list)
    ∷ []

-- "7, 8, 9" of a script that may have merges (document 02, Nine)
unfoldable pub shared_script_faults : ℕ → List ℕ → List Fault
shared_script_faults n script =
    at 7 0 (length script % step_width ≢ 0)
    ∷ at 8 0 (most_steps < length script / step_width)
    ∷ lowest 9 (shared_fits n) step_records.none (list_of step_records script)
    ∷ []

unfoldable pub faults : Call → List Fault
-- "Checking a list: 1 to 4"
faults (check n list) = list_faults cubes most_variables n list
-- "Value: 1 to 4, 6"
faults (value n list a) = at_faults n list a
-- "Refusals: those of the value call, then 5 for a buffer shorter than 2 bytes a record" (document 02, One)
faults (reasons n list a out) = at_faults n list a ++ (at 5 0 (length out < place_width * length (cubes_of list)) ∷ [])
-- "Truth vector of a list: 1 to 4, 5 (2^n bytes)"
faults (truth_vector n list out) = list_faults cubes vector_variables n list ++ (at 5 0 (length out < 2 ^ n) ∷ [])
-- "Coefficients, and back: 1, 14, 15, 5": "polarity has a bit at or above n"
faults (coefficients n vector p out) = vector_faults n vector ++ (at 15 0 (2 ^ n ≤ p) ∷ at 5 0 (length out < 2 ^ n) ∷ [])
faults (vector_back n vector p out) = vector_faults n vector ++ (at 15 0 (2 ^ n ≤ p) ∷ at 5 0 (length out < 2 ^ n) ∷ [])
-- "Writing a form's list from its coefficients: 1, 14, 15, 5 (capacity at least its count)"
faults (write_form n vector p out) =
    vector_faults n vector ++ (at 15 0 (2 ^ n ≤ p) ∷ at 5 0 (cube_capacity (length out) < length (form_from n p (byte_at vector))) ∷ [])
-- "Best polarity of a truth vector: 1, 14"
faults (best_polarity n vector) = vector_faults n vector
-- "those of writing a form's list, without 15" (document 02, Six)
faults (write_tree n vector out) = vector_faults n vector ++ (at 5 0 (cube_capacity (length out) < length (tree_list n (byte_at vector))) ∷ [])
-- "those of Six, with 1 at n above 6" (document 02, Ten)
faults (write_kronecker n vector out) =
    at 1 0 (kronecker_variables < n) ∷ (vector_faults n vector ++ (at 5 0 (cube_capacity (length out) < length (kronecker_list n (byte_at vector))) ∷ []))
-- "Run: 1 to 5, 7, 8, 9, then steps in turn": "the work capacity must be at least the given count"
faults (run n list script work) =
    list_faults cubes most_variables n list ++ (at 5 0 (cube_capacity (length work) < length (cubes_of list)) ∷ script_faults n script)
-- "1 to 4, then 5 for an index buffer shorter than 2 bytes a record" (document 02, Eight)
faults (build_index n list index starts) = index_faults n list index
-- "then 25 for a lent index that is not this list's (place: the first wrong entry, or the first wrong group start), entries before starts, then 21 for a
-- number above 32" (document 02, Eight)
faults (group n list index starts number) =
    index_faults n list index
    ++ (not_right (length (cubes_of list)) (records places (length (cubes_of list)) index) (list_index (cubes_of list))
    ∷ not_right group_count starts (list_starts (cubes_of list))
    ∷ at 21 0 (group_count ≤ number)
    ∷ [])
-- "in the run, of work capacity, after the work's 5" (document 02, Eight)
faults (run_indexed n list script work index starts) =
    list_faults cubes most_variables n list
    ++ (at 5 0 (cube_capacity (length work) < length (cubes_of list))
    ∷ at 5 0 (length index < place_width * cube_capacity (length work))
    ∷ script_faults n script)
-- "1 to 4, then 5 for the work buffer, then 5 for a script buffer shorter than 8 times the smaller of the count and 1,024" (document 02, Three)
faults (write_script n list work script) =
    list_faults cubes most_variables n list
    ++ (at 5 0 (cube_capacity (length work) < length (cubes_of list))
    ∷ at 5 0 (length script < step_width * min (length (cubes_of list)) most_steps)
    ∷ [])
-- "1, 3 for a count above 4,096, 7, 8, 9, then 5 for an output shorter than the script" (document 02, Eleven)
faults (compact n count script out) =
    at 1 0 (most_variables < n) ∷ at 3 0 (most_records < count) ∷ (script_faults n script ++ (at 5 0 (length out < length script) ∷ []))
-- "Settle: the same; 5 tests work, then output, against the given count"
faults (settle n list script work out) =
    list_faults cubes most_variables n list
    ++ (at 5 0 (cube_capacity (length work) < length (cubes_of list))
    ∷ at 5 0 (cube_capacity (length out) < length (cubes_of list))
    ∷ script_faults n script)
-- Wide from narrow: 1 to 4 of an old list, and "5, last, for an output too short" (document 02, Seven): 8 bytes a record
faults (wide_from_narrow n list out) =
    list_faults narrow_cubes narrow_variables n list ++ (at 5 0 (length out < record_width * length (narrow_cubes_of list)) ∷ [])
-- "narrow from wide gives 20 for n above 16, after 1 and before 2" (document 02, Seven); 5 by 4 bytes a record
faults (narrow_from_wide n list out) =
    at 1 0 (most_variables < n)
    ∷ at 20 0 (narrow_variables < n)
    ∷ (record_faults cubes n list ++ (at 5 0 (length out < narrow_width * length (cubes_of list)) ∷ []))
-- of shared products: 1 to 4; 1 to 4, 6; 1 to 5, 7, 8, 9; and the same with 5 for work, then output (document 02, Nine)
faults (shared_check n list) = shared_faults n list
faults (shared_value n list a) = shared_faults n list ++ (at 6 0 (2 ^ n ≤ a) ∷ [])
faults (shared_run n list script work) =
    shared_faults n list ++ (at 5 0 (shared_capacity (length work) < length (shares_of list)) ∷ shared_script_faults n script)
faults (shared_settle n list script work out) =
    shared_faults n list
    ++ (at 5 0 (shared_capacity (length work) < length (shares_of list))
    ∷ at 5 0 (shared_capacity (length out) < length (shares_of list))
    ∷ shared_script_faults n script)

-- ---- a refused call

-- the numbers that are found before the first step, all others at one: 1 to 9, 14, 15, 20, 21 and 25
abbrev pub before_steps : ℕ → Bool
before_steps number = (leb 1 number && leb number 9) || (eqb number 14 || (eqb number 15 || (eqb number 20 || (eqb number 21 || eqb number 25))))

-- the numbers that are found at a step: 10, 11, 13 and 16 to 19, and of shared products 22 and 23 too
unfoldable pub at_steps : Call → ℕ → Bool
at_steps (check n list) k = by_step k
at_steps (value n list a) k = by_step k
at_steps (reasons n list a out) k = by_step k
at_steps (truth_vector n list out) k = by_step k
at_steps (coefficients n vector p out) k = by_step k
at_steps (vector_back n vector p out) k = by_step k
at_steps (write_form n vector p out) k = by_step k
at_steps (best_polarity n vector) k = by_step k
at_steps (write_tree n vector out) k = by_step k
at_steps (write_kronecker n vector out) k = by_step k
at_steps (run n list script work) k = by_step k
at_steps (build_index n list index starts) k = by_step k
at_steps (group n list index starts number) k = by_step k
at_steps (run_indexed n list script work index starts) k = by_step k
at_steps (write_script n list work script) k = by_step k
at_steps (compact n count script out) k = by_step k
at_steps (settle n list script work out) k = by_step k
at_steps (wide_from_narrow n list out) k = by_step k
at_steps (narrow_from_wide n list out) k = by_step k
at_steps (shared_check n list) k = by_shared k
at_steps (shared_value n list a) k = by_shared k
at_steps (shared_run n list script work) k = by_shared k
at_steps (shared_settle n list script work out) k = by_shared k

-- found before the first step: the first in order that is wrong; "A refusal found before the first step writes nothing", and "the third answer is 0"
pub record RefusedBefore (r : Refusal) (buffers : List (List ℕ)) (c : Call) : Type 0 where
  pub wrong : FirstWrong (faults c) r.number r.place
  pub number : before_steps r.number ≡ true
  pub third : r.differing ≡ 0
  pub nothing_written : buffers ≡ lent c

-- step k of a call's script is refused: the steps before it are done, and it is refused in the list that they leave
abbrev pub StepStops : (n : ℕ) (list script work : List ℕ) → StepRefusal → ℕ → Type 0
StepStops n list script work why k = Refused n (cube_capacity (length work)) (steps_of script) (cubes_of list) why k

-- at a step: the place is that step
pub record Stopped (n : ℕ) (list script work : List ℕ) (r : Refusal) : Type 0 where
  pub steps : StepStops n list script work (of_step r) r.place
  -- why, in the list as it stands before that step; its number is 10, 11, 13 or one of 16 to 19
  pub why : StepRefused n (cube_capacity (length work)) (get_or (steps_of script) r.place (drop 0 0)) steps.between (of_step r)
  pub number : by_step r.number ≡ true
  -- the third answer: at 16 to 19 the number of variables below n in which the step's two cubes have different codes there, else 0
  pub third : r.differing ≡ third_answer n (get_or (steps_of script) r.place (drop 0 0)) steps.between r.number

-- the same of a script on shared products (document 02, Nine)
abbrev pub SharedStepStops : (n : ℕ) (list script work : List ℕ) → StepRefusal → ℕ → Type 0
SharedStepStops n list script work why k = SharedRefused n (shared_capacity (length work)) (shared_steps_of script) (shares_of list) why k

pub record SharedStopped (n : ℕ) (list script work : List ℕ) (r : Refusal) : Type 0 where
  pub steps : SharedStepStops n list script work (of_step r) r.place
  -- why, in the list as it stands before that step; its number is 10, 11, 13, one of 16 to 19, 22 or 23
  pub why : SharedStepRefused n (shared_capacity (length work)) (get_or (shared_steps_of script) r.place (plain (drop 0 0))) steps.between (of_step r)
  pub number : by_shared r.number ≡ true
  -- the third answer: at 16 to 19 the number of variables in which the cubes of the step's two products differ, else 0
  pub third : r.differing ≡ shared_third n (get_or (shared_steps_of script) r.place (plain (drop 0 0))) steps.between r.number

-- found at a step, where nothing before the steps was wrong: "leaves every byte of the work buffer zero and the output untouched"
pub data RefusedAtStep (r : Refusal) (buffers : List (List ℕ)) : Call → Type 0 where
  in_run : (n : ℕ) (list script work : List ℕ) → NoneWrong (faults (run n list script work)) → Stopped n list script work r
      → buffers ≡ zeros (length work) ∷ [] → RefusedAtStep r buffers (run n list script work)
  -- "a refusal at a step zeroes it" (document 02, Eight)
  in_run_indexed : (n : ℕ) (list script work index starts : List ℕ) → NoneWrong (faults (run_indexed n list script work index starts)) → Stopped n list script work r
      → buffers ≡ zeros (length work) ∷ zeros (length index) ∷ zeros group_count ∷ [] → RefusedAtStep r buffers (run_indexed n list script work index starts)
  in_settle : (n : ℕ) (list script work out : List ℕ) → NoneWrong (faults (settle n list script work out)) → Stopped n list script work r
      → buffers ≡ zeros (length work) ∷ out ∷ [] → RefusedAtStep r buffers (settle n list script work out)
  in_shared_run : (n : ℕ) (list script work : List ℕ) → NoneWrong (faults (shared_run n list script work)) → SharedStopped n list script work r
      → buffers ≡ zeros (length work) ∷ [] → RefusedAtStep r buffers (shared_run n list script work)
  in_shared_settle : (n : ℕ) (list script work out : List ℕ) → NoneWrong (faults (shared_settle n list script work out)) → SharedStopped n list script work r
      → buffers ≡ zeros (length work) ∷ out ∷ [] → RefusedAtStep r buffers (shared_settle n list script work out)

-- The calls on a map: what they answer, and what they leave in their buffers. Document 02, Thirteen: "Refusals: 24 for no list or more than 12, then 26 for lengths that don't add
-- up to the lent buffers or not one script a list, then 5 for an output shorter than the lists (reasons: 2 bytes a record); then the lists in turn, each in the order of the call
-- on it."
-- Assumes nothing.
use Rattle.std.specs.Prelude.{◌≡◌, ℕ, ◌*◌, List, [], ◌∷◌, leb, eqb, length, get_or, Result}
use Rattle.records.specs.Records.{image, written, zeros}
use Rattle.records.specs.Places.{place_width, places}
use Rattle.records.specs.Answers.{Outcome, accepted, unless, and_then}
use Rattle.cube.specs.declared.Cube.{Cube}
use Rattle.cube.specs.Lists.{record_width, cubes, cubes_of}
use Rattle.cube.specs.Calls.{value_outcome}
use Rattle.reasons.specs.Calls.{true_places, reasons_outcome}
use Rattle.script.specs.Run.{Ran, stopped, ended}
use Rattle.script.specs.Calls.{run_of}
use Rattle.settling.specs.Candidates.{burned_list}
use Rattle.settling.specs.Calls.{settle_outcome}
use Rattle.selector.specs.declared.ByList.{ByList}
use Rattle.selector.specs.declared.MapRefusal.{MapRefusal}
use Rattle.selector.specs.Maps.{most_lists, part, add_up, cubes_at, slot_of, records_of, join_below, total_cost, each_of}
use Rattle.selector.specs.Answers.{MapOutcome, map_accepted, after_check, in_turn, after_map, after_each, map_told}

-- ---- the lengths

-- "24 for no list or more than 12, then 26 for lengths that don't add up", of lists of so many bytes
unfoldable pub check_map : ℕ → List ℕ → Outcome
check_map lists lengths =
    unless (leb 1 (length lengths)) 24 0
    (unless (leb (length lengths) most_lists) 24 0
    (unless (add_up lengths lists) 26 0
    (accepted (length lengths ∷ []))))

-- ---- slot

-- "then the lists in turn, each in the order of the call on it": here of value
unfoldable pub slot_turns : ℕ → List ℕ → List ℕ → ℕ → MapOutcome
slot_turns n lists lengths a =
    in_turn (length lengths) (λ k. value_outcome n (part lists lengths k) a) (map_accepted (slot_of n lists lengths a))

-- "answers a label's slot number"
unfoldable pub slot_outcome : ℕ → List ℕ → List ℕ → ℕ → MapOutcome
slot_outcome n lists lengths a = after_check (check_map (length lists) lengths) (slot_turns n lists lengths a)

-- ---- reasons of a map

-- 24, 26, then 5: "2 bytes a record"
unfoldable pub check_map_reasons : List ℕ → List ℕ → ℕ → Outcome
check_map_reasons lists lengths out =
    and_then (check_map (length lists) lengths)
    (unless (leb (place_width * records_of lists lengths) out) 5 0
    (accepted (length lengths ∷ [])))

-- reasons on list k, with room for a place of each of its records
unfoldable pub reasons_at : ℕ → List ℕ → List ℕ → ℕ → ℕ → Outcome
reasons_at n lists lengths a k = reasons_outcome n (part lists lengths k) a (place_width * length (cubes_at lists lengths k))

-- "the reasons of One" for bit k
abbrev pub places_at : ℕ → List ℕ → List ℕ → ℕ → ℕ → List ℕ
places_at n lists lengths a k = true_places n (cubes_at lists lengths k) a

-- the slot number is answered
unfoldable pub reasons_turns : ℕ → List ℕ → List ℕ → ℕ → MapOutcome
reasons_turns n lists lengths a = in_turn (length lengths) (reasons_at n lists lengths a) (map_accepted (slot_of n lists lengths a))

unfoldable pub map_reasons_outcome : ℕ → List ℕ → List ℕ → ℕ → ℕ → MapOutcome
map_reasons_outcome n lists lengths a out = after_check (check_map_reasons lists lengths out) (reasons_turns n lists lengths a)

-- "with their numbers"
unfoldable pub true_numbers : ℕ → List ℕ → List ℕ → ℕ → List ℕ
true_numbers n lists lengths a = each_of (length lengths) (λ k. length (places_at n lists lengths a k))

-- "it writes the reasons of One for all bits end to end"
unfoldable pub shown_bytes : ℕ → List ℕ → List ℕ → ℕ → List ℕ → List ℕ
shown_bytes n lists lengths a out = written places 0 (join_below (length lengths) (places_at n lists lengths a)) out

-- reasons_into was called with n, a map, a label, an output and twelve numbers; it answered r, and left out' and each'
pub record ReasonsInto (n : ℕ) (lists lengths : List ℕ) (a : ℕ) (out each : List ℕ) (r : Result ℕ MapRefusal) (out' each' : List ℕ) : Type 0 where
  pub answer : map_told r ≡ map_reasons_outcome n lists lengths a (length out)
  pub numbers : each' ≡ after_each (map_reasons_outcome n lists lengths a (length out)) (true_numbers n lists lengths a) each
  pub out_is : out' ≡ after_map (map_reasons_outcome n lists lengths a (length out)) (shown_bytes n lists lengths a out) out

-- map_reasons was called with n, a map, a label and an output; it answered r, and left out'
pub record ReasonsCalled (n : ℕ) (lists lengths : List ℕ) (a : ℕ) (out : List ℕ) (r : ByList) (out' : List ℕ) : Type 0 where
  pub answer : map_told r.answer ≡ map_reasons_outcome n lists lengths a (length out)
  pub numbers : r.each ≡ after_map (map_reasons_outcome n lists lengths a (length out)) (true_numbers n lists lengths a) (zeros most_lists)
  pub out_is : out' ≡ after_map (map_reasons_outcome n lists lengths a (length out)) (shown_bytes n lists lengths a out) out

-- ---- settling a map

-- what is settled: lists and scripts with their lengths, over n variables, with a work buffer of so many bytes
pub record Job : Type 0 where
  pub n : ℕ
  pub lists : List ℕ
  pub lengths : List ℕ
  pub scripts : List ℕ
  pub script_lengths : List ℕ
  pub work : ℕ

abbrev pub job : ℕ → List ℕ → List ℕ → List ℕ → List ℕ → ℕ → Job
job n lists lengths scripts script_lengths work =
    record { n = n; lists = lists; lengths = lengths; scripts = scripts; script_lengths = script_lengths; work = work }

abbrev pub list_count : Job → ℕ
list_count j = length j.lengths

abbrev pub list_at : Job → ℕ → List ℕ
list_at j k = part j.lists j.lengths k

abbrev pub script_at : Job → ℕ → List ℕ
script_at j k = part j.scripts j.script_lengths k

-- 24; 26, also for "not one script a list"; "then 5 for an output shorter than the lists"
unfoldable pub check_job : Job → ℕ → Outcome
check_job j out =
    and_then (check_map (length j.lists) j.lengths)
    (unless (eqb (length j.script_lengths) (list_count j)) 26 0
    (unless (add_up j.script_lengths (length j.scripts)) 26 0
    (unless (leb (length j.lists) out) 5 0
    (accepted (list_count j ∷ [])))))

-- "It settles each list with its own script": settle on list k, into as many bytes as it has
unfoldable pub settle_at : Job → ℕ → Outcome
settle_at j k = settle_outcome j.n (list_at j k) (script_at j k) j.work (get_or j.lengths k 0)

-- the list that settle burns, where the script ends
abbrev pub ran_burnt : ℕ → List Cube → Ran Cube → List Cube
ran_burnt n given (stopped why step) = []
ran_burnt n given (ended result peak) = burned_list n result given

unfoldable pub burned_at : Job → ℕ → List Cube
burned_at j k = ran_burnt j.n (cubes_of (list_at j k)) (run_of j.n (list_at j k) (script_at j k) j.work)

-- "and the map's total cost": that of the burned lists
unfoldable pub settle_turns : Job → MapOutcome
settle_turns j = in_turn (list_count j) (settle_at j) (map_accepted (total_cost (list_count j) (burned_at j)))

unfoldable pub settle_map_outcome : Job → ℕ → MapOutcome
settle_map_outcome j out = after_check (check_job j out) (settle_turns j)

-- "answers their lengths", in bytes
abbrev pub size_at : Job → ℕ → ℕ
size_at j k = record_width * length (burned_at j k)

unfoldable pub burned_lengths : Job → List ℕ
burned_lengths j = each_of (list_count j) (size_at j)

-- "the burned lists end to end in an output buffer and zeros after"
unfoldable pub burned_bytes : Job → ℕ → List ℕ
burned_bytes j room = image cubes room (join_below (list_count j) (burned_at j))

-- settle_map was called for a job with two buffers; it answered r, and left work' and out': an accepted call leaves the work buffer "all zero", as settle does
pub record SettleCalled (j : Job) (work out : List ℕ) (r : ByList) (work' out' : List ℕ) : Type 0 where
  pub answer : map_told r.answer ≡ settle_map_outcome j (length out)
  pub lengths : r.each ≡ after_map (settle_map_outcome j (length out)) (burned_lengths j) (zeros most_lists)
  pub work_is : work' ≡ after_map (settle_map_outcome j (length out)) (zeros (length work)) work
  pub out_is : out' ≡ after_map (settle_map_outcome j (length out)) (burned_bytes j (length out)) out

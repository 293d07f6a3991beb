-- What each call answers and leaves where nothing before the first step is wrong. Document 01, "Refusal numbers and places": "Accepted, a check answers
-- the record count; value, the bit; truth vector and coefficients, either way, 2^n; writing a form, its count; best polarity, p and the size; run, count
-- and peak; settle, the counts that the program prints." With document 02, One: value answers "the number of true products" too, and reasons "their number and the
-- bit"; Three: the writer "answers the number of steps and which"; Six: the list of a tree is written, "answering its products and cost"; Ten: of a choice, "the least
-- cost and, among those, the smallest choice", then the products; Eleven: the compactor "answers the steps left"; Nine: of shared products
-- value "answers all 32 as one word", and settle given, peak, script's count and burned. The converters answer the count.
-- Assumes nothing.
use Rattle.std.specs.Prelude.{◌≡◌, List, [], ◌∷◌, ◌++◌, map, ℕ, ◌^◌, length, drop}
use Rattle.bits.specs.Sums.{one_if}
use Rattle.records.specs.Records.{written, image, zeros}
use Rattle.records.specs.Places.{places}
use Rattle.records.specs.Answers.{Outcome, accepted}
use Rattle.cube.specs.declared.Cube.{Cube}
use Rattle.cube.specs.Lists.{cubes, cubes_of, trues, list_value, truth_vector}
use Rattle.reasons.specs.Calls.{true_places}
use Rattle.converters.specs.NarrowRecord.{narrow_cubes, narrow_cubes_of}
use Rattle.polarity.specs.Cost.{cost}
use Rattle.polarity.specs.Forms.{form_from, size, best_polarity}
use Rattle.polarity.specs.Vectors.{byte_at, coefficient_vector, vector_back}
use Rattle.trees.specs.Least.{tree_list}
use Rattle.kronecker.specs.Choices.{best_choice, kronecker_list}
use Rattle.script.specs.Run.{ended}
use Rattle.script.specs.Scripts.{step_records, most_steps, record_of, steps_of}
use Rattle.script.specs.Calls.{run_of, ran_outcome, ran_work_by, ran_work}
use Rattle.writer.specs.Easy.{easy_steps, easy_end, easy_finished}
use Rattle.compactor.specs.Compact.{compacted}
use Rattle.index.specs.Index.{list_index, list_starts, list_group}
use Rattle.indexed.specs.Calls.{ran_index, ran_starts}
use Rattle.settling.specs.Calls.{ran_settled, ran_burned}
use Rattle.shared.specs.declared.Shared.{Shared}
use Rattle.shared.specs.SharedRecord.{shares, shares_of}
use Rattle.shared.specs.Outputs.{value_word}
use Rattle.shared_run.specs.Calls.{shared_run_of, ran_shared, ran_shared_out}
use Rattle.steps.specs.declared.StepRefusal.{StepRefusal}
use Rattle.promises.specs.Calls.{Call}
use Rattle.promises.specs.Calls as call
use Rattle.promises.specs.Refusals.{StepStops, SharedStepStops}

unfoldable pub goes_on : Call → Outcome
goes_on (call.check n list) = accepted (length (cubes_of list) ∷ [])
goes_on (call.value n list a) = accepted (list_value n (cubes_of list) a ∷ trues n (cubes_of list) a ∷ [])
goes_on (call.reasons n list a out) = accepted (length (true_places n (cubes_of list) a) ∷ list_value n (cubes_of list) a ∷ [])
goes_on (call.truth_vector n list out) = accepted (2 ^ n ∷ [])
goes_on (call.coefficients n vector p out) = accepted (2 ^ n ∷ [])
goes_on (call.vector_back n vector p out) = accepted (2 ^ n ∷ [])
goes_on (call.write_form n vector p out) = accepted (length (form_from n p (byte_at vector)) ∷ [])
goes_on (call.best_polarity n vector) = accepted (best_polarity n (byte_at vector) ∷ size n (best_polarity n (byte_at vector)) (byte_at vector) ∷ [])
goes_on (call.write_tree n vector out) = accepted (length (tree_list n (byte_at vector)) ∷ cost (tree_list n (byte_at vector)) ∷ [])
goes_on (call.write_kronecker n vector out) =
    accepted (cost (kronecker_list n (byte_at vector)) ∷ best_choice n (byte_at vector) ∷ length (kronecker_list n (byte_at vector)) ∷ [])
goes_on (call.run n list script work) = ran_outcome (run_of n list script (length work))
goes_on (call.build_index n list index starts) = accepted (length (cubes_of list) ∷ [])
goes_on (call.group n list index starts number) = accepted (length (list_group (cubes_of list) number) ∷ [])
goes_on (call.run_indexed n list script work index starts) = ran_outcome (run_of n list script (length work))
goes_on (call.write_script n list work script) =
    accepted (length (easy_steps n most_steps (cubes_of list)) ∷ one_if (easy_finished n most_steps (cubes_of list)) ∷ [])
goes_on (call.compact n count script out) = accepted (length (compacted count (steps_of script)) ∷ [])
goes_on (call.settle n list script work out) = ran_settled n (cubes_of list) (run_of n list script (length work))
goes_on (call.wide_from_narrow n list out) = accepted (length (narrow_cubes_of list) ∷ [])
goes_on (call.narrow_from_wide n list out) = accepted (length (cubes_of list) ∷ [])
goes_on (call.shared_check n list) = accepted (length (shares_of list) ∷ [])
goes_on (call.shared_value n list a) = accepted (value_word n (shares_of list) a ∷ [])
goes_on (call.shared_run n list script work) = ran_outcome (shared_run_of n list script (length work))
goes_on (call.shared_settle n list script work out) = ran_shared (shares_of list) (shared_run_of n list script (length work))

-- "Other calls write the bytes they name and no more"
unfoldable pub goes_on_leaving : Call → List (List ℕ)
goes_on_leaving (call.check n list) = []
goes_on_leaving (call.value n list a) = []
goes_on_leaving (call.reasons n list a out) = written places 0 (true_places n (cubes_of list) a) out ∷ []
goes_on_leaving (call.truth_vector n list out) = (truth_vector n (cubes_of list) ++ drop (2 ^ n) out) ∷ []
goes_on_leaving (call.coefficients n vector p out) = (coefficient_vector n p vector ++ drop (2 ^ n) out) ∷ []
goes_on_leaving (call.vector_back n vector p out) = (vector_back n p vector ++ drop (2 ^ n) out) ∷ []
goes_on_leaving (call.write_form n vector p out) = written cubes 0 (form_from n p (byte_at vector)) out ∷ []
goes_on_leaving (call.best_polarity n vector) = []
goes_on_leaving (call.write_tree n vector out) = written cubes 0 (tree_list n (byte_at vector)) out ∷ []
goes_on_leaving (call.write_kronecker n vector out) = written cubes 0 (kronecker_list n (byte_at vector)) out ∷ []
goes_on_leaving (call.run n list script work) = ran_work (length work) (run_of n list script (length work)) ∷ []
goes_on_leaving (call.build_index n list index starts) = written places 0 (list_index (cubes_of list)) index ∷ list_starts (cubes_of list) ∷ []
goes_on_leaving (call.group n list index starts number) = []
goes_on_leaving (call.run_indexed n list script work index starts) =
    ran_work (length work) (run_of n list script (length work))
    ∷ ran_index (length index) (run_of n list script (length work))
    ∷ ran_starts (run_of n list script (length work))
    ∷ []
goes_on_leaving (call.write_script n list work script) =
    image cubes (length work) (easy_end n most_steps (cubes_of list)) ∷ written step_records 0 (map record_of (easy_steps n most_steps (cubes_of list))) script ∷ []
goes_on_leaving (call.compact n count script out) = written step_records 0 (map record_of (compacted count (steps_of script))) out ∷ []
goes_on_leaving (call.settle n list script work out) = zeros (length work) ∷ ran_burned n (cubes_of list) (run_of n list script (length work)) out ∷ []
goes_on_leaving (call.wide_from_narrow n list out) = written cubes 0 (narrow_cubes_of list) out ∷ []
goes_on_leaving (call.narrow_from_wide n list out) = written narrow_cubes 0 (cubes_of list) out ∷ []
goes_on_leaving (call.shared_check n list) = []
goes_on_leaving (call.shared_value n list a) = []
goes_on_leaving (call.shared_run n list script work) = ran_work_by shares (length work) (shared_run_of n list script (length work)) ∷ []
goes_on_leaving (call.shared_settle n list script work out) = zeros (length work) ∷ ran_shared_out (shares_of list) (shared_run_of n list script (length work)) out ∷ []

-- the script ends: no step of it is refused
pub record EndOfScript (n : ℕ) (list script work : List ℕ) : Type 0 where
  pub result : List Cube
  pub peak : ℕ
  pub is : run_of n list script (length work) ≡ ended result peak

-- the same of a script on shared products
pub record SharedEnd (n : ℕ) (list script work : List ℕ) : Type 0 where
  pub result : List Shared
  pub peak : ℕ
  pub is : shared_run_of n list script (length work) ≡ ended result peak

-- step k of the script is refused
pub data ScriptStops (why : StepRefusal) (k : ℕ) : Call → Type 0 where
  run_stops : (n : ℕ) (list script work : List ℕ) → StepStops n list script work why k → ScriptStops why k (call.run n list script work)
  run_indexed_stops : (n : ℕ) (list script work index starts : List ℕ) → StepStops n list script work why k → ScriptStops why k (call.run_indexed n list script work index starts)
  settle_stops : (n : ℕ) (list script work out : List ℕ) → StepStops n list script work why k → ScriptStops why k (call.settle n list script work out)
  shared_run_stops : (n : ℕ) (list script work : List ℕ) → SharedStepStops n list script work why k → ScriptStops why k (call.shared_run n list script work)
  shared_settle_stops : (n : ℕ) (list script work out : List ℕ) → SharedStepStops n list script work why k → ScriptStops why k (call.shared_settle n list script work out)

-- no step of it is, where the call has one
unfoldable pub ScriptEnds : Call → Type 0
ScriptEnds (call.check n list) = Unit {0}
ScriptEnds (call.value n list a) = Unit {0}
ScriptEnds (call.reasons n list a out) = Unit {0}
ScriptEnds (call.truth_vector n list out) = Unit {0}
ScriptEnds (call.coefficients n vector p out) = Unit {0}
ScriptEnds (call.vector_back n vector p out) = Unit {0}
ScriptEnds (call.write_form n vector p out) = Unit {0}
ScriptEnds (call.best_polarity n vector) = Unit {0}
ScriptEnds (call.write_tree n vector out) = Unit {0}
ScriptEnds (call.write_kronecker n vector out) = Unit {0}
ScriptEnds (call.run n list script work) = EndOfScript n list script work
ScriptEnds (call.build_index n list index starts) = Unit {0}
ScriptEnds (call.group n list index starts number) = Unit {0}
ScriptEnds (call.run_indexed n list script work index starts) = EndOfScript n list script work
ScriptEnds (call.write_script n list work script) = Unit {0}
ScriptEnds (call.compact n count script out) = Unit {0}
ScriptEnds (call.settle n list script work out) = EndOfScript n list script work
ScriptEnds (call.wide_from_narrow n list out) = Unit {0}
ScriptEnds (call.narrow_from_wide n list out) = Unit {0}
ScriptEnds (call.shared_check n list) = Unit {0}
ScriptEnds (call.shared_value n list a) = Unit {0}
ScriptEnds (call.shared_run n list script work) = SharedEnd n list script work
ScriptEnds (call.shared_settle n list script work out) = SharedEnd n list script work

-- The calls of documents 01 and 02 but those on a map (Selector.antt), each with what its contract says: what it answers, and what it leaves in the buffers that it was lent.
-- Assumes nothing.
use Rattle.std.specs.Prelude.{◌≡◌, List, [], ◌∷◌, ℕ, length, get_or}
use Rattle.records.specs.Answers.{Outcome, after_call}
use Rattle.cube.specs.Lists.{cubes_of, most_variables}
use Rattle.cube.specs.Calls.{check_list, value_outcome, vector_outcome, vector_after}
use Rattle.reasons.specs.Calls.{reasons_outcome, reasons_after}
use Rattle.converters.specs.Calls.{wide_outcome, wide_after, narrow_outcome, narrow_after}
use Rattle.polarity.specs.Calls.{coefficients_outcome, coefficients_after, back_after, form_outcome, form_after, best_outcome}
use Rattle.trees.specs.Calls.{tree_outcome, tree_after}
use Rattle.kronecker.specs.Calls.{kronecker_outcome, kronecker_after}
use Rattle.script.specs.Calls.{run_outcome, run_after}
use Rattle.index.specs.Index.{list_starts}
use Rattle.index.specs.Calls.{build_outcome, build_after, group_outcome}
use Rattle.indexed.specs.Calls.{begun, indexed_outcome, indexed_starts, indexed_work, indexed_index}
use Rattle.writer.specs.Calls.{write_outcome, write_work, write_steps}
use Rattle.compactor.specs.Calls.{compact_outcome, compact_after}
use Rattle.settling.specs.Calls.{settle_outcome, settle_work, settle_out}
use Rattle.shared.specs.Calls.{check_shared, word_outcome}
use Rattle.shared_run.specs.Calls.{shared_run_outcome, shared_run_after, shared_settle_outcome, shared_settle_work, shared_settle_out}
use Rattle.druthmoy.specs.Faces.{words, settled_words, with_start, starts_if}

-- a call, with its arguments in order; `out`, `work` and, where a script is written, `script` are the bytes that the lent buffers held before it
pub data Call : Type 0 where
  -- "Checking a list": n, the list
  check : ℕ → List ℕ → Call
  -- "Value": n, the list, the assignment
  value : ℕ → List ℕ → ℕ → Call
  -- "Write the places of all products true there" (document 02, One): n, the list, the assignment, out
  reasons : ℕ → List ℕ → ℕ → List ℕ → Call
  -- "Truth vector of a list": n, the list, out
  truth_vector : ℕ → List ℕ → List ℕ → Call
  -- "Coefficients, and back": n, the vector or the coefficients, the polarity, out
  coefficients : ℕ → List ℕ → ℕ → List ℕ → Call
  vector_back : ℕ → List ℕ → ℕ → List ℕ → Call
  -- "Writing a form's list from its coefficients": n, the coefficients, the polarity, out
  write_form : ℕ → List ℕ → ℕ → List ℕ → Call
  -- "Best polarity of a truth vector": n, the vector
  best_polarity : ℕ → List ℕ → Call
  -- "Add source document 002's pseudo-Kronecker form of a truth vector", "Write its list" (document 02, Six): n, the vector, out
  write_tree : ℕ → List ℕ → List ℕ → Call
  -- "Add the Kronecker form of source document 002", "write that list" (document 02, Ten): n, the vector, out
  write_kronecker : ℕ → List ℕ → List ℕ → Call
  -- "Run": n, the list, the script, work
  run : ℕ → List ℕ → List ℕ → List ℕ → Call
  -- "Keep beside a list an index" (document 02, Eight): n, the list, the index buffer, the starts
  build_index : ℕ → List ℕ → List ℕ → List ℕ → Call
  -- "Asked for a number from 0 to 32", "a sibling call gives its number and place" (document 02, Eight): n, the list, the index, the starts, the number
  group : ℕ → List ℕ → List ℕ → List ℕ → ℕ → Call
  -- "A sibling of run keeps one for the work list" (document 02, Eight): n, the list, the script, work, the index buffer, the starts
  run_indexed : ℕ → List ℕ → List ℕ → List ℕ → List ℕ → List ℕ → Call
  -- "Add a writer of scripts" (document 02, Three): n, the list, work, the script buffer
  write_script : ℕ → List ℕ → List ℕ → List ℕ → Call
  -- "Add a compactor" (document 02, Eleven): n, the count, the script, out
  compact : ℕ → ℕ → List ℕ → List ℕ → Call
  -- "Settle": n, the list, the script, work, out
  settle : ℕ → List ℕ → List ℕ → List ℕ → List ℕ → Call
  -- "wide from narrow" and "narrow from wide" (document 02, Seven): n, the list, out
  wide_from_narrow : ℕ → List ℕ → List ℕ → Call
  narrow_from_wide : ℕ → List ℕ → List ℕ → Call
  -- "Several slot bits in one list" (document 02, Nine), on lists of shared products. Checking one: n, the list
  shared_check : ℕ → List ℕ → Call
  -- "the value call answers all 32 as one word": n, the list, the assignment
  shared_value : ℕ → List ℕ → ℕ → Call
  -- run, with "a new step, op 6": n, the list, the script, work
  shared_run : ℕ → List ℕ → List ℕ → List ℕ → Call
  -- "For these lists settling compares only the script's result and the given list": n, the list, the script, work, out
  shared_settle : ℕ → List ℕ → List ℕ → List ℕ → List ℕ → Call

-- what its contract says that it answers
unfoldable pub answers : Call → Outcome
answers (check n list) = check_list most_variables n list
answers (value n list a) = value_outcome n list a
answers (reasons n list a out) = reasons_outcome n list a (length out)
answers (truth_vector n list out) = vector_outcome n list (length out)
answers (coefficients n vector p out) = coefficients_outcome n vector p (length out)
answers (vector_back n vector p out) = coefficients_outcome n vector p (length out)
answers (write_form n vector p out) = form_outcome n vector p (length out)
answers (best_polarity n vector) = best_outcome n vector
answers (write_tree n vector out) = tree_outcome n vector (length out)
answers (write_kronecker n vector out) = kronecker_outcome n vector (length out)
answers (run n list script work) = run_outcome n list script (length work)
answers (build_index n list index starts) = build_outcome n list (length index)
answers (group n list index starts number) = group_outcome n list index starts number
answers (run_indexed n list script work index starts) = indexed_outcome n list script (length work) (length index)
answers (write_script n list work script) = write_outcome n list (length work) (length script)
answers (compact n count script out) = compact_outcome n count script (length out)
answers (settle n list script work out) = settle_outcome n list script (length work) (length out)
answers (wide_from_narrow n list out) = wide_outcome n list (length out)
answers (narrow_from_wide n list out) = narrow_outcome n list (length out)
answers (shared_check n list) = check_shared n list
answers (shared_value n list a) = word_outcome n list a
answers (shared_run n list script work) = shared_run_outcome n list script (length work)
answers (shared_settle n list script work out) = shared_settle_outcome n list script (length work) (length out)

-- the buffers that it was lent, as they were. The starts of an index are one of them: a caller from C lends them, and to one from Rattle, who is answered them by
-- value, they were all 0
unfoldable pub lent : Call → List (List ℕ)
lent (check n list) = []
lent (value n list a) = []
lent (reasons n list a out) = out ∷ []
lent (truth_vector n list out) = out ∷ []
lent (coefficients n vector p out) = out ∷ []
lent (vector_back n vector p out) = out ∷ []
lent (write_form n vector p out) = out ∷ []
lent (best_polarity n vector) = []
lent (write_tree n vector out) = out ∷ []
lent (write_kronecker n vector out) = out ∷ []
lent (run n list script work) = work ∷ []
lent (build_index n list index starts) = index ∷ starts ∷ []
lent (group n list index starts number) = []
lent (run_indexed n list script work index starts) = work ∷ index ∷ starts ∷ []
lent (write_script n list work script) = work ∷ script ∷ []
lent (compact n count script out) = out ∷ []
lent (settle n list script work out) = work ∷ out ∷ []
lent (wide_from_narrow n list out) = out ∷ []
lent (narrow_from_wide n list out) = out ∷ []
lent (shared_check n list) = []
lent (shared_value n list a) = []
lent (shared_run n list script work) = work ∷ []
lent (shared_settle n list script work out) = work ∷ out ∷ []

-- what its contract says that it leaves in them
unfoldable pub leaves : Call → List (List ℕ)
leaves (check n list) = []
leaves (value n list a) = []
leaves (reasons n list a out) = reasons_after n list a out ∷ []
leaves (truth_vector n list out) = vector_after n list out ∷ []
leaves (coefficients n vector p out) = coefficients_after n vector p out ∷ []
leaves (vector_back n vector p out) = back_after n vector p out ∷ []
leaves (write_form n vector p out) = form_after n vector p out ∷ []
leaves (best_polarity n vector) = []
leaves (write_tree n vector out) = tree_after n vector out ∷ []
leaves (write_kronecker n vector out) = kronecker_after n vector out ∷ []
leaves (run n list script work) = run_after n list script work ∷ []
leaves (build_index n list index starts) = build_after n list index ∷ after_call (build_outcome n list (length index)) (list_starts (cubes_of list)) starts ∷ []
leaves (group n list index starts number) = []
leaves (run_indexed n list script work index starts) =
    indexed_work n list script work (length index)
    ∷ indexed_index n list script (length work) index
    ∷ starts_if (begun n list script (length work) (length index)) (indexed_starts n list script (length work) (length index)) starts
    ∷ []
leaves (write_script n list work script) = write_work n list work (length script) ∷ write_steps n list (length work) script ∷ []
leaves (compact n count script out) = compact_after n count script out ∷ []
leaves (settle n list script work out) = settle_work n list script work (length out) ∷ settle_out n list script (length work) out ∷ []
leaves (wide_from_narrow n list out) = wide_after n list out ∷ []
leaves (narrow_from_wide n list out) = narrow_after n list out ∷ []
leaves (shared_check n list) = []
leaves (shared_value n list a) = []
leaves (shared_run n list script work) = shared_run_after n list script work ∷ []
leaves (shared_settle n list script work out) = shared_settle_work n list script work (length out) ∷ shared_settle_out n list script (length work) out ∷ []

-- the call was made: it answered o, and left these buffers
pub record Called (c : Call) (o : Outcome) (buffers : List (List ℕ)) : Type 0 where
  pub answer : o ≡ answers c
  pub left : buffers ≡ leaves c

-- the eight words that a caller from C or Rust is answered
unfoldable pub words_of : Call → Outcome → List ℕ
words_of (check n list) o = words o
words_of (value n list a) o = words o
words_of (reasons n list a out) o = words o
words_of (truth_vector n list out) o = words o
words_of (coefficients n vector p out) o = words o
words_of (vector_back n vector p out) o = words o
words_of (write_form n vector p out) o = words o
words_of (best_polarity n vector) o = words o
words_of (write_tree n vector out) o = words o
words_of (write_kronecker n vector out) o = words o
words_of (run n list script work) o = words o
words_of (build_index n list index starts) o = words o
words_of (group n list index starts number) o = words (with_start (get_or starts number 0) o)
words_of (run_indexed n list script work index starts) o = words o
words_of (write_script n list work script) o = words o
words_of (compact n count script out) o = words o
words_of (settle n list script work out) o = settled_words o
words_of (wide_from_narrow n list out) o = words o
words_of (narrow_from_wide n list out) o = words o
words_of (shared_check n list) o = words o
words_of (shared_value n list a) o = words o
words_of (shared_run n list script work) o = words o
words_of (shared_settle n list script work out) o = words o

-- the call was made from C or Rust: it answered these words, and left these buffers
pub record Faced (c : Call) (answer : List ℕ) (buffers : List (List ℕ)) : Type 0 where
  pub outcome : Outcome
  pub called : Called c outcome buffers
  pub told : answer ≡ words_of c outcome

-- What the contracts of the faces cite: the eight words of an answer (crate `words`), the 33 words of an index's starts, and what the calls on a map leave.
-- Assumes nothing.
use Rattle.std.specs.Prelude.{ℕ, ◌≡◌, Bool, cond, List, length}
use Rattle.records.specs.Records.{zeros}
use Rattle.selector.specs.Answers.{after_map}
use Rattle.selector.specs.Calls.{map_reasons_outcome, true_numbers, shown_bytes, Job, settle_map_outcome, burned_lengths, burned_bytes}
pub use Rattle.words.specs.Words.{eight, all_ones, with_start, after_each}
unfoldable pub use Rattle.words.specs.Words.{words, settled_words, map_words}

-- the starts after a run with an index: as they were where it is refused before the first step; "a refusal at a step zeroes it" (document 02, Eight)
abbrev pub starts_if : Bool → List ℕ → List ℕ → List ℕ
starts_if begun new old = cond begun new old

-- settle_map was called from C: the words of its answer, and what it left in the lent lengths and buffers
pub record SettleFaced (j : Job) (work out each work' out' each' answer : List ℕ) : Type 0 where
  pub answer_is : answer ≡ map_words (settle_map_outcome j (length out))
  pub each_is : each' ≡ after_each (settle_map_outcome j (length out)) (burned_lengths j) each
  pub work_is : work' ≡ after_map (settle_map_outcome j (length out)) (zeros (length work)) work
  pub out_is : out' ≡ after_map (settle_map_outcome j (length out)) (burned_bytes j (length out)) out

-- map_reasons was called from C: the same of its numbers and its output
pub record ReasonsFaced (n : ℕ) (lists lengths : List ℕ) (a : ℕ) (out each out' each' answer : List ℕ) : Type 0 where
  pub answer_is : answer ≡ map_words (map_reasons_outcome n lists lengths a (length out))
  pub each_is : each' ≡ after_each (map_reasons_outcome n lists lengths a (length out)) (true_numbers n lists lengths a) each
  pub out_is : out' ≡ after_map (map_reasons_outcome n lists lengths a (length out)) (shown_bytes n lists lengths a out) out

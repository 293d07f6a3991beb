-- Inside: what the functions of the pass, and of what is written, promise one another. None of it is needed to read the call.
-- Assumes nothing.
use Rattle.std.specs.Prelude.{◌≡◌, Bool, true, false, cond, List, map, ℕ, ◌+◌, ◌-◌, ◌≤◌, ◌<◌, eqb, length, get_or, set, take}
use Rattle.bits.specs.Sums.{All}
use Rattle.records.specs.Records.{list_of, written}
use Rattle.cube.specs.Lists.{most_records}
use Rattle.steps.specs.Steps.{Step, drop, meaning, meaning_by}
use Rattle.script.specs.Scripts.{step_records, most_steps, record_of, steps_of}
use Rattle.compactor.specs.declared.Halves.{Halves}
use Rattle.compactor.specs.Compact.{count_after, compacted}
use Rattle.compactor.specs.StepBytes.{halves_at, half_pair}

-- the most that a count along can be
abbrev pub most_count : ℕ
most_count = most_records + most_steps

-- the count after a step, by its operation
unfoldable pub count_by : ℕ → ℕ → ℕ
count_by count op = count_after count (meaning_by op step_records.none)

-- each record of a script is that of its step: it has nothing in fields that its operation does not use
unfoldable pub Faithful : List ℕ → Type 0
Faithful b = All (λ r. record_of (meaning r) ≡ r) (list_of step_records b)

-- ---- the stack: the numbers of the steps that are kept are the first `top` of `kept`

-- the step x undoes the last step that is kept, after which there are `count` records: before it there was one less, where it is a split
unfoldable pub taken_off : List ℕ → List ℕ → ℕ → ℕ → Halves → Bool
taken_off script kept top count x = cond (eqb top 0) false (half_pair (count - 1) (halves_at script (get_or kept (top - 1) 0)) x)

abbrev pub top_after : Bool → ℕ → ℕ
top_after true top = top - 1
top_after false top = top + 1

abbrev pub kept_after : Bool → List ℕ → ℕ → ℕ → List ℕ
kept_after true kept top k = kept
kept_after false kept top k = set kept top k

-- the step with a number
abbrev pub step_at : List Step → ℕ → Step
step_at xs k = get_or xs k (drop 0 0)

-- the steps that are kept in the end are those that are left
pub record StepsKept (count : ℕ) (xs : List Step) (kept : List ℕ) (top : ℕ) : Type 0 where
  pub inside : All (λ k. k < length xs) (take top kept)
  pub room : top ≤ length kept
  pub left : map (step_at xs) (take top kept) ≡ compacted count xs

-- ---- what is written

-- the compacted script is written: the answer r, and the output after it
pub record Compacting (count : ℕ) (script out out' : List ℕ) (r : ℕ) : Type 0 where
  pub many : r ≡ length (compacted count (steps_of script))
  pub bytes : out' ≡ written step_records 0 (map record_of (compacted count (steps_of script))) out

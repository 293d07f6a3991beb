-- Scripts as text. docs/TEXTS.md, "A script": "one step a line: `drop 0 1`, `join 1 2`, `split x2 0`, `turn x0 0 1`, `L x0 1`, `merge 0 1`; comments, blank lines".
-- Assumes nothing.
use Rattle.std.specs.Prelude.{Bool, true, cond, List, [], ◌∷◌, ◌++◌, ℕ, eqb, length, get_or, Ok, Err}
use Rattle.records.specs.Records.{flat, capacity_of, image}
use Rattle.records.specs.Answers.{Outcome, accepted, refused, refusal}
use Rattle.steps.specs.declared.StepRecord.{StepRecord}
use Rattle.steps.specs.Steps.{meaning}
use Rattle.script.specs.Scripts.{step_records, most_steps}
use Rattle.text.specs.Blanks.{past_blanks}
use Rattle.text.specs.Steps.{field_text, step_text}
use Rattle.text.specs.Reading.{word_in, on_read, field_at, step_in, Reading, read_to}
use Rattle.lines.specs.Lines.{content}
use Rattle.lines.specs.Words.{blank_from}
use Rattle.lines.specs.Gathering.{Says, knows, has, bad, Progress, gathered}
use Rattle.lines.specs.Gathering as progress_is

-- ---- written out

-- "`merge 0 1`", operation 6
abbrev pub merge_operation : ℕ
merge_operation = 6

abbrev pub merge_word : List ℕ
merge_word = 109 ∷ 101 ∷ 114 ∷ 103 ∷ 101 ∷ []

-- a step, and the end of its line
unfoldable pub line_text : StepRecord → List ℕ
line_text r = cond (eqb r.op merge_operation) (merge_word ++ (field_text [] r.i ++ field_text [] r.j)) (step_text (meaning r)) ++ (10 ∷ [])

unfoldable pub script_text : List StepRecord → List ℕ
script_text l = flat line_text l

-- ---- read

-- a merge, of two places
unfoldable pub merge_in : List ℕ → ℕ → Reading StepRecord
merge_in t p =
    on_read (word_in merge_operation merge_word t p) (λ op a.
    on_read (field_at true [] 65535 t a) (λ i b.
    on_read (field_at true [] 65535 t b) (λ j z.
    read_to (record { op = op; v = 0; i = i; j = j; literal = 0; zero = 0 }) z)))

-- a merge, or one of the five steps of a plain script
unfoldable pub any_step_in : List ℕ → ℕ → Reading StepRecord
any_step_in t p = cond (eqb (get_or t p 0) 109) (merge_in t p) (step_in t p)

-- a step with nothing but blanks after it; else 34
abbrev pub alone : List ℕ → Reading StepRecord → Says (Unit {0}) StepRecord
alone c (Ok a) = cond (blank_from c a.next) (has tt a.value) (bad 34)
alone c (Err w) = bad 34

-- what a line says before its comment: nothing, or a step
unfoldable pub step_before : List ℕ → Says (Unit {0}) StepRecord
step_before c = cond (blank_from c 0) (knows tt) (alone c (any_step_in c (past_blanks c 0)))

unfoldable pub line_says : ℕ → Unit {0} → List ℕ → Says (Unit {0}) StepRecord
line_says k u l = step_before (content l)

-- every step counts
abbrev pub each : StepRecord → Bool
each r = true

-- the text through to its end; 35 a step more than there is room for, 36 a text that is too long
unfoldable pub read_through : ℕ → List ℕ → Progress (Unit {0}) StepRecord
read_through room t = gathered line_says each 35 room 36 tt t

-- a script as text: its steps in their order; or a refusal, by a number at a line
pub data Script : Type 0 where
  made : List StepRecord → Script
  wrong : ℕ → ℕ → Script

abbrev pub at_end : Progress (Unit {0}) StepRecord → Script
at_end (progress_is.before u l k) = made l
at_end (progress_is.ended u l k) = made l
at_end (progress_is.refused_by number k) = wrong number k

-- what a text means, where there is room for so many steps
unfoldable pub script_of : ℕ → List ℕ → Script
script_of room t = at_end (read_through room t)

-- ---- the call

-- how many steps a buffer of so many bytes holds, at most 1,024
abbrev pub step_capacity : ℕ → ℕ
step_capacity bytes = capacity_of step_records most_steps bytes

abbrev pub told_of : Script → Outcome
told_of (made l) = accepted (length l ∷ [])
told_of (wrong number k) = refused (refusal number k)

abbrev pub steps_of : Script → List StepRecord
steps_of (made l) = l
steps_of (wrong number k) = []

-- the number of steps; or the refusal, whose place is the line
unfoldable pub script_outcome : List ℕ → ℕ → Outcome
script_outcome t bytes = told_of (script_of (step_capacity bytes) t)

-- the buffer, of so many bytes: the steps' records at its front, and zeros after them; after a refusal zeros alone
unfoldable pub script_after : List ℕ → ℕ → List ℕ
script_after t bytes = image step_records bytes (steps_of (script_of (step_capacity bytes) t))

-- Inside: what a line says, and how far one line takes a script in a buffer.
-- Assumes nothing.
use Rattle.std.specs.Prelude.{cond, List, [], ◌++◌, ℕ, ◌+◌, eqb, ltb, Result, Ok, Err, Option, Some, None}
use Rattle.records.specs.Records.{stored}
use Rattle.records.specs.declared.reason.Reason.{Reason}
use Rattle.records.specs.Reasons.{number_of}
use Rattle.steps.specs.declared.StepRecord.{StepRecord}
use Rattle.steps.specs.Steps.{meaning}
use Rattle.script.specs.Scripts.{step_records, narrow_step}
use Rattle.text.specs.Steps.{field_text, step_text}
use Rattle.lines.specs.Lines.{lines}
use Rattle.lines.specs.Gathering.{Says, knows, has, over, bad, Progress, before, through}
use Rattle.script_lines.specs.Scripts.{merge_operation, merge_word, line_says, each, step_capacity}

-- a step, without the end of its line
unfoldable pub any_step_text : StepRecord → List ℕ
any_step_text r = cond (eqb r.op merge_operation) (merge_word ++ (field_text [] r.i ++ field_text [] r.j)) (step_text (meaning r))

-- what a line says, in the words of the gathering
abbrev pub said_by : Result (Option StepRecord) Reason → Says (Unit {0}) StepRecord
said_by (Ok None) = knows tt
said_by (Ok (Some r)) = has tt r
said_by (Err why) = bad (number_of why)

-- the number of a reason
abbrev pub numbered : Result ℕ Reason → Result ℕ ℕ
numbered (Ok n) = Ok n
numbered (Err why) = Err (number_of why)

-- after n steps, with room for so many: how many there are after a line, or the number that refuses it
abbrev pub reached_by : ℕ → ℕ → Says (Unit {0}) StepRecord → Result ℕ ℕ
reached_by room n (knows u) = Ok n
reached_by room n (has u r) = cond (ltb n room) (Ok (n + 1)) (Err 35)
reached_by room n over = Ok n
reached_by room n (bad number) = Err number

-- the buffer after it
abbrev pub stored_by : ℕ → ℕ → List ℕ → Says (Unit {0}) StepRecord → List ℕ
stored_by room n b (knows u) = b
stored_by room n b (has u r) = cond (ltb n room) (stored step_records b n (narrow_step r)) b
stored_by room n b over = b
stored_by room n b (bad number) = b

-- what the lines of a text come to, where the buffer has so many bytes
abbrev pub whole_of : ℕ → List ℕ → Progress (Unit {0}) StepRecord
whole_of bytes t = through line_says each 35 (step_capacity bytes) (before tt [] 1) (lines t)

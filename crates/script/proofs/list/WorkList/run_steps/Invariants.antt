-- The loop over the steps keeps `RunningBy`.
-- Assumes nothing.
use Rattle.std.proofs.Common.{◌≡◌, length}
use Rattle.records.specs.Records.{records, list_of}
use Rattle.script.specs.Progress.{pend_record}
use Rattle.script.specs.Scripts.{step_records}
use Rattle.script.proofs.run.Running.{RunningBy}
use Rattle.script.proofs.list.WorkList.run_steps.Given as goal

abbrev pub invariant-loop-place : goal.invariant-loop-place
invariant-loop-place g l =
    RunningBy g.K.Runnable.codec (g.K.Runnable.step l.fn.self.n l.fn.self.cap) pend_record l.fn.self.count (list_of step_records l.fn.script) l.fn.self.buffer.now
    l.place l.self.buffer.now l.pending l.self.count l.peak
    × (l.self.buffer.ghost_name ≡ l.fn.self.buffer.ghost_name)
    × (l.self.n ≡ l.fn.self.n)
    × (l.self.cap ≡ l.fn.self.cap)
    × (length l.beside ≡ length l.fn.beside)
    × g.W.Watch.keeps l.fn.self.cap (records g.K.Runnable.codec l.self.count l.self.buffer.now) l.beside

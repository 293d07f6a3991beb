-- The loop over the variables: the orders of the first of them are taken back.
-- Assumes nothing.
use Rattle.std.proofs.Common.{◌≡◌, map, length}
use Rattle.records.specs.Records.{records}
use Rattle.script.specs.Pending.{restored}
use Rattle.script.proofs.list.WorkList.undo.Given as goal

abbrev pub invariant-loop-v : goal.invariant-loop-v
invariant-loop-v g l =
    (l.self.buffer.ghost_name ≡ l.fn.self.buffer.ghost_name)
    × (l.self.n ≡ l.fn.self.n)
    × (l.self.count ≡ l.fn.self.count)
    × (l.self.cap ≡ l.fn.self.cap)
    × (length l.self.buffer.now ≡ length l.fn.self.buffer.now)
    × (records g.K.Runnable.codec l.self.count l.self.buffer.now
    ≡ map (g.K.Runnable.on_cube (restored l.v l.pending)) (records g.K.Runnable.codec l.fn.self.count l.fn.self.buffer.now))

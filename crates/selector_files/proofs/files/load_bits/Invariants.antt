-- `files::load_bits` keeps: there are no more lengths than bits were looked for, and no more bytes than so many for each and than the buffer has.
-- Assumes nothing.
use Prim.Native.Nat.{◌*◌}
use Rattle.std.proofs.Common.{length, ◌≤◌}
use Rattle.selector_files.proofs.files.load_bits.Given as goal

abbrev pub invariant-loop-k : goal.invariant-loop-k
invariant-loop-k g l = (l.count ≤ l.k) × (l.end ≤ l.k * l.width) × (l.end ≤ length l.bytes)

-- `copy` meets its contract: the loop keeps `Front` of the list.
-- Assumes nothing.
use Prim.Native.Nat.{ℕ}
use lib.ListN.{get_or}
use Rattle.bits.proofs.Front.{Front}
use Rattle.records.proofs.copy.Given as goal

abbrev pub invariant-loop-k : goal.invariant-loop-k
invariant-loop-k l = Front (λ (i : ℕ). get_or l.list i 0) l.fn.buf l.buf l.k

-- `value::word_at` meets its contract: the loop keeps `Wording`.
-- Assumes nothing.
use Rattle.shared.proofs.value.Wording.{Wording}
use Rattle.shared.proofs.value.word_at.Given as goal

abbrev pub invariant-loop-i : goal.invariant-loop-i
invariant-loop-i l = Wording l.n l.list l.a l.w l.i

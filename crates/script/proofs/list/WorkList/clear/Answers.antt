-- The list cleared.
-- Assumes nothing.
use Rattle.script.proofs.Carrying.{carries_none}
use Rattle.script.proofs.list.WorkList.clear.Goals as goal

pub invariant_of-self : goal.invariant_of-self
invariant_of-self g c =
    let s = c.args.self.now in
    record { ready = carries_none g.K.Runnable.codec (g.K.Runnable.fine s.n) s.n s.cap _ s.ready.few s.ready.room _ c.clear.ensures }

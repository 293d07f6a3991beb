-- A text that is spelt whole: it is laid from the front of a buffer that has room for it.
-- Assumes nothing.
use mathlib.Core.Path.{◌≡◌}
use mathlib.Core.List.{List}
use Prim.Native.Nat.{ℕ, ◌≤◌}
use lib.ListN.{length, take}
use Rattle.io.specs.Counts.{IsPrefixLen}
use Rattle.text.specs.Places.{Laid}
use Rattle.text.proofs.Laying.{at_front_laid, AtFront}
use Rattle.program.proofs.Counts.{counted}

pub spelt : {s b b' : List ℕ} {r : ℕ} → Laid b 0 s r b' → length s ≤ length b → IsPrefixLen r b' × (take r b' ≡ s)
spelt {s} {b} {b'} {r} f h =
    let w : AtFront s r b' = at_front_laid f h in
    (counted r b' w.within, w.text)

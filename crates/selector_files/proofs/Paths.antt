-- A path laid to the front of a buffer: where it has room, it is the front, and it ends there.
-- Assumes nothing.
use mathlib.Core.Path.{◌≡◌}
use mathlib.Core.List.{List}
use Prim.Native.Nat.{ℕ, ◌≤◌, ◌<◌}
use native.Mathlib.Omega.{arith}
use lib.ListN.{length, take}
use Rattle.text.specs.Places.{Laid}
use Rattle.text.proofs.Laying.{at_front_laid}

module _ {s b b' : List ℕ} {r : ℕ} (f : Laid b 0 s r b') where
  pub path_text : length s ≤ length b → take r b' ≡ s
  path_text h = (at_front_laid f h).text

  pub path_lost : length b' < r → length s ≤ length b → take 0 b' ≡ s
  path_lost k h = absurd (omega (arith, (at_front_laid f h).within))

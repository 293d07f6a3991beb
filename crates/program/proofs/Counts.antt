-- A number of bytes at the front of a buffer.
-- Assumes nothing.
use mathlib.Core.Path.{sym}
use mathlib.Core.List.{List}
use Prim.Native.Nat.{ℕ, ◌≤◌}
use lib.ListN.{length}
use lib.Seq.{length-take-le}
use Rattle.io.specs.Counts.{IsPrefixLen}

pub counted : (k : ℕ) (l : List ℕ) → k ≤ length l → IsPrefixLen k l
counted k l h = (h, sym (length-take-le k l h))

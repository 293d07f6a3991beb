-- A line that is printed: any text at the front of a buffer, and the newline after it.
-- Assumes nothing.
use mathlib.Core.Path.{◌≡◌}
use mathlib.Core.List.{List, [], ◌∷◌, ◌++◌}
use Prim.Native.Nat.{ℕ, ◌<◌}
use native.Mathlib.Omega.{arith}
use lib.ListN.{length, take, length-append}
use Rattle.io.specs.Counts.{IsPrefixLen}
use Rattle.text.specs.Places.{Laid}
use Rattle.text.proofs.Laying.{after, at_front_laid, AtFront}
use Rattle.program.proofs.Counts.{counted}

module _ (s : List ℕ) {p r : ℕ} {line line' line'' : List ℕ} (f : Laid line 0 s p line') (g : Laid line' p (10 ∷ []) r line'') (h : length s < length line) where
  laid_line : AtFront (s ++ (10 ∷ [])) r line''
  laid_line = at_front_laid (after f g) (omega (arith, length-append s (10 ∷ [])))

  pub line_text_lem : take r line'' ≡ s ++ (10 ∷ [])
  line_text_lem = laid_line.text

  pub line_counts : IsPrefixLen r line''
  line_counts = counted r line'' laid_line.within

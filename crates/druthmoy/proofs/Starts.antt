-- The starts that a caller lends to the build of an index, as the call leaves them.
-- Assumes nothing.
use mathlib.Core.Path.{◌≡◌, refl, ap₂, ◌∙◌}
use mathlib.Core.List.{List}
use Prim.Native.Nat.{ℕ}
use lib.ListN.{replicate}
use Rattle.records.specs.Answers.{Outcome, accepted, refused, after_call}
use Rattle.cube.specs.Lists.{cubes_of}
use Rattle.index.specs.Index.{group_count, list_starts}
use Rattle.index.specs.Calls.{build_outcome, build_starts}

-- the starts that a build answers, in the place of those that a caller lent
pub starts_built : (n : ℕ) (list : List ℕ) (room : ℕ) (old : List ℕ) {starts new : List ℕ} {o : Outcome} → o ≡ build_outcome n list room → starts ≡ build_starts n list room
    → new ≡ after_call o starts old → new ≡ after_call (build_outcome n list room) (list_starts (cubes_of list)) old
unfolding build_starts
starts_built n list room old eo es en = en ∙ ap₂ (λ (o : Outcome) (s : List ℕ). after_call o s old) eo es ∙ once (build_outcome n list room)
  where
    once : (o : Outcome) → after_call o (after_call o (list_starts (cubes_of list)) (replicate group_count 0)) old ≡ after_call o (list_starts (cubes_of list)) old
    once (accepted v) = refl
    once (refused r) = refl

-- The list that the easy script ends in, and that it has finished. Document 02, Three.
-- Assumes nothing.
use Rattle.std.specs.Prelude.{◌≡◌, List, ℕ}
use Rattle.cube.specs.declared.Cube.{Cube}
use Rattle.cube.specs.Lists.{cubes_of}
use Rattle.script.specs.Scripts.{most_steps}
use Rattle.writer.specs.Pairs.{IsPair}
use Rattle.writer.specs.Easy.{easy_end}

-- "the end list"
abbrev pub end_list : ℕ → List ℕ → List Cube
end_list n list = easy_end n most_steps (cubes_of list)

-- a list "has no such pair"
abbrev pub NoPair : ℕ → List Cube → Type 0
NoPair n l = (i j : ℕ) → IsPair n l i j → ⊥

-- finished exactly when the list has no pair: 1 there, and else 0
pub record FinishedExactly (n : ℕ) (l : List Cube) (which : ℕ) : Type 0 where
  pub then_none : which ≡ 1 → NoPair n l
  pub none_then : NoPair n l → which ≡ 1
  pub else_zero : (which ≡ 1 → ⊥) → which ≡ 0

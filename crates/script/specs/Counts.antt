-- What the steps do to the count, and the lists that a run meets, for any kind of record and of step. Document 01: "The count after a run is the first count
-- plus splits, less joins, less twice the drops. The peak is the greatest count met, the first included."
-- Assumes nothing.
use Rattle.std.specs.Prelude.{ℕ, ◌+◌, max, List, [], ◌∷◌, length}
use Rattle.cube.specs.declared.Cube.{Cube}
use Rattle.steps.specs.Moves.{After, stop, next}
use Rattle.steps.specs.Steps.{Step, step}

-- how many of a script's steps are of a kind: splits, joins, drops
unfoldable pub how_many : {X : Type 0} → (X → ℕ) → List X → ℕ
how_many kind [] = 0
how_many kind (x ∷ xs) = kind x + how_many kind xs

-- the lists between the steps: the first one, and one after each step that is done
abbrev pub met_after : {A : Type 0} → After A → (List A → List (List A)) → List (List A)
met_after (stop r) go = []
met_after (next l) go = go l

unfoldable pub lists_by : {A X : Type 0} → (X → List A → After A) → List X → List A → List (List A)
lists_by σ [] l = l ∷ []
lists_by σ (x ∷ xs) l = l ∷ met_after (σ x l) (lists_by σ xs)

-- the greatest of their counts
unfoldable pub greatest : {A : Type 0} → List (List A) → ℕ
greatest [] = 0
greatest (l ∷ ls) = max (length l) (greatest ls)

-- ---- cubes

abbrev pub lists : ℕ → ℕ → List Step → List Cube → List (List Cube)
lists n cap = lists_by (step n cap)

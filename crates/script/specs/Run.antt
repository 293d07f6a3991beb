-- A run of a script, and the undoing of its L steps, for any kind of record A and of step X, by what one step does; and for cubes. Document 01, "The steps
-- of a script".
-- Assumes nothing.
use Rattle.std.specs.Prelude.{ℕ, suc, ◌<◌, max, ◌≡◌, List, [], ◌∷◌, map, length, get_or, take}
use Rattle.cube.specs.declared.Cube.{Cube}
use Rattle.steps.specs.declared.StepRefusal.{StepRefusal}
use Rattle.steps.specs.Moves.{After, stop, next}
use Rattle.steps.specs.Steps.{Step, drop, join, split, turn, L, step, exchanged}

-- stopped by a refusal at a step, or ended with a list and the peak
pub data Ran (A : Type 0) : Type 0 where
  stopped : StepRefusal → ℕ → Ran A
  ended : List A → ℕ → Ran A

-- what follows step s
abbrev pub onward : {A : Type 0} → ℕ → (List A → Ran A) → After A → Ran A
onward s go (stop r) = stopped r s
onward s go (next l) = go l

module _ {A X : Type 0} where
  -- the steps in turn, from step s on, with the greatest count met so far; the L steps are still pending
  unfoldable pub steps_from : (X → List A → After A) → ℕ → ℕ → List X → List A → Ran A
  steps_from σ s peak [] l = ended l peak
  steps_from σ s peak (x ∷ xs) l = onward s (λ m. steps_from σ (suc s) (max peak (length m)) xs m) (σ x l)

  -- "all L steps are undone, last one first", by what undoes one step
  unfoldable pub undo_by : (X → List A → List A) → List X → List A → List A
  undo_by un [] l = l
  undo_by un (x ∷ xs) l = un x (undo_by un xs l)

-- "when the last step is done"
abbrev pub finish_by : {A : Type 0} → (List A → List A) → Ran A → Ran A
finish_by un (stopped r s) = stopped r s
finish_by un (ended l peak) = ended (un l) peak

-- a run: "The peak is the greatest count met, the first included"
abbrev pub run_by : {A X : Type 0} → (X → List A → After A) → (X → List A → List A) → List X → List A → Ran A
run_by σ un xs l = finish_by (undo_by un xs) (steps_from σ 0 (length l) xs l)

-- the steps xs from the list l are refused at step k: "then steps in turn"
pub record RefusedBy {A X : Type 0} (σ : X → List A → After A) (none : X) (xs : List X) (l : List A) (r : StepRefusal) (k : ℕ) : Type 0 where
  pub within : k < length xs
  -- the steps before it are done, and leave a list
  pub between : List A
  pub peak : ℕ
  pub before : steps_from σ 0 (length l) (take k xs) l ≡ ended between peak
  -- the step there is refused
  pub here : σ (get_or xs k none) between ≡ stop r

-- ---- cubes

-- a step undone, where it is an L step
abbrev pub unstep : Step → List Cube → List Cube
unstep (drop i j) l = l
unstep (join i j) l = l
unstep (split v i) l = l
unstep (turn v i j) l = l
unstep (L v b) l = map (exchanged v b) l

abbrev pub undo : List Step → List Cube → List Cube
undo xs l = undo_by unstep xs l

abbrev pub finish : List Step → Ran Cube → Ran Cube
finish xs r = finish_by (undo xs) r

unfoldable pub run : ℕ → ℕ → List Step → List Cube → Ran Cube
run n cap xs l = run_by (step n cap) unstep xs l

abbrev pub Refused : (n cap : ℕ) (xs : List Step) (l : List Cube) (r : StepRefusal) (k : ℕ) → Type 0
Refused n cap = RefusedBy (step n cap) (drop 0 0)

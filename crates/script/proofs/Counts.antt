-- The count after a run, and its peak: the greatest count of the lists between the steps. For any kind of record and of step, and then for cubes.
-- Assumes nothing.
use mathlib.Core.Path.{◌≡◌, refl, sym, ap, ap₂, ◌∙◌}
use mathlib.Core.List.{List, [], ◌∷◌}
use Prim.Native.Nat.{ℕ, suc, ◌+◌, ◌*◌, ◌≤◌, max}
use native.Mathlib.Omega.{arith}
use lib.ListN.{length, get_or, length-map}
use Rattle.cube.specs.declared.Cube.{Cube}
use Rattle.steps.specs.Moves.{After, stop, next}
use Rattle.steps.specs.Steps.{Step, step, is_split, is_join, is_drop}
use Rattle.steps.proofs.Kept.{step_count}
use Rattle.steps.proofs.step.Stepping.{step_fits}
use Rattle.script.specs.Run.{Ran, stopped, ended, onward, steps_from, undo_by, run_by, unstep, undo, run}
use Rattle.script.specs.Counts.{how_many, met_after, lists_by, lists, greatest}
use Rattle.script.proofs.Pending.{undone, undo_map}
use Rattle.script.proofs.Runs.{ended_list, ended_peak, onward_by, FinishedBy, finished_by}

module _ {A X : Type 0} (σ : X → List A → After A) where
  -- ---- the count

  -- where each step that is done takes so many records away and adds so many, all of them do
  pub steps_count_by : (taken added : X → ℕ) → ((x : X) (l m : List A) → σ x l ≡ next m → length m + taken x ≡ length l + added x)
      → (s q : ℕ) (xs : List X) (l m : List A) (p : ℕ) → steps_from σ s q xs l ≡ ended m p → length m + how_many taken xs ≡ length l + how_many added xs
  unfolding steps_from how_many
  steps_count_by taken added h s q [] l m p e = omega (arith, ap length (ended_list e))
  steps_count_by taken added h s q (x ∷ xs) l m p e =
      let o = onward_by σ s q x xs l m p e in
      omega (arith, h x l o.between o.first, steps_count_by taken added h (suc s) (max q (length o.between)) xs o.between m p o.rest)

  -- ---- the lists between the steps

  -- the first is among them
  pub first_met : (xs : List X) (l : List A) → length l ≤ greatest (lists_by σ xs l)
  unfolding lists_by greatest
  first_met [] l = omega arith
  first_met (x ∷ xs) l = omega arith

  lists_next : (x : X) (xs : List X) (l r : List A) → σ x l ≡ next r → lists_by σ (x ∷ xs) l ≡ l ∷ lists_by σ xs r
  unfolding lists_by
  lists_next x xs l r e = ap (λ (a : After A). l ∷ met_after a (lists_by σ xs)) e

  -- none of them, of an ended run or a refused one, has more records than the first and what is added, nor more than the first and the capacity, where no
  -- step that is done adds more
  pub lists_bound_by : (added : X → ℕ) (cap : ℕ)
      → ((x : X) (l m : List A) → σ x l ≡ next m → (length m ≤ length l + added x) × (length m ≤ max cap (length l))) → (xs : List X) (l : List A)
      → (greatest (lists_by σ xs l) ≤ length l + how_many added xs) × (greatest (lists_by σ xs l) ≤ max cap (length l))
  unfolding lists_by greatest how_many
  lists_bound_by added cap h [] l = (omega arith, omega arith)
  lists_bound_by added cap h (x ∷ xs) l = go (σ x l) refl (lists_bound_by added cap h xs)
    where
      go : (a : After A) → σ x l ≡ a
          → ((l : List A) → (greatest (lists_by σ xs l) ≤ length l + how_many added xs) × (greatest (lists_by σ xs l) ≤ max cap (length l)))
          → (max (length l) (greatest (met_after a (lists_by σ xs))) ≤ length l + (added x + how_many added xs))
          × (max (length l) (greatest (met_after a (lists_by σ xs))) ≤ max cap (length l))
      go (stop k) f ih = (omega arith, omega arith)
      go (next r) f ih = let b = h x l r f in let t = ih r in (omega arith, omega arith)

  -- of steps that are all done there is one after each, and the last is the one they end with
  pub steps_lists : (s q : ℕ) (xs : List X) (l m : List A) (p : ℕ) → steps_from σ s q xs l ≡ ended m p
      → (length (lists_by σ xs l) ≡ suc (length xs)) × (get_or (lists_by σ xs l) (length xs) [] ≡ m)
  unfolding steps_from lists_by
  steps_lists s q [] l m p e = (refl, ended_list e)
  steps_lists s q (x ∷ xs) l m p e =
      let o = onward_by σ s q x xs l m p e in
      let t = steps_lists (suc s) (max q (length o.between)) xs o.between m p o.rest in
      let are = lists_next x xs l o.between o.first in
      (ap length are ∙ ap suc t.0, ap (λ (k : List (List A)). get_or k (suc (length xs)) []) are ∙ t.1)

  -- the greatest count met so far is kept up
  pub steps_peak : (s q : ℕ) (xs : List X) (l m : List A) (p : ℕ) → length l ≤ q → steps_from σ s q xs l ≡ ended m p
      → (p ≡ max q (greatest (lists_by σ xs l))) × (length m ≤ p)
  unfolding steps_from lists_by greatest
  steps_peak s q [] l m p h e = (omega (arith, ended_peak e), omega (arith, ended_peak e, ap length (ended_list e)))
  steps_peak s q (x ∷ xs) l m p h e =
      let o = onward_by σ s q x xs l m p e in
      let t = steps_peak (suc s) (max q (length o.between)) xs o.between m p (omega arith) o.rest in
      (omega (arith, t.0, first_met xs o.between, ap greatest (lists_next x xs l o.between o.first)), t.1)

  -- ---- step numbers and the starting peak only shift, as where a step before them is taken out (Decoration)

  abbrev pub shifted : ℕ → ℕ → Ran A → Ran A
  shifted s q (stopped r k) = stopped r (s + k)
  shifted s q (ended l p) = ended l (max q p)

  pub steps_shift : (s q k p : ℕ) (xs : List X) (l : List A) → steps_from σ (s + k) (max q p) xs l ≡ shifted s q (steps_from σ k p xs l)
  unfolding steps_from
  steps_shift s q k p [] l = refl
  steps_shift s q k p (x ∷ xs) l = go (σ x l) (λ r. steps_shift s q (suc k) (max p (length r)) xs r)
    where
      go : (a : After A)
          → ((r : List A) → steps_from σ (s + suc k) (max q (max p (length r))) xs r ≡ shifted s q (steps_from σ (suc k) (max p (length r)) xs r))
          → onward (s + k) (λ r. steps_from σ (suc (s + k)) (max (max q p) (length r)) xs r) a
          ≡ shifted s q (onward k (λ r. steps_from σ (suc k) (max p (length r)) xs r) a)
      go (stop r) ih = refl
      go (next r) ih =
          let number : suc (s + k) ≡ s + suc k = omega arith in
          let peak : max (max q p) (length r) ≡ max q (max p (length r)) = omega arith in
          ap₂ (λ (i j : ℕ). steps_from σ i j xs r) number peak ∙ ih r

  -- ---- a whole run, with the undoing

  module _ (un : X → List A → List A) (xs : List X) (l m : List A) (peak : ℕ) (ran : run_by σ un xs l ≡ ended m peak) where
    f : FinishedBy σ un xs l m peak
    f = finished_by σ un xs l m peak ran

    -- there is a list after each step, and the last of them, undone, is the result
    pub run_lists_by : length (lists_by σ xs l) ≡ suc (length xs)
    run_lists_by = (steps_lists 0 (length l) xs l f.last peak f.steps).0

    pub run_result_by : m ≡ undo_by un xs (get_or (lists_by σ xs l) (length xs) [])
    run_result_by = f.list ∙ ap (undo_by un xs) (sym (steps_lists 0 (length l) xs l f.last peak f.steps).1)

    -- "The peak is the greatest count met, the first included"
    pub run_peak_by : peak ≡ greatest (lists_by σ xs l)
    run_peak_by = omega (arith, (steps_peak 0 (length l) xs l f.last peak (omega arith) f.steps).0, first_met xs l)

    -- where the undoing leaves as many records as there were
    module _ (same : (k : List A) → length (undo_by un xs k) ≡ length k) where
      pub run_count_by : (taken added : X → ℕ) → ((x : X) (l m : List A) → σ x l ≡ next m → length m + taken x ≡ length l + added x)
          → length m + how_many taken xs ≡ length l + how_many added xs
      run_count_by taken added h = omega (arith, ap length f.list, same f.last, steps_count_by taken added h 0 (length l) xs l f.last peak f.steps)

      pub run_last_by : length m ≤ peak
      run_last_by = omega (arith, ap length f.list, same f.last, (steps_peak 0 (length l) xs l f.last peak (omega arith) f.steps).1)

-- ---- cubes

-- what is taken away by a join and a drop
taken_are : (xs : List Step) → how_many (λ x. is_join x + 2 * is_drop x) xs ≡ how_many is_join xs + 2 * how_many is_drop xs
unfolding how_many
taken_are [] = refl
taken_are (x ∷ xs) = omega (arith, taken_are xs)

undo_length : (xs : List Step) (l : List Cube) → length (undo xs l) ≡ length l
undo_length xs l = ap length (undo_map xs l) ∙ length-map l (undone xs)

-- a step adds at most one record, and a split none above the capacity
step_bound : (n cap : ℕ) (x : Step) (l r : List Cube) → step n cap x l ≡ next r → (length r ≤ length l + is_split x) × (length r ≤ max cap (length l))
step_bound n cap x l r e = (omega (arith, step_count n cap x l r e), step_fits n cap (max cap (length l)) x l r (omega arith) (omega arith) e)

pub lists_bound : (n cap : ℕ) (xs : List Step) (l : List Cube)
    → (greatest (lists n cap xs l) ≤ length l + how_many is_split xs) × (greatest (lists n cap xs l) ≤ max cap (length l))
lists_bound n cap = lists_bound_by (step n cap) is_split cap (step_bound n cap)

module _ (n cap : ℕ) (xs : List Step) (l m : List Cube) (peak : ℕ) (ran : run n cap xs l ≡ ended m peak) where
  -- "The count after a run is the first count plus splits, less joins, less twice the drops"
  pub run_count : length m + how_many is_join xs + 2 * how_many is_drop xs ≡ length l + how_many is_split xs
  unfolding run
  run_count =
      omega (
        arith,
        run_count_by (step n cap) unstep xs l m peak ran (undo_length xs) (λ x. is_join x + 2 * is_drop x) is_split (λ x l m e. omega (arith, step_count n cap x l m e)),
        taken_are xs,
      )

  -- there is a list after each step, and the last of them, undone, is the result
  pub run_lists : length (lists n cap xs l) ≡ suc (length xs)
  unfolding run
  run_lists = run_lists_by (step n cap) unstep xs l m peak ran

  pub run_result : m ≡ undo xs (get_or (lists n cap xs l) (length xs) [])
  unfolding run
  run_result = run_result_by (step n cap) unstep xs l m peak ran

  -- "The peak is the greatest count met, the first included"
  pub run_peak : peak ≡ greatest (lists n cap xs l)
  unfolding run
  run_peak = run_peak_by (step n cap) unstep xs l m peak ran

  -- "It is at most the first count plus splits"
  pub run_peak_splits : peak ≤ length l + how_many is_split xs
  run_peak_splits = omega (arith, run_peak, (lists_bound n cap xs l).0)

  -- and at most the first count or the capacity
  pub run_peak_capacity : peak ≤ max cap (length l)
  run_peak_capacity = omega (arith, run_peak, (lists_bound n cap xs l).1)

  pub run_last : length m ≤ peak
  unfolding run
  run_last = run_last_by (step n cap) unstep xs l m peak ran (undo_length xs)

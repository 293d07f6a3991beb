-- A run is refused exactly where the steps before one are done and that one is refused. For any kind of record and of step, and for cubes.
-- Assumes nothing.
use mathlib.Core.Path.{◌≡◌, refl, sym, ap, ◌∙◌, subst}
use mathlib.Core.List.{List, [], ◌∷◌}
use Prim.Native.Nat.{ℕ, zero, suc, ◌+◌, ◌<◌, max}
use native.Mathlib.Nat.{add-zero, zero-add}
use native.Mathlib.Omega.{arith}
use lib.ListN.{length, get_or, take}
use Rattle.cube.specs.declared.Cube.{Cube}
use Rattle.steps.specs.declared.StepRefusal.{StepRefusal}
use Rattle.steps.specs.Moves.{After, stop, next}
use Rattle.steps.specs.Steps.{Step, drop, step}
use Rattle.script.specs.Run.{Ran, stopped, ended, onward, steps_from, undo_by, finish_by, run_by, RefusedBy, unstep, run, Refused}
use Rattle.script.proofs.Runs.{ended_list, onward_by}

module _ {A : Type 0} where
  stopped_same : {r r' : StepRefusal} {k k' : ℕ} → ◌≡◌ {A = Ran A} (stopped r k) (stopped r' k') → (r ≡ r') × (k ≡ k')
  stopped_same e = (cc, cc)

  pub not_stopped : {r : StepRefusal} {k p : ℕ} {l : List A} → ended l p ≡ stopped r k → ⊥
  not_stopped e = let z : ◌≡◌ {A = ℕ} 0 1 = cc in omega arith

module _ {A X : Type 0} (σ : X → List A → After A) (none : X) where
  -- steps numbered from s on, refused at the one that has this place among them
  record StoppedFrom (s q : ℕ) (xs : List X) (l : List A) (r : StepRefusal) (k : ℕ) : Type 0 where
    place : ℕ
    number : k ≡ s + place
    within : place < length xs
    between : List A
    peak : ℕ
    before : steps_from σ s q (take place xs) l ≡ ended between peak
    here : σ (get_or xs place none) between ≡ stop r

  steps_stopped : (s q : ℕ) (xs : List X) (l : List A) (r : StepRefusal) (k : ℕ) → steps_from σ s q xs l ≡ stopped r k → StoppedFrom s q xs l r k
  unfolding steps_from
  steps_stopped s q [] l r k e = absurd (not_stopped e)
  steps_stopped s q (x ∷ xs) l r k e = go (σ x l) refl (λ m f. steps_stopped (suc s) (max q (length m)) xs m r k f) e
    where
      go : (a : After A) → σ x l ≡ a
          → ((m : List A) → steps_from σ (suc s) (max q (length m)) xs m ≡ stopped r k → StoppedFrom (suc s) (max q (length m)) xs m r k)
          → onward s (λ m. steps_from σ (suc s) (max q (length m)) xs m) a ≡ stopped r k → StoppedFrom s q (x ∷ xs) l r k
      go (stop i) f ih e =
          let t = stopped_same e in
          record { place = 0; number = omega (arith, t.1); within = omega arith; between = l; peak = q; before = refl; here = f ∙ ap stop t.0 }
      go (next m) f ih e =
          let t = ih m e in
          record {
            place = suc t.place;
            number = omega (arith, t.number);
            within = omega (arith, t.within);
            between = t.between;
            peak = t.peak;
            before = ap (onward s (λ m. steps_from σ (suc s) (max q (length m)) (take t.place xs) m)) f ∙ t.before;
            here = t.here;
          }

  -- and where one is refused after those before it, the steps are stopped there
  steps_stop : (s q : ℕ) (xs : List X) (l : List A) (k : ℕ) → k < length xs → (m : List A) (p : ℕ) → steps_from σ s q (take k xs) l ≡ ended m p
      → (r : StepRefusal) → σ (get_or xs k none) m ≡ stop r → steps_from σ s q xs l ≡ stopped r (s + k)
  unfolding steps_from
  steps_stop s q [] l k h m p e r f = absurd (omega arith)
  steps_stop s q (x ∷ xs) l zero h m p e r f =
      ap (onward s (λ m. steps_from σ (suc s) (max q (length m)) xs m)) (ap (σ x) (ended_list e) ∙ f) ∙ ap (stopped r) (sym (add-zero s))
  steps_stop s q (x ∷ xs) l (suc k) h m p e r f =
      let o = onward_by σ s q x (take k xs) l m p e in
      let number : suc s + k ≡ s + suc k = omega arith in
      ap (onward s (λ m. steps_from σ (suc s) (max q (length m)) xs m)) o.first
      ∙ steps_stop (suc s) (max q (length o.between)) xs o.between k (omega arith) m p o.rest r f ∙ ap (stopped r) number

  -- a whole run, both ways
  module _ (un : X → List A → List A) (xs : List X) (l : List A) (r : StepRefusal) (k : ℕ) where
    pub stopped_by : run_by σ un xs l ≡ stopped r k → RefusedBy σ none xs l r k
    stopped_by e =
        let t = steps_stopped 0 (length l) xs l r k (go (steps_from σ 0 (length l) xs l) e) in
        let at : t.place ≡ k = omega (arith, t.number) in
        record {
          within = omega (arith, at, t.within);
          between = t.between;
          peak = t.peak;
          before = subst (λ (p : ℕ). steps_from σ 0 (length l) (take p xs) l ≡ ended t.between t.peak) at t.before;
          here = subst (λ (p : ℕ). σ (get_or xs p none) t.between ≡ stop r) at t.here;
        }
      where
        go : (a : Ran A) → finish_by (undo_by un xs) a ≡ stopped r k → a ≡ stopped r k
        go (stopped i j) e = e
        go (ended m p) e = absurd (not_stopped e)

    pub by_stopped : RefusedBy σ none xs l r k → run_by σ un xs l ≡ stopped r k
    by_stopped t =
        ap (finish_by (undo_by un xs)) (steps_stop 0 (length l) xs l k t.within t.between t.peak t.before r t.here ∙ ap (stopped r) (zero-add k))

-- ---- cubes

module _ (n cap : ℕ) (xs : List Step) (l : List Cube) (r : StepRefusal) (k : ℕ) where
  pub stopped_steps : run n cap xs l ≡ stopped r k → Refused n cap xs l r k
  unfolding run
  stopped_steps e = stopped_by (step n cap) (drop 0 0) unstep xs l r k e

  pub refused_stops : Refused n cap xs l r k → run n cap xs l ≡ stopped r k
  unfolding run
  refused_stops t = by_stopped (step n cap) (drop 0 0) unstep xs l r k t

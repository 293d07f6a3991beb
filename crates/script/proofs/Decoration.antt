-- A run of which some steps are only decoration, for any kind of record and of step: without them it is the same run, but for the number of the step that is
-- refused. Plain uses it for cubes and L steps.
-- Assumes nothing.
use mathlib.Core.Path.{◌≡◌, refl, sym, ap, ap₂, ◌∙◌}
use mathlib.Core.Logic.{◌≢◌}
use mathlib.Core.List.{List, [], ◌∷◌, map}
use Prim.Native.Nat.{ℕ, suc, ◌+◌, ◌≤◌, max}
use native.Mathlib.Decide.{ℕ_discrete}
use native.Mathlib.Omega.{arith}
use lib.ListN.{length, length-map}
use Rattle.bits.specs.Sums.{All}
use Rattle.steps.specs.Moves.{After, stop, next}
use Rattle.steps.proofs.Balanced.{map_after}
use Rattle.script.specs.Run.{Ran, stopped, ended, onward, steps_from, undo_by, finish_by, run_by}
use Rattle.script.specs.PlainSteps.{without, without_before}
use Rattle.script.proofs.Counts.{shifted, steps_shift}
use Rattle.script.proofs.Without.{without_stays, without_gone, before_stays, before_gone, all_without}

-- the same outcome of a run, but for the number of the step that is refused
abbrev pub renumbered : {A : Type 0} → (ℕ → ℕ) → Ran A → Ran A
renumbered f (stopped why s) = stopped why (f s)
renumbered f (ended l peak) = ended l peak

-- what makes the steps of a kind decoration
pub record Decoration {A X : Type 0} (σ : X → List A → After A) (un : X → List A → List A) (kind : X → ℕ) (back : X → A → A) (Fine : A → Type 0)
    (Allowed : X → Type 0) : Type 0 where
  pub kept : (x : X) → Allowed x → (l m : List A) → All Fine l → σ x l ≡ next m → All Fine m
  -- each is undone record by record
  pub undone : (x : X) (l : List A) → un x l ≡ map (back x) l
  -- such a step does to each record what undoes it, and twice that changes nothing
  pub done : (x : X) → kind x ≢ 0 → (l : List A) → σ x l ≡ next (map (back x) l)
  pub twice : (x : X) → kind x ≢ 0 → Allowed x → (l : List A) → All Fine l → map (back x) (map (back x) l) ≡ l
  -- any other is not undone, and before such a step or after it comes to the same list, or to the same refusal
  pub not_undone : (x : X) → kind x ≡ 0 → (l : List A) → un x l ≡ l
  pub commutes : (x y : X) → kind x ≡ 0 → Allowed x → kind y ≢ 0 → Allowed y → (l : List A) → σ x (map (back y) l) ≡ map_after (back y) (σ x l)

module _ {A X : Type 0} (σ : X → List A → After A) (un : X → List A → List A) (kind : X → ℕ) (back : X → A → A) (Fine : A → Type 0)
    (Allowed : X → Type 0) (d : Decoration σ un kind back Fine Allowed) where
  -- a step that is left
  abbrev Left : X → Type 0
  Left x = (kind x ≡ 0) × Allowed x

  -- steps that are left undo nothing, ..
  undo_left : (xs : List X) → All Left xs → (l : List A) → undo_by un xs l ≡ l
  unfolding undo_by
  undo_left [] h l = refl
  undo_left (x ∷ xs) h l = d.not_undone x h.0.0 (undo_by un xs l) ∙ undo_left xs h.1 l

  finish_left : (xs : List X) → All Left xs → (r : Ran A) → finish_by (undo_by un xs) r ≡ r
  finish_left xs h (stopped why s) = refl
  finish_left xs h (ended l p) = ap (λ (m : List A). ended m p) (undo_left xs h l)

  -- .. and all of them commute with a decoration
  steps_commute : (y : X) → kind y ≢ 0 → Allowed y → (xs : List X) → All Left xs → (s q : ℕ) (l : List A)
      → steps_from σ s q xs (map (back y) l) ≡ finish_by (map (back y)) (steps_from σ s q xs l)
  unfolding steps_from
  steps_commute y e g [] h s q l = refl
  steps_commute y e g (x ∷ xs) h s q l =
      ap (onward s (λ m. steps_from σ (suc s) (max q (length m)) xs m)) (d.commutes x y h.0.0 h.0.1 e g l)
      ∙ go (σ x l) (λ m. steps_commute y e g xs h.1 (suc s) (max q (length m)) m)
    where
      go : (a : After A)
          → ((m : List A) → steps_from σ (suc s) (max q (length m)) xs (map (back y) m) ≡ finish_by (map (back y)) (steps_from σ (suc s) (max q (length m)) xs m))
          → onward s (λ m. steps_from σ (suc s) (max q (length m)) xs m) (map_after (back y) a)
          ≡ finish_by (map (back y)) (onward s (λ m. steps_from σ (suc s) (max q (length m)) xs m) a)
      go (stop why) ih = refl
      go (next m) ih = ap (λ (k : ℕ). steps_from σ (suc s) (max q k) xs (map (back y) m)) (length-map m (back y)) ∙ ih m

  -- the steps after the first one are numbered from 1 on
  from_one : (q : ℕ) (xs : List X) (l : List A) → steps_from σ 1 q xs l ≡ shifted σ 1 0 (steps_from σ 0 q xs l)
  from_one q xs l = let none : q ≡ max 0 q = omega arith in ap (λ (k : ℕ). steps_from σ 1 k xs l) none ∙ steps_shift σ 1 0 0 q xs l

  -- what is shown of the steps xs: without the decorations they come to what all of them come to after the undoing, at the step that corresponds
  Follows : List X → Type 0
  Follows xs = (q : ℕ) (l : List A) → length l ≤ q → All Fine l
      → steps_from σ 0 q (without kind xs) l ≡ renumbered (without_before kind xs) (finish_by (undo_by un xs) (steps_from σ 0 q xs l))

  module _ (x : X) (xs : List X) where
    follows_left : kind x ≡ 0 → Allowed x → Follows xs → Follows (x ∷ xs)
    unfolding steps_from undo_by Follows
    follows_left e h ih q l c a =
        ap (λ (ys : List X). steps_from σ 0 q ys l) (without_stays kind x e xs) ∙ go (σ x l) refl
      where
        after : (r : Ran A) → shifted σ 1 0 (renumbered (without_before kind xs) (finish_by (undo_by un xs) r))
            ≡ renumbered (without_before kind (x ∷ xs)) (finish_by (λ m. un x (undo_by un xs m)) (shifted σ 1 0 r))
        after (stopped why s) =
            let number : 1 + s ≡ suc s = omega arith in
            ap (stopped why) (omega (arith, ap (without_before kind (x ∷ xs)) number, before_stays kind x e xs s))
        after (ended m p) = ap (λ (k : List A). ended k (max 0 p)) (sym (d.not_undone x e (undo_by un xs m)))

        go : (r : After A) → σ x l ≡ r → onward 0 (λ m. steps_from σ 1 (max q (length m)) (without kind xs) m) r
            ≡ renumbered (without_before kind (x ∷ xs)) (finish_by (λ m. un x (undo_by un xs m)) (onward 0 (λ m. steps_from σ 1 (max q (length m)) xs m) r))
        go (stop why) f = refl
        go (next m) f =
            from_one (max q (length m)) (without kind xs) m
            ∙ ap (shifted σ 1 0) (ih (max q (length m)) m (omega arith) (d.kept x h l m a f))
            ∙ after (steps_from σ 0 (max q (length m)) xs m)
            ∙ ap (λ (r : Ran A). renumbered (without_before kind (x ∷ xs)) (finish_by (λ k. un x (undo_by un xs k)) r)) (sym (from_one (max q (length m)) xs m))

    -- a decoration: the others commute with it, and it is undone at the end
    follows_gone : kind x ≢ 0 → Allowed x → All Allowed xs → Follows xs → Follows (x ∷ xs)
    unfolding steps_from undo_by Follows
    follows_gone e h hs ih q l c a =
        ap₂ (λ (ys : List X) (k : List A). steps_from σ 0 q ys k) (without_gone kind x e xs) (sym (d.twice x e h l a))
        ∙ steps_commute x e h (without kind xs) (all_without kind Allowed xs hs) 0 q m
        ∙ ap (finish_by (map (back x))) (ih q m (omega (arith, same)) (d.kept x h l m a (d.done x e l)))
        ∙ after (steps_from σ 0 q xs m)
        ∙ ap (λ (r : Ran A). renumbered (without_before kind (x ∷ xs)) (finish_by (λ k. un x (undo_by un xs k)) r))
        (sym (from_one q xs m) ∙ ap (λ (k : ℕ). steps_from σ 1 k xs m) peak ∙ ap (onward 0 (λ k. steps_from σ 1 (max q (length k)) xs k)) (sym (d.done x e l)))
      where
        m : List A
        m = map (back x) l

        same : length (map (back x) l) ≡ length l
        same = length-map l (back x)

        peak : q ≡ max q (length (map (back x) l))
        peak = omega (arith, same)

        after : (r : Ran A) → finish_by (map (back x)) (renumbered (without_before kind xs) (finish_by (undo_by un xs) r))
            ≡ renumbered (without_before kind (x ∷ xs)) (finish_by (λ k. un x (undo_by un xs k)) (shifted σ 1 0 r))
        after (stopped why s) =
            let number : 1 + s ≡ suc s = omega arith in
            ap (stopped why) (omega (arith, ap (without_before kind (x ∷ xs)) number, before_gone kind x e xs s))
        after (ended k p) = let none : p ≡ max 0 p = omega arith in ap₂ ended (sym (d.undone x (undo_by un xs k))) none

  follows : (xs : List X) → All Allowed xs → Follows xs
  unfolding steps_from undo_by Follows
  follows [] h = λ q l c a. refl
  follows (x ∷ xs) h = go (ℕ_discrete (kind x) 0) (follows xs h.1)
    where
      go : Dec (kind x ≡ 0) → Follows xs → Follows (x ∷ xs)
      go (yes e) ih = follows_left x xs e h.0 ih
      go (no e) ih = follows_gone x xs e h.0 h.1 ih

  -- a whole run
  pub run_without : (xs : List X) → All Allowed xs → (l : List A) → All Fine l → run_by σ un (without kind xs) l ≡ renumbered (without_before kind xs) (run_by σ un xs l)
  unfolding Follows
  run_without xs h l a =
      finish_left (without kind xs) (all_without kind Allowed xs h) (steps_from σ 0 (length l) (without kind xs) l) ∙ follows xs h (length l) l (omega arith) a

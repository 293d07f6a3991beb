-- What is left of a list without the elements of a kind.
-- Assumes nothing.
use mathlib.Core.Path.{◌≡◌, ap, ap₂, ◌∙◌}
use mathlib.Core.List.{List, [], ◌∷◌}
use mathlib.Core.Logic.{◌≢◌, ite, if_pos, if_neg}
use Prim.Native.Nat.{ℕ, zero, suc, ◌≤◌, ◌<◌}
use native.Mathlib.Decide.{ℕ_discrete}
use native.Mathlib.Nat.{not-suc-le-zero, le_of_suc-le-suc}
use native.Mathlib.Omega.{arith}
use lib.ListN.{length, get_or, take}
use Rattle.bits.specs.Sums.{All}
use Rattle.script.specs.PlainSteps.{without, without_before}

module _ {X : Type 0} (kind : X → ℕ) (x : X) where
  pub without_gone : kind x ≢ 0 → (xs : List X) → without kind (x ∷ xs) ≡ without kind xs
  without_gone e xs = if_neg (ℕ_discrete (kind x) 0) e (x ∷ without kind xs) (without kind xs)

  pub without_stays : kind x ≡ 0 → (xs : List X) → without kind (x ∷ xs) ≡ x ∷ without kind xs
  without_stays e xs = if_pos (ℕ_discrete (kind x) 0) e (x ∷ without kind xs) (without kind xs)

  -- and how many of them are before a later element
  pub before_gone : kind x ≢ 0 → (xs : List X) (s : ℕ) → without_before kind (x ∷ xs) (suc s) ≡ without_before kind xs s
  before_gone e xs s = ap length (without_gone e (take s xs))

  pub before_stays : kind x ≡ 0 → (xs : List X) (s : ℕ) → without_before kind (x ∷ xs) (suc s) ≡ suc (without_before kind xs s)
  before_stays e xs s = ap length (without_stays e (take s xs))

module _ {X : Type 0} (kind : X → ℕ) where
  -- what holds of all holds of those that are left, and none of them is of the kind
  pub all_without : (P : X → Type 0) (xs : List X) → All P xs → All (λ x. (kind x ≡ 0) × P x) (without kind xs)
  all_without P [] h = tt
  all_without P (x ∷ xs) h = go (ℕ_discrete (kind x) 0) (all_without P xs h.1)
    where
      go : (d : Dec (kind x ≡ 0)) → All (λ x. (kind x ≡ 0) × P x) (without kind xs)
          → All (λ x. (kind x ≡ 0) × P x) (ite {C = List X} d (x ∷ without kind xs) (without kind xs))
      go (yes e) ih = ((e, h.0), ih)
      go (no e) ih = ih

  pub length_without : (xs : List X) → length (without kind xs) ≤ length xs
  length_without [] = omega arith
  length_without (x ∷ xs) = go (ℕ_discrete (kind x) 0) (length_without xs)
    where
      go : (d : Dec (kind x ≡ 0)) → length (without kind xs) ≤ length xs → length (ite {C = List X} d (x ∷ without kind xs) (without kind xs)) ≤ suc (length xs)
      go (yes e) ih = omega arith
      go (no e) ih = omega arith

  -- the element at s stands among those that are left, after as many of them as it did
  abbrev pub Stands : X → List X → ℕ → Type 0
  Stands d xs s = (without_before kind xs s < length (without kind xs)) × (get_or (without kind xs) (without_before kind xs s) d ≡ get_or xs s d)

  -- as each does that is not of the kind
  pub without_at : (d : X) (xs : List X) (s : ℕ) → s < length xs → kind (get_or xs s d) ≡ 0 → Stands d xs s
  without_at d [] s h e = absurd (not-suc-le-zero h)
  without_at d (x ∷ xs) zero h e = let z = without_stays kind x e xs in (omega (arith, ap length z), ap (λ (l : List X). get_or l 0 d) z)
  without_at d (x ∷ xs) (suc s) h e = go (ℕ_discrete (kind x) 0) (without_at d xs s (le_of_suc-le-suc h) e)
    where
      go : Dec (kind x ≡ 0) → Stands d xs s → Stands d (x ∷ xs) (suc s)
      go (yes f) ih =
          let z = without_stays kind x f xs in
          let r = before_stays kind x f xs s in
          (omega (arith, ap length z, r, ih.0), ap₂ (λ (l : List X) (k : ℕ). get_or l k d) z r ∙ ih.1)
      go (no f) ih =
          let z = without_gone kind x f xs in
          let r = before_gone kind x f xs s in
          (omega (arith, ap length z, r, ih.0), ap₂ (λ (l : List X) (k : ℕ). get_or l k d) z r ∙ ih.1)

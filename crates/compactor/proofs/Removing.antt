-- The first pair removed, and again until none is left: what is left has no pair, compacting twice is the same as once, and what is left is a subsequence.
-- Assumes nothing.
use mathlib.Core.Path.{◌≡◌, refl, sym, ap, ◌∙◌, subst}
use mathlib.Core.Logic.{◌⊎◌, inl, inr}
use mathlib.Core.Bool.{Bool, true, false, cond}
use mathlib.Core.List.Sublistᴰ
use mathlib.Core.List.{List, [], ◌∷◌, Sublistᴰ}
use Prim.Native.Nat.{ℕ, zero, suc, ◌+◌, ◌≤◌}
use native.Mathlib.Nat.{not-suc-le-zero}
use native.Mathlib.Omega.{arith}
use lib.ListN.{length}
use Rattle.steps.specs.Steps.{Step}
use Rattle.compactor.specs.Compact.{step_pair, count_after, without_first, NoPair, again, compacted}

-- ---- one removal

-- there is no pair, or two steps less
first_less : (count : ℕ) (xs : List Step) → NoPair count xs ⊎ (length (without_first count xs) + 2 ≡ length xs)
unfolding without_first NoPair
first_less count [] = inl tt
first_less count (x ∷ []) = inl tt
first_less count (x ∷ y ∷ xs) = go (step_pair count x y) refl (first_less (count_after count x) (y ∷ xs))
  where
    rest : List Step
    rest = without_first (count_after count x) (y ∷ xs)

    go : (b : Bool) → step_pair count x y ≡ b → NoPair (count_after count x) (y ∷ xs) ⊎ (length rest + 2 ≡ suc (length xs))
        → ((step_pair count x y ≡ false) × NoPair (count_after count x) (y ∷ xs)) ⊎ (length (cond b xs (x ∷ rest)) + 2 ≡ suc (suc (length xs)))
    go true e r = inr (omega arith)
    go false e (inl p) = inl (e, p)
    go false e (inr p) = inr (omega arith)

-- nothing is removed where there is none
first_none : (count : ℕ) (xs : List Step) → NoPair count xs → without_first count xs ≡ xs
unfolding without_first NoPair
first_none count [] p = refl
first_none count (x ∷ []) p = refl
first_none count (x ∷ y ∷ xs) p =
    ap (λ (b : Bool). cond b xs (x ∷ without_first (count_after count x) (y ∷ xs))) p.0 ∙ ap (λ (r : List Step). x ∷ r) (first_none (count_after count x) (y ∷ xs) p.1)

-- what is left is a subsequence
pub first_subsequence : (count : ℕ) (xs : List Step) → Sublistᴰ (without_first count xs) xs
unfolding without_first
first_subsequence count [] = Sublistᴰ.slnil
first_subsequence count (x ∷ []) = Sublistᴰ.refl (x ∷ [])
first_subsequence count (x ∷ y ∷ xs) = go (step_pair count x y) (first_subsequence (count_after count x) (y ∷ xs))
  where
    go : (b : Bool) → Sublistᴰ (without_first (count_after count x) (y ∷ xs)) (y ∷ xs) → Sublistᴰ (cond b xs (x ∷ without_first (count_after count x) (y ∷ xs))) (x ∷ y ∷ xs)
    go true s = Sublistᴰ.cons (Sublistᴰ.cons (Sublistᴰ.refl xs))
    go false s = Sublistᴰ.cons-cons refl s

-- ---- again and again

again_none : (m count : ℕ) (xs : List Step) → NoPair count xs → again m count xs ≡ xs
unfolding again
again_none zero count xs p = refl
again_none (suc m) count xs p = ap (again m count) (first_none count xs p) ∙ again_none m count xs p

again_left : (m count : ℕ) (xs : List Step) → length xs ≤ m → NoPair count (again m count xs)
unfolding again NoPair
again_left zero count [] h = tt
again_left zero count (x ∷ xs) h = absurd (not-suc-le-zero h)
again_left (suc m) count xs h = go (first_less count xs) (again_left m count (without_first count xs))
  where
    go : NoPair count xs ⊎ (length (without_first count xs) + 2 ≡ length xs)
        → (length (without_first count xs) ≤ m → NoPair count (again m count (without_first count xs))) → NoPair count (again m count (without_first count xs))
    go (inl p) ih = subst (NoPair count) (sym (again_none (suc m) count xs p)) p
    go (inr e) ih = ih (omega arith)

-- as often as is enough, or more often: the same
again_same : (m k count : ℕ) (xs : List Step) → length xs ≤ m → again (m + k) count xs ≡ again m count xs
unfolding again NoPair
again_same zero k count [] h = again_none (zero + k) count [] tt
again_same zero k count (x ∷ xs) h = absurd (not-suc-le-zero h)
again_same (suc m) k count xs h = go (first_less count xs) (again_same m k count (without_first count xs))
  where
    go : NoPair count xs ⊎ (length (without_first count xs) + 2 ≡ length xs)
        → (length (without_first count xs) ≤ m → again (m + k) count (without_first count xs) ≡ again m count (without_first count xs))
        → again (suc m + k) count xs ≡ again (suc m) count xs
    go (inl p) ih = again_none (suc m + k) count xs p ∙ sym (again_none (suc m) count xs p)
    go (inr e) ih = number ∙ ih (omega arith)
      where
        number : again (suc m + k) count xs ≡ again (m + k) count (without_first count xs)
        number = let z : suc m + k ≡ suc (m + k) = omega arith in ap (λ (t : ℕ). again t count xs) z

again_subsequence : (m count : ℕ) (xs : List Step) → Sublistᴰ (again m count xs) xs
unfolding again
again_subsequence zero count xs = Sublistᴰ.refl xs
again_subsequence (suc m) count xs = Sublistᴰ.trans (again_subsequence m count (without_first count xs)) (first_subsequence count xs)

-- ---- until none is left

module _ (count : ℕ) (xs : List Step) where
  pub none_left : NoPair count (compacted count xs)
  unfolding compacted
  none_left = again_left (length xs) count xs (omega arith)

  pub compacted_none : NoPair count xs → compacted count xs ≡ xs
  unfolding compacted
  compacted_none p = again_none (length xs) count xs p

  pub compacted_subsequence : Sublistᴰ (compacted count xs) xs
  unfolding compacted
  compacted_subsequence = again_subsequence (length xs) count xs

  -- a removal first is the same
  pub compacted_first : compacted count (without_first count xs) ≡ compacted count xs
  unfolding compacted again
  compacted_first = go (first_less count xs)
    where
      ys : List Step
      ys = without_first count xs

      go : NoPair count xs ⊎ (length (without_first count xs) + 2 ≡ length xs) → again (length ys) count ys ≡ again (length xs) count xs
      go (inl p) = ap (λ (zs : List Step). again (length zs) count zs) (first_none count xs p)
      go (inr e) =
          let z : length xs ≡ suc (length ys + 1) = omega arith in
          sym (again_same (length ys) 1 count ys (omega arith)) ∙ ap (λ (t : ℕ). again t count xs) (sym z)

-- "Compacting twice is the same as once"
pub compacted_twice : (count : ℕ) (xs : List Step) → compacted count (compacted count xs) ≡ compacted count xs
compacted_twice count xs = compacted_none count (compacted count xs) (none_left count xs)

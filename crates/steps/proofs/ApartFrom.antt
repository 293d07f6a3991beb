-- The list of the variables in which two cubes differ, from their codes.
-- Assumes nothing.
use mathlib.Core.Path.{◌≡◌, refl, sym, ap, ap₂, ◌∙◌, subst}
use mathlib.Core.Logic.{◌≢◌}
use mathlib.Core.Bool.{Bool, true, false, not, cond}
use mathlib.Core.List.{List, [], ◌∷◌}
use Prim.Native.Nat.{ℕ, zero, suc, ◌+◌, ◌≤◌, ◌<◌}
use native.Mathlib.Decide.{ℕ_discrete}
use native.Mathlib.Omega.{arith}
use borrow.Author.Tests.{eq-eqb, ne_eqb}
use Rattle.bits.specs.Below.{those}
use Rattle.bits.specs.Sums.{All}
use Rattle.cube.specs.declared.Cube.{Cube}
use Rattle.cube.specs.Cubes.{code, differ_at, apart}

-- ascending, from k on and below e
abbrev pub Rising : ℕ → ℕ → List ℕ → Type 0
Rising k e [] = Unit {0}
Rising k e (v ∷ l) = (k ≤ v) × (v < e) × Rising (suc v) e l

rising_other : (j k e : ℕ) (l : List ℕ) → Rising k e l → j < k → All (λ v. j ≢ v) l
rising_other j k e [] r h = tt {0}
rising_other j k e (v ∷ l) r h = (omega (arith, r.0), rising_other j (suc v) e l r.2 (omega (arith, r.0)))

-- an ascending list is those of the numbers from k on, and below e, that pass a test, where its own numbers pass it and no other does
module _ (f : ℕ → Bool) (P : ℕ → Type 0) (pass : (v : ℕ) → P v → f v ≡ true) (e : ℕ) where
  those_are : (m k : ℕ) → k + m ≡ e → (l : List ℕ) → Rising k e l → All P l → ((j : ℕ) → k ≤ j → j < e → All (λ v. j ≢ v) l → f j ≡ false) → those f m k ≡ l
  unfolding those
  those_are zero k s [] r a h = refl
  those_are zero k s (v ∷ l) r a h = absurd (omega (arith, r.0, r.1))
  those_are (suc m) k s [] r a h =
      ap₂ (λ (b : Bool) (t : List ℕ). cond b (k ∷ t) t) (h k (omega arith) (omega arith) (tt {0}))
      (those_are m (suc k) (omega arith) [] (tt {0}) (tt {0}) (λ j x y g. h j (omega arith) y g))
  those_are (suc m) k s (v ∷ l) r a h = elim (ℕ_discrete k v) [
    | yes p ↦
        ap₂ (λ (b : Bool) (t : List ℕ). cond b (k ∷ t) t) (ap f p ∙ pass v a.0)
        (those_are m (suc k) (omega arith) l (subst (λ (x : ℕ). Rising (suc x) e l) (sym p) r.2) a.1 (λ j x y g. h j (omega arith) y (omega arith, g)))
        ∙ ap (λ (x : ℕ). x ∷ l) p
    | no p ↦
        ap₂ (λ (b : Bool) (t : List ℕ). cond b (k ∷ t) t)
        (h k (omega arith) (omega arith) (p, rising_other k (suc v) e l r.2 (omega (arith, r.0))))
        (those_are m (suc k) (omega arith) (v ∷ l) (omega (arith, r.0), r.1, r.2) a (λ j x y g. h j (omega arith) y g))
  ]

-- two cubes differ in the variables of an ascending list, and in no other
pub apart_of : (n : ℕ) (c d : Cube) (l : List ℕ) → Rising 0 n l → All (λ v. code d v ≢ code c v) l
    → ((k : ℕ) → k < n → All (λ v. k ≢ v) l → code c k ≡ code d k) → apart n c d ≡ l
unfolding apart
apart_of n c d l r a h =
    those_are (differ_at c d) (λ v. code d v ≢ code c v) (λ v e. ap not (ne_eqb (code c v) (code d v) (λ p. e (sym p)))) n n 0 (omega arith) l r a
    (λ j x y g. ap not (eq-eqb (code c j) (code d j) (h j y g)))

-- The first of the least of three numbers, by the tests that find it.
-- Assumes nothing.
use mathlib.Core.Path.{◌≡◌, refl}
use mathlib.Core.Bool.{Bool, true, false, ◌&&◌}
use Prim.Native.Nat.{ℕ, ◌≤◌, ◌<◌, min}
use native.Mathlib.Omega.{arith}
use borrow.Author.Tests.{leb-true, le-leb, lt-leb}
use lib.Dec.{leb}
use Rattle.trees.specs.declared.Expansion.TheVariants.{Shannon, Positive, Negative}
use Rattle.trees.specs.Least.{first_of_three}

module _ (s p n : ℕ) where
  pub first_shannon : s ≤ min p n → Shannon ≡ first_of_three s p n
  first_shannon h = rw (le-leb s p (omega arith), le-leb s n (omega arith))

  beyond : min p n < s → (leb s p && leb s n) ≡ false
  beyond h = go (leb s p) (leb s n) refl refl
    where
      go : (x y : Bool) → leb s p ≡ x → leb s n ≡ y → (x && y) ≡ false
      go true true a b = absurd (omega (arith, leb-true s p a, leb-true s n b, h))
      go true false a b = refl
      go false y a b = refl

  pub first_positive : min p n < s → p ≤ n → Positive ≡ first_of_three s p n
  first_positive h l = rw (beyond h, le-leb p n l)

  pub first_negative : min p n < s → n < p → Negative ≡ first_of_three s p n
  first_negative h l = rw (beyond h, lt-leb p n l)

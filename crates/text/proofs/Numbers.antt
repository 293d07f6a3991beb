-- A number's digits: the last one and those before it, and how many they are.
-- Assumes nothing.
use mathlib.Core.Path.{◌≡◌, refl, sym, ap}
use mathlib.Core.Logic.{⊎_elim}
use mathlib.Core.Bool.{Bool, true, false, cond}
use mathlib.Core.List.{List, [], ◌∷◌, ◌++◌}
use Prim.Native.Nat.{ℕ, zero, suc, ◌+◌, ◌*◌, ◌-◌, ◌/◌, ◌%◌, ◌^◌, ◌≤◌, ◌<◌}
use native.Mathlib.Omega.{arith}
use lib.Dec.{ltb, leb}
use lib.ListN.{length, length-append}
use borrow.Author.Tests.{ltb-false, leb-true, le-ltb, lt-ltb, le-leb, lt-leb}
use Rattle.bits.proofs.Bools.{same_bool, below_or}
use Rattle.text.specs.Places.{Laid}
use Rattle.text.specs.Numbers.{decimal_by, decimal}
use Rattle.text.proofs.Laying.{after}

-- only what a failed test leads to matters
on_false : {A : Type 0} (t : Bool) (z x y : A) → (t ≡ false → x ≡ y) → cond t z x ≡ cond t z y
on_false true z x y f = refl
on_false false z x y f = f refl

-- as many turns as the number are enough
enough : (f g x : ℕ) → x ≤ f → x ≤ g → decimal_by f x ≡ decimal_by g x
unfolding decimal_by
enough zero zero x h k = refl
enough zero (suc g) x h k = let e : x ≡ 0 = omega arith in rw e
enough (suc f) zero x h k = let e : x ≡ 0 = omega arith in rw e
enough (suc f) (suc g) x h k =
    on_false (ltb x 10) _ _ _ (λ e. let l : 10 ≤ x = ltb-false x 10 e in ap (λ (s : List ℕ). s ++ ((48 + x % 10) ∷ [])) (enough f g (x / 10) (omega arith) (omega arith)))

pub decimal_small : (x : ℕ) → x < 10 → decimal x ≡ (48 + x) ∷ []
unfolding decimal_by
decimal_small zero h = refl
decimal_small (suc x) h = simp (lt-ltb (suc x) 10 h)

pub decimal_large : (x : ℕ) → 10 ≤ x → decimal x ≡ decimal (x / 10) ++ ((48 + x % 10) ∷ [])
unfolding decimal_by
decimal_large zero h = absurd (omega arith)
decimal_large (suc x) h =
    simp (le-ltb (suc x) 10 h) (ap (λ (s : List ℕ). s ++ ((48 + suc x % 10) ∷ [])) (enough x (suc x / 10) (suc x / 10) (omega arith) (omega arith)))

-- a number below 10^k has at most k digits, where k is not 0
pub decimal_short : (k x : ℕ) → x < 10 ^ suc k → length (decimal x) ≤ suc k
decimal_short zero x h = rw (decimal_small x (omega arith)) (omega arith)
decimal_short (suc k) x h =
    ⊎_elim
    (λ (small : x < 10). rw (decimal_small x small) (omega arith))
    (λ (large : 10 ≤ x). rw (decimal_large x large) (simp length-append (omega (arith, decimal_short k (x / 10) (omega arith)))))
    (below_or x 10)

-- the test for one more digit, with no number above `most` on the way
pub digit_above : (x d most : ℕ) → most < d → false ≡ leb (x * 10 + d) most
digit_above x d most h = sym (lt-leb (x * 10 + d) most (omega arith))

pub digit_room : (x d most : ℕ) → d ≤ most → leb x ((most - d) / 10) ≡ leb (x * 10 + d) most
digit_room x d most h =
    same_bool (leb x ((most - d) / 10)) (leb (x * 10 + d) most)
    (λ e. le-leb (x * 10 + d) most (omega (arith, leb-true x ((most - d) / 10) e)))
    (λ e. le-leb x ((most - d) / 10) (omega (arith, leb-true (x * 10 + d) most e)))

-- a number laid digit by digit
pub number_small : {b b' : List ℕ} {at r : ℕ} (x : ℕ) → x < 10 → Laid b at ((48 + x) ∷ []) r b' → Laid b at (decimal x) r b'
number_small x h l = rw (decimal_small x h) l

pub number_large : {b b' b'' : List ℕ} {at p q : ℕ} (x : ℕ) → 10 ≤ x → Laid b at (decimal (x / 10)) p b' → Laid b' p ((48 + x % 10) ∷ []) q b''
    → Laid b at (decimal x) q b''
number_large x h f g = rw (decimal_large x h) (after f g)

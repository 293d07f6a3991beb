-- Lists of any kind of element: how many pass a test, the sum modulo 2 of a weight, and the first that fails.
-- Assumes nothing.
use Rattle.std.specs.Prelude.{ℕ, suc, ◌+◌, Bool, true, false, cond, not, List, [], ◌∷◌}

-- the sum of two bits modulo 2
infixl 40 ◌⊕◌
abbrev pub ◌⊕◌ : Bool → Bool → Bool
true ⊕ b = not b
false ⊕ b = b

-- 1 where the test passes
abbrev pub one_if : Bool → ℕ
one_if true = 1
one_if false = 0

-- how many elements pass a test
unfoldable pub tally : {A : Type 0} → (A → Bool) → List A → ℕ
tally w [] = 0
tally w (x ∷ l) = one_if (w x) + tally w l

-- the sum modulo 2 of a weight over a list
unfoldable pub sum : {A : Type 0} → (A → Bool) → List A → Bool
sum w [] = false
sum w (x ∷ l) = w x ⊕ sum w l

-- P holds of every element
abbrev pub All : {A : Type 0} → (A → Type 0) → List A → Type 0
All P [] = Unit {0}
All P (x ∷ l) = P x × All P l

-- the lowest place whose element fails the test, or the length where none does
unfoldable pub first_bad : {A : Type 0} → (A → Bool) → List A → ℕ
first_bad f [] = 0
first_bad f (x ∷ l) = cond (f x) (suc (first_bad f l)) 0

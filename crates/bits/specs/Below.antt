-- Tests, sums, lists and a choice over the numbers below a bound.
-- Assumes nothing.
use Rattle.std.specs.Prelude.{◌≡◌, ℕ, zero, suc, ◌+◌, ◌≤◌, ◌<◌, Bool, true, false, cond, ◌&&◌, List, [], ◌∷◌}

-- the test passes at each number below n
abbrev pub all_below : ℕ → (ℕ → Bool) → Bool
all_below zero f = true
all_below (suc n) f = all_below n f && f n

-- those of the m numbers from k on that pass the test, ascending
unfoldable pub those : (ℕ → Bool) → ℕ → ℕ → List ℕ
those f zero k = []
those f (suc m) k = cond (f k) (k ∷ those f m (suc k)) (those f m (suc k))

-- the lowest of the m numbers from k on that passes the test; k + m where none does
unfoldable pub first_from : (ℕ → Bool) → ℕ → ℕ → ℕ
first_from f zero k = k
first_from f (suc m) k = cond (f k) k (first_from f m (suc k))

-- none of the numbers from k on, up to x, passes the test; x is at most the end
pub record NoneTo (f : ℕ → Bool) (k end x : ℕ) : Type 0 where
  pub low : k ≤ x
  pub most : x ≤ end
  pub none : (s : ℕ) → k ≤ s → s < x → f s ≡ false

-- x is the lowest of the numbers from k on that passes the test, or the end
pub record FirstIn (f : ℕ → Bool) (k end x : ℕ) : Type 0 where
  pub before : NoneTo f k end x
  pub passes : x < end → f x ≡ true

-- numbers from k on, ascending, none of them twice
abbrev pub Ascending : ℕ → List ℕ → Type 0
Ascending k [] = Unit {0}
Ascending k (x ∷ l) = (k ≤ x) × Ascending (suc x) l

-- f 0 + f 1 + .. + f (m - 1)
unfoldable pub sum_below : ℕ → (ℕ → ℕ) → ℕ
sum_below zero f = 0
sum_below (suc m) f = sum_below m f + f m

-- f 0, f 1, .., f (m - 1)
unfoldable pub list_below : {A : Type 0} → ℕ → (ℕ → A) → List A
list_below zero f = []
list_below (suc m) f = f 0 ∷ list_below m (λ k. f (suc k))

-- of the numbers below m the one that no other comes before, and of several such the smallest; `before q p` says that q comes before p
unfoldable pub first_below : (ℕ → ℕ → Bool) → ℕ → ℕ
first_below before zero = 0
first_below before (suc m) = cond (before m (first_below before m)) m (first_below before m)

-- of the numbers below m, p has the least f, of those with as little the least g, and of those with as little it is the smallest
pub record LeastThen (f g : ℕ → ℕ) (m p : ℕ) : Type 0 where
  pub inside : p < m
  pub least : (q : ℕ) → q < m → f p ≤ f q
  pub then_least : (q : ℕ) → q < m → f q ≡ f p → g p ≤ g q
  pub then_smallest : (q : ℕ) → q < m → f q ≡ f p → g q ≡ g p → p ≤ q

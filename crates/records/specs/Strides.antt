-- Inside: a loop over a list that passes several elements at once. No call of document 01 needs it to be read.
-- Assumes nothing.
use Rattle.std.specs.Prelude.{ℕ, ◌+◌, ◌-◌, Bool, cond, ◌&&◌, List, leb, length, get_or}
use Rattle.bits.specs.Below.{all_below}
use Rattle.bits.specs.Sums.{one_if}

-- m elements are left from place i on, and all of them pass the test; d is never read
unfoldable pub pass_from : {A : Type 0} → (A → Bool) → A → ℕ → List A → ℕ → Bool
pass_from test d m l i = leb m (length l - i) && all_below m (λ k. test (get_or l (i + k) d))

-- how many elements are passed at once from place i on: m where these pass; else 1 or 0, as the one at i passes or fails
unfoldable pub stride_from : {A : Type 0} → (A → Bool) → A → ℕ → List A → ℕ → ℕ
stride_from test d m l i = cond (pass_from test d m l i) m (one_if (test (get_or l i d)))

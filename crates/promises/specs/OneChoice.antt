-- What it means that a tree has one expansion for each variable, and the choice that a tree is. Document 02, Ten: "digit 0 Shannon, 1 positive Davio, 2 negative Davio, variable
-- 0 the lowest digit".
-- Assumes nothing.
use Rattle.std.specs.Prelude.{◌≡◌, ℕ, suc, ◌*◌, ◌/◌, ◌%◌, ◌^◌}
use Rattle.bits.specs.Below.{sum_below}
use Rattle.trees.specs.declared.Expansion.{Expansion}
use Rattle.trees.specs.Trees.{Tree, leaf, node}
use Rattle.promises.specs.CheapestTree.{order}

-- "One choice for each variable": every node of variable k has the expansion e k
abbrev pub OneForEach : (ℕ → Expansion) → {n : ℕ} → Tree n → Type 0
OneForEach e leaf = Unit {0}
OneForEach e (node x t u) = (x ≡ e 0) × OneForEach (λ k. e (suc k)) t × OneForEach (λ k. e (suc k)) u

-- digit k of a choice, the lowest first
abbrev pub digit_of : ℕ → ℕ → ℕ
digit_of x k = x / 3 ^ k % 3

-- the choice of n expansions: the sum of their digits, variable 0's times 1, variable 1's times 3 and so on
abbrev pub choice_of : ℕ → (ℕ → Expansion) → ℕ
choice_of n e = sum_below n (λ k. order (e k) * 3 ^ k)

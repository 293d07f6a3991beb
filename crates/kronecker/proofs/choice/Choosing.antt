-- A choice by its digits, and the halves of a vector in one word: what the list of a choice is made of.
-- Assumes nothing.
use mathlib.Core.Path.{◌≡◌, refl, sym, ap, ap₂, ◌∙◌}
use Prim.Native.Nat.{ℕ, zero, suc, ◌/◌, ◌%◌, ◌<◌}
use lib.Bits.{bit_xor}
use Rattle.bits.specs.Packed.{alone, lowered_word, lowered, summed}
use Rattle.bits.proofs.packed.Alone.{lowered_alone}
use Rattle.trees.specs.declared.Expansion.{Expansion}
use Rattle.trees.specs.declared.Expansion.TheVariants.{Negative}
use Rattle.trees.specs.Trees.{node}
use Rattle.trees.specs.Words.{upper_half}
use Rattle.kronecker.specs.Choices.{expansion_of, choice_tree}

-- every digit above 1 is negative Davio
pub high_digit : (d : ℕ) → (d ≡ 0 → ⊥) → (d ≡ 1 → ⊥) → Negative ≡ expansion_of d
high_digit zero p q = absurd (p refl)
high_digit (suc zero) p q = absurd (q refl)
high_digit (suc (suc d)) p q = refl

-- a choice at the node of its lowest digit
pub choice_node : (m x y : ℕ) (e : Expansion) → e ≡ expansion_of (x % 3) → y ≡ x / 3 → choice_tree (suc m) x ≡ node e (choice_tree m y) (choice_tree m y)
unfolding choice_tree
choice_node m x y e is rest = sym (ap₂ (λ (d : Expansion) (z : ℕ). node d (choice_tree m z) (choice_tree m z)) is rest)

-- the change and the upper half, where the vector stands in one word
module _ (k w v : ℕ) (h : k < 6) (is : v ≡ lowered_word k w) where
  pub change_alone : alone v ≡ lowered k (alone w)
  change_alone = ap alone is ∙ sym (lowered_alone k w h)

  pub upper_alone : alone (bit_xor w v) ≡ upper_half k (alone w)
  unfolding summed
  upper_alone = ap (summed (alone w)) change_alone

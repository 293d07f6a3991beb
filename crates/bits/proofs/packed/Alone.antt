-- Up to six variables: every bit stands in the first word, and what is done to four words is done to that one.
-- Assumes nothing.
use mathlib.Core.Path.{◌≡◌, refl, sym, ap, ◌∙◌}
use mathlib.Core.List.{List}
use Prim.Native.Nat.{ℕ, ◌+◌, ◌*◌, ◌%◌, ◌^◌, ◌≤◌, ◌<◌}
use native.Mathlib.Nat.{zero-add, zero-mul}
use native.Mathlib.Omega.{arith}
use borrow.Author.Tests.{eqb-true}
use lib.Dec.{eqb}
use lib.ListN.{length, get_or, get_or-eq_default}
use Rattle.bits.specs.Bits.{bit}
use Rattle.bits.specs.Packed.{alone, bit_at, word_from, packed, mask_of, lowered_word, raised_word, lowered, raised}
use Rattle.bits.proofs.Bools.{all_at}
use Rattle.bits.proofs.Below.{sum_none}
use Rattle.bits.proofs.packed.Words.{word_bit}
use Rattle.bits.proofs.packed.Passes.{lowered_each, raised_each}

pub alone_bit : (x t : ℕ) → t < 64 → bit_at (alone x) t ≡ bit x t
alone_bit x t h = ap (bit_at (alone x)) (sym (zero-add t)) ∙ word_bit (alone x) 0 t h

-- ---- at most 64 bytes

past_none : (l : List ℕ) (from : ℕ) → length l ≤ from → word_from l from ≡ 0
unfolding word_from
past_none l from h =
    sum_none 64 (λ i. get_or l (from + i) 0 % 2 * 2 ^ i)
    (λ i b. ap (λ (x : ℕ). x % 2 * 2 ^ i) (get_or-eq_default l 0 {n = from + i} (omega arith)) ∙ zero-mul (2 ^ i))

pub packed_alone : (l : List ℕ) → length l ≤ 64 → packed l ≡ alone (word_from l 0)
unfolding packed
packed_alone l h = λ i. record { a = word_from l 0; b = past_none l 64 h i; c = past_none l 128 (omega arith) i; d = past_none l 192 (omega arith) i }

-- ---- a pass of a variable below 6 finds no bit in the other words, and leaves none there

module _ (k x : ℕ) (h : k < 6) where
  pub lowered_alone : lowered k (alone x) ≡ alone (lowered_word k x)
  unfolding lowered_word mask_of
  lowered_alone =
      let none : 0 ≡ lowered_word k 0 = sym (eqb-true _ _ (all_at 6 (λ k. eqb (lowered_word k 0) 0) refl k h)) in
      sym (lowered_each k (alone x) h _ _ _ _ refl none none none)

  pub raised_alone : raised k (alone x) ≡ alone (raised_word k x)
  unfolding raised_word mask_of
  raised_alone =
      let none : 0 ≡ raised_word k 0 = sym (eqb-true _ _ (all_at 6 (λ k. eqb (raised_word k 0) 0) refl k h)) in
      sym (raised_each k (alone x) h _ _ _ _ refl none none none)

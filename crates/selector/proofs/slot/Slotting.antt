-- The slot of a label, bit by bit: what the loop over the lists of a map keeps.
-- Assumes nothing.
use mathlib.Core.Path.{◌≡◌, sym, ap, ap₂, ◌∙◌, subst}
use mathlib.Core.List.{List, [], ◌∷◌}
use Prim.Native.Nat.{ℕ, zero, suc, ◌+◌, ◌*◌, ◌%◌, ◌^◌, ◌≤◌, ◌<◌}
use native.Mathlib.Nat.{mod-lt, zero-lt-suc, pow-suc}
use native.Mathlib.Omega.{arith}
use lib.ListN.{length, get_or}
use lib.Pow.{pow_mono}
use Rattle.bits.specs.Below.{sum_below}
use Rattle.bits.proofs.Bits.{shl_bit}
use Rattle.bits.proofs.Weights.{weighted_lt}
use Rattle.records.specs.declared.Refusal.{Refusal}
use Rattle.records.specs.Answers.{Outcome, accepted, refused}
use Rattle.cube.specs.Lists.{list_value, trues}
use Rattle.cube.specs.Calls.{value_outcome}
use Rattle.cube.proofs.Calls.{value_accepts}
use Rattle.selector.specs.Maps.{most_lists, part, cubes_at, slot_of}
use Rattle.selector.specs.Answers.{map_accepted, list_refused}
use Rattle.selector.specs.Calls.{slot_turns}
use Rattle.selector.specs.Turns.{Mapped}
use Rattle.selector.proofs.Parts.{sum_zero, sum_next}
use Rattle.selector.proofs.Turning.{Passing, passing_none, passing_more, passing_refused, passing_all}

-- ---- one bit above a number

module _ (slot k b : ℕ) (small : slot < 2 ^ k) (few : k < most_lists) (bit : b < 2) where
  shifted : (b * 2 ^ k) % 2 ^ 64 ≡ b * 2 ^ k
  shifted = shl_bit k b 64 bit (omega arith)

  pub bit_above : slot + (b * 2 ^ k) % 2 ^ 64 ≡ slot + b * 2 ^ k
  bit_above = ap (λ (x : ℕ). slot + x) shifted

  pub bit_fits : slot + (b * 2 ^ k) % 2 ^ 64 < 2 ^ 64
  bit_fits = omega (arith, bit_above, grown slot b (2 ^ k) small bit, pow-suc 2 k, pow_mono {i = suc k} {j = 64} (omega arith))
    where
      grown : (x y p : ℕ) → x < p → y < 2 → x + y * p < 2 * p
      grown x zero p h l = omega arith
      grown x (suc zero) p h l = omega arith
      grown x (suc (suc y)) p h l = absurd (omega arith)

-- ---- the bits so far

-- the value of list k at the label
abbrev pub bit_at : ℕ → List ℕ → List ℕ → ℕ → ℕ → ℕ
bit_at n lists lengths a k = list_value n (cubes_at lists lengths k) a

pub bit_small : (n : ℕ) (lists lengths : List ℕ) (a k : ℕ) → bit_at n lists lengths a k < 2
unfolding list_value
bit_small n lists lengths a k = mod-lt (trues n (cubes_at lists lengths k) a) (zero-lt-suc 1)

-- the number of the first k bits
abbrev pub slot_below : ℕ → List ℕ → List ℕ → ℕ → ℕ → ℕ
slot_below n lists lengths a k = sum_below k (λ i. bit_at n lists lengths a i * 2 ^ i)

module _ (n : ℕ) (lists lengths : List ℕ) (a : ℕ) where
  pub slot_small : (k : ℕ) → slot_below n lists lengths a k < 2 ^ k
  slot_small k = weighted_lt (bit_at n lists lengths a) (bit_small n lists lengths a) k

  pub slot_next : (k slot b r : ℕ) → slot ≡ slot_below n lists lengths a k → b ≡ bit_at n lists lengths a k → r ≡ slot + b * 2 ^ k
      → r ≡ slot_below n lists lengths a (k + 1)
  slot_next k slot b r es eb er =
      er ∙ ap₂ (λ (x y : ℕ). x + y * 2 ^ k) es eb ∙ sym (sum_next (λ i. bit_at n lists lengths a i * 2 ^ i) k)

-- ---- the loop

abbrev pub value_at : ℕ → List ℕ → List ℕ → ℕ → ℕ → Outcome
value_at n lists lengths a k = value_outcome n (part lists lengths k) a

-- the first k bits of the slot are known, and their lists are accepted
pub record Slotting (n : ℕ) (lists lengths : List ℕ) (a slot k : ℕ) : Type 0 where
  pub slot_is : slot ≡ slot_below n lists lengths a k
  pub passing : Passing (value_at n lists lengths a) k

module _ (n : ℕ) (lists lengths : List ℕ) (a : ℕ) where
  pub slotting_none : (k : ℕ) → k ≡ 0 → Slotting n lists lengths a 0 k
  slotting_none k ek = subst (Slotting n lists lengths a 0) (sym ek) (record {
    slot_is = sym (sum_zero (λ i. bit_at n lists lengths a i * 2 ^ i));
    passing = passing_none (value_at n lists lengths a);
  })

  module _ (m : Mapped lists lengths) (slot k : ℕ) (r : Slotting n lists lengths a slot k) where
    module _ (h : k < length lengths) (list : List ℕ) (part_is : list ≡ part lists lengths k) (o : Outcome) (eo : o ≡ value_outcome n list a) where
      found : o ≡ value_at n lists lengths a k
      found = eo ∙ ap (λ (b : List ℕ). value_outcome n b a) part_is

      pub slotting_refused : (q : Refusal) → o ≡ refused q → list_refused q k ≡ slot_turns n lists lengths a
      unfolding slot_turns
      slotting_refused q e =
          sym (passing_refused (value_at n lists lengths a) (length lengths) k q (map_accepted (slot_of n lists lengths a)) r.passing h (sym found ∙ e))

      module _ (b t : ℕ) (e : o ≡ accepted (b ∷ t ∷ [])) where
        bit_is : b ≡ bit_at n lists lengths a k
        bit_is = ap (λ (v : List ℕ). get_or v 0 0) (value_accepts n (part lists lengths k) a (b ∷ t ∷ []) (sym found ∙ e)).value

        -- what with_bit needs
        pub slotting_bit : (slot < 2 ^ k) × ((k < most_lists) × (b < 2))
        slotting_bit = (
          subst (λ (x : ℕ). x < 2 ^ k) (sym r.slot_is) (slot_small n lists lengths a k),
          (omega (arith, m.few), subst (λ (x : ℕ). x < 2) (sym bit_is) (bit_small n lists lengths a k)),
        )

        pub slotting_more : (slot' : ℕ) → slot' ≡ slot + b * 2 ^ k → (next : ℕ) → next ≡ k + 1 → Slotting n lists lengths a slot' next
        slotting_more slot' es next en = subst (Slotting n lists lengths a slot') (sym en) (record {
          slot_is = slot_next n lists lengths a k slot b slot' r.slot_is bit_is es;
          passing = passing_more (value_at n lists lengths a) k r.passing (record { values = b ∷ t ∷ []; is = sym found ∙ e });
        })

    pub slotting_done : k ≤ length lengths → length lengths ≤ k → map_accepted slot ≡ slot_turns n lists lengths a
    unfolding slot_turns slot_of
    slotting_done w h =
        let e : k ≡ length lengths = omega arith in
        ap map_accepted (r.slot_is ∙ ap (slot_below n lists lengths a) e)
        ∙ sym (passing_all (value_at n lists lengths a) (length lengths) k _ r.passing w h)

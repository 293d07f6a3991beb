-- Slots: what an accepted answer of slot says, list by list and bit by bit, and which maps have one.
-- Assumes nothing.
use mathlib.Core.Path.{◌≡◌, sym, ap, ◌∙◌}
use mathlib.Core.Logic.{◌≢◌, ⊎_elim}
use mathlib.Core.List.{List}
use Prim.Native.Nat.{ℕ, ◌*◌, ◌^◌, ◌≤◌, ◌<◌}
use native.Mathlib.Omega.{arith}
use borrow.Author.Tests.{le-ltb}
use lib.ListN.{length}
use Rattle.bits.specs.Bits.{bit}
use Rattle.bits.specs.Below.{sum_below}
use Rattle.bits.proofs.Bools.{below_or}
use Rattle.bits.proofs.Bits.{bit_high}
use Rattle.bits.proofs.Below.{sum_cong}
use Rattle.bits.proofs.Weights.{weighted_bit}
use Rattle.records.specs.Answers.{refused, refusal}
use Rattle.records.proofs.Answers.{and_then_lem, and_not, unless_fails}
use Rattle.cube.specs.Lists.{cubes, most_variables, list_value}
use Rattle.cube.specs.Calls.{check_at, value_outcome}
use Rattle.cube.proofs.Lists.{AcceptedList, accepts_check}
use Rattle.cube.proofs.Calls.{AcceptedAt, value_accepts, accepts_value}
use Rattle.selector.specs.Maps.{part, cubes_at, slot_of}
use Rattle.selector.specs.Answers.{map_accepted, list_refused}
use Rattle.selector.specs.Calls.{check_map, slot_turns, slot_outcome}
use Rattle.selector.specs.Turns.{Mapped}
use Rattle.selector.proofs.Turning.{Passing, answer_same, turns_accept, turns_rest, turns_pass, found_refused, check_accepted, check_answers}
use Rattle.selector.proofs.Checks.{map_accepts, accepts_map}
use Rattle.selector.proofs.slot.Slotting.{bit_at, bit_small, slot_small, value_at}

-- ---- an accepted slot

-- the map passes, and so do the label and each list, by value; the answer is the slot
pub record AcceptedSlot (n : ℕ) (lists lengths : List ℕ) (a slot : ℕ) : Type 0 where
  pub map_is : Mapped lists lengths
  pub each : (k : ℕ) → k < length lengths → AcceptedAt n (part lists lengths k) a
  pub slot_is : slot ≡ slot_of n lists lengths a

module _ (n : ℕ) (lists lengths : List ℕ) (a : ℕ) where
  pub slot_accepts : (slot : ℕ) → slot_outcome n lists lengths a ≡ map_accepted slot → AcceptedSlot n lists lengths a slot
  unfolding slot_outcome slot_turns
  slot_accepts slot e =
      let t = check_answers (check_map (length lists) lengths) (slot_turns n lists lengths a) slot e in
      record {
        map_is = map_accepts lists lengths t.0.values t.0.is;
        each = λ k h.
            let v = turns_accept (value_at n lists lengths a) (length lengths) (map_accepted (slot_of n lists lengths a)) slot t.1 k h in
            (value_accepts n (part lists lengths k) a v.values v.is).at;
        slot_is = sym (answer_same (turns_rest (value_at n lists lengths a) (length lengths) (map_accepted (slot_of n lists lengths a)) slot t.1));
      }

  -- and back: such a map has a slot at the label
  pub accepts_slot : Mapped lists lengths → ((k : ℕ) → k < length lengths → AcceptedAt n (part lists lengths k) a)
      → slot_outcome n lists lengths a ≡ map_accepted (slot_of n lists lengths a)
  unfolding slot_outcome slot_turns Passing
  accepts_slot m each =
      check_accepted (check_map (length lists) lengths) (slot_turns n lists lengths a) _ (accepts_map lists lengths m)
      ∙ turns_pass (value_at n lists lengths a) (length lengths) (λ k h. record { values = _; is = accepts_value n (part lists lengths k) a (each k h) })
      (map_accepted (slot_of n lists lengths a))

  -- where the label has a bit at or above n, it is refused so, by 6 at list 0
  pub label_refused : Mapped lists lengths → AcceptedList cubes most_variables n (part lists lengths 0) → 2 ^ n ≤ a
      → slot_outcome n lists lengths a ≡ list_refused (refusal 6 0) 0
  unfolding slot_outcome slot_turns value_outcome check_at
  label_refused m first high =
      let found : value_at n lists lengths a 0 ≡ refused (refusal 6 0) =
      and_not _ _ (refusal 6 0) (and_then_lem _ _ _ (accepts_check cubes most_variables n (part lists lengths 0) first) ∙ unless_fails _ 6 0 _ (le-ltb a (2 ^ n) high)) in
      check_accepted (check_map (length lists) lengths) (slot_turns n lists lengths a) _ (accepts_map lists lengths m)
      ∙ found_refused (value_at n lists lengths a) (length lengths) _ (refusal 6 0) 0 (record { below = m.some; found = found; before = λ i h. absurd (omega arith) })

  -- ---- its bits

  -- bit k is the value of list k, ..
  pub slot_bit : (k : ℕ) → k < length lengths → bit (slot_of n lists lengths a) k ≡ list_value n (cubes_at lists lengths k) a
  unfolding slot_of
  slot_bit k h = weighted_bit (bit_at n lists lengths a) (bit_small n lists lengths a) (length lengths) k h

  -- .. and no bit is set above the last list's
  pub slot_high : (k : ℕ) → length lengths ≤ k → bit (slot_of n lists lengths a) k ≡ 0
  unfolding slot_of
  slot_high k h = bit_high (length lengths) (slot_of n lists lengths a) k (slot_small n lists lengths a (length lengths)) h

-- ---- two maps with as many lists

module _ (n : ℕ) (lists lengths lists' lengths' : List ℕ) (a : ℕ) (many : length lengths ≡ length lengths') where
  -- lists with the same values have the same slot
  pub same_slot : ((k : ℕ) → k < length lengths → list_value n (cubes_at lists lengths k) a ≡ list_value n (cubes_at lists' lengths' k) a)
      → slot_of n lists lengths a ≡ slot_of n lists' lengths' a
  unfolding slot_of
  same_slot same =
      sum_cong (length lengths) (λ k. list_value n (cubes_at lists lengths k) a * 2 ^ k) (λ k. list_value n (cubes_at lists' lengths' k) a * 2 ^ k)
      (λ k h. ap (λ (x : ℕ). x * 2 ^ k) (same k h))
      ∙ ap (λ (m : ℕ). sum_below m (λ k. list_value n (cubes_at lists' lengths' k) a * 2 ^ k)) many

  -- lists that are the same but one have slots that are the same but for its bit
  pub other_bits : (j : ℕ) → ((k : ℕ) → k < length lengths → k ≢ j → part lists lengths k ≡ part lists' lengths' k)
      → (k : ℕ) → k ≢ j → bit (slot_of n lists lengths a) k ≡ bit (slot_of n lists' lengths' a) k
  other_bits j same k d = ⊎_elim below above (below_or k (length lengths))
    where
      below : k < length lengths → bit (slot_of n lists lengths a) k ≡ bit (slot_of n lists' lengths' a) k
      below h = rw (slot_bit n lists lengths a k h, slot_bit n lists' lengths' a k (omega arith), same k h d)

      above : length lengths ≤ k → bit (slot_of n lists lengths a) k ≡ bit (slot_of n lists' lengths' a) k
      above h = slot_high n lists lengths a k h ∙ sym (slot_high n lists' lengths' a k (omega arith))

-- The reasons of a map that were shown, by the outcome alone: the slot is that of slot; the number of each list is that of its true products, whose places stand after those
-- of the lists before it; and the bits of the slot are the parities of the numbers.
-- Assumes nothing.
use mathlib.Core.Path.{◌≡◌, sym, ap, ap₂, ◌∙◌, subst}
use mathlib.Core.List.{List, ◌++◌}
use Prim.Native.Nat.{ℕ, ◌*◌, ◌%◌, ◌≤◌, ◌<◌}
use native.Mathlib.Nat.{le_refl}
use native.Mathlib.Omega.{arith}
use lib.ListN.{length, get_or, drop, length-append}
use lib.Seq.{drop_at}
use Rattle.bits.specs.Bits.{bit}
use Rattle.bits.specs.Below.{sum_below}
use Rattle.bits.proofs.Below.{sum_cong, sum_each}
use Rattle.records.specs.Records.{records, flat, written}
use Rattle.records.specs.Places.{place_width, places}
use Rattle.records.proofs.Records.{written_front}
use Rattle.records.proofs.Images.{length_flat}
use Rattle.records.proofs.Places.{places_lawful, places_back, places_rest}
use Rattle.cube.specs.Lists.{trues, list_value}
use Rattle.reasons.specs.Calls.{true_places}
use Rattle.reasons.proofs.Showing.{places_trues, places_most}
use Rattle.reasons.proofs.Calls as reasons
use Rattle.selector.specs.Maps.{starts, part, cubes_at, slot_of, records_of, join_below}
use Rattle.selector.specs.Answers.{map_accepted}
use Rattle.selector.specs.Calls.{slot_outcome, check_map_reasons, reasons_at, places_at, reasons_turns, map_reasons_outcome, true_numbers, shown_bytes}
use Rattle.selector.proofs.Parts.{join_long}
use Rattle.selector.proofs.Turning.{answer_same, turns_accept, turns_rest, check_answers}
use Rattle.selector.proofs.Checks.{reasons_accepts}
use Rattle.selector.proofs.Slots.{AcceptedSlot, accepts_slot, slot_bit}
use Rattle.selector.proofs.Joined.{starts_are, from, each_at}

-- the places at the front of a buffer are read back
front_back : (l after : List ℕ) → records places (length l) (flat places.enc l ++ after) ≡ l
front_back l after =
    let b : List ℕ = flat places.enc l ++ after in
    let long : length (flat places.enc l) ≡ place_width * length l = length_flat places.enc place_width places_lawful.len l in
    let fits : place_width * length l ≤ length b = omega (arith, length-append (flat places.enc l) after, long) in
    ap (records places (length l))
    (sym (written_front places places_lawful b l fits ∙ ap (λ (t : List ℕ). flat places.enc l ++ t) (drop_at (flat places.enc l) after (place_width * length l) long)))
    ∙ places_back b l fits

-- ---- an accepted call

-- the map passes, and the label and each list, as for slot; there is room for a place of each record
pub record AcceptedMapReasons (n : ℕ) (lists lengths : List ℕ) (a room slot : ℕ) : Type 0 where
  pub slots : AcceptedSlot n lists lengths a slot
  pub fits : place_width * records_of lists lengths ≤ room

module _ (n : ℕ) (lists lengths : List ℕ) (a : ℕ) where
  pub map_reasons_accepts : (room slot : ℕ) → map_reasons_outcome n lists lengths a room ≡ map_accepted slot → AcceptedMapReasons n lists lengths a room slot
  unfolding map_reasons_outcome reasons_turns reasons_at
  map_reasons_accepts room slot e =
      let t = check_answers (check_map_reasons lists lengths room) (reasons_turns n lists lengths a) slot e in
      let s = reasons_accepts lists lengths room t.0.values t.0.is in
      record {
        slots = record {
          map_is = s.lists_are;
          each = λ k h.
              let v = turns_accept (reasons_at n lists lengths a) (length lengths) (map_accepted (slot_of n lists lengths a)) slot t.1 k h in
              (reasons.reasons_accepts n (part lists lengths k) a (place_width * length (cubes_at lists lengths k)) v.values v.is).at;
          slot_is = sym (answer_same (turns_rest (reasons_at n lists lengths a) (length lengths) (map_accepted (slot_of n lists lengths a)) slot t.1));
        };
        fits = s.room;
      }

  -- ---- the numbers

  pub number_at : (k : ℕ) → k < length lengths → get_or (true_numbers n lists lengths a) k 0 ≡ length (places_at n lists lengths a k)
  unfolding true_numbers
  number_at k h = each_at (length lengths) (λ i. length (places_at n lists lengths a i)) k h

  pub number_trues : (k : ℕ) → k < length lengths → get_or (true_numbers n lists lengths a) k 0 ≡ trues n (cubes_at lists lengths k) a
  number_trues k h = number_at k h ∙ places_trues n (cubes_at lists lengths k) a

  -- the places of list k start after those of the lists before it
  number_start : (k : ℕ) → k ≤ length lengths → starts (true_numbers n lists lengths a) k ≡ length (join_below k (places_at n lists lengths a))
  number_start k h =
      let f : ℕ → List ℕ = places_at n lists lengths a in
      let once : 1 * length (join_below k f) ≡ sum_below k (λ i. 1 * length (f i)) = join_long f 1 k in
      let same : sum_below k (λ i. length (f i)) ≡ sum_below k (λ i. 1 * length (f i)) =
      sum_cong k (λ i. length (f i)) (λ i. 1 * length (f i)) (λ i l. omega arith) in
      starts_are (true_numbers n lists lengths a) (λ i. length (f i)) (length lengths) number_at k h ∙ omega arith

  module _ (room slot : ℕ) (t : AcceptedMapReasons n lists lengths a room slot) where
    -- the slot is the one that slot answers
    pub shown_slot : slot_outcome n lists lengths a ≡ map_accepted slot
    shown_slot = accepts_slot n lists lengths a t.slots.map_is t.slots.each ∙ ap map_accepted (sym t.slots.slot_is)

    -- its bit k is the parity of number k
    pub shown_bit : (k : ℕ) → k < length lengths → bit slot k ≡ get_or (true_numbers n lists lengths a) k 0 % 2
    unfolding list_value
    shown_bit k h =
        ap (λ (x : ℕ). bit x k) t.slots.slot_is ∙ slot_bit n lists lengths a k h ∙ ap (λ (x : ℕ). x % 2) (sym (number_trues k h))

    -- ---- the places

    all_fit : place_width * length (join_below (length lengths) (places_at n lists lengths a)) ≤ room
    unfolding records_of
    all_fit =
        let f : ℕ → List ℕ = places_at n lists lengths a in
        let most : sum_below (length lengths) (λ k. get_or (true_numbers n lists lengths a) k 0) ≤ records_of lists lengths =
        sum_each (length lengths) (λ k. get_or (true_numbers n lists lengths a) k 0) (λ k. length (cubes_at lists lengths k))
        (λ k h. subst (λ (x : ℕ). x ≤ length (cubes_at lists lengths k)) (sym (number_at k h)) (places_most n (cubes_at lists lengths k) a)) in
        omega (arith, t.fits, number_start (length lengths) (le_refl (length lengths)))

    module _ (out : List ℕ) (long : room ≡ length out) where
      fits : place_width * length (join_below (length lengths) (places_at n lists lengths a)) ≤ length out
      fits = subst (λ (x : ℕ). place_width * length (join_below (length lengths) (places_at n lists lengths a)) ≤ x) long all_fit

      -- as many as number k, after those of the lists before it: the places of list k
      pub shown_places : (k : ℕ) → k < length lengths
          → records places (get_or (true_numbers n lists lengths a) k 0) (drop (place_width * starts (true_numbers n lists lengths a) k) (shown_bytes n lists lengths a out))
          ≡ true_places n (cubes_at lists lengths k) a
      unfolding shown_bytes
      shown_places k h =
          let f : ℕ → List ℕ = places_at n lists lengths a in
          let after : List ℕ = drop (place_width * length (join_below (length lengths) f)) out in
          let s = from places places_lawful f (length lengths) k after h in
          ap₂ (λ (x : ℕ) (b : List ℕ). records places x b) (number_at k h)
          (ap₂ (λ (x : ℕ) (b : List ℕ). drop (place_width * x) b) (number_start k (omega arith)) (written_front places places_lawful out (join_below (length lengths) f) fits)
          ∙ s.is)
          ∙ front_back (f k) s.rest

      -- every byte after them all is as it was
      pub shown_no_more : drop (place_width * starts (true_numbers n lists lengths a) (length lengths)) (shown_bytes n lists lengths a out)
          ≡ drop (place_width * starts (true_numbers n lists lengths a) (length lengths)) out
      unfolding shown_bytes
      shown_no_more =
          subst
          (λ (x : ℕ). drop (place_width * x) (written places 0 (join_below (length lengths) (places_at n lists lengths a)) out) ≡ drop (place_width * x) out)
          (sym (number_start (length lengths) (le_refl (length lengths))))
          (places_rest out (join_below (length lengths) (places_at n lists lengths a)) fits)

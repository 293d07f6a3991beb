-- The reasons of a map, list by list: what the loop over its lists keeps.
-- Assumes nothing.
use mathlib.Core.Path.{◌≡◌, refl, sym, ap, ap₂, ◌∙◌, subst}
use mathlib.Core.List.{List, [], ◌∷◌, ◌++◌}
use Prim.Native.Nat.{ℕ, ◌+◌, ◌-◌, ◌*◌, ◌/◌, ◌%◌, ◌^◌, ◌≤◌, ◌<◌}
use native.Mathlib.Omega.{arith}
use lib.ListN.{length, get_or, take, drop, set, length-append}
use Rattle.bits.specs.Below.{sum_below}
use Rattle.bits.proofs.Below.{sum_more}
use Rattle.bits.proofs.Front.{Front, front_none, front_more}
use Rattle.records.specs.declared.Refusal.{Refusal}
use Rattle.records.specs.Answers.{Outcome, accepted, refused}
use Rattle.records.specs.Records.{written, zeros}
use Rattle.records.specs.Places.{place_width, places}
use Rattle.records.proofs.Answers.{after_accepted}
use Rattle.records.proofs.Filling.{length_zeros}
use Rattle.records.proofs.Places.{places_lawful}
use Rattle.records.proofs.Records.{length_list, length_written}
use Rattle.cube.specs.Lists.{cubes, cubes_of, record_width, list_value}
use Rattle.reasons.specs.Calls.{true_places, reasons_outcome, reasons_after}
use Rattle.reasons.proofs.Calls.{AcceptedReasons, reasons_accepts, shown_fits}
use Rattle.reasons.proofs.Showing.{places_trues}
use Rattle.std.specs.Prelude.{Ok, Err}
use Rattle.selector.specs.Refusals.{of_list}
use Rattle.selector.specs.Maps.{most_lists, part, cubes_at, records_of, slot_of, join_below, each_of}
use Rattle.selector.specs.Answers.{MapOutcome, map_accepted, list_refused, after_map, after_each}
use Rattle.selector.specs.Calls.{reasons_at, places_at, reasons_turns, true_numbers, shown_bytes}
use Rattle.selector.specs.Turns.{Showable, ShownTurns}
use Rattle.selector.proofs.Parts.{sum_zero, sum_next, join_next, each_is, lent_size, written_next}
use Rattle.selector.proofs.Turning.{Passing, passing_none, passing_more, passing_refused, passing_all}
use Rattle.selector.proofs.slot.Slotting.{bit_at, bit_small, slot_below, slot_small, slot_next}

-- the records of the first k lists
abbrev records_below : List ℕ → List ℕ → ℕ → ℕ
records_below lists lengths k = sum_below k (λ i. length (cubes_at lists lengths i))

-- the reasons of the first k lists stand end to end at the front of the output, and the first k bits of the slot are known
pub record Showing (n : ℕ) (lists lengths : List ℕ) (a : ℕ) (out₀ out numbers : List ℕ) (slot to k : ℕ) : Type 0 where
  pub to_is : to ≡ place_width * length (join_below k (places_at n lists lengths a))
  pub to_le : to ≤ place_width * records_below lists lengths k
  pub slot_is : slot ≡ slot_below n lists lengths a k
  pub out_is : out ≡ written places 0 (join_below k (places_at n lists lengths a)) out₀
  pub out_long : length out ≡ length out₀
  pub numbers_are : Front (λ i. length (places_at n lists lengths a i)) (zeros most_lists) numbers k
  pub passing : Passing (reasons_at n lists lengths a) k

module _ (n : ℕ) (lists lengths : List ℕ) (a : ℕ) (out₀ : List ℕ) where
  pub showing_none : (k : ℕ) → k ≡ 0 → Showing n lists lengths a out₀ out₀ (zeros most_lists) 0 0 k
  unfolding join_below written
  showing_none k ek = subst (Showing n lists lengths a out₀ out₀ (zeros most_lists) 0 0) (sym ek) (record {
    to_is = refl;
    to_le = omega arith;
    slot_is = sym (sum_zero (λ i. bit_at n lists lengths a i * 2 ^ i));
    out_is = refl;
    out_long = refl;
    numbers_are = front_none (λ i. length (places_at n lists lengths a i)) (zeros most_lists);
    passing = passing_none (reasons_at n lists lengths a);
  })

  module _ (m : Showable lists lengths (length out₀)) (out numbers : List ℕ) (slot to k : ℕ) (r : Showing n lists lengths a out₀ out numbers slot to k) where
    module _ (h : k < length lengths) (list : List ℕ) (part_is : list ≡ part lists lengths k) where
      count_is : length (cubes_at lists lengths k) ≡ length list / record_width
      count_is = length_list cubes (part lists lengths k) ∙ ap (λ (b : List ℕ). length b / record_width) (sym part_is)

      -- the part of the output that is lent
      pub showing_room : to + place_width * (length list / record_width) ≤ length out
      unfolding records_of
      showing_room =
          omega (
            arith,
            r.to_le,
            count_is,
            sum_next (λ i. length (cubes_at lists lengths i)) k,
            sum_more (k + 1) (length lengths) (λ i. length (cubes_at lists lengths i)) (omega arith),
            m.room,
            r.out_long,
          )

      pub showing_index : k < most_lists
      showing_index = omega (arith, m.lists_are.few)

      module _ (room : ℕ) (er : room ≡ to + place_width * (length list / record_width)) (o : Outcome) (eo : o ≡ reasons_outcome n list a (room - to)) where
        room_is : room - to ≡ place_width * length (cubes_at lists lengths k)
        room_is = omega (arith, count_is)

        lent : o ≡ reasons_at n lists lengths a k
        unfolding reasons_at
        lent = eo ∙ ap₂ (λ (b : List ℕ) (x : ℕ). reasons_outcome n b a x) part_is room_is

        pub showing_refused : (q : Refusal) → o ≡ refused q → (out' : List ℕ) (z : ℕ) → out' ≡ zeros z → z ≡ length out₀ → (each : List ℕ)
            → ShownTurns n lists lengths a out₀ each (Err (of_list q k)) out' (zeros most_lists)
        unfolding reasons_turns
        showing_refused q e out' z ez el each =
            let is : reasons_turns n lists lengths a ≡ list_refused q k =
            passing_refused (reasons_at n lists lengths a) (length lengths) k q (map_accepted (slot_of n lists lengths a)) r.passing h (sym lent ∙ e) in
            record {
              answer = sym is;
              numbers = ap (λ (x : MapOutcome). after_each x (true_numbers n lists lengths a) each) (sym is);
              out_is = ez ∙ ap zeros el ∙ ap (λ (x : MapOutcome). after_map x (shown_bytes n lists lengths a out₀) out₀) (sym is);
            }

        module _ (number b : ℕ) (e : o ≡ accepted (number ∷ b ∷ [])) where
          shown : AcceptedReasons n (part lists lengths k) a (place_width * length (cubes_at lists lengths k)) (number ∷ b ∷ [])
          unfolding reasons_at
          shown = reasons_accepts n (part lists lengths k) a (place_width * length (cubes_at lists lengths k)) (number ∷ b ∷ []) (sym lent ∙ e)

          number_is : number ≡ length (places_at n lists lengths a k)
          number_is = ap (λ (v : List ℕ). get_or v 0 0) shown.value

          -- the bit is the number's parity
          parity_is : number % 2 ≡ bit_at n lists lengths a k
          unfolding list_value
          parity_is = ap (λ (x : ℕ). x % 2) (number_is ∙ places_trues n (cubes_at lists lengths k) a)

          number_fits : place_width * number ≤ room - to
          unfolding reasons_at
          number_fits = omega (arith, room_is, shown_fits n (part lists lengths k) a (place_width * length (cubes_at lists lengths k)) number b (sym lent ∙ e))

          pub showing_to : to + place_width * number ≤ length out
          showing_to = omega (arith, number_fits, showing_room)

          -- what with_bit needs
          pub showing_bit : (slot < 2 ^ k) × ((k < most_lists) × (number % 2 < 2))
          showing_bit = (
            subst (λ (x : ℕ). x < 2 ^ k) (sym r.slot_is) (slot_small n lists lengths a k),
            (omega (arith, m.lists_are.few), subst (λ (x : ℕ). x < 2) (sym parity_is) (bit_small n lists lengths a k)),
          )

          module _ (out' : List ℕ) (ew : out' ≡ take to out ++ (reasons_after n list a (take (room - to) (drop to out)) ++ drop room out)) where
            written_more : out' ≡ written places 0 (join_below (k + 1) (places_at n lists lengths a)) out₀
            unfolding reasons_after
            written_more =
                let P : List ℕ = take (room - to) (drop to out) in
                let el : length P ≡ room - to = lent_size out to room (omega arith, omega (arith, showing_room)) in
                let done : reasons_after n list a P ≡ written places 0 (places_at n lists lengths a k) P =
                after_accepted (reasons_outcome n list a (length P)) _ P (number ∷ b ∷ []) (ap (reasons_outcome n list a) el ∙ sym eo ∙ e)
                ∙ ap (λ (c : List ℕ). written places 0 (true_places n (cubes_of c) a) P) part_is in
                ew ∙ ap (λ (x : List ℕ). take to out ++ (x ++ drop room out)) done
                ∙ written_next places places_lawful (join_below k (places_at n lists lengths a)) (places_at n lists lengths a k) out₀ out r.out_is to room r.to_is
                (omega arith) (omega (arith, showing_room)) (omega (arith, number_fits, number_is))
                ∙ ap (λ (l : List ℕ). written places 0 l out₀) (sym (join_next (places_at n lists lengths a) k))

            pub showing_more : (slot' : ℕ) → slot' ≡ slot + number % 2 * 2 ^ k → (next : ℕ) → next ≡ k + 1
                → Showing n lists lengths a out₀ out' (set numbers k number) slot' (to + place_width * number) next
            showing_more slot' es next en = subst (Showing n lists lengths a out₀ out' (set numbers k number) slot' (to + place_width * number)) (sym en) (record {
              to_is =
                  omega (
                    arith,
                    r.to_is,
                    number_is,
                    ap length (join_next (places_at n lists lengths a) k),
                    length-append (join_below k (places_at n lists lengths a)) (places_at n lists lengths a k),
                  );
              to_le = omega (arith, r.to_le, number_fits, room_is, sum_next (λ i. length (cubes_at lists lengths i)) k);
              slot_is = slot_next n lists lengths a k slot (number % 2) slot' r.slot_is parity_is es;
              out_is = written_more;
              out_long = ap length written_more ∙ length_written places 0 (join_below (k + 1) (places_at n lists lengths a)) out₀;
              numbers_are = front_more (λ i. length (places_at n lists lengths a i)) (zeros most_lists) numbers k r.numbers_are number (omega (arith, showing_index, r.numbers_are.long, length_zeros most_lists)) number_is;
              passing = passing_more (reasons_at n lists lengths a) k r.passing (record { values = number ∷ b ∷ []; is = sym lent ∙ e });
            })

    pub showing_done : k ≤ length lengths → length lengths ≤ k → (each : List ℕ) → ShownTurns n lists lengths a out₀ each (Ok slot) out numbers
    unfolding reasons_turns slot_of true_numbers shown_bytes
    showing_done w h each =
        let e : k ≡ length lengths = omega arith in
        let is : reasons_turns n lists lengths a ≡ map_accepted (slot_of n lists lengths a) =
        passing_all (reasons_at n lists lengths a) (length lengths) k _ r.passing w h in
        record {
          answer = ap map_accepted (r.slot_is ∙ ap (slot_below n lists lengths a) e) ∙ sym is;
          numbers =
              each_is (λ i. length (places_at n lists lengths a i)) numbers k r.numbers_are
              ∙ ap (λ (x : ℕ). each_of x (λ i. length (places_at n lists lengths a i))) e
              ∙ ap (λ (x : MapOutcome). after_each x (true_numbers n lists lengths a) each) (sym is);
          out_is =
              r.out_is ∙ ap (λ (x : ℕ). written places 0 (join_below x (places_at n lists lengths a)) out₀) e
              ∙ ap (λ (x : MapOutcome). after_map x (shown_bytes n lists lengths a out₀) out₀) (sym is);
        }

-- A settled map, by the outcome alone: each list was settled, and its burned list stands for it; the burned lists are a map again, with the same slots, and what they cost.
-- Assumes nothing.
use mathlib.Core.Path.{◌≡◌, sym, ap, ap₂, ◌∙◌, subst}
use mathlib.Core.List.{List, [], append-nil}
use Prim.Native.Nat.{ℕ, ◌-◌, ◌^◌, ◌≤◌, ◌<◌}
use native.Mathlib.Nat.{le_refl}
use native.Mathlib.Omega.{arith}
use lib.ListN.{length, get_or, take, drop, replicate}
use lib.Seq.{take_at, drop_at}
use Rattle.bits.specs.Sums.{All}
use Rattle.bits.specs.Below.{list_below}
use Rattle.bits.proofs.Below.{sum_each, length_list_below, get_or_list_below}
use Rattle.records.specs.Records.{image, filled, flat, zeros}
use Rattle.records.specs.Answers.{refusal, Accepts}
use Rattle.records.proofs.Records.{length_list}
use Rattle.cube.specs.declared.Cube.{Cube}
use Rattle.cube.specs.Cubes.{Good}
use Rattle.cube.specs.Lists.{most_variables, most_records, cubes, cubes_of, list_value}
use Rattle.cube.proofs.Lists.{lawful, AcceptedList, cubes_flat}
use Rattle.polarity.specs.Cost.{cost}
use Rattle.script.specs.Run.{ended}
use Rattle.script.specs.Calls.{run_of}
use Rattle.script.proofs.Runs.{ended_list}
use Rattle.settling.specs.Calls.{settle_outcome, settle_out}
use Rattle.settling.proofs.Outcomes.{Ended, settle_ended, settle_checked, BurnedBy, settle_burned}
use Rattle.selector.specs.Maps.{starts, part, cubes_at, slot_of, join_below, total_cost}
use Rattle.selector.specs.Answers.{map_accepted, list_refused}
use Rattle.selector.specs.Calls.{slot_outcome, Job, list_count, list_at, script_at, settle_at, ran_burnt, burned_at, settle_turns, size_at, burned_lengths, burned_bytes}
use Rattle.selector.specs.Turns.{Mapped}
use Rattle.selector.proofs.Parts.{part_length}
use Rattle.selector.proofs.Turning.{answer_same, turns_accept, turns_rest}
use Rattle.selector.proofs.settle_map.Burning.{flat_long}
use Rattle.selector.proofs.Slots.{accepts_slot, label_refused, same_slot}
use Rattle.selector.proofs.Joined.{join_start, join_part, each_front}

-- the bytes of accepted cubes are an accepted list
flat_accepted : (n : ℕ) (l : List Cube) → n ≤ most_variables → length l ≤ most_records → All (Good n) l → AcceptedList cubes most_variables n (flat cubes.enc l)
flat_accepted n l few short good = record {
  few = few;
  whole = omega (arith, flat_long l);
  short = omega (arith, flat_long l);
  good = subst (All (Good n)) (sym (cubes_flat l)) good;
}

-- ---- the lengths that are answered, one a list, and the burned lists at the front of a buffer of so many bytes

abbrev pub settled_lengths : Job → List ℕ
settled_lengths j = take (list_count j) (burned_lengths j)

abbrev pub settled_lists : Job → ℕ → List ℕ
settled_lists j room = take (starts (settled_lengths j) (list_count j)) (burned_bytes j room)

module _ (j : Job) where
  lengths_are : settled_lengths j ≡ list_below (list_count j) (size_at j)
  unfolding burned_lengths
  lengths_are = each_front (list_count j) (size_at j)

  pub settled_many : length (settled_lengths j) ≡ list_count j
  settled_many = ap length lengths_are ∙ length_list_below (list_count j) (size_at j)

  pub settled_size : (k : ℕ) → k < list_count j → get_or (settled_lengths j) k 0 ≡ size_at j k
  settled_size k h = ap (λ (l : List ℕ). get_or l k 0) lengths_are ∙ get_or_list_below (list_count j) (size_at j) k 0 h

  all_long : starts (settled_lengths j) (list_count j) ≡ length (flat cubes.enc (join_below (list_count j) (burned_at j)))
  all_long =
      join_start cubes lawful (burned_at j) (settled_lengths j) (list_count j) settled_size (list_count j) (le_refl (list_count j))
      ∙ sym (flat_long (join_below (list_count j) (burned_at j)))

  module _ (room : ℕ) where
    lists_are : settled_lists j room ≡ flat cubes.enc (join_below (list_count j) (burned_at j))
    unfolding burned_bytes image filled
    lists_are = take_at (flat cubes.enc (join_below (list_count j) (burned_at j))) _ (starts (settled_lengths j) (list_count j)) (sym all_long)

    -- list k of them is the burned list k
    pub settled_part : (k : ℕ) → k < list_count j → part (settled_lists j room) (settled_lengths j) k ≡ flat cubes.enc (burned_at j k)
    settled_part k h =
        ap (λ (b : List ℕ). part b (settled_lengths j) k) (lists_are ∙ sym (append-nil _))
        ∙ join_part cubes lawful (burned_at j) (settled_lengths j) (list_count j) settled_size [] k h

    pub settled_cubes : (k : ℕ) → k < list_count j → cubes_at (settled_lists j room) (settled_lengths j) k ≡ burned_at j k
    settled_cubes k h = ap cubes_of (settled_part k h) ∙ cubes_flat (burned_at j k)

    -- zeros after the last
    pub settled_zeros : drop (starts (settled_lengths j) (list_count j)) (burned_bytes j room) ≡ zeros (room - starts (settled_lengths j) (list_count j))
    unfolding burned_bytes image filled
    settled_zeros =
        drop_at (flat cubes.enc (join_below (list_count j) (burned_at j))) _ (starts (settled_lengths j) (list_count j)) (sym all_long)
        ∙ ap (λ (x : ℕ). replicate (room - x) 0) (sym all_long)

    -- they are a map again
    pub settled_mapped : Mapped j.lists j.lengths → Mapped (settled_lists j room) (settled_lengths j)
    settled_mapped m = record {
      some = omega (arith, settled_many, m.some);
      few = omega (arith, settled_many, m.few);
      adds = ap (starts (settled_lengths j)) settled_many ∙ all_long ∙ ap length (sym lists_are);
    }

-- ---- a map that was settled

module _ (j : Job) (m : Mapped j.lists j.lengths) (total : ℕ) (done : settle_turns j ≡ map_accepted total) where
  pub total_is : total ≡ total_cost (list_count j) (burned_at j)
  unfolding settle_turns
  total_is = sym (answer_same (turns_rest (settle_at j) (list_count j) (map_accepted (total_cost (list_count j) (burned_at j))) total done))

  pub settle_accepts : (k : ℕ) → k < list_count j → Accepts (settle_at j k)
  unfolding settle_turns
  settle_accepts k h = turns_accept (settle_at j) (list_count j) (map_accepted (total_cost (list_count j) (burned_at j))) total done k h

  module _ (k : ℕ) (h : k < list_count j) where
    -- its script ended
    pub ended_at : Ended j.n (list_at j k) (script_at j k) j.work (get_or j.lengths k 0)
    unfolding settle_at
    ended_at =
        settle_ended j.n (list_at j k) (script_at j k) j.work (get_or j.lengths k 0) (settle_accepts k h).values (settle_accepts k h).is

    pub given_accepted : AcceptedList cubes most_variables j.n (list_at j k)
    given_accepted = (settle_checked j.n (list_at j k) (script_at j k) j.work (get_or j.lengths k 0) ended_at.values ended_at.checked).list_is

    -- and what settle says of the list that it burns, alone, into a buffer as long as the list
    pub burned_by : (room : List ℕ) → length room ≡ get_or j.lengths k 0 → (result : List Cube) (peak : ℕ)
        → run_of j.n (list_at j k) (script_at j k) j.work ≡ ended result peak
        → BurnedBy j.n (list_at j k) (script_at j k) j.work room result (burned_at j k)
    unfolding settle_at burned_at
    burned_by room long result peak ran =
        let e = settle_ended j.n (list_at j k) (script_at j k) j.work (length room) (settle_accepts k h).values
        (ap (settle_outcome j.n (list_at j k) (script_at j k) j.work) long ∙ (settle_accepts k h).is) in
        let same : e.result ≡ result = ended_list (sym e.ran ∙ ran) in
        let burned : burned_at j k ≡ ran_burnt j.n (cubes_of (list_at j k)) (ended e.result e.peak) = ap (ran_burnt j.n (cubes_of (list_at j k))) e.ran in
        subst (λ (l : List Cube). BurnedBy j.n (list_at j k) (script_at j k) j.work room l (burned_at j k)) same
        (subst (BurnedBy j.n (list_at j k) (script_at j k) j.work room e.result) (sym burned)
        (settle_burned j.n (list_at j k) (script_at j k) j.work room e))

    list_long : length (list_at j k) ≡ get_or j.lengths k 0
    list_long = part_length j.lengths j.lists k h m.adds

    burned_so : BurnedBy j.n (list_at j k) (script_at j k) j.work (list_at j k) ended_at.result (burned_at j k)
    burned_so = burned_by (list_at j k) list_long ended_at.result ended_at.peak ended_at.ran

    -- the burned list is accepted too
    pub burned_accepted : AcceptedList cubes most_variables j.n (flat cubes.enc (burned_at j k))
    burned_accepted =
        flat_accepted j.n (burned_at j k) given_accepted.few
        (omega (arith, burned_so.no_more_than_given, length_list cubes (list_at j k), given_accepted.short)) burned_so.good

    -- its bytes in the settled map are the front of what settle leaves, alone, in a buffer as long as the list
    pub part_alone : (room : ℕ) (alone : List ℕ) → length alone ≡ get_or j.lengths k 0
        → part (settled_lists j room) (settled_lengths j) k ≡ take (get_or (settled_lengths j) k 0) (settle_out j.n (list_at j k) (script_at j k) j.work alone)
    unfolding image filled
    part_alone room alone long =
        let b = burned_by alone long ended_at.result ended_at.peak ended_at.ran in
        settled_part j room k h
        ∙ sym (ap₂ take (settled_size j k h) b.bytes ∙ take_at (flat cubes.enc (burned_at j k)) _ (size_at j k) (flat_long (burned_at j k)))

  -- The burned lists are no longer than the given ones, ..
  pub settled_fits : starts (settled_lengths j) (list_count j) ≤ length j.lists
  settled_fits =
      subst (λ (x : ℕ). starts (settled_lengths j) (list_count j) ≤ x) m.adds
      (sum_each (list_count j) (λ k. get_or (settled_lengths j) k 0) (λ k. get_or j.lengths k 0)
      (λ k h. omega (arith, settled_size j k h, (burned_so k h).fits, list_long k h)))

  -- .. and cost no more, in total, than these, ..
  pub total_given : total ≤ total_cost (list_count j) (λ k. cubes_of (list_at j k))
  unfolding total_cost
  total_given =
      subst (λ (x : ℕ). x ≤ total_cost (list_count j) (λ k. cubes_of (list_at j k))) (sym total_is)
      (sum_each (list_count j) (λ k. cost (burned_at j k)) (λ k. cost (cubes_of (list_at j k))) (λ k h. (burned_so k h).costs_no_more_than_given))

  -- .. nor than the lists that the scripts end in
  pub total_scripts : (result : ℕ → List Cube) (peak : ℕ → ℕ)
      → ((k : ℕ) → k < list_count j → run_of j.n (list_at j k) (script_at j k) j.work ≡ ended (result k) (peak k))
      → total ≤ total_cost (list_count j) result
  unfolding total_cost
  total_scripts result peak ran =
      subst (λ (x : ℕ). x ≤ total_cost (list_count j) result) (sym total_is)
      (sum_each (list_count j) (λ k. cost (burned_at j k)) (λ k. cost (result k))
      (λ k h. (burned_by k h (list_at j k) (list_long k h) (result k) (peak k) (ran k h)).costs_no_more_than_script))

  -- The lists of the settled map are accepted, as the given ones are; ..
  pub settled_accepted : (room k : ℕ) → k < length (settled_lengths j) → AcceptedList cubes most_variables j.n (part (settled_lists j room) (settled_lengths j) k)
  settled_accepted room k h =
      let i : k < list_count j = omega (arith, settled_many j) in
      subst (AcceptedList cubes most_variables j.n) (sym (settled_part j room k i)) (burned_accepted k i)

  -- .. so both have a slot at every label below 2^n, the same; ..
  module _ (a : ℕ) (below : a < 2 ^ j.n) where
    pub given_slot : slot_outcome j.n j.lists j.lengths a ≡ map_accepted (slot_of j.n j.lists j.lengths a)
    given_slot = accepts_slot j.n j.lists j.lengths a m (λ k h. record { list = given_accepted k h; below = below })

    pub settled_slot : (room : ℕ) → slot_outcome j.n (settled_lists j room) (settled_lengths j) a ≡ slot_outcome j.n j.lists j.lengths a
    settled_slot room =
        let count : length (settled_lengths j) ≡ list_count j = settled_many j in
        accepts_slot j.n (settled_lists j room) (settled_lengths j) a (settled_mapped j room m) (λ k h. record { list = settled_accepted room k h; below = below })
        ∙ ap map_accepted (same_slot j.n (settled_lists j room) (settled_lengths j) j.lists j.lengths a count
        (λ k h. let i : k < list_count j = omega (arith, count) in
        ap (λ (l : List Cube). list_value j.n l a) (settled_cubes j room k i) ∙ (burned_so k i).same_value a below))
        ∙ sym given_slot

  -- .. and at every other both are refused alike, by 6 at list 0
  module _ (a : ℕ) (high : 2 ^ j.n ≤ a) where
    pub given_refused : slot_outcome j.n j.lists j.lengths a ≡ list_refused (refusal 6 0) 0
    given_refused = label_refused j.n j.lists j.lengths a m (given_accepted 0 m.some) high

    pub settled_refused : (room : ℕ) → slot_outcome j.n (settled_lists j room) (settled_lengths j) a ≡ list_refused (refusal 6 0) 0
    settled_refused room =
        let s = settled_mapped j room m in
        label_refused j.n (settled_lists j room) (settled_lengths j) a s (settled_accepted room 0 s.some) high

-- The selector as a product: document 02, Thirteen. "Put a crate above the library: it takes 1 to 12 plain lists, one per slot bit, all over the same n, end to end in a lent
-- buffer with their lengths, scripts likewise, and answers a label's slot number, bit k from list k. It settles each list with its own script, the burned lists end to end in
-- an output buffer and zeros after, and answers their lengths and the map's total cost; it writes the reasons of One for all bits end to end, with their numbers. It knows of
-- the library only what the contracts say. The settled map must give every label the slot that the given map gives, and replacing one bit's list must not change any other bit
-- of any slot, where both maps are accepted. A refused list or script refuses the map, with the list's number, and every buffer that the call writes ends all zero, even where
-- no script has started; only the first three below write nothing. Refusals: 24 for no list or more than 12, then 26 for lengths that don't add up to the lent buffers or not
-- one script a list, then 5 for an output shorter than the lists (reasons: 2 bytes a record); then the lists in turn, each in the order of the call on it."
-- Assumes nothing.
use mathlib.Core.Path.{◌≡◌, refl, sym, ap, ap₂, ◌∙◌, subst}
use mathlib.Core.Logic.{◌⊎◌, ◌≢◌}
use mathlib.Core.List.{List, [], ◌∷◌}
use Prim.Native.Nat.{ℕ, ◌-◌, ◌*◌, ◌%◌, ◌^◌, ◌≤◌, ◌<◌}
use native.Mathlib.Decide.{ℕ_discrete}
use native.Mathlib.Omega.{arith}
use lib.ListN.{length, get_or, take, drop, length-replicate, length-set}
use lib.Seq.{get_or-take}
use Rattle.std.specs.Prelude.{Ok}
use Rattle.bits.specs.Bits.{bit}
use Rattle.bits.proofs.Below.{sum_cong}
use Rattle.records.specs.declared.Refusal.{Refusal}
use Rattle.records.specs.Records.{records, zeros}
use Rattle.records.specs.Places.{place_width}
use Rattle.records.specs.Answers.{Outcome, accepted, refused, refusal, Accepts}
use Rattle.cube.specs.declared.Cube.{Cube}
use Rattle.cube.specs.Lists.{record_width, cubes, cubes_of, cube_capacity, trues, list_value}
use Rattle.cube.proofs.Calls.{AcceptedAt, value_accepts}
use Rattle.reasons.specs.Calls.{true_places}
use Rattle.polarity.specs.Cost.{cost}
use Rattle.script.specs.Run.{Ran, ended, run}
use Rattle.script.specs.Scripts.{steps_of}
use Rattle.script.specs.Calls.{run_of}
use Rattle.settling.specs.declared.Settlement.{Settlement}
use Rattle.settling.specs.Calls.{settled, settle_outcome, settle_out}
use Rattle.settling.proofs.Outcomes.{BurnedBy}
use Rattle.selector.specs.declared.ByList.{ByList}
use Rattle.selector.specs.Maps.{most_lists, starts, part, cubes_at, slot_of, total_cost, replaced, new_lengths}
use Rattle.selector.specs.Answers.{MapOutcome, map_accepted, map_refused, list_refused, after_map, map_told}
use Rattle.selector.specs.Calls.{slot_outcome, map_reasons_outcome, true_numbers, shown_bytes, ReasonsCalled, Job, job, check_job, settle_at, ran_burnt, burned_at, settle_turns, settle_map_outcome, burned_lengths, burned_bytes, SettleCalled}
use Rattle.selector.specs.Turns.{Mapped, Settleable}
use Rattle.selector.proofs.Turning.{not_map, check_refused, check_answers, turns_accept, turns_rest, turns_pass, turns_refused, turns_map, found_refused, answer_same, Passing}
use Rattle.selector.proofs.Checks.{job_accepts}
use Rattle.selector.proofs.Slots.{AcceptedSlot, slot_accepts, accepts_slot, slot_bit, slot_high, other_bits}
use Rattle.selector.proofs.Replaced.{replaced_mapped, part_kept, part_new}
use Rattle.selector.proofs.Joined.{each_after}
use Rattle.selector.proofs.Burned as burned
use Rattle.selector.proofs.Shown as shown
use Rattle.selector.proofs.slot.slot.Kinds as slot_kinds
use Rattle.selector.proofs.slot.slot.Reads as slot_reads
use Rattle.selector.proofs.settle_map.settle_map.Kinds as settle_map_kinds
use Rattle.selector.proofs.settle_map.settle_map.Reads as settle_map_reads
use Rattle.selector.proofs.map_reasons.map_reasons.Kinds as map_reasons_kinds
use Rattle.selector.proofs.map_reasons.map_reasons.Reads as map_reasons_reads
use Rattle.promises.specs.Calls.{value, settle, answers, leaves, Called}
use Rattle.promises.specs.Refusals.{NoneWrong, FirstWrong, RefusedBefore, RefusedAtStep}
use Rattle.promises.specs.Accepted.{EndOfScript}
use Rattle.promises.specs.Burned.{burned_in}
use Rattle.promises.specs.Reasons.{ExactlyTrue}
use Rattle.promises.specs.Selector.{MapCall, slot, settle_map, map_reasons, map_answers, map_lent, map_number, map_makes, all_zero, map_leaves, MapCalled, IsMapCalled, map_faults, lists_of, list_call, before_lists, RefusedMap, RefusedList, AcceptedMap, lengths_left, lists_left, shown_of}
use Rattle.promises.proofs.Chains.{Judged, first_only, not_none, judged_none}
use Rattle.promises.proofs.Chains as chains
use Rattle.promises.proofs.Calling.{called_accepted, accepted_settled}
use Rattle.promises.proofs.DemandOne.{refused_call}
use Rattle.promises.proofs.Reasons.{places_exact}
use Rattle.promises.proofs.MapJudging.{map_check, by_map, first_of_map, in_turn_lem, goes_on}

-- ---- every outcome that the contracts allow is a `MapCalled`

-- no buffer, two, and three
leaves_none : (o : MapOutcome) → ◌≡◌ {A = List (List ℕ)} [] (map_leaves o [] [])
leaves_none (map_accepted x) = refl
leaves_none (map_refused r) = refl
leaves_none (list_refused r k) = refl

pub leaves_two : (o : MapOutcome) (a b x y : List ℕ) → ◌≡◌ {A = List (List ℕ)} (after_map o a x ∷ after_map o b y ∷ []) (map_leaves o (a ∷ b ∷ []) (x ∷ y ∷ []))
leaves_two (map_accepted n) a b x y = refl
leaves_two (map_refused r) a b x y = refl
leaves_two (list_refused r k) a b x y = refl

pub leaves_three : (o : MapOutcome) (a b c x y z : List ℕ)
    → ◌≡◌ {A = List (List ℕ)} (after_map o a x ∷ after_map o b y ∷ after_map o c z ∷ []) (map_leaves o (a ∷ b ∷ c ∷ []) (x ∷ y ∷ z ∷ []))
leaves_three (map_accepted n) a b c x y z = refl
leaves_three (map_refused r) a b c x y z = refl
leaves_three (list_refused r k) a b c x y z = refl

pub of_slot : (n : ℕ) (lists lengths : List ℕ) (a : ℕ) (o : MapOutcome) → o ≡ slot_outcome n lists lengths a → MapCalled (slot n lists lengths a) o []
unfolding map_answers map_makes map_lent
of_slot n lists lengths a o e = record { answer = e; left = leaves_none (slot_outcome n lists lengths a) }

of_settle : (n : ℕ) (lists lengths scripts script_lengths work out : List ℕ) (r : ByList) (work' out' : List ℕ)
    → SettleCalled (job n lists lengths scripts script_lengths (length work)) work out r work' out'
    → MapCalled (settle_map n lists lengths scripts script_lengths work out (zeros most_lists)) (map_told r.answer) (work' ∷ out' ∷ r.each ∷ [])
unfolding map_answers map_makes map_lent
of_settle n lists lengths scripts script_lengths work out r work' out' p =
    let j : Job = job n lists lengths scripts script_lengths (length work) in
    record {
      answer = p.answer;
      left = (λ i. p.work_is i ∷ p.out_is i ∷ p.lengths i ∷ [])
          ∙ leaves_three (settle_map_outcome j (length out)) (zeros (length work)) (burned_bytes j (length out)) (burned_lengths j) work out (zeros most_lists);
    }

of_reasons : (n : ℕ) (lists lengths : List ℕ) (a : ℕ) (out : List ℕ) (r : ByList) (out' : List ℕ) → ReasonsCalled n lists lengths a out r out'
    → MapCalled (map_reasons n lists lengths a out (zeros most_lists)) (map_told r.answer) (out' ∷ r.each ∷ [])
unfolding map_answers map_makes map_lent
of_reasons n lists lengths a out r out' p = record {
  answer = p.answer;
  left = (λ i. p.out_is i ∷ p.numbers i ∷ [])
      ∙ leaves_two (map_reasons_outcome n lists lengths a (length out)) (shown_bytes n lists lengths a out) (true_numbers n lists lengths a) out (zeros most_lists);
}

pub slot_called : IsMapCalled 2 slot_kinds.ps slot_kinds.r slot_reads.Learnt
    (λ κs a. slot a.0 a.1.0.now a.1.1.0.now a.1.1.1.0)
    (λ κs a z ws. []) (λ κs z. map_told z)
slot_called κs a z ws p = of_slot _ _ _ _ _ p

pub settle_map_called : IsMapCalled 6 settle_map_kinds.ps settle_map_kinds.r settle_map_reads.Learnt
    (λ κs a.
    settle_map a.0 a.1.0.now a.1.1.0.now a.1.1.1.0.now a.1.1.1.1.0.now a.1.1.1.1.1.0.now a.1.1.1.1.1.1.0.now (zeros most_lists))
    (λ κs a z ws. ws.1.1.1.1.1.0 ∷ ws.1.1.1.1.1.1.0 ∷ z.each ∷ []) (λ κs z. map_told z.answer)
settle_map_called κs a z ws p = of_settle _ _ _ _ _ _ _ _ _ _ p

pub map_reasons_called : IsMapCalled 3 map_reasons_kinds.ps map_reasons_kinds.r map_reasons_reads.Learnt
    (λ κs a. map_reasons a.0 a.1.0.now a.1.1.0.now a.1.1.1.0 a.1.1.1.1.0.now (zeros most_lists))
    (λ κs a z ws. ws.1.1.1.1.0 ∷ z.each ∷ []) (λ κs z. map_told z.answer)
map_reasons_called κs a z ws p = of_reasons _ _ _ _ _ _ _ p

-- ---- demand 1 of a map

-- There is an outcome, for every call.
pub map_answered : (c : MapCall) → MapCalled c (map_answers c) (map_leaves (map_answers c) (map_makes c) (map_lent c))
map_answered c = record { answer = refl; left = refl }

module _ (c : MapCall) (o : MapOutcome) (buffers : List (List ℕ)) (called : MapCalled c o buffers) where
  -- what is left, by what is answered
  left_by : (x : MapOutcome) → map_answers c ≡ x → (o ≡ x) × (buffers ≡ map_leaves x (map_makes c) (map_lent c))
  left_by x e = (called.answer ∙ e, called.left ∙ ap (λ (y : MapOutcome). map_leaves y (map_makes c) (map_lent c)) e)

  abbrev on_list : ℕ → Outcome
  on_list k = answers (list_call c k)

  -- A map of which something is wrong is refused: by the number and the place of the first in order that is; and nothing is written.
  pub wrong_map_refused : (number place : ℕ) → FirstWrong (map_faults c) number place → (o ≡ map_refused (refusal number place)) × (buffers ≡ map_lent c)
  wrong_map_refused number place f = go (by_map c)
    where
      go : Judged (map_faults c) (map_check c) (accepted (lists_of c ∷ [])) → (o ≡ map_refused (refusal number place)) × (buffers ≡ map_lent c)
      go (chains.wrong m p g e) =
          let same = first_only (map_faults c) m number p place g f in
          left_by (map_refused (refusal number place)) (in_turn_lem c ∙ sym (check_refused (map_check c) _ _ (e ∙ (λ i. refused (refusal (same.0 i) (same.1 i))))))
      go (chains.right none e) = absurd (not_none (map_faults c) number place f none)

  -- No other map is refused so: by 24, 26 or 5, at place 0 and with third answer 0.
  pub refused_map : (r : Refusal) → o ≡ map_refused r → RefusedMap r buffers c
  refused_map r is = go (by_map c)
    where
      go : Judged (map_faults c) (map_check c) (accepted (lists_of c ∷ [])) → RefusedMap r buffers c
      go (chains.wrong m p g e) =
          let t = wrong_map_refused m p g in
          let both : map_refused (refusal m p) ≡ map_refused r = sym t.0 ∙ is in
          let same : refusal m p ≡ r = cc in
          let of = first_of_map c m p g in
          record {
            wrong = subst (λ (x : Refusal). FirstWrong (map_faults c) x.number x.place) same g;
            number = ap (λ (x : Refusal). before_lists x.number) (sym same) ∙ of.0;
            place = ap (λ (x : Refusal). x.place) (sym same) ∙ of.1;
            third = ap (λ (x : Refusal). x.differing) (sym same);
            nothing_written = t.1;
          }
      go (chains.right none e) =
          let z : map_accepted (map_number c) ≡ map_refused r =
          turns_map on_list (lists_of c) (map_accepted (map_number c)) r (sym (goes_on c none) ∙ sym called.answer ∙ is) in
          let y : ◌≡◌ {A = ℕ} 0 1 = cc in
          absurd (omega arith)

  -- Where nothing of the map is wrong and the calls on the lists before list k are accepted, a refusal of the call on list k refuses the map, with the list's number; and
  -- every buffer ends all zero.
  pub wrong_list_refused : NoneWrong (map_faults c) → (k : ℕ) → k < lists_of c → ((i : ℕ) → i < k → Accepts (answers (list_call c i)))
      → (r : Refusal) (left : List (List ℕ)) → Called (list_call c k) (refused r) left → (o ≡ list_refused r k) × (buffers ≡ all_zero (map_lent c))
  wrong_list_refused none k below before r left here =
      left_by (list_refused r k)
      (goes_on c none ∙ found_refused on_list (lists_of c) (map_accepted (map_number c)) r k (record { below = below; found = sym here.answer; before = before }))

  -- No other map is refused so; ..
  pub refused_list : (r : Refusal) (k : ℕ) → o ≡ list_refused r k → RefusedList r k buffers c
  refused_list r k is = go (by_map c)
    where
      go : Judged (map_faults c) (map_check c) (accepted (lists_of c ∷ [])) → RefusedList r k buffers c
      go (chains.wrong m p g e) =
          let both : list_refused r k ≡ map_refused (refusal m p) = sym is ∙ (wrong_map_refused m p g).0 in
          absurd (not_map both)
      go (chains.right none e) =
          let f = turns_refused on_list (lists_of c) (map_number c) r k (sym (goes_on c none) ∙ sym called.answer ∙ is) in
          record {
            none_wrong = none;
            below = f.below;
            before = f.before;
            here = record { answer = sym f.found; left = refl };
            zeroed = (left_by (list_refused r k) (sym called.answer ∙ is)).1;
          }

  -- .. and the list was refused in the order of the call on it: by the first in order that is wrong, or at a step of its script. (What that call leaves is what it would leave
  -- alone; the map's buffers are all zero.)
  pub refused_list_why : (r : Refusal) (k : ℕ) → o ≡ list_refused r k
      → RefusedBefore r (leaves (list_call c k)) (list_call c k) ⊎ RefusedAtStep r (leaves (list_call c k)) (list_call c k)
  refused_list_why r k is = refused_call (list_call c k) (refused r) (leaves (list_call c k)) (refused_list r k is).here r refl

  -- A map is accepted where nothing of it is wrong and the call on each list is accepted, ..
  pub right_map_accepted : NoneWrong (map_faults c) → ((k : ℕ) → k < lists_of c → Accepts (answers (list_call c k))) → (o ≡ map_accepted (map_number c)) × (buffers ≡ map_makes c)
  unfolding Passing
  right_map_accepted none each =
      left_by (map_accepted (map_number c)) (goes_on c none ∙ turns_pass on_list (lists_of c) each (map_accepted (map_number c)))

  -- .. and only there.
  pub accepted_map : (x : ℕ) → o ≡ map_accepted x → AcceptedMap x buffers c
  accepted_map x is =
      let t = check_answers (map_check c) _ x (sym (in_turn_lem c) ∙ sym called.answer ∙ is) in
      record {
        none_wrong = judged_none (map_faults c) (map_check c) _ t.0.values (by_map c) t.0.is;
        each = turns_accept on_list (lists_of c) (map_accepted (map_number c)) x t.1;
        number = sym (answer_same (turns_rest on_list (lists_of c) (map_accepted (map_number c)) x t.1));
        made = (left_by (map_accepted x) (sym called.answer ∙ is)).1;
      }

-- ---- "answers a label's slot number, bit k from list k"

module _ (n : ℕ) (lists lengths : List ℕ) (a s : ℕ) (called : MapCalled (slot n lists lengths a) (map_accepted s) []) where
  taken : AcceptedSlot n lists lengths a s
  unfolding map_answers
  taken = slot_accepts n lists lengths a s (sym called.answer)

  -- Bit k of the slot is the value of list k at the label, ..
  pub bit_of_list : (k : ℕ) → k < length lengths → bit s k ≡ list_value n (cubes_at lists lengths k) a
  bit_of_list k h = ap (λ (x : ℕ). bit x k) taken.slot_is ∙ slot_bit n lists lengths a k h

  -- .. which the value call on list k answers; ..
  pub bit_of_value : (k : ℕ) → k < length lengths → (b t : ℕ) → Called (value n (part lists lengths k) a) (accepted (b ∷ t ∷ [])) [] → bit s k ≡ b
  unfolding answers
  bit_of_value k h b t v =
      bit_of_list k h ∙ sym (ap (λ (x : List ℕ). get_or x 0 0) (value_accepts n (part lists lengths k) a (b ∷ t ∷ []) (sym v.answer)).value)

  -- .. and no bit is set at or above the number of lists.
  pub no_bit_above : (k : ℕ) → length lengths ≤ k → bit s k ≡ 0
  no_bit_above k h = ap (λ (x : ℕ). bit x k) taken.slot_is ∙ slot_high n lists lengths a k h

-- ---- "replacing one bit's list must not change any other bit of any slot, where both maps are accepted"

-- Two accepted maps with as many lists, all the same but list j: the slots of every label are the same but for bit j.
pub one_list_apart : (n : ℕ) (lists lengths lists' lengths' : List ℕ) (j a s s' : ℕ) → length lengths ≡ length lengths'
    → ((k : ℕ) → k < length lengths → k ≢ j → part lists lengths k ≡ part lists' lengths' k)
    → MapCalled (slot n lists lengths a) (map_accepted s) [] → MapCalled (slot n lists' lengths' a) (map_accepted s') []
    → (k : ℕ) → k ≢ j → bit s k ≡ bit s' k
one_list_apart n lists lengths lists' lengths' j a s s' many same c c' k d =
    ap (λ (x : ℕ). bit x k) (taken n lists lengths a s c).slot_is
    ∙ other_bits n lists lengths lists' lengths' a many j same k d
    ∙ ap (λ (x : ℕ). bit x k) (sym (taken n lists' lengths' a s' c').slot_is)

module _ (n : ℕ) (lists lengths : List ℕ) (a s : ℕ) (called : MapCalled (slot n lists lengths a) (map_accepted s) []) (j : ℕ) (new : List ℕ) (below : j < length lengths) where
  mapped : Mapped lists lengths
  mapped = (taken n lists lengths a s called).map_is

  -- Of an accepted map with list j replaced, list j is the new one and every other is as it was; ..
  pub replaced_list : part (replaced lists lengths j new) (new_lengths lengths j new) j ≡ new
  replaced_list = part_new lists lengths j new mapped below

  pub other_lists : (k : ℕ) → k ≢ j → part (replaced lists lengths j new) (new_lengths lengths j new) k ≡ part lists lengths k
  other_lists k d = part_kept lists lengths j new mapped below k d

  -- .. it is accepted where the value call on the new list is; ..
  pub replaced_accepted : (v : List ℕ) → Called (value n new a) (accepted v) [] → (o : MapOutcome)
      → MapCalled (slot n (replaced lists lengths j new) (new_lengths lengths j new) a) o [] → (s' : ℕ) × (o ≡ map_accepted s')
  unfolding answers map_answers
  replaced_accepted v c o c' = (
    slot_of n (replaced lists lengths j new) (new_lengths lengths j new) a,
    c'.answer ∙ accepts_slot n (replaced lists lengths j new) (new_lengths lengths j new) a (replaced_mapped lists lengths j new mapped below) each,
  )
    where
      each : (k : ℕ) → k < length (new_lengths lengths j new) → AcceptedAt n (part (replaced lists lengths j new) (new_lengths lengths j new) k) a
      each k h = elim (ℕ_discrete k j) [
        | yes e ↦ subst (λ (i : ℕ). AcceptedAt n (part (replaced lists lengths j new) (new_lengths lengths j new) i) a) (sym e)
            (subst (λ (b : List ℕ). AcceptedAt n b a) (sym replaced_list) (value_accepts n new a v (sym c.answer)).at)
        | no d ↦ subst (λ (b : List ℕ). AcceptedAt n b a) (sym (other_lists k d))
            ((taken n lists lengths a s called).each k (subst (λ (i : ℕ). k < i) (length-set lengths j (length new)) h))
      ]

  -- .. and where it is accepted, no other bit of the slot is changed.
  pub one_list_replaced : (s' : ℕ) → MapCalled (slot n (replaced lists lengths j new) (new_lengths lengths j new) a) (map_accepted s') []
      → (k : ℕ) → k ≢ j → bit s k ≡ bit s' k
  one_list_replaced s' c' k d =
      one_list_apart n lists lengths (replaced lists lengths j new) (new_lengths lengths j new) j a s s' (sym (length-set lengths j (length new)))
      (λ i h e. sym (other_lists i e)) called c' k d

-- ---- "It settles each list with its own script", of a call that was accepted

module _ (n : ℕ) (lists lengths scripts script_lengths work out before work' out' each : List ℕ) (total : ℕ)
    (called : MapCalled (settle_map n lists lengths scripts script_lengths work out before) (map_accepted total) (work' ∷ out' ∷ each ∷ [])) where
  abbrev count : ℕ
  count = length lengths

  -- the settled map
  abbrev lengths' : List ℕ
  lengths' = lengths_left count each

  abbrev lists' : List ℕ
  lists' = lists_left count each out'

  abbrev settling : Job
  settling = job n lists lengths scripts script_lengths (length work)

  passed : Accepts (check_job settling (length out)) × (settle_turns settling ≡ map_accepted total)
  unfolding map_answers settle_map_outcome
  passed = check_answers (check_job settling (length out)) (settle_turns settling) total (sym called.answer)

  fit : Settleable settling (length out)
  fit = job_accepts settling (length out) passed.0.values passed.0.is

  left_is : ◌≡◌ {A = List (List ℕ)} (work' ∷ out' ∷ each ∷ []) (zeros (length work) ∷ burned_bytes settling (length out) ∷ burned_lengths settling ∷ [])
  unfolding map_makes
  left_is = (accepted_map _ _ _ called total refl).made

  out_is : out' ≡ burned_bytes settling (length out)
  out_is = let e = left_is in cc

  each_is : each ≡ burned_lengths settling
  each_is = let e = left_is in cc

  -- what is known of the settled map by the outcome alone is known of what was left
  of_left : (P : List ℕ → List ℕ → Type 0) → P (burned.settled_lists settling (length out)) (burned.settled_lengths settling) → P lists' lengths'
  of_left P p = subst (λ (e : List ℕ). P (lists_left count e out') (lengths_left count e)) (sym each_is)
      (subst (λ (b : List ℕ). P (lists_left count (burned_lengths settling) b) (lengths_left count (burned_lengths settling))) (sym out_is) p)

  -- The settled map gives every label the slot that the given map gives: both calls are accepted, and answer the same.
  pub settled_slot : (a : ℕ) → a < 2 ^ n → (o o' : MapOutcome) → MapCalled (slot n lists lengths a) o [] → MapCalled (slot n lists' lengths' a) o' []
      → (s : ℕ) × ((o ≡ map_accepted s) × (o' ≡ map_accepted s))
  unfolding map_answers
  settled_slot a h o o' c c' =
      let given = burned.given_slot settling fit.lists_are total passed.1 a h in
      let same : slot_outcome n lists' lengths' a ≡ slot_outcome n lists lengths a =
      of_left (λ b l. slot_outcome n b l a ≡ slot_outcome n lists lengths a) (burned.settled_slot settling fit.lists_are total passed.1 a h (length out)) in
      (slot_of n lists lengths a, (c.answer ∙ given, c'.answer ∙ same ∙ given))

  -- At a label with a bit at or above n neither map has a slot: both calls are refused by 6, at list 0.
  pub settled_no_slot : (a : ℕ) → 2 ^ n ≤ a → (o o' : MapOutcome) → MapCalled (slot n lists lengths a) o [] → MapCalled (slot n lists' lengths' a) o' []
      → (o ≡ list_refused (refusal 6 0) 0) × (o' ≡ list_refused (refusal 6 0) 0)
  unfolding map_answers
  settled_no_slot a h o o' c c' = (
    c.answer ∙ burned.given_refused settling fit.lists_are total passed.1 a h,
    c'.answer
        ∙ of_left (λ b l. slot_outcome n b l a ≡ list_refused (refusal 6 0) 0) (burned.settled_refused settling fit.lists_are total passed.1 a h (length out)),
  )

  -- It is a map again, of as many lists, whose lengths add up; and it is no longer than the given one.
  pub settled_adds_up : (length lengths' ≡ count) × (starts lengths' count ≡ length lists')
  settled_adds_up =
      of_left (λ b l. (length l ≡ count) × (starts l count ≡ length b))
      (let many = burned.settled_many settling in
      (many, ap (starts (burned.settled_lengths settling)) (sym many) ∙ (burned.settled_mapped settling (length out) fit.lists_are).adds))

  pub settled_fits : (starts lengths' count ≤ length lists) × (length lists ≤ length out)
  settled_fits = (of_left (λ b l. starts l count ≤ length lists) (burned.settled_fits settling fit.lists_are total passed.1), fit.room)

  -- After the last burned list every byte of the output is zero, and after its length each of the numbers; every byte of the work buffer is zero.
  pub zeros_after : drop (starts lengths' count) out' ≡ zeros (length out - starts lengths' count)
  zeros_after =
      of_left (λ b l. drop (starts l count) out' ≡ zeros (length out - starts l count))
      (ap (drop (starts (burned.settled_lengths settling) count)) out_is ∙ burned.settled_zeros settling (length out))

  pub lengths_after : drop count each ≡ zeros (most_lists - count)
  unfolding burned_lengths
  lengths_after = ap (drop count) each_is ∙ each_after count _

  pub work_zero : work' ≡ zeros (length work)
  work_zero = let e = left_is in cc

  -- ---- list by list

  abbrev list_of : ℕ → List ℕ
  list_of k = part lists lengths k

  abbrev script_of : ℕ → List ℕ
  script_of k = part scripts script_lengths k

  module _ (k : ℕ) (h : k < count) where
    list_is : cubes_at lists' lengths' k ≡ burned_at settling k
    list_is = of_left (λ b l. cubes_at b l k ≡ burned_at settling k) (burned.settled_cubes settling (length out) k h)

    -- The script of list k ends.
    pub scripts_end : EndOfScript n (list_of k) (script_of k) work
    scripts_end = let e = burned.ended_at settling fit.lists_are total passed.1 k h in record { result = e.result; peak = e.peak; is = e.ran }

    module _ (m : List Cube) (peak : ℕ) (e : run n (cube_capacity (length work)) (steps_of (script_of k)) (cubes_at lists lengths k) ≡ ended m peak) where
      by : BurnedBy n (list_of k) (script_of k) (length work) (zeros (get_or lengths k 0)) m (burned_at settling k)
      unfolding run_of
      by = burned.burned_by settling fit.lists_are total passed.1 k h (zeros (get_or lengths k 0)) (length-replicate (get_or lengths k 0) 0) m peak e

      -- List k of the settled map costs no more than the list that its script ends in, as it stands after the undoing, ..
      pub list_no_more_than_script : cost (cubes_at lists' lengths' k) ≤ cost m
      list_no_more_than_script = subst (λ (l : List Cube). cost l ≤ cost m) (sym list_is) by.costs_no_more_than_script

    so : BurnedBy n (list_of k) (script_of k) (length work) (zeros (get_or lengths k 0)) scripts_end.result (burned_at settling k)
    unfolding run_of
    so = by scripts_end.result scripts_end.peak scripts_end.is

    -- .. nor than the given list k, ..
    pub list_no_more_than_given : cost (cubes_at lists' lengths' k) ≤ cost (cubes_at lists lengths k)
    list_no_more_than_given = subst (λ (l : List Cube). cost l ≤ cost (cubes_at lists lengths k)) (sym list_is) so.costs_no_more_than_given

    -- .. whose value it has at every assignment.
    pub list_same_value : (a : ℕ) → a < 2 ^ n → list_value n (cubes_at lists' lengths' k) a ≡ list_value n (cubes_at lists lengths k) a
    list_same_value a below = ap (λ (l : List Cube). list_value n l a) list_is ∙ so.same_value a below

    -- List k of the settled map is the list that settle alone burns of list k with its script, with a work buffer as long and into as many bytes as the list has. So demand 3
    -- holds of it (DemandThree.antt).
    module _ (work₁ alone : List ℕ) (as_long : length work₁ ≡ length work) (as_many : length alone ≡ get_or lengths k 0) where
      -- That call is accepted; ..
      pub settles_alone : (o : Outcome) (left : List (List ℕ)) → Called (settle n (list_of k) (script_of k) work₁ alone) o left
          → (t : Settlement) × Called (settle n (list_of k) (script_of k) work₁ alone) (settled (Ok t)) left
      unfolding answers settle_at
      settles_alone o left c =
          let v = burned.settle_accepts settling fit.lists_are total passed.1 k h in
          accepted_settled n (list_of k) (script_of k) work₁ alone v.values left
          (record { answer = sym (ap₂ (settle_outcome n (list_of k) (script_of k)) as_long as_many ∙ v.is); left = c.left })

      module _ (t : Settlement) (work₁' alone' : List ℕ)
          (c : Called (settle n (list_of k) (script_of k) work₁ alone) (settled (Ok t)) (work₁' ∷ alone' ∷ [])) where
        left_alone : alone' ≡ settle_out n (list_of k) (script_of k) (length work) alone
        left_alone =
            (called_accepted n (list_of k) (script_of k) work₁ alone work₁' alone' t c).out_is ∙ ap (λ (w : ℕ). settle_out n (list_of k) (script_of k) w alone) as_long

        count_alone : t.burned ≡ length (burned_at settling k)
        unfolding burned_at
        count_alone =
            let acc = called_accepted n (list_of k) (script_of k) work₁ alone work₁' alone' t c in
            ap (λ (x : Settlement). x.burned) acc.is
            ∙ sym (ap (λ (r : Ran Cube). length (ran_burnt n (cubes_of (list_of k)) r)) (ap (run_of n (list_of k) (script_of k)) (sym as_long) ∙ acc.end.ran))

        -- .. its length is the one that is answered of list k, ..
        pub length_as_alone : get_or each k 0 ≡ record_width * t.burned
        length_as_alone =
            sym (get_or-take count each k 0 h) ∙ ap (λ (l : List ℕ). get_or (take count l) k 0) each_is ∙ burned.settled_size settling k h
            ∙ ap (λ (x : ℕ). record_width * x) (sym count_alone)

        -- .. and so many bytes of what it leaves are list k of the settled map.
        pub settled_as_alone : part lists' lengths' k ≡ take (get_or each k 0) alone'
        settled_as_alone =
            of_left (λ b l. part b l k ≡ take (get_or l k 0) (settle_out n (list_of k) (script_of k) (length work) alone))
            (burned.part_alone settling fit.lists_are total passed.1 k h (length out) alone as_many)
            ∙ ap₂ take (get_or-take count each k 0 h) (sym left_alone)

        pub list_as_alone : cubes_at lists' lengths' k ≡ burned_in t alone'
        unfolding run_of
        list_as_alone =
            let b = burned.burned_by settling fit.lists_are total passed.1 k h alone as_many scripts_end.result scripts_end.peak scripts_end.is in
            list_is ∙ sym (ap₂ (records cubes) count_alone left_alone ∙ b.front)

  -- ---- "the map's total cost"

  -- The total is the cost of the lists of the settled map, added up; ..
  pub total_is_cost : total ≡ total_cost count (λ k. cubes_at lists' lengths' k)
  unfolding total_cost
  total_is_cost =
      burned.total_is settling fit.lists_are total passed.1
      ∙ sym (sum_cong count (λ k. cost (cubes_at lists' lengths' k)) (λ k. cost (burned_at settling k)) (λ k h. ap cost (list_is k h)))

  -- .. it is no more than that of the given lists, ..
  pub total_no_more_than_given : total ≤ total_cost count (λ k. cubes_at lists lengths k)
  total_no_more_than_given = burned.total_given settling fit.lists_are total passed.1

  -- .. nor than that of the lists that the scripts end in, as they stand after the undoing.
  pub total_no_more_than_scripts : (m : ℕ → List Cube) (peak : ℕ → ℕ)
      → ((k : ℕ) → k < count → run n (cube_capacity (length work)) (steps_of (script_of k)) (cubes_at lists lengths k) ≡ ended (m k) (peak k))
      → total ≤ total_cost count m
  unfolding run_of
  total_no_more_than_scripts m peak e = burned.total_scripts settling fit.lists_are total passed.1 m peak e

-- ---- "it writes the reasons of One for all bits end to end, with their numbers", of a call that was accepted

module _ (n : ℕ) (lists lengths : List ℕ) (a : ℕ) (out before out' each : List ℕ) (s : ℕ)
    (called : MapCalled (map_reasons n lists lengths a out before) (map_accepted s) (out' ∷ each ∷ [])) where
  accepted_so : shown.AcceptedMapReasons n lists lengths a (length out) s
  unfolding map_answers
  accepted_so = shown.map_reasons_accepts n lists lengths a (length out) s (sym called.answer)

  shown_left : ◌≡◌ {A = List (List ℕ)} (out' ∷ each ∷ []) (shown_bytes n lists lengths a out ∷ true_numbers n lists lengths a ∷ [])
  unfolding map_makes
  shown_left = (accepted_map _ _ _ called s refl).made

  out_so : out' ≡ shown_bytes n lists lengths a out
  out_so = let e = shown_left in cc

  numbers_are : each ≡ true_numbers n lists lengths a
  numbers_are = let e = shown_left in cc

  -- map_reasons answers the slot that slot answers.
  pub same_slot_as_slot : (o : MapOutcome) → MapCalled (slot n lists lengths a) o [] → o ≡ map_accepted s
  unfolding map_answers
  same_slot_as_slot o c = c.answer ∙ shown.shown_slot n lists lengths a (length out) s accepted_so

  -- Of each list exactly the true products are shown: each of them, none else, none twice, ascending, after those of the lists before it; ..
  pub shown_exactly : (k : ℕ) → k < length lengths → ExactlyTrue n (cubes_at lists lengths k) a (shown_of k each out')
  shown_exactly k h =
      let is : shown_of k each out' ≡ true_places n (cubes_at lists lengths k) a =
      (λ i. shown_of k (numbers_are i) (out_so i)) ∙ shown.shown_places n lists lengths a (length out) s accepted_so out refl k h in
      subst (ExactlyTrue n (cubes_at lists lengths k) a) (sym is) (places_exact n (cubes_at lists lengths k) a)

  -- .. their number is that of the true products of the list, ..
  pub numbers_of_trues : (k : ℕ) → k < length lengths → get_or each k 0 ≡ trues n (cubes_at lists lengths k) a
  numbers_of_trues k h = ap (λ (l : List ℕ). get_or l k 0) numbers_are ∙ shown.number_trues n lists lengths a k h

  -- .. of which bit k of the slot is the parity; ..
  pub bit_is_parity : (k : ℕ) → k < length lengths → bit s k ≡ get_or each k 0 % 2
  bit_is_parity k h = shown.shown_bit n lists lengths a (length out) s accepted_so k h ∙ ap (λ (l : List ℕ). get_or l k 0 % 2) (sym numbers_are)

  -- .. each number after the last list's is zero; ..
  pub numbers_after : drop (length lengths) each ≡ zeros (most_lists - length lengths)
  unfolding true_numbers
  numbers_after = ap (drop (length lengths)) numbers_are ∙ each_after (length lengths) _

  -- .. and no other byte of the output is written.
  pub no_other_byte : drop (place_width * starts each (length lengths)) out' ≡ drop (place_width * starts each (length lengths)) out
  no_other_byte =
      subst (λ (l : List ℕ). drop (place_width * starts l (length lengths)) out' ≡ drop (place_width * starts l (length lengths)) out) (sym numbers_are)
      (ap (drop (place_width * starts (true_numbers n lists lengths a) (length lengths))) out_so
      ∙ shown.shown_no_more n lists lengths a (length out) s accepted_so out refl)

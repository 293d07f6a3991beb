-- The run of an accepted list and script, with the index at its start and at its end; and the whole call by its tests.
-- Assumes nothing.
use mathlib.Core.Path.{◌≡◌, refl, sym, ap, ◌∙◌, subst}
use mathlib.Core.Bool.{Bool, true, false}
use mathlib.Core.List.{List, [], ◌∷◌, map}
use Prim.Native.Nat.{ℕ, ◌*◌, ◌/◌, ◌≤◌, ◌<◌, zero-le}
use native.Mathlib.Omega.{arith}
use lib.Dec.{leb}
use lib.ListN.{length, get_or, replicate}
use borrow.Author.Tests.{le-leb, lt-leb, leb-true}
use Rattle.std.specs.Prelude.{Result, Ok, Err}
use Rattle.script.specs.declared.Peaked.{Peaked}
use Rattle.records.specs.declared.Refusal.{Refusal}
use Rattle.records.specs.Records.{records, list_of, filled_by, image, zeros, Holds}
use Rattle.records.specs.Places.{place_width, places}
use Rattle.records.specs.Answers.{Outcome, accepted, refused, refusal, Accepts}
use Rattle.records.proofs.Answers.{not_both, accepted_values, unless_passes, unless_fails, unless_accepted, both_accepted, and_then_lem, and_not}
use Rattle.records.proofs.Records.{length_list, capacity_most, image_holds, holds_records}
use Rattle.cube.specs.declared.Cube.{Cube}
use Rattle.bits.specs.Sums.{All}
use Rattle.bits.proofs.Sums.{all_each}
use Rattle.cube.specs.Cubes.{good, Good}
use Rattle.cube.proofs.Codes.{parts_good}
use Rattle.cube.specs.Lists.{cubes, cubes_of, cube_capacity, record_width, most_records, most_variables}
use Rattle.cube.specs.Calls.{check_list}
use Rattle.cube.proofs.Lists.{lawful, cubes_bytes, count_is}
use Rattle.script.specs.Carrying.{Carries, Listed}
use Rattle.script.specs.Scripts.{step_records, fits}
use Rattle.script.proofs.run.Checked.{listed_carries, listed_records, listed_long, back_is_run}
use Rattle.script.specs.Run.{Ran, stopped, ended}
use Rattle.script.specs.declared.Ended.{Ended}
use Rattle.orders.specs.Orders.{order_count}
use Rattle.steps.specs.declared.StepRecord.{StepRecord}
use Rattle.steps.specs.Moves.{After}
use Rattle.steps.specs.Steps.{meaning, step}
use Rattle.script.specs.Pending.{none_pending, pend_by, restored}
use Rattle.script.specs.Progress.{pend_record, run_back, SteppingBy, AnsweredBy, Answered}
use Rattle.script.proofs.Carrying.{ready_carries}
use Rattle.script.proofs.Pending.{none_orders}
use Rattle.script.proofs.run.Finishing.{record_orders, back_stopped, back_orders, back_ended, answered_same}
use Rattle.script.specs.Calls.{check_script, check_run, run_of, ran_outcome, ran_work, work_after, finished}
use Rattle.script.proofs.Outcomes.{AcceptedRun, run_checked}
use Rattle.index.specs.Index.{group_count, list_index, list_starts}
use Rattle.indexed.specs.Calls.{check_indexed, indexed_outcome, indexed_work, indexed_index, indexed_starts, ran_index, ran_starts, index_after, starts_after, accepts, begun}
use Rattle.indexed.specs.Keeping.{AnsweredIndexed}

-- ---- the filled work buffer

module _ (n : ℕ) (list script work : List ℕ) (p : Accepts (check_run n list script (length work))) (small : (i : ℕ) → get_or list i 0 < 256) where
  ok : AcceptedRun n list script (length work)
  ok = run_checked n list script (length work) p

  listed : Listed cubes (good n) n list
  listed = record {
    few = ok.list_is.few;
    whole = ok.list_is.whole;
    short = ok.list_is.short;
    each = all_each (Good n) (λ c. good n c ≡ true) (parts_good n) (cubes_of list) ok.list_is.good;
  }

  room : length (cubes_of list) ≤ cube_capacity (length work)
  room = omega (arith, ok.fits, length_list cubes list)

  module _ (w : List ℕ) (e : w ≡ filled_by work list) where
    pub first_carries : (cap : ℕ) → cap ≡ cube_capacity (length work) → Carries cubes (good n) n (length list / record_width) cap w
    first_carries cap ec = listed_carries cubes lawful (good n) n list work listed cubes_bytes small room (length list / record_width) refl w e cap ec

    pub first_records : records cubes (length list / record_width) w ≡ cubes_of list
    first_records = listed_records cubes lawful (good n) n list work listed cubes_bytes small room (length list / record_width) refl w e

    pub first_long : length w ≡ length work
    first_long = listed_long cubes lawful (good n) n list work listed cubes_bytes small room (length list / record_width) refl w e

    -- a run of the list in it is the run of the list
    module _ (cap : ℕ) (ec : cap ≡ cube_capacity (length work)) (w' : List ℕ) where
      abbrev steps_done : ℕ → ℕ → StepRecord → List Cube → After Cube
      steps_done n cap x l = step n cap (meaning x) l

      abbrev rs : List StepRecord
      rs = list_of step_records script

      abbrev pending : List ℕ
      pending = pend_by pend_record none_pending rs

      abbrev pub FirstStepping : List ℕ → Result Ended Refusal → Type 0
      FirstStepping w₂ r =
          SteppingBy cubes (steps_done n cap) (λ a. good n a ≡ true) n cap (length list / record_width) (list_of step_records script)
          (pend_by pend_record none_pending (list_of step_records script)) w w₂ r

      to_run : (r : Result Peaked Refusal) → AnsweredBy cubes (run_back (λ f c. f c) (steps_done n cap) n rs (records cubes (length list / record_width) w)) w w' r
          → Answered n list script work w' r
      to_run r a =
          subst (λ (t : Ran Cube). AnsweredBy cubes t work w' r) (back_is_run n list script (length work) p)
          (answered_same cubes (λ f c. f c) steps_done good rs [] w' n n cap (cube_capacity (length work)) (records cubes (length list / record_width) w) (cubes_of list) w work w' r
          refl ec first_records first_long refl a)

      pub stopped_is : (q : Refusal) → FirstStepping w' (Err q) → Answered n list script work w' (Err q)
      stopped_is q s =
          to_run (Err q)
          (back_stopped cubes lawful (steps_done n cap) (λ a. good n a ≡ true) n cap (length list / record_width) rs pending w w' (map (restored n pending)) q s)

      module _ (w₂ : List ℕ) (d : Ended) (s : FirstStepping w₂ (Ok d)) where
        pub ended_orders : All (λ o. o < order_count) d.pending
        ended_orders =
            subst (All (λ o. o < order_count))
            (sym (back_orders cubes lawful (steps_done n cap) (λ a. good n a ≡ true) n cap (length list / record_width) rs pending w w₂ d s))
            (record_orders rs none_pending (none_orders most_variables))

        pub ended_carries : Carries cubes (good n) n d.count cap w₂
        ended_carries = ready_carries cubes (good n) (λ a. good n a ≡ true) n d.count cap w₂ (λ a q. q) s.ready

        pub ended_is : (count : ℕ) → count ≡ d.count → length w₂ ≡ length w → w' ≡ image cubes (length w₂) (map (restored n d.pending) (records cubes count w₂))
            → Answered n list script work w' (Ok (record { count = d.count; peak = d.peak }))
        ended_is count many long is =
            to_run (Ok (record { count = d.count; peak = d.peak }))
            (back_ended cubes lawful (steps_done n cap) (λ a. good n a ≡ true) n cap (length list / record_width) rs pending w w₂ d s (restored n pending) count many long w'
            (is ∙ ap (λ (os : List ℕ). image cubes (length w₂) (map (restored n os) (records cubes count w₂)))
            (back_orders cubes lawful (steps_done n cap) (λ a. good n a ≡ true) n cap (length list / record_width) rs pending w w₂ d s)))

  pub first_few : length list / record_width ≤ cube_capacity (length work)
  first_few = ok.fits

  pub script_each : All (λ r. fits n r ≡ true) (list_of step_records script)
  script_each = ok.script_is.each

-- ---- after the last step

module _ (n : ℕ) (list script work index w : List ℕ) where
  -- the list at the end, and its index
  module _ (count peak : ℕ) (a : Answered n list script work w (Ok (record { count = count; peak = peak }))) (here : count ≤ length w / record_width) (long : length w ≡ length work) where
    at_end_lem : (t : Ran Cube) → accepted (count ∷ peak ∷ []) ≡ ran_outcome t → w ≡ ran_work (length work) t
        → (image places (length index) (list_index (records cubes count w)) ≡ ran_index (length index) t) × (list_starts (records cubes count w) ≡ ran_starts t)
    at_end_lem (stopped why step) e b = absurd (not_both e)
    at_end_lem (ended l q) e b =
        let many : count ≡ length l = ap (λ (v : List ℕ). get_or v 0 0) (accepted_values e) in
        let holds : Holds cubes w l = subst (λ (y : List ℕ). Holds cubes y l) (sym b) (image_holds cubes lawful (length work) l (omega (arith, many, here, long))) in
        let is : records cubes count w ≡ l = ap (λ (k : ℕ). records cubes k w) many ∙ holds_records cubes lawful w l holds in
        (ap (λ (m : List Cube). image places (length index) (list_index m)) is, ap list_starts is)

    pub indexed_done : (index' starts : List ℕ) → index' ≡ image places (length index) (list_index (records cubes count w)) → starts ≡ list_starts (records cubes count w)
        → AnsweredIndexed n list script work index w index' (Ok (record { count = count; peak = peak })) starts
    indexed_done index' starts ei es =
        let t = at_end_lem (run_of n list script (length work)) a.answer a.buffer in
        record { answer = a.answer; buffer = a.buffer; kept = ei ∙ t.0; begins = es ∙ t.1 }

  -- refused at a step
  module _ (q : Refusal) (a : Answered n list script work w (Err q)) where
    at_stop : (t : Ran Cube) → refused q ≡ ran_outcome t → (zeros (length index) ≡ ran_index (length index) t) × (replicate group_count 0 ≡ ran_starts t)
    at_stop (stopped why step) e = (refl, refl)
    at_stop (ended l p) e = absurd (not_both (sym e))

    pub indexed_stopped : (index' : List ℕ) → index' ≡ zeros (length index) → AnsweredIndexed n list script work index w index' (Err q) (replicate group_count 0)
    indexed_stopped index' e =
        let t = at_stop (run_of n list script (length work)) a.answer in
        record { answer = a.answer; buffer = a.buffer; kept = e ∙ t.0; begins = t.1 }

-- ---- the tests

module _ (n : ℕ) (list script : List ℕ) (room index_room : ℕ) where
  pub list_refused : (r : Refusal) → check_list most_variables n list ≡ refused r → refused r ≡ check_indexed n list script room index_room
  unfolding check_indexed
  list_refused r e = sym (and_not _ _ r e)

  module _ (count : ℕ) (e : check_list most_variables n list ≡ accepted (count ∷ [])) (cap : ℕ) (ec : cap ≡ cube_capacity room) where
    all : count ≡ length (cubes_of list)
    all = count_is cubes most_variables n list count e ∙ sym (length_list cubes list)

    pub work_short : (r : Refusal) → r ≡ refusal 5 0 → cap < count → refused r ≡ check_indexed n list script room index_room
    unfolding check_indexed
    work_short r er h =
        let short : cube_capacity room < length (cubes_of list) = omega (arith, all, ec) in
        ap refused er ∙ sym (and_then_lem _ _ _ e ∙ unless_fails _ 5 0 _ (lt-leb _ _ short))

    module _ (h : count ≤ cap) where
      work_fits : leb (length (cubes_of list)) (cube_capacity room) ≡ true
      work_fits = le-leb (length (cubes_of list)) (cube_capacity room) (omega (arith, all, ec))

      pub index_short : (r : Refusal) → r ≡ refusal 5 0 → index_room / place_width < cap → refused r ≡ check_indexed n list script room index_room
      unfolding check_indexed
      index_short r er g =
          let short : index_room < place_width * cube_capacity room = omega (arith, ec) in
          ap refused er ∙ sym (and_then_lem _ _ _ e ∙ unless_passes _ 5 0 _ work_fits ∙ unless_fails _ 5 0 _ (lt-leb _ _ short))

      pub script_left : cap ≤ index_room / place_width → (o : Outcome) → o ≡ check_script n script → o ≡ check_indexed n list script room index_room
      unfolding check_indexed
      script_left g o eo =
          let fits : place_width * cube_capacity room ≤ index_room = omega (arith, ec) in
          eo ∙ sym (and_then_lem _ _ _ e ∙ unless_passes _ 5 0 _ work_fits ∙ unless_passes _ 5 0 _ (le-leb _ _ fits))

  -- with room for the index they are those of run
  pub tests_of_run : place_width * cube_capacity room ≤ index_room → check_indexed n list script room index_room ≡ check_run n list script room
  unfolding check_indexed check_run
  tests_of_run h = simp (le-leb _ _ h)

  -- and where they pass there is room
  pub index_fits : (v : List ℕ) → check_indexed n list script room index_room ≡ accepted v → place_width * cube_capacity room ≤ index_room
  unfolding check_indexed
  index_fits v e =
      let b = both_accepted (check_list most_variables n list) _ v e in
      let c = unless_accepted (leb (length (cubes_of list)) (cube_capacity room)) 5 0 _ v b.second in
      let d = unless_accepted (leb (place_width * cube_capacity room) index_room) 5 0 _ v c.1 in
      leb-true _ _ d.0

  pub run_accepts : (v : List ℕ) → check_indexed n list script room index_room ≡ accepted v → Accepts (check_run n list script room)
  run_accepts v e = record { values = v; is = sym (tests_of_run (index_fits v e)) ∙ e }

-- ---- the whole call

pub record Whole (n : ℕ) (list script work index w index' : List ℕ) (started : Bool) (o : Outcome) (starts : List ℕ) : Type 0 where
  pub began : started ≡ begun n list script (length work) (length index)
  pub answer : o ≡ indexed_outcome n list script (length work) (length index)
  pub begins : starts ≡ indexed_starts n list script (length work) (length index)
  pub work_is : w ≡ indexed_work n list script work (length index)
  pub index_is : index' ≡ indexed_index n list script (length work) index

module _ (n : ℕ) (list script work index : List ℕ) where
  abbrev whole : Ran Cube
  whole = run_of n list script (length work)

  pub whole_refused : (r : Refusal) → check_indexed n list script (length work) (length index) ≡ refused r → Whole n list script work index work index false (refused r) (replicate group_count 0)
  unfolding begun indexed_outcome indexed_starts indexed_work indexed_index
  whole_refused r e = record {
    began = sym (ap accepts e);
    answer = sym (and_not _ _ r e);
    begins = sym (ap (λ (o : Outcome). starts_after o whole) e);
    work_is = sym (ap (λ (o : Outcome). work_after o work whole) e);
    index_is = sym (ap (λ (o : Outcome). index_after o index whole) e);
  }

  pub whole_run : (v : List ℕ) → check_indexed n list script (length work) (length index) ≡ accepted v → (w index' : List ℕ) (t : Bool) (f : Result Peaked Refusal) (starts : List ℕ)
      → AnsweredIndexed n list script work index w index' f starts → t ≡ true → Whole n list script work index w index' t (finished f) starts
  unfolding begun indexed_outcome indexed_starts indexed_work indexed_index
  whole_run v e w index' t f starts a et = record {
    began = et ∙ sym (ap accepts e);
    answer = a.answer ∙ sym (and_then_lem _ _ v e);
    begins = a.begins ∙ sym (ap (λ (o : Outcome). starts_after o whole) e);
    work_is = a.buffer ∙ sym (ap (λ (o : Outcome). work_after o work whole) e);
    index_is = a.kept ∙ sym (ap (λ (o : Outcome). index_after o index whole) e);
  }

-- Settling a list of shared products: what its checks refuse and let pass, what is burned, and what the call answers and leaves, by the laws of any kind of record.
-- Assumes nothing.
use mathlib.Core.Path.{◌≡◌, refl, sym, ap, ◌∙◌, subst}
use mathlib.Core.Bool.{Bool, cond}
use mathlib.Core.List.{List, [], ◌∷◌}
use Prim.Native.Nat.{ℕ, ◌*◌, ◌/◌, ◌%◌, ◌≤◌, ◌<◌}
use native.Mathlib.Nat.{le_trans, mul-le-mul_left}
use native.Mathlib.Omega.{arith}
use borrow.Author.Tests.{le-leb, lt-leb}
use lib.Dec.{leb}
use lib.ListN.{length, get_or, take}
use Rattle.records.specs.declared.Refusal.{Refusal}
use Rattle.records.specs.Records.{list_of, image, filled_by, zeros}
use Rattle.records.specs.Answers.{Outcome, accepted, refused, refusal, unless}
use Rattle.records.proofs.Answers.{unless_passes, unless_fails}
use Rattle.records.proofs.Records.{length_list, capacity_fits, capacity_most}
use Rattle.cube.specs.Lists.{most_records}
use Rattle.script.specs.Run.{Ran, ended}
use Rattle.script.proofs.Filled.{filled_image_by}
use Rattle.script.proofs.Outcomes.{before_list, before_short, before_script}
use Rattle.script.proofs.Settled.{SettledBy, settled_before, settled_after, settled_refused, RanTo, ran_to}
use Rattle.script.proofs.Settled as settled
use Rattle.shared.specs.declared.Shared.{Shared}
use Rattle.shared.specs.SharedRecord.{shares, shares_of, shared_width, shared_capacity}
use Rattle.shared.specs.Calls.{check_shared}
use Rattle.shared.proofs.SharedRecord.{shared_lawful, shared_bytes}
use Rattle.shared.proofs.Lists.{shared_accepts, shared_count_is}
use Rattle.shared_run.specs.SharedScripts.{check_shared_script, shared_steps_of}
use Rattle.shared_run.specs.SharedRun.{shared_burned}
use Rattle.shared_run.specs.Calls.{check_shared_run, shared_run_of, shared_run_outcome, shared_run_after, check_shared_settle, ran_shared, shared_settle_outcome, shared_settle_work, ran_shared_out, shared_settle_out}
use Rattle.shared_run.proofs.Counts.{shared_peak_capacity, shared_last}

-- ---- what is burned

-- a whole list to the front of the output
filled_list : (list out : List ℕ) → length list % shared_width ≡ 0 → length list ≤ length out → ((i : ℕ) → get_or list i 0 < 256)
    → (out' : List ℕ) → out' ≡ filled_by out list → out' ≡ image shares (length out) (shares_of list)
unfolding list_of
filled_list list out whole fits small out' e =
    filled_image_by shares shared_lawful (length list / shared_width) list out (shared_bytes (length list / shared_width) list (omega arith) small) fits out' e

module _ (list result out : List ℕ) where
  abbrev burned : List Shared
  burned = shared_burned (shares_of result) (shares_of list)

  -- the result is longer: the given list
  pub burn_given : length list % shared_width ≡ 0 → length list ≤ length out → ((i : ℕ) → get_or list i 0 < 256) → length list / shared_width < length result / shared_width
      → (out' : List ℕ) → out' ≡ filled_by out list
      → (length list / shared_width ≡ length (shared_burned (shares_of result) (shares_of list))) × (out' ≡ image shares (length out) (shared_burned (shares_of result) (shares_of list)))
  burn_given whole fits small h out' e =
      let longer : length (shares_of list) < length (shares_of result) = omega (arith, length_list shares list, length_list shares result) in
      let is : burned ≡ shares_of list = ap (λ (t : Bool). cond t (shares_of result) (shares_of list)) (lt-leb _ _ longer) in
      (sym (ap length is ∙ length_list shares list), filled_list list out whole fits small out' e ∙ sym (ap (image shares (length out)) is))

  -- else the result
  pub burn_result : length list % shared_width ≡ 0 → length result % shared_width ≡ 0 → length list ≤ length out → ((i : ℕ) → get_or result i 0 < 256)
      → length result / shared_width ≤ length list / shared_width → (out' : List ℕ) → out' ≡ filled_by out result
      → (length result / shared_width ≡ length (shared_burned (shares_of result) (shares_of list))) × (out' ≡ image shares (length out) (shared_burned (shares_of result) (shares_of list)))
  burn_result list_whole whole fits small h out' e =
      let shorter : length (shares_of result) ≤ length (shares_of list) = omega (arith, length_list shares list, length_list shares result) in
      let is : burned ≡ shares_of result = ap (λ (t : Bool). cond t (shares_of result) (shares_of list)) (le-leb _ _ shorter) in
      (sym (ap length is ∙ length_list shares result), filled_list result out whole (omega arith) small out' e ∙ sym (ap (image shares (length out)) is))

-- ---- the call

-- settle was called with n, a list, a script and two buffers; its answer was o, and it left work' and out' in the buffers
pub record SettleDone (n : ℕ) (list script work out : List ℕ) (o : Outcome) (work' out' : List ℕ) : Type 0 where
  pub answer : o ≡ shared_settle_outcome n list script (length work) (length out)
  pub work_is : work' ≡ shared_settle_work n list script work (length out)
  pub out_is : out' ≡ shared_settle_out n list script (length work) out

module _ (n : ℕ) (list script work out : List ℕ) where
  abbrev check : Outcome
  check = check_shared_settle n list script (length work) (length out)

  abbrev ran_shared_lem : Outcome
  ran_shared_lem = ran_shared (shares_of list) (shared_run_of n list script (length work))

  abbrev ran_out : List ℕ
  ran_out = ran_shared_out (shares_of list) (shared_run_of n list script (length work)) out

  done : (o : Outcome) (work' out' : List ℕ) → SettledBy check ran_shared_lem work out ran_out o work' out' → SettleDone n list script work out o work' out'
  unfolding shared_settle_outcome shared_settle_work shared_settle_out
  done o work' out' s = record { answer = s.answer; work_is = s.work_is; out_is = s.out_is }

  refused_first : (r : Refusal) → check ≡ refused r → SettleDone n list script work out (refused r) work out
  refused_first r e = done (refused r) work out (settled_before check ran_shared_lem work out ran_out r e)

  -- what is left of the check after that of the list and of the work buffer
  abbrev rest : Outcome
  rest = unless (leb (length (shares_of list)) (shared_capacity (length out))) 5 0 (check_shared_script n script)

  pub list_refused : (r : Refusal) → check_shared n list ≡ refused r → SettleDone n list script work out (refused r) work out
  unfolding check_shared_settle
  list_refused r e = refused_first r (sym (before_list (check_shared n list) (length (shares_of list)) (shared_capacity (length work)) rest r e))

  module _ (given : ℕ) (eg : check_shared n list ≡ accepted (given ∷ [])) where
    given_is : given ≡ length (shares_of list)
    given_is = shared_count_is n list given eg ∙ sym (length_list shares list)

    pub work_short : (room : ℕ) → room ≡ shared_capacity (length work) → room < given → (r : Refusal) → r ≡ refusal 5 0 → SettleDone n list script work out (refused r) work out
    unfolding check_shared_settle
    work_short room er h r e =
        refused_first r
        (sym (before_short (check_shared n list) (length (shares_of list)) (shared_capacity (length work)) rest (given ∷ []) eg r e (omega (arith, er, given_is, h))))

    module _ (room : ℕ) (er : room ≡ shared_capacity (length work)) (h : given ≤ room) where
      pub room_work : length (shares_of list) ≤ shared_capacity (length work)
      room_work = omega (arith, er, given_is, h)

      to_rest : rest ≡ check
      unfolding check_shared_settle
      to_rest = before_script (check_shared n list) (length (shares_of list)) (shared_capacity (length work)) rest (given ∷ []) eg room_work

      pub out_short : (place : ℕ) → place ≡ shared_capacity (length out) → place < given → (r : Refusal) → r ≡ refusal 5 0 → SettleDone n list script work out (refused r) work out
      out_short place ep k r e =
          let short : shared_capacity (length out) < length (shares_of list) = omega (arith, ep, given_is, k) in
          refused_first r (sym to_rest ∙ unless_fails _ 5 0 _ (lt-leb _ _ short) ∙ sym (ap refused e))

      module _ (place : ℕ) (ep : place ≡ shared_capacity (length out)) (k : given ≤ place) where
        room_out : length (shares_of list) ≤ shared_capacity (length out)
        room_out = omega (arith, ep, given_is, k)

        -- what is left of both checks is the check of the script
        same_check : check_shared_run n list script (length work) ≡ check
        unfolding check_shared_run
        same_check =
            sym (before_script (check_shared n list) (length (shares_of list)) (shared_capacity (length work)) (check_shared_script n script) (given ∷ []) eg room_work)
            ∙ sym (unless_passes _ 5 0 _ (le-leb _ _ room_out)) ∙ to_rest

        pub run_refused : (r : Refusal) (work' : List ℕ) → refused r ≡ shared_run_outcome n list script (length work) → work' ≡ shared_run_after n list script work
            → SettleDone n list script work out (refused r) work' out
        unfolding shared_run_outcome shared_run_after
        run_refused r work' e ew =
            done (refused r) work' out
            (subst (λ (o : Outcome). SettledBy o ran_shared_lem work out ran_out (refused r) work' out) same_check
            (settled_refused shares (check_shared_run n list script (length work)) (shared_run_of n list script (length work)) work work' ew (ran_shared (shares_of list))
            (λ t. ran_shared_out (shares_of list) t out) out (λ why step. refl) (λ why step. refl) r e))

        module _ (count peak : ℕ) (work' : List ℕ) (e : accepted (count ∷ peak ∷ []) ≡ shared_run_outcome n list script (length work))
            (ew : work' ≡ shared_run_after n list script work) where
          to : RanTo shares (check_shared_run n list script (length work)) (shared_run_of n list script (length work)) work work' count peak
          unfolding shared_run_outcome shared_run_after
          to = ran_to shares (check_shared_run n list script (length work)) (shared_run_of n list script (length work)) work work' ew count peak e

          few : length to.result ≤ shared_capacity (length work)
          unfolding shared_run_of
          few =
              let t = to in
              omega (
                arith,
                room_work,
                shared_last n (shared_capacity (length work)) (shared_steps_of script) (shares_of list) t.result peak t.is,
                shared_peak_capacity n (shared_capacity (length work)) (shared_steps_of script) (shares_of list) t.result peak t.is,
              )

          pub result_few : count ≤ most_records
          result_few = omega (arith, to.many, few, capacity_most shares most_records (length work))

          -- the bytes of the script's result are the front of the work buffer
          pub result_end : shared_width * count ≤ length work'
          result_end =
              settled.result_end shares shared_lawful (check_shared_run n list script (length work)) (shared_run_of n list script (length work)) work work' count peak to
              (le_trans (mul-le-mul_left shared_width few) (capacity_fits shares most_records (length work)))

          module _ (front : List ℕ) (ef : front ≡ take (shared_width * count) work') where
            result_is : shares_of front ≡ to.result
            result_is =
                settled.result_is shares shared_lawful (check_shared_run n list script (length work)) (shared_run_of n list script (length work)) work work' count peak to front ef

            pub front_whole : length front % shared_width ≡ 0
            front_whole =
                omega (
                  arith,
                  settled.front_long shares shared_lawful (check_shared_run n list script (length work)) (shared_run_of n list script (length work)) work work' count peak to front ef,
                )

            pub run_settled : (out' : List ℕ) (b : ℕ) → b ≡ length (shared_burned (shares_of front) (shares_of list))
                → out' ≡ image shares (length out) (shared_burned (shares_of front) (shares_of list)) → (work'' : List ℕ) → work'' ≡ zeros (length work') → length work' ≡ length work
                → SettleDone n list script work out (accepted (given ∷ peak ∷ count ∷ b ∷ [])) work'' out'
            run_settled out' b eb eo work'' cleared long =
                let t = to in
                let v : accepted (given ∷ peak ∷ count ∷ b ∷ []) ≡ ran_shared (shares_of list) (ended t.result peak) =
                λ i. accepted (given_is i ∷ peak ∷ t.many i ∷ (eb ∙ ap (λ (m : List Shared). length (shared_burned m (shares_of list))) result_is) i ∷ []) in
                done _ work'' out'
                (settled_after check ran_shared_lem work out ran_out t.values (sym same_check ∙ t.checked) _ (v ∙ sym (ap (ran_shared (shares_of list)) t.is))
                work'' (cleared ∙ ap zeros long) out'
                (eo ∙ ap (λ (m : List Shared). image shares (length out) (shared_burned m (shares_of list))) result_is
                ∙ sym (ap (λ (r : Ran Shared). ran_shared_out (shares_of list) r out) t.is)))

        -- an accepted list is whole, and fits the output
        pub list_whole : length list % shared_width ≡ 0
        list_whole = (shared_accepts n list (given ∷ []) eg).whole

        pub list_fits : length list ≤ length out
        list_fits = omega (arith, list_whole, room_out, length_list shares list, capacity_fits shares most_records (length out))

-- The best candidate to the output, and the whole call of settle by the first thing that refuses it.
-- Assumes nothing.
use mathlib.Core.List.{List, [], ◌∷◌, ◌++◌}
use mathlib.Core.Path.{◌≡◌, ap, ◌∙◌, subst, sym, refl}
use Prim.Native.Nat.{ℕ, ◌≤◌, ◌*◌, ◌<◌}
use native.Mathlib.Nat.{le_trans, mul-le-mul_left}
use native.Mathlib.Omega.{arith}
use borrow.Author.Tests.{le-leb, lt-leb}
use lib.Dec.{leb}
use lib.ListN.{length, take}
use Rattle.records.specs.Answers.{Outcome, accepted, refused, refusal, unless}
use Rattle.records.specs.Records.{image, zeros}
use Rattle.records.specs.declared.Refusal.{Refusal}
use Rattle.records.proofs.Answers.{unless_passes, unless_fails}
use Rattle.records.proofs.Records.{capacity_fits, capacity_most, length_list}
use Rattle.cube.specs.Calls.{check_list}
use Rattle.cube.specs.Lists.{cubes, cubes_of, cube_capacity, most_variables, record_width, most_records}
use Rattle.cube.specs.declared.Cube.{Cube}
use Rattle.cube.proofs.Lists.{check_accepts, count_is, lawful}
use Rattle.script.specs.Calls.{check_script, check_run, run_of, run_outcome, run_after}
use Rattle.script.specs.Run.{Ran, ended}
use Rattle.script.specs.Scripts.{steps_of}
use Rattle.script.proofs.Counts.{run_peak_capacity, run_last}
use Rattle.script.proofs.Outcomes.{before_list, before_short, before_script}
use Rattle.script.proofs.Settled.{SettledBy, settled_before, settled_after, settled_refused, RanTo, ran_to}
use Rattle.script.proofs.Settled as settled
use Rattle.settling.specs.Calls.{check_settle, fixed_values, ran_settled, settle_outcome, settle_work, ran_burned, settle_out}
use Rattle.settling.specs.Candidates.{burned_list}
use Rattle.settling.specs.Choice.{list_from, StandsFor, FormIs, Choosable, Burnable, Burns, BurnedIs, BurningIs}
use Rattle.settling.specs.declared.BestForm.{BestForm}
use Rattle.settling.specs.declared.Burning.{Burning}
use Rattle.settling.specs.declared.Candidate.{Candidate}
use Rattle.settling.proofs.Cheapest.{burned_le_given}

-- settle was called with n, a list, a script and two buffers; its answer was o, and it left work' and out' in the buffers
pub record SettleDone (n : ℕ) (list script work out : List ℕ) (o : Outcome) (work' out' : List ℕ) : Type 0 where
  pub answer : o ≡ settle_outcome n list script (length work) (length out)
  pub work_is : work' ≡ settle_work n list script work (length out)
  pub out_is : out' ≡ settle_out n list script (length work) out

pub best_choosable : (n : ℕ) (list result : List ℕ) (best : BestForm) → FormIs n (cubes_of list) best → (out : ℕ) → Burns n list result out → Choosable n list result best
best_choosable n list result best F out b = record {
  list_short = omega (arith, (check_accepts cubes most_variables n list b.passed.values b.passed.is).short, length_list cubes list);
  result_short = b.short;
  best_is = F;
}

module _ (n : ℕ) (list result : List ℕ) (best : BestForm) (F : FormIs n (cubes_of list) best) (c : Candidate)
    (S : StandsFor n (cubes_of result) (cubes_of list) (burned_list n (cubes_of result) (cubes_of list)) c) where
  pub best_burnable : (out : ℕ) → Burns n list result out → Burnable n list result best c.origin out
  best_burnable out b = record {
    list_whole = (check_accepts cubes most_variables n list b.passed.values b.passed.is).whole;
    result_whole = b.whole;
    best_is = F;
    named = S.named;
    room = subst (λ (l : List Cube). length l ≤ cube_capacity out) (sym S.list_is) (le_trans (burned_le_given n (cubes_of result) (cubes_of list)) b.room);
  }

  pub best_burned : (out out' : List ℕ) (r : ℕ) → BurnedIs (list_from n (cubes_of result) (cubes_of list) c.origin) out out' r
      → BurningIs n (cubes_of result) (cubes_of list) out out' (record { fixed = best.fixed; burned = r })
  best_burned out out' r d = record {
    fixed = F.fixed;
    burned = d.answer ∙ ap length S.list_is;
    buffer = d.buffer ∙ ap (image cubes (length out)) S.list_is;
  }

-- ---- the call

module _ (n : ℕ) (list script work out : List ℕ) where
  abbrev check : Outcome
  check = check_settle n list script (length work) (length out)

  abbrev ran_settled_lem : Outcome
  ran_settled_lem = ran_settled n (cubes_of list) (run_of n list script (length work))

  abbrev ran_burned_lem : List ℕ
  ran_burned_lem = ran_burned n (cubes_of list) (run_of n list script (length work)) out

  done : (o : Outcome) (work' out' : List ℕ) → SettledBy check ran_settled_lem work out ran_burned_lem o work' out' → SettleDone n list script work out o work' out'
  unfolding settle_outcome settle_work settle_out
  done o work' out' s = record { answer = s.answer; work_is = s.work_is; out_is = s.out_is }

  refused_first : (r : Refusal) → check ≡ refused r → SettleDone n list script work out (refused r) work out
  refused_first r e = done (refused r) work out (settled_before check ran_settled_lem work out ran_burned_lem r e)

  -- what is left of the check after that of the list and of the work buffer
  abbrev rest : Outcome
  rest = unless (leb (length (cubes_of list)) (cube_capacity (length out))) 5 0 (check_script n script)

  pub list_refused : (r : Refusal) → check_list most_variables n list ≡ refused r → SettleDone n list script work out (refused r) work out
  unfolding check_settle
  list_refused r e = refused_first r (sym (before_list (check_list most_variables n list) (length (cubes_of list)) (cube_capacity (length work)) rest r e))

  module _ (given : ℕ) (eg : check_list most_variables n list ≡ accepted (given ∷ [])) where
    given_is : given ≡ length (cubes_of list)
    given_is = count_is cubes most_variables n list given eg ∙ sym (length_list cubes list)

    pub work_short : (room : ℕ) → room ≡ cube_capacity (length work) → room < given → (r : Refusal) → r ≡ refusal 5 0 → SettleDone n list script work out (refused r) work out
    unfolding check_settle
    work_short room er h r e =
        refused_first r
        (sym (before_short (check_list most_variables n list) (length (cubes_of list)) (cube_capacity (length work)) rest (given ∷ []) eg r e (omega (arith, er, given_is, h))))

    module _ (room : ℕ) (er : room ≡ cube_capacity (length work)) (h : given ≤ room) where
      pub room_work : length (cubes_of list) ≤ cube_capacity (length work)
      room_work = omega (arith, er, given_is, h)

      to_rest : rest ≡ check
      unfolding check_settle
      to_rest = before_script (check_list most_variables n list) (length (cubes_of list)) (cube_capacity (length work)) rest (given ∷ []) eg room_work

      pub out_short : (place : ℕ) → place ≡ cube_capacity (length out) → place < given → (r : Refusal) → r ≡ refusal 5 0 → SettleDone n list script work out (refused r) work out
      out_short place ep k r e =
          let short : cube_capacity (length out) < length (cubes_of list) = omega (arith, ep, given_is, k) in
          refused_first r (sym to_rest ∙ unless_fails _ 5 0 _ (lt-leb _ _ short) ∙ sym (ap refused e))

      module _ (place : ℕ) (ep : place ≡ cube_capacity (length out)) (k : given ≤ place) where
        room_out : length (cubes_of list) ≤ cube_capacity (length out)
        room_out = omega (arith, ep, given_is, k)

        -- what is left of both checks is the check of the script
        same_check : check_run n list script (length work) ≡ check
        unfolding check_run
        same_check =
            sym (before_script (check_list most_variables n list) (length (cubes_of list)) (cube_capacity (length work)) (check_script n script) (given ∷ []) eg room_work)
            ∙ sym (unless_passes _ 5 0 _ (le-leb _ _ room_out)) ∙ to_rest

        pub run_refused : (r : Refusal) (work' : List ℕ) → refused r ≡ run_outcome n list script (length work) → work' ≡ run_after n list script work
            → SettleDone n list script work out (refused r) work' out
        unfolding run_outcome run_after
        run_refused r work' e ew =
            done (refused r) work' out
            (subst (λ (o : Outcome). SettledBy o ran_settled_lem work out ran_burned_lem (refused r) work' out) same_check
            (settled_refused cubes (check_run n list script (length work)) (run_of n list script (length work)) work work' ew (ran_settled n (cubes_of list))
            (λ t. ran_burned n (cubes_of list) t out) out (λ why step. refl) (λ why step. refl) r e))

        module _ (count peak : ℕ) (work' : List ℕ) (e : accepted (count ∷ peak ∷ []) ≡ run_outcome n list script (length work)) (ew : work' ≡ run_after n list script work) where
          -- an accepted run: its list fills the front of the work buffer
          to : RanTo cubes (check_run n list script (length work)) (run_of n list script (length work)) work work' count peak
          unfolding run_outcome run_after
          to = ran_to cubes (check_run n list script (length work)) (run_of n list script (length work)) work work' ew count peak e

          few : length to.result ≤ cube_capacity (length work)
          unfolding run_of
          few =
              let t = to in
              omega (
                arith,
                room_work,
                run_last n (cube_capacity (length work)) (steps_of script) (cubes_of list) t.result peak t.is,
                run_peak_capacity n (cube_capacity (length work)) (steps_of script) (cubes_of list) t.result peak t.is,
              )

          pub result_few : count ≤ most_records
          result_few = omega (arith, to.many, few, capacity_most cubes most_records (length work))

          -- the bytes of the script's result are the front of the work buffer
          pub result_end : record_width * count ≤ length work'
          result_end =
              settled.result_end cubes lawful (check_run n list script (length work)) (run_of n list script (length work)) work work' count peak to
              (le_trans (mul-le-mul_left record_width few) (capacity_fits cubes most_records (length work)))

          module _ (front : List ℕ) (ef : front ≡ take (record_width * count) work') where
            result_is : cubes_of front ≡ to.result
            result_is = settled.result_is cubes lawful (check_run n list script (length work)) (run_of n list script (length work)) work work' count peak to front ef

            pub run_burns : Burns n list front (length out)
            run_burns = record {
              whole = omega (arith, settled.front_long cubes lawful (check_run n list script (length work)) (run_of n list script (length work)) work work' count peak to front ef);
              short = subst (λ (l : List Cube). length l ≤ most_records) (sym result_is) (le_trans few (capacity_most cubes most_records (length work)));
              passed = record { values = given ∷ []; is = eg };
              room = room_out;
            }

            pub run_settled : (out' : List ℕ) (b : Burning) → BurningIs n (cubes_of front) (cubes_of list) out out' b
                → (work'' : List ℕ) → work'' ≡ zeros (length work') → length work' ≡ length work
                → SettleDone n list script work out (accepted (given ∷ peak ∷ count ∷ (fixed_values b.fixed ++ (b.burned ∷ [])))) work'' out'
            run_settled out' b is work'' cleared long =
                let t = to in
                let v : accepted (given ∷ peak ∷ count ∷ (fixed_values b.fixed ++ (b.burned ∷ []))) ≡ ran_settled n (cubes_of list) (ended t.result peak) =
                λ i. accepted (given_is i ∷ peak ∷ t.many i ∷ (fixed_values (is.fixed i) ++ ((is.burned ∙ ap (λ (m : List Cube). length (burned_list n m (cubes_of list))) result_is) i ∷ []))) in
                done _ work'' out'
                (settled_after check ran_settled_lem work out ran_burned_lem t.values (sym same_check ∙ t.checked) _ (v ∙ sym (ap (ran_settled n (cubes_of list)) t.is))
                work'' (cleared ∙ ap zeros long) out'
                (is.buffer ∙ ap (λ (m : List Cube). image cubes (length out) (burned_list n m (cubes_of list))) result_is
                ∙ sym (ap (λ (r : Ran Cube). ran_burned n (cubes_of list) r out) t.is)))

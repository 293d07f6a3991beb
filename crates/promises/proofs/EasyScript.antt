-- The easy script, of a call of the writer that was accepted: document 02, Three. "take the lowest i, then the lowest j above it, whose cubes are equal or differ in one
-- variable; write a drop or a join; go on from the new list. It has finished exactly when the end list has no such pair, even after exactly 1,024 steps; else it stops there;
-- it answers the number of steps and which. The work buffer ends with the end list and zeros. The script, run on the given list with room for it, is never refused and gives
-- that end list." Which calls are accepted, and what the others are refused by, is demand 1.
-- Assumes nothing.
use mathlib.Core.Path.{◌≡◌, refl, sym, ap, ap₂, ◌∙◌, subst}
use mathlib.Core.Bool.{Bool, true, false, not}
use mathlib.Core.List.{List, [], ◌∷◌, map}
use Prim.Native.Nat.{ℕ, suc, ◌+◌, ◌*◌, ◌/◌, ◌≤◌, ◌<◌}
use native.Mathlib.Omega.{arith}
use borrow.Author.Tests.{le-leb}
use lib.ListN.{length, get_or, drop}
use Rattle.std.specs.Prelude.{Ok}
use Rattle.bits.specs.Sums.{one_if}
use Rattle.records.specs.Records.{image, written}
use Rattle.records.specs.Answers.{Outcome, accepted}
use Rattle.records.proofs.Answers.{and_then_lem, after_accepted, unless_passes}
use Rattle.cube.specs.declared.Cube.{Cube}
use Rattle.cube.specs.Lists.{record_width, cubes, cubes_of, cube_capacity, most_variables, list_value}
use Rattle.cube.specs.Calls.{check_list}
use Rattle.cube.proofs.Lists.{accepts_check}
use Rattle.steps.specs.Moves.{next}
use Rattle.steps.specs.Steps.{Step, step}
use Rattle.script.specs.Counts.{lists}
use Rattle.script.specs.Run.{Ran, ended}
use Rattle.script.specs.Run as running
use Rattle.script.specs.Scripts.{step_records, step_width, most_steps, record_of, steps_of}
use Rattle.script.specs.Calls.{check_script, check_run, run_of, ran_outcome, run_outcome, work_after, run_after}
use Rattle.script.proofs.Scripts.{script_bytes, script_read, steps_front, steps_rest}
use Rattle.script.proofs.Value.{run_value}
use Rattle.writer.specs.Pairs.{partner, lowest, has_pair, IsPair, First}
use Rattle.writer.specs.Easy.{easy_step, easy_next, easy_steps, easy_finished}
use Rattle.writer.specs.Calls.{write_work, write_steps}
use Rattle.writer.proofs.Pairs as pairs
use Rattle.writer.proofs.Easy.{easy_accepted, easy_fewer, easy_count, easy_fit, easy_run, easy_short}
use Rattle.writer.proofs.Replaying.{easy_passes, easy_replays, easy_room, easy_lists}
use Rattle.writer.proofs.Calls.{AcceptedWrite, write_accepts}
use Rattle.settling.specs.declared.Settlement.{Settlement}
use Rattle.settling.specs.Calls.{settled, ran_settled, settle_outcome, check_settle}
use Rattle.promises.specs.Calls.{run, write_script, settle, answers, leaves, Called}
use Rattle.promises.specs.Burned.{burned_in}
use Rattle.promises.specs.EasyScript.{end_list, FinishedExactly}
use Rattle.promises.specs.OtherScript.{written_in}
use Rattle.promises.proofs.Calling.{only, work_of, out_of, accepted_settled}
use Rattle.promises.proofs.DemandThree as three

-- ---- the meaning: the first pair, and its step

module _ (n : ℕ) (l : List Cube) where
  -- Where a list has a pair, the meaning's two places are one; no pair has a lower i, nor the same i and a lower j; ..
  pub pair_is_first : has_pair n l ≡ true → First n l (lowest n l) (partner n l (lowest n l))
  pair_is_first = pairs.has_first n l

  -- .. and no other two places are so.
  pub first_is_only : (i j : ℕ) → First n l i j → (lowest n l ≡ i) × (partner n l (lowest n l) ≡ j)
  first_is_only i j p = (pairs.first_lowest n l i j p, pairs.first_partner n l i j p)

  -- A list has a pair exactly where there are two places that make one.
  pub has_pair_lem : (i j : ℕ) → IsPair n l i j → has_pair n l ≡ true
  has_pair_lem = pairs.pair_has n l

  -- The step of the first pair is accepted, whatever the capacity, and takes at least one product away.
  pub step_accepted : has_pair n l ≡ true → (cap : ℕ) → (step n cap (easy_step n l) l ≡ next (easy_next n l)) × (length (easy_next n l) < length l)
  step_accepted h cap = (easy_accepted n l h cap, easy_fewer n l h)

-- ---- a call that was accepted

module _ (n : ℕ) (list work script : List ℕ) (steps which : ℕ) (work' script' : List ℕ)
    (called : Called (write_script n list work script) (accepted (steps ∷ which ∷ [])) (work' ∷ script' ∷ [])) where
  taken : AcceptedWrite n list (length work) (length script) (steps ∷ which ∷ [])
  unfolding answers
  taken = write_accepts n list (length work) (length script) (steps ∷ which ∷ []) (sym called.answer)

  all : steps ≡ length (easy_steps n most_steps (cubes_of list))
  all = ap (λ (v : List ℕ). get_or v 0 0) taken.value

  done : which ≡ one_if (easy_finished n most_steps (cubes_of list))
  done = ap (λ (v : List ℕ). get_or v 1 0) taken.value

  -- The work buffer ends with the end list and zeros.
  pub work_ends : work' ≡ image cubes (length work) (end_list n list)
  unfolding answers leaves write_work
  work_ends = work_of called.left ∙ after_accepted _ _ work _ (sym called.answer)

  script_is : script' ≡ written step_records 0 (map record_of (easy_steps n most_steps (cubes_of list))) script
  unfolding answers leaves write_steps
  script_is = out_of called.left ∙ after_accepted _ _ script _ (sym called.answer)

  room : step_width * length (easy_steps n most_steps (cubes_of list)) ≤ length script
  room = easy_room n (cubes_of list) (length script) taken.room

  bytes : written_in steps script' ≡ script_bytes (easy_steps n most_steps (cubes_of list))
  bytes = (λ i. written_in (all i) (script_is i)) ∙ steps_front (easy_steps n most_steps (cubes_of list)) script room

  -- The steps stand at the front of the script buffer, ..
  pub written_steps : steps_of (written_in steps script') ≡ easy_steps n most_steps (cubes_of list)
  written_steps = ap steps_of bytes ∙ script_read (easy_steps n most_steps (cubes_of list))

  -- .. and every byte after them is as it was.
  pub script_no_more : drop (step_width * steps) script' ≡ drop (step_width * steps) script
  script_no_more =
      (λ i. drop (step_width * all i) (script_is i)) ∙ steps_rest (easy_steps n most_steps (cubes_of list)) script room ∙ ap (λ (k : ℕ). drop (step_width * k) script) (sym all)

  -- There are at most 1,024 steps, and each takes at least one product away: so much for all of them, ..
  pub steps_most : (steps ≤ most_steps) × (steps + length (end_list n list) ≤ length (cubes_of list))
  steps_most = let t = easy_count n most_steps (cubes_of list) in (omega (arith, all, t.0), omega (arith, all, t.1))

  -- .. and this for each: the list after it has fewer products than the list before it, in whatever capacity the script is run.
  pub each_fewer : (cap k : ℕ) → k < steps
      → length (get_or (lists n cap (steps_of (written_in steps script')) (cubes_of list)) (suc k) []) < length (get_or (lists n cap (steps_of (written_in steps script')) (cubes_of list)) k [])
  each_fewer cap k h =
      subst (λ (xs : List Step). length (get_or (lists n cap xs (cubes_of list)) (suc k) []) < length (get_or (lists n cap xs (cubes_of list)) k [])) (sym written_steps)
      (easy_lists n cap most_steps (cubes_of list) k (omega (arith, all)))

  -- The written script passes 7, 8 and 9 ..
  pub written_passes : check_script n (written_in steps script') ≡ accepted (steps ∷ [])
  written_passes = ap (check_script n) bytes ∙ easy_passes n (cubes_of list) ∙ ap (λ (k : ℕ). accepted (k ∷ [])) (sym all)

  -- .. and is not refused at a step, whatever the capacity; it ends in the end list, and its peak is the given count.
  pub written_runs : (cap : ℕ) → running.run n cap (steps_of (written_in steps script')) (cubes_of list) ≡ ended (end_list n list) (length (cubes_of list))
  written_runs cap = ap (λ (b : List ℕ). running.run n cap (steps_of b) (cubes_of list)) bytes ∙ easy_replays n (cubes_of list) cap

  listed : check_list most_variables n list ≡ accepted (length list / record_width ∷ [])
  listed = accepts_check cubes most_variables n list taken.list_is

  -- So run on the given list, in any work buffer with room for it, is never refused; it answers the end list's count and the given count as peak, and leaves the
  -- end list and zeros.
  module _ (o : Outcome) (w w' : List ℕ) (room : length (cubes_of list) ≤ cube_capacity (length w))
      (ran : Called (run n list (written_in steps script') w) o (w' ∷ [])) where
    checks : check_run n list (written_in steps script') (length w) ≡ accepted (steps ∷ [])
    unfolding check_run
    checks = and_then_lem _ _ _ listed ∙ unless_passes _ 5 0 _ (le-leb _ _ room) ∙ written_passes

    ends : run_of n list (written_in steps script') (length w) ≡ ended (end_list n list) (length (cubes_of list))
    unfolding run_of
    ends = written_runs (cube_capacity (length w))

    pub run_answers : o ≡ accepted (length (end_list n list) ∷ length (cubes_of list) ∷ [])
    unfolding answers run_outcome
    run_answers = ran.answer ∙ and_then_lem _ _ _ checks ∙ ap ran_outcome ends

    pub run_leaves : w' ≡ image cubes (length w) (end_list n list)
    unfolding leaves run_after
    run_leaves = only ran.left ∙ ap₂ (λ (c : Outcome) (r : Ran Cube). work_after c w r) checks ends

    -- In a work buffer as long as the writer's these are the bytes that the writer left.
    pub run_leaves_same : length w ≡ length work → w' ≡ work'
    run_leaves_same e = run_leaves ∙ ap (λ (k : ℕ). image cubes k (end_list n list)) e ∙ sym work_ends

  -- The end list has the given list's value at every assignment.
  pub end_value : (a : ℕ) → list_value n (end_list n list) a ≡ list_value n (cubes_of list) a
  end_value a =
      run_value n 0 (easy_steps n most_steps (cubes_of list)) (easy_fit n most_steps (cubes_of list)) (cubes_of list) taken.list_is.good (end_list n list)
      (length (cubes_of list)) (easy_run n 0 most_steps (cubes_of list)) a

  -- It has finished exactly when the end list has no pair, ..
  pub finished_exactly : FinishedExactly n (end_list n list) which
  finished_exactly = subst (FinishedExactly n (end_list n list)) (sym done) (by (has_pair n (end_list n list)) refl)
    where
      by : (b : Bool) → has_pair n (end_list n list) ≡ b → FinishedExactly n (end_list n list) (one_if (not b))
      by true e = record { then_none = λ t. absurd (omega arith); none_then = λ f. absurd (f _ _ (pairs.has_first n (end_list n list) e).is); else_zero = λ t. refl }
      by false e = record { then_none = λ t. pairs.none_left n (end_list n list) e; none_then = λ f. refl; else_zero = λ t. absurd (t refl) }

  -- .. as it has wherever fewer than 1,024 steps are written.
  pub few_finished : steps < most_steps → which ≡ 1
  few_finished h = done ∙ ap (λ (b : Bool). one_if (not b)) (easy_short n most_steps (cubes_of list) (omega (arith, all)))

  -- Given that script, settle is not refused where both buffers have room, ..
  module _ (w out : List ℕ) (buffers : List (List ℕ)) (room : length (cubes_of list) ≤ cube_capacity (length w)) (room' : length (cubes_of list) ≤ cube_capacity (length out))
      (o : Outcome) (burned : Called (settle n list (written_in steps script') w out) o buffers) where
    settle_checks : check_settle n list (written_in steps script') (length w) (length out) ≡ accepted (steps ∷ [])
    unfolding check_settle
    settle_checks = and_then_lem _ _ _ listed ∙ unless_passes _ 5 0 _ (le-leb _ _ room) ∙ unless_passes _ 5 0 _ (le-leb _ _ room') ∙ written_passes

    settle_ends : o ≡ ran_settled n (cubes_of list) (ended (end_list n list) (length (cubes_of list)))
    unfolding answers settle_outcome run_of
    settle_ends = burned.answer ∙ and_then_lem _ _ _ settle_checks ∙ ap (ran_settled n (cubes_of list)) (written_runs (cube_capacity (length w)))

    pub written_settles : (s : Settlement) × Called (settle n list (written_in steps script') w out) (settled (Ok s)) buffers
    written_settles =
        accepted_settled n list (written_in steps script') w out _ buffers (record { answer = sym settle_ends ∙ burned.answer; left = burned.left })

  -- .. and what it burns has no more products than the end list.
  pub burns_no_more : (w out : List ℕ) (s : Settlement) (w' out' : List ℕ)
      → Called (settle n list (written_in steps script') w out) (settled (Ok s)) (w' ∷ out' ∷ []) → length (burned_in s out') ≤ length (end_list n list)
  burns_no_more w out s w' out' burned =
      three.no_more_than_script n list (written_in steps script') w out s w' out' burned (end_list n list) (length (cubes_of list))
      (written_runs (cube_capacity (length w)))

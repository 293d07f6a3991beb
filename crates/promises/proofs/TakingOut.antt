-- A call without its L steps: its script passes, and runs to the same end, and so it answers and leaves what PlainSteps says.
-- Assumes nothing.
use mathlib.Core.Path.{◌≡◌, refl, ap, ap₂, ◌∙◌}
use mathlib.Core.List.{List, [], ◌∷◌}
use Prim.Native.Nat.{ℕ, ◌<◌}
use lib.ListN.{length, get_or}
use Rattle.records.specs.declared.Refusal.{Refusal}
use Rattle.records.specs.Records.{zeros}
use Rattle.records.specs.Answers.{Outcome, accepted, refused}
use Rattle.cube.specs.declared.Cube.{Cube}
use Rattle.cube.specs.Lists.{cubes, most_variables, cubes_of, cube_capacity}
use Rattle.steps.specs.Steps.{Step, drop, is_l}
use Rattle.script.specs.Run.{Ran, stopped, ended}
use Rattle.script.specs.Run as running
use Rattle.script.specs.Scripts.{steps_of}
use Rattle.script.specs.Calls.{check_script, run_of, ran_outcome, ran_work}
use Rattle.script.specs.PlainSteps.{plain_steps, without_l, corresponding}
use Rattle.script.proofs.Decoration.{renumbered}
use Rattle.script.proofs.PlainSteps.{plain_read, plain_run, plain_passes, refused_plain}
use Rattle.settling.specs.Calls.{ran_settled, ran_burned}
use Rattle.promises.specs.Calls.{Call}
use Rattle.promises.specs.Refusals.{NoneWrong, list_faults, script_faults, faults, RefusedAtStep, in_run, in_settle}
use Rattle.promises.specs.Accepted.{goes_on, goes_on_leaving}
use Rattle.promises.specs.PlainSteps.{NoSplit, TakenOut, at_corresponding}
use Rattle.promises.specs.OtherScript.{of_run, of_settle}
use Rattle.promises.proofs.Chains.{judged_right, judged_none}
use Rattle.promises.proofs.Judging.{by_script}
use Rattle.promises.proofs.NotWrong.{good_list, fit_script}
use Rattle.promises.proofs.OtherScript.{fine_list, fine_script}

-- ---- before the first step

pub passes : (n : ℕ) (script : List ℕ) → NoneWrong (script_faults n script) → check_script n (without_l script) ≡ accepted (length (plain_steps (steps_of script)) ∷ [])
passes n script fine = plain_passes n script _ (judged_right (script_faults n script) (check_script n script) _ (by_script n script) fine)

pub without_fine : (n : ℕ) (script : List ℕ) → NoneWrong (script_faults n script) → NoneWrong (script_faults n (without_l script))
without_fine n script fine = judged_none (script_faults n (without_l script)) _ _ _ (by_script n (without_l script)) (passes n script fine)

-- ---- the steps

-- the run of the plain steps, in as much room
ran_plain : (n : ℕ) (list script : List ℕ) (room room' : ℕ) → room' ≡ room → NoneWrong (list_faults cubes most_variables n list) → NoneWrong (script_faults n script)
    → NoSplit script → run_of n list (without_l script) room' ≡ renumbered (corresponding (steps_of script)) (run_of n list script room)
unfolding run_of
ran_plain n list script room room' e l s none =
    ap₂ (λ (k : ℕ) (xs : List Step). running.run n (cube_capacity k) xs (cubes_of list)) e (plain_read script)
    ∙ plain_run n (cube_capacity room) (steps_of script) (fit_script n script s) none (cubes_of list) (good_list most_variables n list l)

-- an outcome at the step that corresponds
abbrev pub outcome_at : List ℕ → Outcome → Outcome
outcome_at script (accepted v) = accepted v
outcome_at script (refused r) = refused (at_corresponding script r)

module _ (script : List ℕ) where
  ran_outcome_lem : (r : Ran Cube) → ran_outcome (renumbered (corresponding (steps_of script)) r) ≡ outcome_at script (ran_outcome r)
  ran_outcome_lem (stopped why s) = refl
  ran_outcome_lem (ended l peak) = refl

  ran_settled_lem : (n : ℕ) (given : List Cube) (r : Ran Cube) → ran_settled n given (renumbered (corresponding (steps_of script)) r) ≡ outcome_at script (ran_settled n given r)
  ran_settled_lem n given (stopped why s) = refl
  ran_settled_lem n given (ended l peak) = refl

  ran_work_lem : (room : ℕ) (r : Ran Cube) → ran_work room (renumbered (corresponding (steps_of script)) r) ≡ ran_work room r
  ran_work_lem room (stopped why s) = refl
  ran_work_lem room (ended l peak) = refl

  ran_burned_lem : (n : ℕ) (given : List Cube) (r : Ran Cube) (out : List ℕ) → ran_burned n given (renumbered (corresponding (steps_of script)) r) out ≡ ran_burned n given r out
  ran_burned_lem n given (stopped why s) out = refl
  ran_burned_lem n given (ended l peak) out = refl

module _ {n : ℕ} {list script : List ℕ} where
  pub goes_same : {c c' : Call} → TakenOut n list script c c' → NoneWrong (faults c) → NoSplit script → (goes_on c' ≡ outcome_at script (goes_on c)) × (goes_on_leaving c' ≡ goes_on_leaving c)
  unfolding goes_on goes_on_leaving
  goes_same (of_run work again e) fine none =
      let taken : TakenOut n list script _ _ = of_run work again e in
      let same = ran_plain n list script (length work) (length again) e (fine_list taken fine) (fine_script taken fine) none in
      let r : Ran Cube = run_of n list script (length work) in (
        ap ran_outcome same ∙ ran_outcome_lem script r,
        ap₂ (λ (k : ℕ) (q : Ran Cube). ran_work k q ∷ []) e same ∙ ap (λ (b : List ℕ). b ∷ []) (ran_work_lem script (length work) r),
      )
  goes_same (of_settle work again out e) fine none =
      let taken : TakenOut n list script _ _ = of_settle work again out e in
      let same = ran_plain n list script (length work) (length again) e (fine_list taken fine) (fine_script taken fine) none in
      let r : Ran Cube = run_of n list script (length work) in (
        ap (ran_settled n (cubes_of list)) same ∙ ran_settled_lem script n (cubes_of list) r,
        ap₂ (λ (k : ℕ) (q : Ran Cube). zeros k ∷ ran_burned n (cubes_of list) q out ∷ []) e same
            ∙ ap (λ (b : List ℕ). zeros (length work) ∷ b ∷ []) (ran_burned_lem script n (cubes_of list) r out),
      )

-- the step at which such a call is refused
pub refused_at : {n : ℕ} {list script : List ℕ} {c c' : Call} → TakenOut n list script c c' → (r : Refusal) (buffers : List (List ℕ)) → RefusedAtStep r buffers c
    → (r.place < length (steps_of script)) × (is_l (get_or (steps_of script) r.place (drop 0 0)) ≡ 0)
refused_at (of_run work again e) r buffers (in_run n _ _ _ fine s left) =
    (s.steps.within, refused_plain n (cube_capacity (length work)) _ s.steps.between _ s.steps.here)
refused_at (of_settle work again out e) r buffers (in_settle n _ _ _ _ fine s left) =
    (s.steps.within, refused_plain n (cube_capacity (length work)) _ s.steps.between _ s.steps.here)

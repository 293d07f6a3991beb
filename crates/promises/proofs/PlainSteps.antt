-- Without splits an L step is only decoration: document 02, Twelve. "For every plain list and script with no split, take out all L steps: the run is refused exactly
-- when the first one was, with the same number, at the step that corresponds; else it ends with the same records in the same places. With splits it isn't claimed.
-- Refusals: none new; premise, the list and the given script pass 1 to 9." Of run and of settle, over their contracts and on their bytes.
-- Assumes nothing.
use mathlib.Core.Path.{◌≡◌, refl, sym, ap, ◌∙◌, subst}
use mathlib.Core.Logic.{◌⊎◌, inl, inr}
use mathlib.Core.List.{List, [], ◌∷◌, ◌++◌}
use Prim.Native.Nat.{ℕ, ◌+◌, ◌*◌, ◌%◌, ◌<◌}
use native.Mathlib.Decide.{ℕ_discrete}
use native.Mathlib.Omega.{arith}
use lib.ListN.{length, get_or, replicate}
use Rattle.bits.specs.Bits.{with_bit}
use Rattle.bits.specs.Below.{those, list_below}
use Rattle.bits.specs.Sums.{All, first_bad}
use Rattle.bits.proofs.Sums.{all_each, all_of}
use Rattle.records.specs.declared.Refusal.{Refusal}
use Rattle.records.specs.Numbers.{bytes_of, number_at}
use Rattle.records.specs.Places.{remove_at}
use Rattle.records.specs.Records.{zeros, list_of, records, capacity_of, image, filled}
use Rattle.records.specs.Answers.{Outcome, accepted, refused, refusal_with}
use Rattle.records.proofs.Answers.{not_both, refused_same}
use Rattle.cube.specs.Cubes.{code, put, apart, good}
use Rattle.cube.specs.Calls.{check_list_of}
use Rattle.steps.specs.Moves.{drop_at, split_at, applied}
use Rattle.steps.specs.Steps.{Step, drop, is_l, meaning, drop_move, split_move, exchanged, step}
use Rattle.script.specs.Run.{steps_from, undo_by}
use Rattle.script.specs.Run as running
use Rattle.script.specs.Scripts.{step_width, fits, steps_of}
use Rattle.script.specs.Calls.{check_script, check_run, run_of, run_outcome, run_after}
use Rattle.script.specs.PlainSteps.{plain_steps, without_l, corresponding}
use Rattle.script.proofs.PlainSteps as plain
use Rattle.script.proofs.Without.{all_without, without_at}
use Rattle.promises.specs.Calls.{Call, run, answers, leaves, Called}
use Rattle.promises.specs.Refusals.{NoneWrong, script_faults, faults, RefusedBefore, RefusedAtStep}
use Rattle.promises.specs.OtherScript.{of_run}
use Rattle.promises.specs.PlainSteps.{NoSplit, TakenOut, at_corresponding, no_literal, complemented_literal, plain_literal, split_script, split_and_drop}
use Rattle.promises.proofs.Chains.{not_none}
use Rattle.promises.proofs.OtherScript.{fine_script, fine_other}
use Rattle.promises.proofs.TakingOut.{passes, without_fine, outcome_at, goes_same, refused_at}
use Rattle.promises.proofs.DemandOne.{refused_call, accepted_not_wrong, not_wrong_goes_on}

-- ---- the script without its L steps

module _ (script : List ℕ) where
  -- Its steps are those of the given script that are not L steps, in their order, ..
  pub steps_left : steps_of (without_l script) ≡ plain_steps (steps_of script)
  steps_left = plain.plain_read script

  -- .. so none of them is one.
  pub none_is_l : All (λ x. is_l x ≡ 0) (steps_of (without_l script))
  none_is_l =
      subst (All (λ x. is_l x ≡ 0)) (sym steps_left)
      (all_each _ _ (λ x p. p.0) (plain_steps (steps_of script)) (all_without is_l (λ x. Unit {0}) (steps_of script) (all_of _ (drop 0 0) (steps_of script) (λ i h. tt))))

  -- It passes 7, 8 and 9 where the given one does, with so many steps.
  pub shorter_passes : (n : ℕ) → NoneWrong (script_faults n script) → check_script n (without_l script) ≡ accepted (length (plain_steps (steps_of script)) ∷ [])
  shorter_passes n fine = passes n script fine

  pub shorter_fine : (n : ℕ) → NoneWrong (script_faults n script) → NoneWrong (script_faults n (without_l script))
  shorter_fine n fine = without_fine n script fine

  -- Each step that is not an L step is there at the step that corresponds; ..
  pub same_step : (s : ℕ) → s < length (steps_of script) → is_l (get_or (steps_of script) s (drop 0 0)) ≡ 0
      → (corresponding (steps_of script) s < length (steps_of (without_l script)))
      × (get_or (steps_of (without_l script)) (corresponding (steps_of script) s) (drop 0 0) ≡ get_or (steps_of script) s (drop 0 0))
  same_step s h e =
      subst (λ (xs : List Step). (corresponding (steps_of script) s < length xs) × (get_or xs (corresponding (steps_of script) s) (drop 0 0) ≡ get_or (steps_of script) s (drop 0 0)))
      (sym steps_left) (without_at is_l (drop 0 0) (steps_of script) s h e)

  -- .. and so are its eight bytes.
  pub same_step_bytes : All (λ x. x < 256) script → length script % step_width ≡ 0
      → (s k : ℕ) → s < length (steps_of script) → is_l (get_or (steps_of script) s (drop 0 0)) ≡ 0 → k < step_width
      → get_or (without_l script) (step_width * corresponding (steps_of script) s + k) 0 ≡ get_or script (step_width * s + k) 0
  same_step_bytes bytes whole = plain.plain_bytes script bytes whole

-- ---- a call, and the same without its L steps

-- For every list and script that pass 1 to 9, and that script has no split; c' is c without its L steps.
module _ (n : ℕ) (list script : List ℕ) (c c' : Call) (taken : TakenOut n list script c c') (fine : NoneWrong (faults c)) (none : NoSplit script) where
  -- Nothing before the first step is wrong of the call without them either.
  pub nothing_wrong : NoneWrong (faults c')
  nothing_wrong = fine_other taken fine (shorter_fine script n (fine_script taken fine))

  -- Both calls were made.
  module _ (o o' : Outcome) (buffers buffers' : List (List ℕ)) (given : Called c o buffers) (short : Called c' o' buffers') where
    same : o' ≡ outcome_at script o
    same =
        (not_wrong_goes_on c' o' buffers' short nothing_wrong).0 ∙ (goes_same taken fine none).0
        ∙ ap (outcome_at script) (sym (not_wrong_goes_on c o buffers given fine).0)

    -- It is refused exactly when the first one was: with the same number and the same third answer, at the step that corresponds; ..
    pub refused_too : (r : Refusal) → o ≡ refused r → o' ≡ refused (at_corresponding script r)
    refused_too r e = same ∙ ap (outcome_at script) e

    pub refused_only : (r' : Refusal) → o' ≡ refused r' → (r : Refusal) × (o ≡ refused r) × (r' ≡ at_corresponding script r)
    refused_only r' e = go o refl (sym same ∙ e)
      where
        go : (p : Outcome) → o ≡ p → outcome_at script p ≡ refused r' → (r : Refusal) × (o ≡ refused r) × (r' ≡ at_corresponding script r)
        go (accepted v) is e = absurd (not_both e)
        go (refused r) is e = (r, is, sym (refused_same e))

    -- .. of the given script never at an L step, ..
    pub never_l : (r : Refusal) → o ≡ refused r → (r.place < length (steps_of script)) × (is_l (get_or (steps_of script) r.place (drop 0 0)) ≡ 0)
    never_l r e = go (refused_call c o buffers given r e)
      where
        go : RefusedBefore r buffers c ⊎ RefusedAtStep r buffers c → (r.place < length (steps_of script)) × (is_l (get_or (steps_of script) r.place (drop 0 0)) ≡ 0)
        go (inl b) = absurd (not_none (faults c) r.number r.place b.wrong fine)
        go (inr s) = refused_at taken r buffers s

    -- .. and of the shorter one at that very step, which so is no L step either.
    module _ (r : Refusal) (e : o ≡ refused r) where
      abbrev t : ℕ
      t = corresponding (steps_of script) r.place

      pub refused_step : (t < length (steps_of (without_l script))) × (get_or (steps_of (without_l script)) t (drop 0 0) ≡ get_or (steps_of script) r.place (drop 0 0))
      refused_step = let s = never_l r e in same_step script r.place s.0 s.1

      pub corresponding_never_l : is_l (get_or (steps_of (without_l script)) t (drop 0 0)) ≡ 0
      corresponding_never_l = ap is_l refused_step.1 ∙ (never_l r e).1

    -- Else both answer the same, run its count and peak and settle its counts, ..
    pub accepted_too : (v : List ℕ) → o ≡ accepted v → o' ≡ accepted v
    accepted_too v e = same ∙ ap (outcome_at script) e

    pub accepted_only : (v : List ℕ) → o' ≡ accepted v → o ≡ accepted v
    accepted_only v e = go o refl (sym same ∙ e)
      where
        go : (p : Outcome) → o ≡ p → outcome_at script p ≡ accepted v → o ≡ accepted v
        go (accepted w) is e = is ∙ e
        go (refused r) is e = absurd (not_both (sym e))

    -- .. and leave the same bytes in every buffer, refused or not.
    pub same_bytes : buffers' ≡ buffers
    same_bytes =
        (not_wrong_goes_on c' o' buffers' short nothing_wrong).1 ∙ (goes_same taken fine none).1 ∙ sym (not_wrong_goes_on c o buffers given fine).1

-- ---- "With splits it isn't claimed": two calls of run over 1 variable, each with its script and then without the script's L step

-- The list -, and L v=0 literal 0, split v=0 0: it ends in 1, 0. Without the L step it ends in 0, 1: the same records in other places.
pub split_placed :
    Called (run 1 no_literal split_script (replicate 16 7)) (accepted (2 ∷ 2 ∷ [])) ((plain_literal ++ complemented_literal) ∷ [])
    × Called (run 1 no_literal (without_l split_script) (replicate 16 7)) (accepted (2 ∷ 2 ∷ [])) ((complemented_literal ++ plain_literal) ∷ [])
unfolding answers leaves run_outcome run_after check_run check_list_of check_script first_bad list_of records good fits steps_of without_l ℕ_discrete meaning run_of with_bit list_below bytes_of number_at code put split_at applied split_move exchanged step steps_from undo_by running.run capacity_of image filled
split_placed = (record { answer = refl; left = refl }, record { answer = refl; left = refl })

-- The list -, 1, the same steps, and then drop 0 1: it ends in 0, after a peak of 3. Without the L step the drop, now step 1, is refused by 16, and 1 variable differs.
pub split_refused :
    Called (run 1 (no_literal ++ plain_literal) split_and_drop (replicate 24 7)) (accepted (1 ∷ 3 ∷ [])) ((complemented_literal ++ zeros 16) ∷ [])
    × Called (run 1 (no_literal ++ plain_literal) (without_l split_and_drop) (replicate 24 7)) (refused (refusal_with 16 1 1)) (zeros 24 ∷ [])
unfolding answers leaves run_outcome run_after check_run check_list_of check_script first_bad list_of records good fits steps_of without_l ℕ_discrete meaning run_of with_bit those list_below bytes_of number_at remove_at code put apart drop_at split_at applied drop_move split_move exchanged step steps_from undo_by running.run capacity_of image filled
split_refused = (record { answer = refl; left = refl }, record { answer = refl; left = refl })

-- So the premise is needed: without it neither the bytes are always the same, nor is always accepted what was.
pub bytes_need_no_split : ((n : ℕ) (list script : List ℕ) (c c' : Call) → TakenOut n list script c c' → NoneWrong (faults c) → leaves c' ≡ leaves c) → ⊥
bytes_need_no_split claim =
    let p = split_placed in
    let e = p.1.left ∙ claim 1 no_literal split_script _ _ (of_run (replicate 16 7) (replicate 16 7) refl) (accepted_not_wrong _ _ _ p.0 _ refl) ∙ sym p.0.left in
    let z : ◌≡◌ {A = ℕ} 0 1 = ap (λ (b : List (List ℕ)). get_or (get_or b 0 []) 4 0) e in
    omega arith

pub refusals_need_no_split : ((n : ℕ) (list script : List ℕ) (c c' : Call) → TakenOut n list script c c' → NoneWrong (faults c) → (v : List ℕ) → answers c ≡ accepted v → answers c' ≡ accepted v) → ⊥
refusals_need_no_split claim =
    let p = split_refused in
    let list = no_literal ++ plain_literal in
    let taken = of_run (replicate 24 7) (replicate 24 7) refl in
    not_both (sym (claim 1 list split_and_drop _ _ taken (accepted_not_wrong _ _ _ p.0 _ refl) _ (sym p.0.answer)) ∙ sym p.1.answer)

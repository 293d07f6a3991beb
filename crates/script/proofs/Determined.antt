-- Two outcomes that satisfy the contract of a public function of this crate are equal.
-- Assumes nothing.
use mathlib.Core.Path.{◌≡◌, refl, sym, ap, ap₂, ◌∙◌, subst}
use mathlib.Core.List.{List, []}
use Prim.Native.Nat.{ℕ}
use native.Mathlib.Omega.{arith}
use lib.ListN.{length, get_or}
use Rattle.std.specs.Prelude.{Result, Ok, Err, ◌≤◌, Bool, IfOk, IfErr, OnErr}
use contract.Lifetimes.{Lfts}
use denote.RattleType.{RattleType}
use denote.Param.Laws.{Laws, IsCopy}
use denote.Triple.Clauses.{Lasts, at_exit}
use borrow.Fn.Kind.{ParamKind, ResultKind}
use borrow.Fn.Kinds.{Out, Dens, res_t, ended_of}
use mir.Syntax.{Dict}
use Rattle.std.specs.declared.clone.Clone as clone
use Rattle.bits.specs.Outcomes.{Determined, DeterminedBy}
use Rattle.bits.proofs.Determined.{same, same_told}
use Rattle.script.specs.declared.Peaked.{Peaked}
use Rattle.script.specs.declared.Ended.{Ended}
use Rattle.script.specs.declared.kind.Runnable as runnable
use Rattle.script.specs.declared.kind.Watch as watch
use Rattle.script.specs.declared.list.WorkList.{WorkList}
use Rattle.script.specs.Carrying.{Carries}
use Rattle.records.specs.Records.{Codec, records, image}
use Rattle.records.proofs.Records.{length_records}
use Rattle.steps.specs.declared.StepRefusal.{StepRefusal}
use Rattle.steps.specs.Moves.{After, stop, next}
use Rattle.records.specs.declared.Refusal.{Refusal}
use Rattle.records.specs.Answers.{Outcome, counted}
use Rattle.records.proofs.Answers.{counted_back, counted_known, answer_back, answer_known}
use Rattle.script.specs.Calls.{finished}
use Rattle.script.proofs.record.step_at.Kinds as step_at_kinds
use Rattle.script.proofs.record.step_at.Reads as step_at_reads
use Rattle.script.proofs.record.put_step.Kinds as put_step_kinds
use Rattle.script.proofs.record.put_step.Reads as put_step_reads
use Rattle.script.proofs.check.fits.Kinds as fits_kinds
use Rattle.script.proofs.check.fits.Reads as fits_reads
use Rattle.script.proofs.check.check_script.Kinds as check_script_kinds
use Rattle.script.proofs.check.check_script.Reads as check_script_reads
use Rattle.script.proofs.run.pended.Kinds as pended_kinds
use Rattle.script.proofs.run.pended.Reads as pended_reads
use Rattle.script.proofs.run.halted.Kinds as halted_kinds
use Rattle.script.proofs.run.halted.Reads as halted_reads
use Rattle.script.proofs.run.run_steps.Kinds as run_steps_kinds
use Rattle.script.proofs.run.run_steps.Reads as run_steps_reads
use Rattle.script.proofs.run.undo.Kinds as undo_kinds
use Rattle.script.proofs.run.undo.Reads as undo_reads
use Rattle.script.proofs.run.run_checked.Kinds as run_checked_kinds
use Rattle.script.proofs.run.run_checked.Reads as run_checked_reads
use Rattle.script.proofs.run.run.Kinds as run_kinds
use Rattle.script.proofs.run.run.Reads as run_reads
use Rattle.script.proofs.kind.Runnable.check.Kinds as runnable_check_kinds
use Rattle.script.proofs.kind.Runnable.check.Reads as runnable_check_reads
use Rattle.script.proofs.kind.Runnable.capacity.Kinds as runnable_capacity_kinds
use Rattle.script.proofs.kind.Runnable.capacity.Reads as runnable_capacity_reads
use Rattle.script.proofs.kind.Runnable.fits.Kinds as runnable_fits_kinds
use Rattle.script.proofs.kind.Runnable.fits.Reads as runnable_fits_reads
use Rattle.script.proofs.kind.Runnable.do_step.Kinds as runnable_do_step_kinds
use Rattle.script.proofs.kind.Runnable.do_step.Reads as runnable_do_step_reads
use Rattle.script.proofs.kind.Runnable.reorder.Kinds as runnable_reorder_kinds
use Rattle.script.proofs.kind.Runnable.reorder.Reads as runnable_reorder_reads
use Rattle.script.proofs.check.check_script_on.Kinds as check_script_on_kinds
use Rattle.script.proofs.check.check_script_on.Reads as check_script_on_reads
use Rattle.script.proofs.run.run_checked_on.Kinds as run_checked_on_kinds
use Rattle.script.proofs.run.run_checked_on.Reads as run_checked_on_reads
use Rattle.script.proofs.run.run_on.Kinds as run_on_kinds
use Rattle.script.proofs.run.run_on.Reads as run_on_reads
use Rattle.script.proofs.kind.Watch.after_step.Kinds as watch_after_step_kinds
use Rattle.script.proofs.kind.Watch.after_step.Reads as watch_after_step_reads
use Rattle.script.proofs.list.WorkList.of.Kinds as work_list_of_kinds
use Rattle.script.proofs.list.WorkList.of.Reads as work_list_of_reads
use Rattle.script.proofs.list.WorkList.clear.Kinds as work_list_clear_kinds
use Rattle.script.proofs.list.WorkList.clear.Reads as work_list_clear_reads
use Rattle.script.proofs.list.WorkList.step.Kinds as work_list_step_kinds
use Rattle.script.proofs.list.WorkList.step.Reads as work_list_step_reads
use Rattle.script.proofs.list.WorkList.run_steps.Kinds as work_list_run_steps_kinds
use Rattle.script.proofs.list.WorkList.run_steps.Reads as work_list_run_steps_reads
use Rattle.script.proofs.list.WorkList.undo.Kinds as work_list_undo_kinds
use Rattle.script.proofs.list.WorkList.undo.Reads as work_list_undo_reads
use Rattle.script.proofs.list.WorkList.run.Kinds as work_list_run_kinds
use Rattle.script.proofs.list.WorkList.run.Reads as work_list_run_reads

-- the run's answer, read back
pub finished_value : List ℕ → Peaked
finished_value v = record { count = get_or v 0 0; peak = get_or v 1 0 }

pub finished_back : Outcome → Result Peaked Refusal
finished_back = answer_back finished_value

pub finished_known : (r : Result Peaked Refusal) → finished_back (finished r) ≡ r
unfolding finished_value finished_back
finished_known = answer_known _ finished_value (λ a. refl)

pub step_at_determined : Determined 1 step_at_kinds.ps step_at_kinds.r step_at_reads.Learnt
step_at_determined κs a z z' ws ws' p q = (same p q, refl)

pub put_step_determined : Determined 1 put_step_kinds.ps put_step_kinds.r put_step_reads.Learnt
put_step_determined κs a z z' ws ws' p q = (refl, ap (λ (b : List ℕ). (b, (tt, (tt, tt)))) (same p q))

pub fits_determined : Determined 0 fits_kinds.ps fits_kinds.r fits_reads.Learnt
fits_determined κs a z z' ws ws' p q = (same p q, refl)

pub check_script_determined : Determined 1 check_script_kinds.ps check_script_kinds.r check_script_reads.Learnt
check_script_determined κs a z z' ws ws' p q = (same_told counted counted_back counted_known p q, refl)

pub pended_determined : Determined 0 pended_kinds.ps pended_kinds.r pended_reads.Learnt
pended_determined κs a z z' ws ws' p q = (same p q, refl)

pub halted_determined : Determined 0 halted_kinds.ps halted_kinds.r halted_reads.Learnt
halted_determined κs a z z' ws ws' p q = (same p q, refl)

pub run_steps_determined : Determined 2 run_steps_kinds.ps run_steps_kinds.r run_steps_reads.Learnt
run_steps_determined κs a z z' ws ws' p q =
    (same p.answer q.answer, ap (λ (b : List ℕ). (b, (tt, (tt, (tt, (tt, tt)))))) (same p.buffer q.buffer))

pub undo_determined : Determined 1 undo_kinds.ps undo_kinds.r undo_reads.Learnt
undo_determined κs a z z' ws ws' p q = (refl, ap (λ (b : List ℕ). (b, (tt, (tt, (tt, tt))))) (same p q))

pub run_checked_determined : Determined 3 run_checked_kinds.ps run_checked_kinds.r run_checked_reads.Learnt
run_checked_determined κs a z z' ws ws' p q =
    (same_told finished finished_back finished_known p.0 q.0, ap (λ (b : List ℕ). (tt, (tt, (tt, (b, tt))))) (same p.1 q.1))

pub run_determined : Determined 3 run_kinds.ps run_kinds.r run_reads.Learnt
run_determined κs a z z' ws ws' p q =
    (same_told finished finished_back finished_known p.0 q.0, ap (λ (b : List ℕ). (tt, (tt, (tt, (b, tt))))) (same p.1 q.1))

-- ---- a step, on any kind of record

-- what a step on a buffer promises: the next list of records with zeros after it, or a refusal and the buffer as it was
abbrev Said : {A : Type 0} → Codec A → (A → Bool) → ℕ → ℕ → ℕ → After A → List ℕ → Result ℕ StepRefusal → List ℕ → Type 0
Said C test n cap most e old z w =
    IfOk z (λ c. e ≡ next (records C c w))
    × (IfOk z (λ c. c ≤ most) × (IfOk z (λ c. Carries C test n c cap w) × (IfErr z (λ why. e ≡ stop why) × (OnErr z (w ≡ old) × (length w ≡ length old)))))

module _ {A : Type 0} (C : Codec A) where
  -- a buffer that carries a list is known by its length and its records, and so is the count
  carried_once : (test : A → Bool) (n n' c c' cap cap' : ℕ) (w w' : List ℕ) → Carries C test n c cap w → Carries C test n' c' cap' w' → length w ≡ length w'
      → records C c w ≡ records C c' w' → w ≡ w'
  carried_once test n n' c c' cap cap' w w' h h' l e = h.held ∙ ap₂ (image C) l e ∙ sym h'.held

  counted_once : (c c' : ℕ) (w w' : List ℕ) → records C c w ≡ records C c' w' → c ≡ c'
  counted_once c c' w w' e = sym (length_records C c w) ∙ ap length e ∙ length_records C c' w'

next_same : {A : Type 0} {l m : List A} → ◌≡◌ {A = After A} (next l) (next m) → l ≡ m
next_same e = cc

stop_same : {A : Type 0} {r s : StepRefusal} → ◌≡◌ {A = After A} (stop r) (stop s) → r ≡ s
stop_same e = cc

next_not_stop : {A : Type 0} {l : List A} {r : StepRefusal} → ◌≡◌ {A = After A} (next l) (stop r) → ⊥
next_not_stop e = let z : ◌≡◌ {A = ℕ} 0 1 = cc in omega arith

done_once : {A : Type 0} (C : Codec A) (test : A → Bool) (n cap most : ℕ) (e : After A) (old : List ℕ) (z z' : Result ℕ StepRefusal) (w w' : List ℕ)
    → Said C test n cap most e old z w → Said C test n cap most e old z' w' → (z ≡ z') × (w ≡ w')
done_once C test n cap most e old (Ok c) (Ok c') w w' p q =
    let same_list = next_same (sym p.0 ∙ q.0) in
    (ap Ok (counted_once C c c' w w' same_list), carried_once C test n n c c' cap cap w w' p.1.1.0 q.1.1.0 (same p.1.1.1.1.1 q.1.1.1.1.1) same_list)
done_once C test n cap most e old (Ok c) (Err r) w w' p q = absurd (next_not_stop (sym p.0 ∙ q.1.1.1.0))
done_once C test n cap most e old (Err r) (Ok c) w w' p q = absurd (next_not_stop (sym q.0 ∙ p.1.1.1.0))
done_once C test n cap most e old (Err r) (Err r') w w' p q = (ap Err (stop_same (sym p.1.1.1.0 ∙ q.1.1.1.0)), same p.1.1.1.1.0 q.1.1.1.1.0)

ok_same : {A E : Type 0} {x y : A} → ◌≡◌ {A = Result A E} (Ok x) (Ok y) → x ≡ y
ok_same e = cc

ok_not_err : {A E : Type 0} {x : A} {y : E} → ◌≡◌ {A = Result A E} (Ok x) (Err y) → ⊥
ok_not_err e = let z : ◌≡◌ {A = ℕ} 0 1 = cc in omega arith

-- what is read of such a list: its bytes, by which reference it holds them, its variables, its count and its capacity. At which address they lie, no contract says.
pub record Seen : Type 0 where
  pub bytes : List ℕ
  pub reference : ℕ
  pub variables : ℕ
  pub count : ℕ
  pub capacity : ℕ

-- that a contract determines the answer, and what is read of what is left
abbrev pub DeterminedAs : (n : ℕ) (ps : List (ParamKind n)) (r : ResultKind n) {W : Type 0}
    → ((κs : Lfts n) (a : Dens κs ps) → (res_t r κs).Denot → Lasts (ended_of n ps r) κs a → W)
    → Out n ps r → Type 0
DeterminedAs n ps r read Learnt =
    (κs : Lfts n) (a : Dens κs ps) (z z' : (res_t r κs).Denot) (ws ws' : Lasts (ended_of n ps r) κs a) →
    Learnt κs a z (at_exit (ended_of n ps r) κs a ws) →
    Learnt κs a z' (at_exit (ended_of n ps r) κs a ws') →
    (z ≡ z') × (read κs a z ws ≡ read κs a z' ws')

-- what one step promises of the list
abbrev Stepped : {A : Type 0} → Codec A → After A → ℕ → List ℕ → ℕ → Result (Unit {0}) StepRefusal → List ℕ → ℕ → Type 0
Stepped C e most old before z w c =
    IfOk z (λ _. e ≡ next (records C c w)) × (IfOk z (λ _. c ≤ most) × (IfErr z (λ why. e ≡ stop why) × (OnErr z (w ≡ old) × OnErr z (c ≡ before))))

stepped_once : {A : Type 0} (C : Codec A) (e : After A) (most : ℕ) (old : List ℕ) (before : ℕ) (z z' : Result (Unit {0}) StepRefusal)
    (w w' : List ℕ) (c c' : ℕ) → w ≡ image C (length w) (records C c w) → w' ≡ image C (length w') (records C c' w') → length w ≡ length w'
    → Stepped C e most old before z w c → Stepped C e most old before z' w' c' → (z ≡ z') × ((w ≡ w') × (c ≡ c'))
stepped_once C e most old before (Ok u) (Ok u') w w' c c' h h' l p q =
    let same_list = next_same (sym p.0 ∙ q.0) in
    (refl, (h ∙ ap₂ (image C) l same_list ∙ sym h', counted_once C c c' w w' same_list))
stepped_once C e most old before (Ok u) (Err r) w w' c c' h h' l p q = absurd (next_not_stop (sym p.0 ∙ q.1.1.0))
stepped_once C e most old before (Err r) (Ok u) w w' c c' h h' l p q = absurd (next_not_stop (sym q.0 ∙ p.1.1.0))
stepped_once C e most old before (Err r) (Err r') w w' c c' h h' l p q =
    (ap Err (stop_same (sym p.1.1.0 ∙ q.1.1.0)), (same p.1.1.1.0 q.1.1.1.0, same p.1.1.1.1 q.1.1.1.1))

-- ---- for every kind of record that a script runs on

module _ (K Item : RattleType) (laws : Laws K) (item_laws : Laws Item) (copies : IsCopy Item) (runs : runnable.Ghosts K.Denot Item.Denot) (runnable : Dict)
    (clones : clone.Ghosts Item.Denot) (clone : Dict) where
  pub runnable_check_determined : Determined 3 (runnable_check_kinds.ps K Item laws item_laws copies) (runnable_check_kinds.r K Item laws item_laws copies)
      (runnable_check_reads.Learnt K Item laws item_laws copies runs runnable clones clone)
  runnable_check_determined κs a z z' ws ws' p q = (same_told counted counted_back counted_known p q, refl)

  pub runnable_capacity_determined : Determined 2 (runnable_capacity_kinds.ps K Item laws item_laws copies) (runnable_capacity_kinds.r K Item laws item_laws copies)
      (runnable_capacity_reads.Learnt K Item laws item_laws copies runs runnable clones clone)
  runnable_capacity_determined κs a z z' ws ws' p q = (same p q, refl)

  pub runnable_fits_determined : Determined 2 (runnable_fits_kinds.ps K Item laws item_laws copies) (runnable_fits_kinds.r K Item laws item_laws copies)
      (runnable_fits_reads.Learnt K Item laws item_laws copies runs runnable clones clone)
  runnable_fits_determined κs a z z' ws ws' p q = (same p q, refl)

  pub runnable_do_step_determined : Determined 3 (runnable_do_step_kinds.ps K Item laws item_laws copies) (runnable_do_step_kinds.r K Item laws item_laws copies)
      (runnable_do_step_reads.Learnt K Item laws item_laws copies runs runnable clones clone)
  runnable_do_step_determined κs a z z' ws ws' p q =
      let d = done_once runs.codec _ _ _ _ _ _ z z' ws.0 ws'.0 p q in (d.0, ap (λ (b : List ℕ). (b, (tt, (tt, (tt, (tt, tt)))))) d.1)

  pub runnable_reorder_determined : Determined 3 (runnable_reorder_kinds.ps K Item laws item_laws copies) (runnable_reorder_kinds.r K Item laws item_laws copies)
      (runnable_reorder_reads.Learnt K Item laws item_laws copies runs runnable clones clone)
  runnable_reorder_determined κs a z z' ws ws' p q = (refl, ap (λ (b : List ℕ). (b, (tt, (tt, (tt, tt))))) (same p q))

  pub check_script_on_determined : Determined 3 (check_script_on_kinds.ps K Item laws item_laws copies) (check_script_on_kinds.r K Item laws item_laws copies)
      (check_script_on_reads.Learnt K Item laws item_laws copies runs runnable clones clone)
  check_script_on_determined κs a z z' ws ws' p q = (same_told counted counted_back counted_known p q, refl)

  pub run_checked_on_determined : Determined 5 (run_checked_on_kinds.ps K Item laws item_laws copies) (run_checked_on_kinds.r K Item laws item_laws copies)
      (run_checked_on_reads.Learnt K Item laws item_laws copies runs runnable clones clone)
  run_checked_on_determined κs a z z' ws ws' p q = (same_told finished finished_back finished_known p.0 q.0, ap (λ (b : List ℕ). (tt, (tt, (tt, (b, tt))))) (same p.1 q.1))

  pub run_on_determined : Determined 5 (run_on_kinds.ps K Item laws item_laws copies) (run_on_kinds.r K Item laws item_laws copies)
      (run_on_reads.Learnt K Item laws item_laws copies runs runnable clones clone)
  run_on_determined κs a z z' ws ws' p q = (same_told finished finished_back finished_known p.0 q.0, ap (λ (b : List ℕ). (tt, (tt, (tt, (b, tt))))) (same p.1 q.1))

  -- ---- calls on a list that holds its buffer

  pub seen : WorkList K.Denot Item.Denot runs → Seen
  seen l = record { bytes = l.buffer.now; reference = l.buffer.ghost_name; variables = l.n; count = l.count; capacity = l.cap }

  seen_same : (l l' : WorkList K.Denot Item.Denot runs) → l.buffer.now ≡ l'.buffer.now → l.buffer.ghost_name ≡ l'.buffer.ghost_name → l.n ≡ l'.n
      → l.count ≡ l'.count → l.cap ≡ l'.cap → seen l ≡ seen l'
  unfolding seen
  seen_same l l' b r v c k = cc

  -- of the list that is made, what is read of it
  pub work_list_of_determined :
      DeterminedBy 3 (work_list_of_kinds.ps K Item laws item_laws copies runs runnable clones clone)
      (work_list_of_kinds.r K Item laws item_laws copies runs runnable clones clone) (λ κs z. seen z)
      (work_list_of_reads.Learnt K Item laws item_laws copies runs runnable clones clone)
  work_list_of_determined κs a z z' ws ws' p q =
      (seen_same z z' (same p.1.0 q.1.0) (same p.0 q.0) (same p.1.1.0 q.1.1.0) (same p.1.1.1.0 q.1.1.1.0) (same p.1.1.1.1 q.1.1.1.1), refl)

  -- of the list after a call, the same
  pub work_list_clear_determined :
      DeterminedAs 4 (work_list_clear_kinds.ps K Item laws item_laws copies runs runnable clones clone)
      (work_list_clear_kinds.r K Item laws item_laws copies runs runnable clones clone) (λ κs a z ws. seen ws.0)
      (work_list_clear_reads.Learnt K Item laws item_laws copies runs runnable clones clone)
  work_list_clear_determined κs a z z' ws ws' p q =
      (refl, seen_same ws.0 ws'.0 (same p.1.1.1.1 q.1.1.1.1) (same p.0 q.0) (same p.1.0 q.1.0) (same p.1.1.0 q.1.1.0) (same p.1.1.1.0 q.1.1.1.0))

  pub work_list_step_determined :
      DeterminedAs 4 (work_list_step_kinds.ps K Item laws item_laws copies runs runnable clones clone)
      (work_list_step_kinds.r K Item laws item_laws copies runs runnable clones clone) (λ κs a z ws. seen ws.0)
      (work_list_step_reads.Learnt K Item laws item_laws copies runs runnable clones clone)
  work_list_step_determined κs a z z' ws ws' p q =
      let d =
      stepped_once runs.codec _ _ _ _ z z' ws.0.buffer.now ws'.0.buffer.now ws.0.count ws'.0.count ws.0.ready.held ws'.0.ready.held
      (same p.1.1.1.0 q.1.1.1.0) p.1.1.1.1 q.1.1.1.1
      in
      (d.0, seen_same ws.0 ws'.0 d.1.0 (same p.0 q.0) (same p.1.0 q.1.0) d.1.1 (same p.1.1.0 q.1.1.0))

  pub work_list_undo_determined :
      DeterminedAs 4 (work_list_undo_kinds.ps K Item laws item_laws copies runs runnable clones clone)
      (work_list_undo_kinds.r K Item laws item_laws copies runs runnable clones clone) (λ κs a z ws. seen ws.0)
      (work_list_undo_reads.Learnt K Item laws item_laws copies runs runnable clones clone)
  work_list_undo_determined κs a z z' ws ws' p q =
      (refl, seen_same ws.0 ws'.0 (same p.1.1.1.1.1 q.1.1.1.1.1) (same p.0 q.0) (same p.1.0 q.1.0) (same p.1.1.0 q.1.1.0) (same p.1.1.1.0 q.1.1.1.0))

  -- the same, with the count where the call accepts: after a refusal every byte is zero, and the contract of `run` says no count
  pub seen_accepted : Result Peaked Refusal → WorkList K.Denot Item.Denot runs → Seen
  seen_accepted (Ok v) l = seen l
  seen_accepted (Err r) l = record { bytes = l.buffer.now; reference = l.buffer.ghost_name; variables = l.n; count = 0; capacity = l.cap }

  accepted_same : (z z' : Result Peaked Refusal) (l l' : WorkList K.Denot Item.Denot runs) → z ≡ z' → l.buffer.now ≡ l'.buffer.now → l.buffer.ghost_name ≡ l'.buffer.ghost_name
      → l.n ≡ l'.n → l.cap ≡ l'.cap → IfOk z (λ v. l.count ≡ v.count) → IfOk z' (λ v. l'.count ≡ v.count) → seen_accepted z l ≡ seen_accepted z' l'
  unfolding seen_accepted
  accepted_same (Ok v) (Ok v') l l' e b r n k i j = seen_same l l' b r n (i ∙ ap (λ (u : Peaked). u.count) (ok_same e) ∙ sym j) k
  accepted_same (Ok v) (Err w) l l' e b r n k i j = absurd (ok_not_err e)
  accepted_same (Err w) (Ok v) l l' e b r n k i j = absurd (ok_not_err (sym e))
  accepted_same (Err w) (Err w') l l' e b r n k i j = cc

  pub work_list_run_determined :
      DeterminedAs 5 (work_list_run_kinds.ps K Item laws item_laws copies runs runnable clones clone)
      (work_list_run_kinds.r K Item laws item_laws copies runs runnable clones clone) (λ κs a z ws. seen_accepted z ws.0)
      (work_list_run_reads.Learnt K Item laws item_laws copies runs runnable clones clone)
  work_list_run_determined κs a z z' ws ws' p q =
      let d = same_told finished finished_back finished_known p.1.1.1.1.answer q.1.1.1.1.answer in
      (d, accepted_same z z' ws.0 ws'.0 d (same p.1.1.1.1.buffer q.1.1.1.1.buffer) (same p.0 q.0) (same p.1.0 q.1.0) (same p.1.1.1.0 q.1.1.1.0) p.1.1.0 q.1.1.0)

-- ---- the steps of a script, with what is kept beside the list

-- the buffer beside, where a run is refused: then every byte is zero. Of an accepted run `Watch` says what is kept in it.
pub beside_refused : Result Ended Refusal → List ℕ → List ℕ
beside_refused (Ok e) b = []
beside_refused (Err r) b = b

beside_same : (z z' : Result Ended Refusal) (o b b' : List ℕ) → z ≡ z' → OnErr z (b ≡ o) → OnErr z' (b' ≡ o) → beside_refused z b ≡ beside_refused z' b'
unfolding beside_refused
beside_same (Ok e) (Ok e') o b b' s i j = refl
beside_same (Ok e) (Err r) o b b' s i j = absurd (ok_not_err s)
beside_same (Err r) (Ok e) o b b' s i j = absurd (ok_not_err (sym s))
beside_same (Err r) (Err r') o b b' s i j = same i j

ended_count : (z z' : Result Ended Refusal) (c c' : ℕ) → z ≡ z' → IfOk z (λ e. c ≡ e.count) → OnErr z (c ≡ 0) → IfOk z' (λ e. c' ≡ e.count) → OnErr z' (c' ≡ 0) → c ≡ c'
ended_count (Ok e) (Ok e') c c' s i i' j j' = i ∙ ap (λ (u : Ended). u.count) (ok_same s) ∙ sym j
ended_count (Ok e) (Err r) c c' s i i' j j' = absurd (ok_not_err s)
ended_count (Err r) (Ok e) c c' s i i' j j' = absurd (ok_not_err (sym s))
ended_count (Err r) (Err r') c c' s i i' j j' = same i' j'

module _ (K Item W : RattleType) (laws : Laws K) (item_laws : Laws Item) (watch_laws : Laws W) (copies : IsCopy Item) (runs : runnable.Ghosts K.Denot Item.Denot)
    (runnable : Dict) (clones : clone.Ghosts Item.Denot) (clone : Dict) (watches : watch.Ghosts W.Denot K.Denot Item.Denot) (watch : Dict) where
  -- the answer, what is read of the list, the length of the buffer beside, and its bytes where the run is refused
  pub work_list_run_steps_determined :
      DeterminedAs 7 (work_list_run_steps_kinds.ps K Item W laws item_laws watch_laws copies runs runnable clones clone watches watch)
      (work_list_run_steps_kinds.r K Item W laws item_laws watch_laws copies runs runnable clones clone watches watch) {W = Seen × (ℕ × List ℕ)}
      (λ κs a z ws. (seen K Item laws item_laws copies runs runnable clones clone ws.0, (length ws.1.1.0, beside_refused z ws.1.1.0)))
      (work_list_run_steps_reads.Learnt K Item W laws item_laws watch_laws copies runs runnable clones clone watches watch)
  work_list_run_steps_determined κs a z z' ws ws' p q =
      let d = same p.1.1.1.1.1.1.0.answer q.1.1.1.1.1.1.0.answer in
      let list =
      seen_same K Item laws item_laws copies runs runnable clones clone ws.0 ws'.0 (same p.1.1.1.1.1.1.0.buffer q.1.1.1.1.1.1.0.buffer) (same p.0 q.0) (same p.1.0 q.1.0)
      (ended_count z z' ws.0.count ws'.0.count d p.1.1.1.1.1.0 p.1.1.1.1.1.1.1.1.1 q.1.1.1.1.1.0 q.1.1.1.1.1.1.1.1.1) (same p.1.1.0 q.1.1.0)
      in (
        d,
        ap₂ (λ (l : Seen) (b : ℕ × List ℕ). (l, b)) list
            (ap₂ (λ (k : ℕ) (b : List ℕ). (k, b)) (same p.1.1.1.1.0 q.1.1.1.1.0) (beside_same z z' _ ws.1.1.0 ws'.1.1.0 d p.1.1.1.1.1.1.1.1.0 q.1.1.1.1.1.1.1.1.0)),
      )

module _ (W K Item : RattleType) (watch_laws : Laws W) (laws : Laws K) (item_laws : Laws Item) (copies : IsCopy Item) (watches : watch.Ghosts W.Denot K.Denot Item.Denot)
    (watch : Dict) (runs : runnable.Ghosts K.Denot Item.Denot) (runnable : Dict) (clones : clone.Ghosts Item.Denot) (clone : Dict) where
  -- the length of the buffer beside: what is kept in it is for each kind of watch to say
  pub watch_after_step_determined : DeterminedAs 5 (watch_after_step_kinds.ps W K Item watch_laws laws item_laws copies)
      (watch_after_step_kinds.r W K Item watch_laws laws item_laws copies) (λ κs a z ws. length ws.1.1.1.1.0)
      (watch_after_step_reads.Learnt W K Item watch_laws laws item_laws copies watches watch runs runnable clones clone)
  watch_after_step_determined κs a z z' ws ws' p q = (refl, same p.1 q.1)

-- ---- the same, where what is kept beside is known by the list and the buffer's length, as an index is

-- of two accepted runs on one list, the buffer beside; and of two refused ones
beside_known : (P : ℕ → List ℕ → List ℕ → Type 0) → ((c : ℕ) (w b b' : List ℕ) → length b ≡ length b' → P c w b → P c w b' → b ≡ b')
    → (z z' : Result Ended Refusal) (o w w' b b' : List ℕ) → z ≡ z' → w ≡ w' → length b ≡ length b' → IfOk z (λ e. P e.count w b) → IfOk z' (λ e. P e.count w' b')
    → OnErr z (b ≡ o) → OnErr z' (b' ≡ o) → b ≡ b'
beside_known P once (Ok e) (Ok e') o w w' b b' s m l i i' j j' =
    once e.count w b b' l i (subst (λ (c : ℕ). P c w b') (sym (ap (λ (u : Ended). u.count) (ok_same s))) (subst (λ (v : List ℕ). P e'.count v b') (sym m) i'))
beside_known P once (Ok e) (Err r) o w w' b b' s m l i i' j j' = absurd (ok_not_err s)
beside_known P once (Err r) (Ok e) o w w' b b' s m l i i' j j' = absurd (ok_not_err (sym s))
beside_known P once (Err r) (Err r') o w w' b b' s m l i i' j j' = same j j'

module _ (K Item W : RattleType) (laws : Laws K) (item_laws : Laws Item) (watch_laws : Laws W) (copies : IsCopy Item) (runs : runnable.Ghosts K.Denot Item.Denot)
    (runnable : Dict) (clones : clone.Ghosts Item.Denot) (clone : Dict) (watches : watch.Ghosts W.Denot K.Denot Item.Denot) (watch : Dict)
    (once : (cap : ℕ) (l : List Item.Denot) (b b' : List ℕ) → length b ≡ length b' → watches.keeps cap l b → watches.keeps cap l b' → b ≡ b') where
  pub watch_after_step_known :
      Determined 5 (watch_after_step_kinds.ps W K Item watch_laws laws item_laws copies) (watch_after_step_kinds.r W K Item watch_laws laws item_laws copies)
      (watch_after_step_reads.Learnt W K Item watch_laws laws item_laws copies watches watch runs runnable clones clone)
  watch_after_step_known κs a z z' ws ws' p q =
      (refl, ap (λ (b : List ℕ). (tt, (tt, (tt, (tt, (b, tt)))))) (once _ _ ws.1.1.1.1.0 ws'.1.1.1.1.0 (same p.1 q.1) p.0 q.0))

  -- the answer, what is read of the list, and every byte of the buffer beside
  pub work_list_run_steps_known :
      DeterminedAs 7 (work_list_run_steps_kinds.ps K Item W laws item_laws watch_laws copies runs runnable clones clone watches watch)
      (work_list_run_steps_kinds.r K Item W laws item_laws watch_laws copies runs runnable clones clone watches watch) {W = Seen × List ℕ}
      (λ κs a z ws. (seen K Item laws item_laws copies runs runnable clones clone ws.0, ws.1.1.0))
      (work_list_run_steps_reads.Learnt K Item W laws item_laws watch_laws copies runs runnable clones clone watches watch)
  work_list_run_steps_known κs a z z' ws ws' p q =
      let d = same p.1.1.1.1.1.1.0.answer q.1.1.1.1.1.1.0.answer in
      let bytes = same p.1.1.1.1.1.1.0.buffer q.1.1.1.1.1.1.0.buffer in
      let list =
      seen_same K Item laws item_laws copies runs runnable clones clone ws.0 ws'.0 bytes (same p.0 q.0) (same p.1.0 q.1.0)
      (ended_count z z' ws.0.count ws'.0.count d p.1.1.1.1.1.0 p.1.1.1.1.1.1.1.1.1 q.1.1.1.1.1.0 q.1.1.1.1.1.1.1.1.1) (same p.1.1.0 q.1.1.0)
      in
      let beside =
      beside_known (λ c w b. watches.keeps a.0.now.cap (records runs.codec c w) b) (λ c w b b' l i j. once _ _ b b' l i j) z z' _ ws.0.buffer.now ws'.0.buffer.now ws.1.1.0 ws'.1.1.0 d
      bytes (same p.1.1.1.1.0 q.1.1.1.1.0) p.1.1.1.1.1.1.1.0 q.1.1.1.1.1.1.1.0 p.1.1.1.1.1.1.1.1.0 q.1.1.1.1.1.1.1.1.0
      in
      (d, ap₂ (λ (l : Seen) (b : List ℕ). (l, b)) list beside)

-- The scripts for shared products: what a record that is not refused says, and the check of a script by its records.
-- Assumes nothing.
use mathlib.Core.Path.{◌≡◌, refl, sym, ap, ◌∙◌, subst}
use mathlib.Core.Bool.{Bool, true, false, cond}
use mathlib.Core.List.{List, [], ◌∷◌}
use Prim.Native.Nat.{ℕ, ◌/◌, ◌≤◌}
use native.Mathlib.Omega.{arith}
use borrow.Author.Tests.{eqb-true, leb-true, eq-eqb, ne_eqb}
use lib.Dec.{eqb, leb}
use lib.ListN.{length, length-map}
use Rattle.bits.specs.Sums.{All}
use Rattle.bits.proofs.Bools.{both_true}
use Rattle.bits.proofs.Sums.{all_map}
use Rattle.records.specs.Records.{list_of}
use Rattle.records.specs.Answers.{accepted}
use Rattle.records.proofs.Checks.{checked, AcceptedRecords, records_accepted, accepted_records}
use Rattle.records.proofs.Records.{length_list}
use Rattle.steps.specs.declared.StepRecord.{StepRecord}
use Rattle.steps.specs.Steps.{meaning}
use Rattle.script.specs.Scripts.{step_records, step_width, most_steps, fits}
use Rattle.script.proofs.Scripts.{fits_parts, meaning_fits}
use Rattle.shared_steps.specs.SharedSteps.{plain, merge, SharedAllowed, merge_operation, shared_meaning}
use Rattle.shared_steps.specs.Calls.{SharedKnown}
use Rattle.shared_run.specs.SharedScripts.{merge_fits, shared_fits, check_shared_script, shared_steps_of}

-- ---- rule 9, by whether the operation is a merge

module _ (n : ℕ) (x : StepRecord) (t : Bool) where
  pub merge_row : x.op ≡ 6 → t ≡ merge_fits x → t ≡ shared_fits n x
  unfolding shared_fits
  merge_row e f = f ∙ sym (simp (eq-eqb x.op 6 e))

  pub plain_row : (x.op ≡ 6 → ⊥) → t ≡ fits n x → t ≡ shared_fits n x
  unfolding shared_fits
  plain_row e f = f ∙ sym (simp (ne_eqb x.op 6 e))

-- ---- a record that is not refused

-- what a record means, by whether its operation is a merge
pub means_by : (x : StepRecord) (t : Bool) → eqb x.op merge_operation ≡ t → shared_meaning x ≡ cond t (merge x.i x.j) (plain (meaning x))
unfolding shared_meaning
means_by x t e = ap (λ (s : Bool). cond s (merge x.i x.j) (plain (meaning x))) e

-- it is of one of the six operations, and its step fits
pub shared_known : (n : ℕ) (x : StepRecord) → shared_fits n x ≡ true → SharedKnown n x
unfolding shared_fits
shared_known n x e = go (eqb x.op merge_operation) refl e
  where
    go : (t : Bool) → eqb x.op merge_operation ≡ t → cond t (merge_fits x) (fits n x) ≡ true → SharedKnown n x
    go true f e =
        let six : x.op ≡ 6 = eqb-true x.op 6 f in
        record { least = omega arith; most = omega arith; fits = subst (SharedAllowed n) (sym (means_by x true f)) (tt {0}) }
    go false f e =
        let p = both_true (leb 1 x.op) (leb x.op 5) (fits_parts n x e).op_known in
        let top : x.op ≤ 5 = leb-true x.op 5 p.1 in
        record { least = leb-true 1 x.op p.0; most = omega arith; fits = subst (SharedAllowed n) (sym (means_by x false f)) (meaning_fits n x e) }

-- ---- a script's records and its steps

pub length_shared_script : (b : List ℕ) → length (shared_steps_of b) ≡ length b / step_width
unfolding shared_steps_of
length_shared_script b = length-map (list_of step_records b) shared_meaning ∙ length_list step_records b

-- the steps of a script that is not refused fit
pub shared_script_fits : (n : ℕ) (b : List ℕ) → All (λ r. shared_fits n r ≡ true) (list_of step_records b) → All (SharedAllowed n) (shared_steps_of b)
unfolding shared_steps_of
shared_script_fits n b a =
    all_map (λ r. shared_fits n r ≡ true) (SharedAllowed n) shared_meaning (λ r e. (shared_known n r e).fits) (list_of step_records b) a

-- ---- the check of a script: of its records

pub shared_script_records : (n : ℕ) (b : List ℕ) → checked step_records (shared_fits n) 7 8 9 most_steps b ≡ check_shared_script n b
unfolding check_shared_script
shared_script_records n b = refl

-- what an accepted script is
abbrev pub AcceptedSharedScript : ℕ → List ℕ → Type 0
AcceptedSharedScript n b = AcceptedRecords step_records (shared_fits n) most_steps b

pub shared_script_accepts : (n : ℕ) (b v : List ℕ) → check_shared_script n b ≡ accepted v → AcceptedSharedScript n b
shared_script_accepts n b v e = records_accepted step_records (shared_fits n) 7 8 9 most_steps b v (shared_script_records n b ∙ e)

-- and a script that is so is accepted
pub accepts_shared_script : (n : ℕ) (b : List ℕ) → AcceptedSharedScript n b → check_shared_script n b ≡ accepted (length b / step_width ∷ [])
accepts_shared_script n b a = sym (shared_script_records n b) ∙ accepted_records step_records (shared_fits n) 7 8 9 most_steps b a

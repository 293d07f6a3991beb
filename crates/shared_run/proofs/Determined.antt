-- Two outcomes that satisfy the contract of a public function of this crate are equal.
-- Assumes nothing.
use mathlib.Core.Path.{◌≡◌, refl, ap, ap₂}
use mathlib.Core.List.{List}
use Prim.Native.Nat.{ℕ}
use lib.ListN.{get_or}
use Rattle.std.specs.Prelude.{Result}
use Rattle.bits.specs.Outcomes.{Determined}
use Rattle.bits.proofs.Determined.{same, same_told}
use Rattle.shared_run.specs.declared.SharedSettlement.{SharedSettlement}
use Rattle.records.specs.declared.Refusal.{Refusal}
use Rattle.records.specs.Answers.{Outcome, accepted, refused, counted}
use Rattle.records.proofs.Answers.{counted_back, counted_known, answer_back, answer_known}
use Rattle.script.specs.Calls.{finished}
use Rattle.script.proofs.Determined.{finished_back, finished_known}
use Rattle.shared_run.specs.Calls.{shared_settled}
use Rattle.shared_run.proofs.check.check_script.Kinds as check_script_kinds
use Rattle.shared_run.proofs.check.check_script.Reads as check_script_reads
use Rattle.shared_run.proofs.run.run.Kinds as run_kinds
use Rattle.shared_run.proofs.run.run.Reads as run_reads
use Rattle.shared_run.proofs.settle.settle.Kinds as settle_kinds
use Rattle.shared_run.proofs.settle.settle.Reads as settle_reads

-- the answer of settle, read back
pub settled_value : List ℕ → SharedSettlement
settled_value v = record { given = get_or v 0 0; peak = get_or v 1 0; script = get_or v 2 0; burned = get_or v 3 0 }

pub settled_back : Outcome → Result SharedSettlement Refusal
settled_back = answer_back settled_value

pub settled_known : (r : Result SharedSettlement Refusal) → settled_back (shared_settled r) ≡ r
unfolding settled_value settled_back
settled_known = answer_known _ settled_value (λ a. refl)

pub check_script_determined : Determined 1 check_script_kinds.ps check_script_kinds.r check_script_reads.Learnt
check_script_determined κs a z z' ws ws' p q = (same_told counted counted_back counted_known p q, refl)

pub run_determined : Determined 3 run_kinds.ps run_kinds.r run_reads.Learnt
run_determined κs a z z' ws ws' p q =
    (same_told finished finished_back finished_known p.0 q.0, ap (λ (b : List ℕ). (tt, (tt, (tt, (b, tt))))) (same p.1 q.1))

pub settle_determined : Determined 4 settle_kinds.ps settle_kinds.r settle_reads.Learnt
settle_determined κs a z z' ws ws' p q = (
  same_told shared_settled settled_back settled_known p.0 q.0,
  ap₂ (λ (b d : List ℕ). (tt, (tt, (tt, (b, (d, tt)))))) (same p.1.0 q.1.0) (same p.1.1 q.1.1),
)

-- Two outcomes that satisfy the contract of the call are equal.
-- Assumes nothing.
use mathlib.Core.Path.{◌≡◌, refl, ap₂}
use mathlib.Core.Bool.{Bool, true, false}
use mathlib.Core.List.{List}
use Prim.Native.Nat.{ℕ}
use lib.Dec.{eqb}
use lib.ListN.{get_or}
use Rattle.std.specs.Prelude.{Result, Ok, Err}
use Rattle.bits.specs.Outcomes.{Determined}
use Rattle.bits.specs.Sums.{one_if}
use Rattle.bits.proofs.Determined.{same, same_told}
use Rattle.writer.specs.declared.Written.{Written}
use Rattle.records.specs.declared.Refusal.{Refusal}
use Rattle.records.specs.Answers.{Outcome, accepted, refused}
use Rattle.writer.specs.Calls.{wrote}
use Rattle.writer.proofs.write.write_script.Kinds as write_script_kinds
use Rattle.writer.proofs.write.write_script.Reads as write_script_reads

-- the answer, read back
wrote_back : Outcome → Result Written Refusal
wrote_back (accepted v) = Ok (record { steps = get_or v 0 0; finished = eqb (get_or v 1 0) 1 })
wrote_back (refused r) = Err r

wrote_known : (a : Result Written Refusal) → wrote_back (wrote a) ≡ a
unfolding wrote_back
wrote_known (Ok w) = by w.finished
  where
    by : (f : Bool) → ◌≡◌ {A = Result Written Refusal} (Ok (record { steps = w.steps; finished = eqb (one_if f) 1 })) (Ok (record { steps = w.steps; finished = f }))
    by true = refl
    by false = refl
wrote_known (Err r) = refl

pub write_script_determined : Determined 3 write_script_kinds.ps write_script_kinds.r write_script_reads.Learnt
write_script_determined κs a z z' ws ws' p q = (
  same_told wrote wrote_back wrote_known p.0 q.0,
  ap₂ (λ (b s : List ℕ). (tt, (tt, (b, (s, tt))))) (same p.1.0 q.1.0) (same p.1.1 q.1.1),
)

-- Two outcomes that satisfy the contract of a public function of this crate are equal.
-- Assumes nothing.
use mathlib.Core.Path.{◌≡◌, refl, ap₂}
use mathlib.Core.Bool.{cond}
use mathlib.Core.List.{List}
use Prim.Native.Nat.{ℕ, ◌-◌}
use lib.Dec.{eqb}
use lib.ListN.{length, get_or}
use Rattle.std.specs.Prelude.{Option, Some, None, Result, Ok, Err}
use Rattle.bits.specs.Outcomes.{Determined}
use Rattle.bits.proofs.Determined.{same, same_told}
use Rattle.settling.specs.declared.Settlement.{Settlement}
use Rattle.records.specs.declared.Refusal.{Refusal}
use Rattle.records.specs.Answers.{Outcome, accepted, refused}
use Rattle.polarity.specs.declared.BestPolarity.{BestPolarity}
use Rattle.settling.specs.Calls.{settled}
use Rattle.settling.proofs.candidates.count_list.Kinds as count_list_kinds
use Rattle.settling.proofs.candidates.count_list.Reads as count_list_reads
use Rattle.settling.proofs.settle.settle.Kinds as settle_kinds
use Rattle.settling.proofs.settle.settle.Reads as settle_reads

-- the answer, read back: four counts above 8 variables, six for at most 8
fixed_from : List ℕ → Option BestPolarity
fixed_from v = cond (eqb (length v) 4) None (Some (record { polarity = get_or v 3 0; products = get_or v 4 0 }))

pub settled_back : Outcome → Result Settlement Refusal
settled_back (accepted v) =
    Ok (record { given = get_or v 0 0; peak = get_or v 1 0; script = get_or v 2 0; fixed = fixed_from v; burned = get_or v (length v - 1) 0 })
settled_back (refused r) = Err r

counts_known : (given peak script burned : ℕ) (f : Option BestPolarity)
    → settled_back (settled (Ok (record { given = given; peak = peak; script = script; fixed = f; burned = burned })))
    ≡ Ok (record { given = given; peak = peak; script = script; fixed = f; burned = burned })
unfolding settled_back fixed_from
counts_known given peak script burned (Some best) = refl
counts_known given peak script burned None = refl

pub settled_known : (a : Result Settlement Refusal) → settled_back (settled a) ≡ a
unfolding settled_back
settled_known (Ok s) = counts_known s.given s.peak s.script s.burned s.fixed
settled_known (Err r) = refl

pub settle_determined : Determined 4 settle_kinds.ps settle_kinds.r settle_reads.Learnt
settle_determined κs a z z' ws ws' p q = (
  same_told settled settled_back settled_known p.0 q.0,
  ap₂ (λ (w o : List ℕ). (tt, (tt, (tt, (w, (o, tt)))))) (same p.1.0 q.1.0) (same p.1.1 q.1.1),
)

pub count_list_determined : Determined 1 count_list_kinds.ps count_list_kinds.r count_list_reads.Learnt
count_list_determined κs a z z' ws ws' p q = (same p q, refl)

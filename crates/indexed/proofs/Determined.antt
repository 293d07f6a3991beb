-- Two outcomes that satisfy the contract of the call are equal.
-- Assumes nothing.
use mathlib.Core.Path.{◌≡◌, ap, ap₂, sym, ◌∙◌}
use mathlib.Core.List.{List}
use Prim.Native.Nat.{ℕ}
use lib.ListN.{length}
use Rattle.bits.specs.Outcomes.{Determined}
use Rattle.bits.proofs.Determined.{same, same_told}
use Rattle.script.specs.Calls.{finished}
use Rattle.script.proofs.Determined.{finished_back, finished_known}
use Rattle.cube.specs.declared.Cube.{Cube}
use Rattle.steps.specs.Moves.{next}
use Rattle.indexed.specs.Calls.{index_advanced}
use Rattle.indexed.specs.Keeping.{IndexKept}
use Rattle.indexed.specs.declared.IndexedRun.{IndexedRun}
use Rattle.indexed.proofs.run_indexed.Kinds as run_indexed_kinds
use Rattle.indexed.proofs.run_indexed.Reads as run_indexed_reads

-- an index that is kept beside a list is known by the list and the buffer's length
pub index_once : (cap : ℕ) (l : List Cube) (b b' : List ℕ) → length b ≡ length b' → IndexKept cap l b → IndexKept cap l b' → b ≡ b'
index_once cap l b b' e p q = p.is ∙ ap (λ (k : ℕ). index_advanced k (next l)) e ∙ sym q.is

run_same : (x y : IndexedRun) → x.begun ≡ y.begun → x.answer ≡ y.answer → x.starts ≡ y.starts → x ≡ y
run_same x y e f g = λ i. record { begun = e i; answer = f i; starts = g i }

pub run_indexed_determined : Determined 4 run_indexed_kinds.ps run_indexed_kinds.r run_indexed_reads.Learnt
run_indexed_determined κs a z z' ws ws' p q = (
  run_same z z' (same p.0 q.0) (same_told finished finished_back finished_known p.1.0 q.1.0) (same p.1.1.0 q.1.1.0),
  ap₂ (λ (b d : List ℕ). (tt, (tt, (tt, (b, (d, tt)))))) (same p.1.1.1.0 q.1.1.1.0) (same p.1.1.1.1 q.1.1.1.1),
)

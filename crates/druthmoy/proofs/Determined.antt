-- Two outcomes that satisfy the contract of a face are equal: the answer's words, and every byte of each buffer.
-- Assumes nothing.
use mathlib.Core.Path.{refl, ap, ap₂}
use mathlib.Core.List.{List}
use Prim.Native.Nat.{ℕ}
use Rattle.bits.specs.Outcomes.{Determined}
use Rattle.bits.proofs.Determined.{same}
use Rattle.druthmoy.proofs.dm_check.Kinds as dm_check_kinds
use Rattle.druthmoy.proofs.dm_check.Reads as dm_check_reads
use Rattle.druthmoy.proofs.dm_value.Kinds as dm_value_kinds
use Rattle.druthmoy.proofs.dm_value.Reads as dm_value_reads
use Rattle.druthmoy.proofs.dm_reasons.Kinds as dm_reasons_kinds
use Rattle.druthmoy.proofs.dm_reasons.Reads as dm_reasons_reads
use Rattle.druthmoy.proofs.dm_truth_vector.Kinds as dm_truth_vector_kinds
use Rattle.druthmoy.proofs.dm_truth_vector.Reads as dm_truth_vector_reads
use Rattle.druthmoy.proofs.dm_coefficients.Kinds as dm_coefficients_kinds
use Rattle.druthmoy.proofs.dm_coefficients.Reads as dm_coefficients_reads
use Rattle.druthmoy.proofs.dm_vector.Kinds as dm_vector_kinds
use Rattle.druthmoy.proofs.dm_vector.Reads as dm_vector_reads
use Rattle.druthmoy.proofs.dm_write_form.Kinds as dm_write_form_kinds
use Rattle.druthmoy.proofs.dm_write_form.Reads as dm_write_form_reads
use Rattle.druthmoy.proofs.dm_best_polarity.Kinds as dm_best_polarity_kinds
use Rattle.druthmoy.proofs.dm_best_polarity.Reads as dm_best_polarity_reads
use Rattle.druthmoy.proofs.dm_write_tree.Kinds as dm_write_tree_kinds
use Rattle.druthmoy.proofs.dm_write_tree.Reads as dm_write_tree_reads
use Rattle.druthmoy.proofs.dm_write_kronecker.Kinds as dm_write_kronecker_kinds
use Rattle.druthmoy.proofs.dm_write_kronecker.Reads as dm_write_kronecker_reads
use Rattle.druthmoy.proofs.dm_run.Kinds as dm_run_kinds
use Rattle.druthmoy.proofs.dm_run.Reads as dm_run_reads
use Rattle.druthmoy.proofs.dm_index.Kinds as dm_index_kinds
use Rattle.druthmoy.proofs.dm_index.Reads as dm_index_reads
use Rattle.druthmoy.proofs.dm_group.Kinds as dm_group_kinds
use Rattle.druthmoy.proofs.dm_group.Reads as dm_group_reads
use Rattle.druthmoy.proofs.dm_run_indexed.Kinds as dm_run_indexed_kinds
use Rattle.druthmoy.proofs.dm_run_indexed.Reads as dm_run_indexed_reads
use Rattle.druthmoy.proofs.dm_write_script.Kinds as dm_write_script_kinds
use Rattle.druthmoy.proofs.dm_write_script.Reads as dm_write_script_reads
use Rattle.druthmoy.proofs.dm_compact.Kinds as dm_compact_kinds
use Rattle.druthmoy.proofs.dm_compact.Reads as dm_compact_reads
use Rattle.druthmoy.proofs.dm_settle.Kinds as dm_settle_kinds
use Rattle.druthmoy.proofs.dm_settle.Reads as dm_settle_reads
use Rattle.druthmoy.proofs.dm_wide_from_narrow.Kinds as dm_wide_from_narrow_kinds
use Rattle.druthmoy.proofs.dm_wide_from_narrow.Reads as dm_wide_from_narrow_reads
use Rattle.druthmoy.proofs.dm_narrow_from_wide.Kinds as dm_narrow_from_wide_kinds
use Rattle.druthmoy.proofs.dm_narrow_from_wide.Reads as dm_narrow_from_wide_reads
use Rattle.druthmoy.proofs.dm_shared_check.Kinds as dm_shared_check_kinds
use Rattle.druthmoy.proofs.dm_shared_check.Reads as dm_shared_check_reads
use Rattle.druthmoy.proofs.dm_shared_value.Kinds as dm_shared_value_kinds
use Rattle.druthmoy.proofs.dm_shared_value.Reads as dm_shared_value_reads
use Rattle.druthmoy.proofs.dm_shared_run.Kinds as dm_shared_run_kinds
use Rattle.druthmoy.proofs.dm_shared_run.Reads as dm_shared_run_reads
use Rattle.druthmoy.proofs.dm_shared_settle.Kinds as dm_shared_settle_kinds
use Rattle.druthmoy.proofs.dm_shared_settle.Reads as dm_shared_settle_reads
use Rattle.druthmoy.proofs.maps.dm_slot.Kinds as dm_slot_kinds
use Rattle.druthmoy.proofs.maps.dm_slot.Reads as dm_slot_reads
use Rattle.druthmoy.proofs.maps.dm_settle_map.Kinds as dm_settle_map_kinds
use Rattle.druthmoy.proofs.maps.dm_settle_map.Reads as dm_settle_map_reads
use Rattle.druthmoy.proofs.maps.dm_map_reasons.Kinds as dm_map_reasons_kinds
use Rattle.druthmoy.proofs.maps.dm_map_reasons.Reads as dm_map_reasons_reads

pub dm_check_determined : Determined 2 dm_check_kinds.ps dm_check_kinds.r dm_check_reads.Learnt
dm_check_determined κs a z z' ws ws' p q = (refl, ap (λ (w : List ℕ). (tt, (tt, (w, tt)))) (same p q))

pub dm_value_determined : Determined 2 dm_value_kinds.ps dm_value_kinds.r dm_value_reads.Learnt
dm_value_determined κs a z z' ws ws' p q = (refl, ap (λ (w : List ℕ). (tt, (tt, (tt, (w, tt))))) (same p q))

pub dm_reasons_determined : Determined 3 dm_reasons_kinds.ps dm_reasons_kinds.r dm_reasons_reads.Learnt
dm_reasons_determined κs a z z' ws ws' p q = (refl, ap₂ (λ (w b : List ℕ). (tt, (tt, (tt, (b, (w, tt)))))) (same p.0 q.0) (same p.1 q.1))

pub dm_truth_vector_determined : Determined 3 dm_truth_vector_kinds.ps dm_truth_vector_kinds.r dm_truth_vector_reads.Learnt
dm_truth_vector_determined κs a z z' ws ws' p q = (refl, ap₂ (λ (w b : List ℕ). (tt, (tt, (b, (w, tt))))) (same p.0 q.0) (same p.1 q.1))

pub dm_coefficients_determined : Determined 3 dm_coefficients_kinds.ps dm_coefficients_kinds.r dm_coefficients_reads.Learnt
dm_coefficients_determined κs a z z' ws ws' p q = (refl, ap₂ (λ (w b : List ℕ). (tt, (tt, (tt, (b, (w, tt)))))) (same p.0 q.0) (same p.1 q.1))

pub dm_vector_determined : Determined 3 dm_vector_kinds.ps dm_vector_kinds.r dm_vector_reads.Learnt
dm_vector_determined κs a z z' ws ws' p q = (refl, ap₂ (λ (w b : List ℕ). (tt, (tt, (tt, (b, (w, tt)))))) (same p.0 q.0) (same p.1 q.1))

pub dm_write_form_determined : Determined 3 dm_write_form_kinds.ps dm_write_form_kinds.r dm_write_form_reads.Learnt
dm_write_form_determined κs a z z' ws ws' p q = (refl, ap₂ (λ (w b : List ℕ). (tt, (tt, (tt, (b, (w, tt)))))) (same p.0 q.0) (same p.1 q.1))

pub dm_best_polarity_determined : Determined 2 dm_best_polarity_kinds.ps dm_best_polarity_kinds.r dm_best_polarity_reads.Learnt
dm_best_polarity_determined κs a z z' ws ws' p q = (refl, ap (λ (w : List ℕ). (tt, (tt, (w, tt)))) (same p q))

pub dm_write_tree_determined : Determined 3 dm_write_tree_kinds.ps dm_write_tree_kinds.r dm_write_tree_reads.Learnt
dm_write_tree_determined κs a z z' ws ws' p q = (refl, ap₂ (λ (w b : List ℕ). (tt, (tt, (b, (w, tt))))) (same p.0 q.0) (same p.1 q.1))

pub dm_write_kronecker_determined : Determined 3 dm_write_kronecker_kinds.ps dm_write_kronecker_kinds.r dm_write_kronecker_reads.Learnt
dm_write_kronecker_determined κs a z z' ws ws' p q = (refl, ap₂ (λ (w b : List ℕ). (tt, (tt, (b, (w, tt))))) (same p.0 q.0) (same p.1 q.1))

pub dm_run_determined : Determined 4 dm_run_kinds.ps dm_run_kinds.r dm_run_reads.Learnt
dm_run_determined κs a z z' ws ws' p q = (refl, ap₂ (λ (w b : List ℕ). (tt, (tt, (tt, (b, (w, tt)))))) (same p.0 q.0) (same p.1 q.1))

pub dm_index_determined : Determined 4 dm_index_kinds.ps dm_index_kinds.r dm_index_reads.Learnt
dm_index_determined κs a z z' ws ws' p q = (
  refl,
  ap₂ (λ (w : List ℕ) (bs : List ℕ × List ℕ). (tt, (tt, (bs.0, (bs.1, (w, tt))))))
      (same p.0 q.0)
      (ap₂ (λ (b d : List ℕ). (b, d)) (same p.1.0 q.1.0) (same p.1.1 q.1.1)),
)

pub dm_group_determined : Determined 4 dm_group_kinds.ps dm_group_kinds.r dm_group_reads.Learnt
dm_group_determined κs a z z' ws ws' p q = (refl, ap (λ (w : List ℕ). (tt, (tt, (tt, (tt, (tt, (w, tt))))))) (same p q))

pub dm_run_indexed_determined : Determined 6 dm_run_indexed_kinds.ps dm_run_indexed_kinds.r dm_run_indexed_reads.Learnt
dm_run_indexed_determined κs a z z' ws ws' p q = (
  refl,
  ap₂ (λ (ws bs : List ℕ × List ℕ). (tt, (tt, (tt, (ws.1, (bs.0, (bs.1, (ws.0, tt))))))))
      (ap₂ (λ (w b : List ℕ). (w, b)) (same p.0 q.0) (same p.1.0 q.1.0))
      (ap₂ (λ (b d : List ℕ). (b, d)) (same p.1.1.0 q.1.1.0) (same p.1.1.1 q.1.1.1)),
)

pub dm_write_script_determined : Determined 4 dm_write_script_kinds.ps dm_write_script_kinds.r dm_write_script_reads.Learnt
dm_write_script_determined κs a z z' ws ws' p q = (
  refl,
  ap₂ (λ (w : List ℕ) (bs : List ℕ × List ℕ). (tt, (tt, (bs.0, (bs.1, (w, tt))))))
      (same p.0 q.0)
      (ap₂ (λ (b d : List ℕ). (b, d)) (same p.1.0 q.1.0) (same p.1.1 q.1.1)),
)

pub dm_compact_determined : Determined 3 dm_compact_kinds.ps dm_compact_kinds.r dm_compact_reads.Learnt
dm_compact_determined κs a z z' ws ws' p q = (refl, ap₂ (λ (w b : List ℕ). (tt, (tt, (tt, (b, (w, tt)))))) (same p.0 q.0) (same p.1 q.1))

pub dm_settle_determined : Determined 5 dm_settle_kinds.ps dm_settle_kinds.r dm_settle_reads.Learnt
dm_settle_determined κs a z z' ws ws' p q = (
  refl,
  ap₂ (λ (w : List ℕ) (bs : List ℕ × List ℕ). (tt, (tt, (tt, (bs.0, (bs.1, (w, tt)))))))
      (same p.0 q.0)
      (ap₂ (λ (b d : List ℕ). (b, d)) (same p.1.0 q.1.0) (same p.1.1 q.1.1)),
)

pub dm_wide_from_narrow_determined : Determined 3 dm_wide_from_narrow_kinds.ps dm_wide_from_narrow_kinds.r dm_wide_from_narrow_reads.Learnt
dm_wide_from_narrow_determined κs a z z' ws ws' p q = (refl, ap₂ (λ (w b : List ℕ). (tt, (tt, (b, (w, tt))))) (same p.0 q.0) (same p.1 q.1))

pub dm_narrow_from_wide_determined : Determined 3 dm_narrow_from_wide_kinds.ps dm_narrow_from_wide_kinds.r dm_narrow_from_wide_reads.Learnt
dm_narrow_from_wide_determined κs a z z' ws ws' p q = (refl, ap₂ (λ (w b : List ℕ). (tt, (tt, (b, (w, tt))))) (same p.0 q.0) (same p.1 q.1))

pub dm_shared_check_determined : Determined 2 dm_shared_check_kinds.ps dm_shared_check_kinds.r dm_shared_check_reads.Learnt
dm_shared_check_determined κs a z z' ws ws' p q = (refl, ap (λ (w : List ℕ). (tt, (tt, (w, tt)))) (same p q))

pub dm_shared_value_determined : Determined 2 dm_shared_value_kinds.ps dm_shared_value_kinds.r dm_shared_value_reads.Learnt
dm_shared_value_determined κs a z z' ws ws' p q = (refl, ap (λ (w : List ℕ). (tt, (tt, (tt, (w, tt))))) (same p q))

pub dm_shared_run_determined : Determined 4 dm_shared_run_kinds.ps dm_shared_run_kinds.r dm_shared_run_reads.Learnt
dm_shared_run_determined κs a z z' ws ws' p q = (refl, ap₂ (λ (w b : List ℕ). (tt, (tt, (tt, (b, (w, tt)))))) (same p.0 q.0) (same p.1 q.1))

pub dm_shared_settle_determined : Determined 5 dm_shared_settle_kinds.ps dm_shared_settle_kinds.r dm_shared_settle_reads.Learnt
dm_shared_settle_determined κs a z z' ws ws' p q = (
  refl,
  ap₂ (λ (w : List ℕ) (bs : List ℕ × List ℕ). (tt, (tt, (tt, (bs.0, (bs.1, (w, tt)))))))
      (same p.0 q.0)
      (ap₂ (λ (b d : List ℕ). (b, d)) (same p.1.0 q.1.0) (same p.1.1 q.1.1)),
)

pub dm_slot_determined : Determined 3 dm_slot_kinds.ps dm_slot_kinds.r dm_slot_reads.Learnt
dm_slot_determined κs a z z' ws ws' p q = (refl, ap (λ (w : List ℕ). (tt, (tt, (tt, (tt, (w, tt)))))) (same p q))

pub dm_settle_map_determined : Determined 8 dm_settle_map_kinds.ps dm_settle_map_kinds.r dm_settle_map_reads.Learnt
dm_settle_map_determined κs a z z' ws ws' p q = (
  refl,
  ap₂ (λ (x y : List ℕ × List ℕ). (tt, (tt, (tt, (tt, (tt, (x.0, (x.1, (y.0, (y.1, tt))))))))))
      (ap₂ (λ (b d : List ℕ). (b, d)) (same p.work_is q.work_is) (same p.out_is q.out_is))
      (ap₂ (λ (b d : List ℕ). (b, d)) (same p.each_is q.each_is) (same p.answer_is q.answer_is)),
)

pub dm_map_reasons_determined : Determined 5 dm_map_reasons_kinds.ps dm_map_reasons_kinds.r dm_map_reasons_reads.Learnt
dm_map_reasons_determined κs a z z' ws ws' p q = (
  refl,
  ap₂ (λ (w : List ℕ) (bs : List ℕ × List ℕ). (tt, (tt, (tt, (tt, (bs.0, (bs.1, (w, tt))))))))
      (same p.answer_is q.answer_is)
      (ap₂ (λ (b d : List ℕ). (b, d)) (same p.out_is q.out_is) (same p.each_is q.each_is)),
)

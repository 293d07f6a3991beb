-- Every outcome that the contract of an exported function allows is a `Faced` or a `MapFaced`, and two such outcomes are equal: its clauses are those of the function of crate `druthmoy` that it calls.
-- Assumes nothing.
use mathlib.Core.List.{[], ◌∷◌}
use Rattle.bits.specs.Outcomes.{Determined}
use Rattle.druthmoy.proofs.Determined as known
use Rattle.druthmoy_c.proofs.dm_check.Kinds as dm_check_kinds
use Rattle.druthmoy_c.proofs.dm_check.Reads as dm_check_reads
use Rattle.druthmoy_c.proofs.dm_value.Kinds as dm_value_kinds
use Rattle.druthmoy_c.proofs.dm_value.Reads as dm_value_reads
use Rattle.druthmoy_c.proofs.dm_reasons.Kinds as dm_reasons_kinds
use Rattle.druthmoy_c.proofs.dm_reasons.Reads as dm_reasons_reads
use Rattle.druthmoy_c.proofs.dm_truth_vector.Kinds as dm_truth_vector_kinds
use Rattle.druthmoy_c.proofs.dm_truth_vector.Reads as dm_truth_vector_reads
use Rattle.druthmoy_c.proofs.dm_coefficients.Kinds as dm_coefficients_kinds
use Rattle.druthmoy_c.proofs.dm_coefficients.Reads as dm_coefficients_reads
use Rattle.druthmoy_c.proofs.dm_vector.Kinds as dm_vector_kinds
use Rattle.druthmoy_c.proofs.dm_vector.Reads as dm_vector_reads
use Rattle.druthmoy_c.proofs.dm_write_form.Kinds as dm_write_form_kinds
use Rattle.druthmoy_c.proofs.dm_write_form.Reads as dm_write_form_reads
use Rattle.druthmoy_c.proofs.dm_best_polarity.Kinds as dm_best_polarity_kinds
use Rattle.druthmoy_c.proofs.dm_best_polarity.Reads as dm_best_polarity_reads
use Rattle.druthmoy_c.proofs.dm_write_tree.Kinds as dm_write_tree_kinds
use Rattle.druthmoy_c.proofs.dm_write_tree.Reads as dm_write_tree_reads
use Rattle.druthmoy_c.proofs.dm_write_kronecker.Kinds as dm_write_kronecker_kinds
use Rattle.druthmoy_c.proofs.dm_write_kronecker.Reads as dm_write_kronecker_reads
use Rattle.druthmoy_c.proofs.dm_run.Kinds as dm_run_kinds
use Rattle.druthmoy_c.proofs.dm_run.Reads as dm_run_reads
use Rattle.druthmoy_c.proofs.dm_index.Kinds as dm_index_kinds
use Rattle.druthmoy_c.proofs.dm_index.Reads as dm_index_reads
use Rattle.druthmoy_c.proofs.dm_group.Kinds as dm_group_kinds
use Rattle.druthmoy_c.proofs.dm_group.Reads as dm_group_reads
use Rattle.druthmoy_c.proofs.dm_run_indexed.Kinds as dm_run_indexed_kinds
use Rattle.druthmoy_c.proofs.dm_run_indexed.Reads as dm_run_indexed_reads
use Rattle.druthmoy_c.proofs.dm_write_script.Kinds as dm_write_script_kinds
use Rattle.druthmoy_c.proofs.dm_write_script.Reads as dm_write_script_reads
use Rattle.druthmoy_c.proofs.dm_compact.Kinds as dm_compact_kinds
use Rattle.druthmoy_c.proofs.dm_compact.Reads as dm_compact_reads
use Rattle.druthmoy_c.proofs.dm_settle.Kinds as dm_settle_kinds
use Rattle.druthmoy_c.proofs.dm_settle.Reads as dm_settle_reads
use Rattle.druthmoy_c.proofs.dm_wide_from_narrow.Kinds as dm_wide_from_narrow_kinds
use Rattle.druthmoy_c.proofs.dm_wide_from_narrow.Reads as dm_wide_from_narrow_reads
use Rattle.druthmoy_c.proofs.dm_narrow_from_wide.Kinds as dm_narrow_from_wide_kinds
use Rattle.druthmoy_c.proofs.dm_narrow_from_wide.Reads as dm_narrow_from_wide_reads
use Rattle.druthmoy_c.proofs.dm_shared_check.Kinds as dm_shared_check_kinds
use Rattle.druthmoy_c.proofs.dm_shared_check.Reads as dm_shared_check_reads
use Rattle.druthmoy_c.proofs.dm_shared_value.Kinds as dm_shared_value_kinds
use Rattle.druthmoy_c.proofs.dm_shared_value.Reads as dm_shared_value_reads
use Rattle.druthmoy_c.proofs.dm_shared_run.Kinds as dm_shared_run_kinds
use Rattle.druthmoy_c.proofs.dm_shared_run.Reads as dm_shared_run_reads
use Rattle.druthmoy_c.proofs.dm_shared_settle.Kinds as dm_shared_settle_kinds
use Rattle.druthmoy_c.proofs.dm_shared_settle.Reads as dm_shared_settle_reads
use Rattle.druthmoy_c.proofs.maps.dm_slot.Kinds as dm_slot_kinds
use Rattle.druthmoy_c.proofs.maps.dm_slot.Reads as dm_slot_reads
use Rattle.druthmoy_c.proofs.maps.dm_settle_map.Kinds as dm_settle_map_kinds
use Rattle.druthmoy_c.proofs.maps.dm_settle_map.Reads as dm_settle_map_reads
use Rattle.druthmoy_c.proofs.maps.dm_map_reasons.Kinds as dm_map_reasons_kinds
use Rattle.druthmoy_c.proofs.maps.dm_map_reasons.Reads as dm_map_reasons_reads
use Rattle.promises.specs.Calls.{check, value, reasons, truth_vector, coefficients, vector_back, write_form, best_polarity, write_tree, write_kronecker, run, build_index, group, run_indexed, write_script, compact, settle, wide_from_narrow, narrow_from_wide, shared_check, shared_value, shared_run, shared_settle}
use Rattle.promises.specs.ContractOutcomes.{IsFaced}
use Rattle.promises.specs.Selector.{slot, settle_map, map_reasons, IsMapFaced}
use Rattle.promises.proofs.Contracts as promised
use Rattle.promises.proofs.MapFaces as promised_maps

pub dm_check_faced : IsFaced 2 dm_check_kinds.ps dm_check_kinds.r dm_check_reads.Learnt
    (λ κs a. check a.0 a.1.0.now)
    (λ κs a ws. []) (λ κs a ws. ws.1.1.0)
dm_check_faced = promised.dm_check_faced

pub dm_value_faced : IsFaced 2 dm_value_kinds.ps dm_value_kinds.r dm_value_reads.Learnt
    (λ κs a. value a.0 a.1.0.now a.1.1.0)
    (λ κs a ws. []) (λ κs a ws. ws.1.1.1.0)
dm_value_faced = promised.dm_value_faced

pub dm_reasons_faced : IsFaced 3 dm_reasons_kinds.ps dm_reasons_kinds.r dm_reasons_reads.Learnt
    (λ κs a. reasons a.0 a.1.0.now a.1.1.0 a.1.1.1.0.now)
    (λ κs a ws. ws.1.1.1.0 ∷ []) (λ κs a ws. ws.1.1.1.1.0)
dm_reasons_faced = promised.dm_reasons_faced

pub dm_truth_vector_faced : IsFaced 3 dm_truth_vector_kinds.ps dm_truth_vector_kinds.r dm_truth_vector_reads.Learnt
    (λ κs a. truth_vector a.0 a.1.0.now a.1.1.0.now)
    (λ κs a ws. ws.1.1.0 ∷ []) (λ κs a ws. ws.1.1.1.0)
dm_truth_vector_faced = promised.dm_truth_vector_faced

pub dm_coefficients_faced : IsFaced 3 dm_coefficients_kinds.ps dm_coefficients_kinds.r dm_coefficients_reads.Learnt
    (λ κs a. coefficients a.0 a.1.0.now a.1.1.0 a.1.1.1.0.now)
    (λ κs a ws. ws.1.1.1.0 ∷ []) (λ κs a ws. ws.1.1.1.1.0)
dm_coefficients_faced = promised.dm_coefficients_faced

pub dm_vector_faced : IsFaced 3 dm_vector_kinds.ps dm_vector_kinds.r dm_vector_reads.Learnt
    (λ κs a. vector_back a.0 a.1.0.now a.1.1.0 a.1.1.1.0.now)
    (λ κs a ws. ws.1.1.1.0 ∷ []) (λ κs a ws. ws.1.1.1.1.0)
dm_vector_faced = promised.dm_vector_faced

pub dm_write_form_faced : IsFaced 3 dm_write_form_kinds.ps dm_write_form_kinds.r dm_write_form_reads.Learnt
    (λ κs a. write_form a.0 a.1.0.now a.1.1.0 a.1.1.1.0.now)
    (λ κs a ws. ws.1.1.1.0 ∷ []) (λ κs a ws. ws.1.1.1.1.0)
dm_write_form_faced = promised.dm_write_form_faced

pub dm_best_polarity_faced : IsFaced 2 dm_best_polarity_kinds.ps dm_best_polarity_kinds.r dm_best_polarity_reads.Learnt
    (λ κs a. best_polarity a.0 a.1.0.now)
    (λ κs a ws. []) (λ κs a ws. ws.1.1.0)
dm_best_polarity_faced = promised.dm_best_polarity_faced

pub dm_write_tree_faced : IsFaced 3 dm_write_tree_kinds.ps dm_write_tree_kinds.r dm_write_tree_reads.Learnt
    (λ κs a. write_tree a.0 a.1.0.now a.1.1.0.now)
    (λ κs a ws. ws.1.1.0 ∷ []) (λ κs a ws. ws.1.1.1.0)
dm_write_tree_faced = promised.dm_write_tree_faced

pub dm_write_kronecker_faced : IsFaced 3 dm_write_kronecker_kinds.ps dm_write_kronecker_kinds.r dm_write_kronecker_reads.Learnt
    (λ κs a. write_kronecker a.0 a.1.0.now a.1.1.0.now)
    (λ κs a ws. ws.1.1.0 ∷ []) (λ κs a ws. ws.1.1.1.0)
dm_write_kronecker_faced = promised.dm_write_kronecker_faced

pub dm_run_faced : IsFaced 4 dm_run_kinds.ps dm_run_kinds.r dm_run_reads.Learnt
    (λ κs a. run a.0 a.1.0.now a.1.1.0.now a.1.1.1.0.now)
    (λ κs a ws. ws.1.1.1.0 ∷ []) (λ κs a ws. ws.1.1.1.1.0)
dm_run_faced = promised.dm_run_faced

pub dm_index_faced : IsFaced 4 dm_index_kinds.ps dm_index_kinds.r dm_index_reads.Learnt
    (λ κs a. build_index a.0 a.1.0.now a.1.1.0.now a.1.1.1.0.now)
    (λ κs a ws. ws.1.1.0 ∷ ws.1.1.1.0 ∷ []) (λ κs a ws. ws.1.1.1.1.0)
dm_index_faced = promised.dm_index_faced

pub dm_group_faced : IsFaced 4 dm_group_kinds.ps dm_group_kinds.r dm_group_reads.Learnt
    (λ κs a. group a.0 a.1.0.now a.1.1.0.now a.1.1.1.0.now a.1.1.1.1.0)
    (λ κs a ws. []) (λ κs a ws. ws.1.1.1.1.1.0)
dm_group_faced = promised.dm_group_faced

pub dm_run_indexed_faced : IsFaced 6 dm_run_indexed_kinds.ps dm_run_indexed_kinds.r dm_run_indexed_reads.Learnt
    (λ κs a. run_indexed a.0 a.1.0.now a.1.1.0.now a.1.1.1.0.now a.1.1.1.1.0.now a.1.1.1.1.1.0.now)
    (λ κs a ws. ws.1.1.1.0 ∷ ws.1.1.1.1.0 ∷ ws.1.1.1.1.1.0 ∷ []) (λ κs a ws. ws.1.1.1.1.1.1.0)
dm_run_indexed_faced = promised.dm_run_indexed_faced

pub dm_write_script_faced : IsFaced 4 dm_write_script_kinds.ps dm_write_script_kinds.r dm_write_script_reads.Learnt
    (λ κs a. write_script a.0 a.1.0.now a.1.1.0.now a.1.1.1.0.now)
    (λ κs a ws. ws.1.1.0 ∷ ws.1.1.1.0 ∷ []) (λ κs a ws. ws.1.1.1.1.0)
dm_write_script_faced = promised.dm_write_script_faced

pub dm_compact_faced : IsFaced 3 dm_compact_kinds.ps dm_compact_kinds.r dm_compact_reads.Learnt (λ κs a. compact a.0 a.1.0 a.1.1.0.now a.1.1.1.0.now)
    (λ κs a ws. ws.1.1.1.0 ∷ []) (λ κs a ws. ws.1.1.1.1.0)
dm_compact_faced = promised.dm_compact_faced

pub dm_settle_faced : IsFaced 5 dm_settle_kinds.ps dm_settle_kinds.r dm_settle_reads.Learnt
    (λ κs a. settle a.0 a.1.0.now a.1.1.0.now a.1.1.1.0.now a.1.1.1.1.0.now)
    (λ κs a ws. ws.1.1.1.0 ∷ ws.1.1.1.1.0 ∷ []) (λ κs a ws. ws.1.1.1.1.1.0)
dm_settle_faced = promised.dm_settle_faced

pub dm_wide_from_narrow_faced : IsFaced 3 dm_wide_from_narrow_kinds.ps dm_wide_from_narrow_kinds.r dm_wide_from_narrow_reads.Learnt
    (λ κs a. wide_from_narrow a.0 a.1.0.now a.1.1.0.now)
    (λ κs a ws. ws.1.1.0 ∷ []) (λ κs a ws. ws.1.1.1.0)
dm_wide_from_narrow_faced = promised.dm_wide_from_narrow_faced

pub dm_narrow_from_wide_faced : IsFaced 3 dm_narrow_from_wide_kinds.ps dm_narrow_from_wide_kinds.r dm_narrow_from_wide_reads.Learnt
    (λ κs a. narrow_from_wide a.0 a.1.0.now a.1.1.0.now)
    (λ κs a ws. ws.1.1.0 ∷ []) (λ κs a ws. ws.1.1.1.0)
dm_narrow_from_wide_faced = promised.dm_narrow_from_wide_faced

pub dm_shared_check_faced : IsFaced 2 dm_shared_check_kinds.ps dm_shared_check_kinds.r dm_shared_check_reads.Learnt
    (λ κs a. shared_check a.0 a.1.0.now)
    (λ κs a ws. []) (λ κs a ws. ws.1.1.0)
dm_shared_check_faced = promised.dm_shared_check_faced

pub dm_shared_value_faced : IsFaced 2 dm_shared_value_kinds.ps dm_shared_value_kinds.r dm_shared_value_reads.Learnt
    (λ κs a. shared_value a.0 a.1.0.now a.1.1.0)
    (λ κs a ws. []) (λ κs a ws. ws.1.1.1.0)
dm_shared_value_faced = promised.dm_shared_value_faced

pub dm_shared_run_faced : IsFaced 4 dm_shared_run_kinds.ps dm_shared_run_kinds.r dm_shared_run_reads.Learnt
    (λ κs a. shared_run a.0 a.1.0.now a.1.1.0.now a.1.1.1.0.now)
    (λ κs a ws. ws.1.1.1.0 ∷ []) (λ κs a ws. ws.1.1.1.1.0)
dm_shared_run_faced = promised.dm_shared_run_faced

pub dm_shared_settle_faced : IsFaced 5 dm_shared_settle_kinds.ps dm_shared_settle_kinds.r dm_shared_settle_reads.Learnt
    (λ κs a. shared_settle a.0 a.1.0.now a.1.1.0.now a.1.1.1.0.now a.1.1.1.1.0.now)
    (λ κs a ws. ws.1.1.1.0 ∷ ws.1.1.1.1.0 ∷ []) (λ κs a ws. ws.1.1.1.1.1.0)
dm_shared_settle_faced = promised.dm_shared_settle_faced

pub dm_slot_faced : IsMapFaced 3 dm_slot_kinds.ps dm_slot_kinds.r dm_slot_reads.Learnt
    (λ κs a. slot a.0 a.1.0.now a.1.1.0.now a.1.1.1.0)
    (λ κs a ws. []) (λ κs a ws. ws.1.1.1.1.0)
dm_slot_faced = promised_maps.dm_slot_faced

pub dm_settle_map_faced : IsMapFaced 8 dm_settle_map_kinds.ps dm_settle_map_kinds.r dm_settle_map_reads.Learnt
    (λ κs a.
    settle_map a.0 a.1.0.now a.1.1.0.now a.1.1.1.0.now a.1.1.1.1.0.now a.1.1.1.1.1.0.now a.1.1.1.1.1.1.0.now
    a.1.1.1.1.1.1.1.0.now)
    (λ κs a ws. ws.1.1.1.1.1.0 ∷ ws.1.1.1.1.1.1.0 ∷ ws.1.1.1.1.1.1.1.0 ∷ []) (λ κs a ws. ws.1.1.1.1.1.1.1.1.0)
dm_settle_map_faced = promised_maps.dm_settle_map_faced

pub dm_map_reasons_faced : IsMapFaced 5 dm_map_reasons_kinds.ps dm_map_reasons_kinds.r dm_map_reasons_reads.Learnt
    (λ κs a. map_reasons a.0 a.1.0.now a.1.1.0.now a.1.1.1.0 a.1.1.1.1.0.now a.1.1.1.1.1.0.now)
    (λ κs a ws. ws.1.1.1.1.0 ∷ ws.1.1.1.1.1.0 ∷ []) (λ κs a ws. ws.1.1.1.1.1.1.0)
dm_map_reasons_faced = promised_maps.dm_map_reasons_faced

pub dm_check_determined : Determined 2 dm_check_kinds.ps dm_check_kinds.r dm_check_reads.Learnt
dm_check_determined = known.dm_check_determined

pub dm_value_determined : Determined 2 dm_value_kinds.ps dm_value_kinds.r dm_value_reads.Learnt
dm_value_determined = known.dm_value_determined

pub dm_reasons_determined : Determined 3 dm_reasons_kinds.ps dm_reasons_kinds.r dm_reasons_reads.Learnt
dm_reasons_determined = known.dm_reasons_determined

pub dm_truth_vector_determined : Determined 3 dm_truth_vector_kinds.ps dm_truth_vector_kinds.r dm_truth_vector_reads.Learnt
dm_truth_vector_determined = known.dm_truth_vector_determined

pub dm_coefficients_determined : Determined 3 dm_coefficients_kinds.ps dm_coefficients_kinds.r dm_coefficients_reads.Learnt
dm_coefficients_determined = known.dm_coefficients_determined

pub dm_vector_determined : Determined 3 dm_vector_kinds.ps dm_vector_kinds.r dm_vector_reads.Learnt
dm_vector_determined = known.dm_vector_determined

pub dm_write_form_determined : Determined 3 dm_write_form_kinds.ps dm_write_form_kinds.r dm_write_form_reads.Learnt
dm_write_form_determined = known.dm_write_form_determined

pub dm_best_polarity_determined : Determined 2 dm_best_polarity_kinds.ps dm_best_polarity_kinds.r dm_best_polarity_reads.Learnt
dm_best_polarity_determined = known.dm_best_polarity_determined

pub dm_write_tree_determined : Determined 3 dm_write_tree_kinds.ps dm_write_tree_kinds.r dm_write_tree_reads.Learnt
dm_write_tree_determined = known.dm_write_tree_determined

pub dm_write_kronecker_determined : Determined 3 dm_write_kronecker_kinds.ps dm_write_kronecker_kinds.r dm_write_kronecker_reads.Learnt
dm_write_kronecker_determined = known.dm_write_kronecker_determined

pub dm_run_determined : Determined 4 dm_run_kinds.ps dm_run_kinds.r dm_run_reads.Learnt
dm_run_determined = known.dm_run_determined

pub dm_index_determined : Determined 4 dm_index_kinds.ps dm_index_kinds.r dm_index_reads.Learnt
dm_index_determined = known.dm_index_determined

pub dm_group_determined : Determined 4 dm_group_kinds.ps dm_group_kinds.r dm_group_reads.Learnt
dm_group_determined = known.dm_group_determined

pub dm_run_indexed_determined : Determined 6 dm_run_indexed_kinds.ps dm_run_indexed_kinds.r dm_run_indexed_reads.Learnt
dm_run_indexed_determined = known.dm_run_indexed_determined

pub dm_write_script_determined : Determined 4 dm_write_script_kinds.ps dm_write_script_kinds.r dm_write_script_reads.Learnt
dm_write_script_determined = known.dm_write_script_determined

pub dm_compact_determined : Determined 3 dm_compact_kinds.ps dm_compact_kinds.r dm_compact_reads.Learnt
dm_compact_determined = known.dm_compact_determined

pub dm_settle_determined : Determined 5 dm_settle_kinds.ps dm_settle_kinds.r dm_settle_reads.Learnt
dm_settle_determined = known.dm_settle_determined

pub dm_wide_from_narrow_determined : Determined 3 dm_wide_from_narrow_kinds.ps dm_wide_from_narrow_kinds.r dm_wide_from_narrow_reads.Learnt
dm_wide_from_narrow_determined = known.dm_wide_from_narrow_determined

pub dm_narrow_from_wide_determined : Determined 3 dm_narrow_from_wide_kinds.ps dm_narrow_from_wide_kinds.r dm_narrow_from_wide_reads.Learnt
dm_narrow_from_wide_determined = known.dm_narrow_from_wide_determined

pub dm_shared_check_determined : Determined 2 dm_shared_check_kinds.ps dm_shared_check_kinds.r dm_shared_check_reads.Learnt
dm_shared_check_determined = known.dm_shared_check_determined

pub dm_shared_value_determined : Determined 2 dm_shared_value_kinds.ps dm_shared_value_kinds.r dm_shared_value_reads.Learnt
dm_shared_value_determined = known.dm_shared_value_determined

pub dm_shared_run_determined : Determined 4 dm_shared_run_kinds.ps dm_shared_run_kinds.r dm_shared_run_reads.Learnt
dm_shared_run_determined = known.dm_shared_run_determined

pub dm_shared_settle_determined : Determined 5 dm_shared_settle_kinds.ps dm_shared_settle_kinds.r dm_shared_settle_reads.Learnt
dm_shared_settle_determined = known.dm_shared_settle_determined

pub dm_slot_determined : Determined 3 dm_slot_kinds.ps dm_slot_kinds.r dm_slot_reads.Learnt
dm_slot_determined = known.dm_slot_determined

pub dm_settle_map_determined : Determined 8 dm_settle_map_kinds.ps dm_settle_map_kinds.r dm_settle_map_reads.Learnt
dm_settle_map_determined = known.dm_settle_map_determined

pub dm_map_reasons_determined : Determined 5 dm_map_reasons_kinds.ps dm_map_reasons_kinds.r dm_map_reasons_reads.Learnt
dm_map_reasons_determined = known.dm_map_reasons_determined

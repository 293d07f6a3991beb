-- Every outcome that the contract of a call allows, of all but those on a map (Selector.antt, MapFaces.antt), from Rattle or from C and Rust, is a `Called` or a `Faced`: the promises are of these.
-- Assumes nothing.
use mathlib.Core.Path.{◌≡◌, refl, ap, ap₂, ◌∙◌}
use mathlib.Core.List.{List, [], ◌∷◌}
use Prim.Native.Nat.{ℕ}
use lib.ListN.{replicate}
use Rattle.records.specs.Answers.{Outcome, accepted, refused, counted}
use Rattle.cube.specs.Calls.{valued}
use Rattle.reasons.specs.Calls.{reasoned}
use Rattle.polarity.specs.Calls.{found}
use Rattle.trees.specs.Calls.{listed}
use Rattle.kronecker.specs.Calls.{kronecker_listed}
use Rattle.script.specs.Calls.{run_of, finished}
use Rattle.index.specs.Index.{group_count}
use Rattle.index.specs.Calls.{build_starts}
use Rattle.indexed.specs.Calls.{check_indexed, indexed_starts, starts_after, accepts, begun}
use Rattle.writer.specs.Calls.{wrote}
use Rattle.settling.specs.Calls.{settled}
use Rattle.shared.specs.Calls.{worded}
use Rattle.shared_run.specs.Calls.{shared_settled}
use Rattle.druthmoy.specs.Faces.{starts_if}
use Rattle.cube.proofs.list.check.Kinds as check_kinds
use Rattle.cube.proofs.list.check.Reads as check_reads
use Rattle.cube.proofs.value.value.Kinds as value_kinds
use Rattle.cube.proofs.value.value.Reads as value_reads
use Rattle.reasons.proofs.reasons.Kinds as reasons_kinds
use Rattle.reasons.proofs.reasons.Reads as reasons_reads
use Rattle.cube.proofs.value.truth_vector.Kinds as truth_vector_kinds
use Rattle.cube.proofs.value.truth_vector.Reads as truth_vector_reads
use Rattle.converters.proofs.wide_from_narrow.wide_from_narrow.Kinds as wide_from_narrow_kinds
use Rattle.converters.proofs.wide_from_narrow.wide_from_narrow.Reads as wide_from_narrow_reads
use Rattle.converters.proofs.narrow_from_wide.narrow_from_wide.Kinds as narrow_from_wide_kinds
use Rattle.converters.proofs.narrow_from_wide.narrow_from_wide.Reads as narrow_from_wide_reads
use Rattle.polarity.proofs.transform.coefficients.Kinds as coefficients_kinds
use Rattle.polarity.proofs.transform.coefficients.Reads as coefficients_reads
use Rattle.polarity.proofs.transform.vector_back.Kinds as vector_back_kinds
use Rattle.polarity.proofs.transform.vector_back.Reads as vector_back_reads
use Rattle.polarity.proofs.form.write_form.Kinds as write_form_kinds
use Rattle.polarity.proofs.form.write_form.Reads as write_form_reads
use Rattle.polarity.proofs.choose.best_polarity.Kinds as best_polarity_kinds
use Rattle.polarity.proofs.choose.best_polarity.Reads as best_polarity_reads
use Rattle.trees.proofs.tree.write_tree.Kinds as write_tree_kinds
use Rattle.trees.proofs.tree.write_tree.Reads as write_tree_reads
use Rattle.kronecker.proofs.choice.write_kronecker.Kinds as write_kronecker_kinds
use Rattle.kronecker.proofs.choice.write_kronecker.Reads as write_kronecker_reads
use Rattle.script.proofs.run.run.Kinds as run_kinds
use Rattle.script.proofs.run.run.Reads as run_reads
use Rattle.index.proofs.build.build.Kinds as build_kinds
use Rattle.index.proofs.build.build.Reads as build_reads
use Rattle.index.proofs.group.group_count.Kinds as group_count_kinds
use Rattle.index.proofs.group.group_count.Reads as group_count_reads
use Rattle.indexed.proofs.run_indexed.Kinds as run_indexed_kinds
use Rattle.indexed.proofs.run_indexed.Reads as run_indexed_reads
use Rattle.writer.proofs.write.write_script.Kinds as write_script_kinds
use Rattle.writer.proofs.write.write_script.Reads as write_script_reads
use Rattle.compactor.proofs.compact.compact.Kinds as compact_kinds
use Rattle.compactor.proofs.compact.compact.Reads as compact_reads
use Rattle.settling.proofs.settle.settle.Kinds as settle_kinds
use Rattle.settling.proofs.settle.settle.Reads as settle_reads
use Rattle.shared.proofs.list.check.Kinds as shared_check_kinds
use Rattle.shared.proofs.list.check.Reads as shared_check_reads
use Rattle.shared.proofs.value.value.Kinds as shared_value_kinds
use Rattle.shared.proofs.value.value.Reads as shared_value_reads
use Rattle.shared_run.proofs.run.run.Kinds as shared_run_kinds
use Rattle.shared_run.proofs.run.run.Reads as shared_run_reads
use Rattle.shared_run.proofs.settle.settle.Kinds as shared_settle_kinds
use Rattle.shared_run.proofs.settle.settle.Reads as shared_settle_reads
use Rattle.druthmoy.proofs.dm_check.Kinds as dm_check_kinds
use Rattle.druthmoy.proofs.dm_check.Reads as dm_check_reads
use Rattle.druthmoy.proofs.dm_value.Kinds as dm_value_kinds
use Rattle.druthmoy.proofs.dm_value.Reads as dm_value_reads
use Rattle.druthmoy.proofs.dm_reasons.Kinds as dm_reasons_kinds
use Rattle.druthmoy.proofs.dm_reasons.Reads as dm_reasons_reads
use Rattle.druthmoy.proofs.dm_truth_vector.Kinds as dm_truth_vector_kinds
use Rattle.druthmoy.proofs.dm_truth_vector.Reads as dm_truth_vector_reads
use Rattle.druthmoy.proofs.dm_coefficients.Kinds as dm_coefficients_kinds
use Rattle.druthmoy.proofs.dm_coefficients.Reads as dm_coefficients_reads
use Rattle.druthmoy.proofs.dm_vector.Kinds as dm_vector_kinds
use Rattle.druthmoy.proofs.dm_vector.Reads as dm_vector_reads
use Rattle.druthmoy.proofs.dm_write_form.Kinds as dm_write_form_kinds
use Rattle.druthmoy.proofs.dm_write_form.Reads as dm_write_form_reads
use Rattle.druthmoy.proofs.dm_best_polarity.Kinds as dm_best_polarity_kinds
use Rattle.druthmoy.proofs.dm_best_polarity.Reads as dm_best_polarity_reads
use Rattle.druthmoy.proofs.dm_write_tree.Kinds as dm_write_tree_kinds
use Rattle.druthmoy.proofs.dm_write_tree.Reads as dm_write_tree_reads
use Rattle.druthmoy.proofs.dm_write_kronecker.Kinds as dm_write_kronecker_kinds
use Rattle.druthmoy.proofs.dm_write_kronecker.Reads as dm_write_kronecker_reads
use Rattle.druthmoy.proofs.dm_run.Kinds as dm_run_kinds
use Rattle.druthmoy.proofs.dm_run.Reads as dm_run_reads
use Rattle.druthmoy.proofs.dm_index.Kinds as dm_index_kinds
use Rattle.druthmoy.proofs.dm_index.Reads as dm_index_reads
use Rattle.druthmoy.proofs.dm_group.Kinds as dm_group_kinds
use Rattle.druthmoy.proofs.dm_group.Reads as dm_group_reads
use Rattle.druthmoy.proofs.dm_run_indexed.Kinds as dm_run_indexed_kinds
use Rattle.druthmoy.proofs.dm_run_indexed.Reads as dm_run_indexed_reads
use Rattle.druthmoy.proofs.dm_write_script.Kinds as dm_write_script_kinds
use Rattle.druthmoy.proofs.dm_write_script.Reads as dm_write_script_reads
use Rattle.druthmoy.proofs.dm_compact.Kinds as dm_compact_kinds
use Rattle.druthmoy.proofs.dm_compact.Reads as dm_compact_reads
use Rattle.druthmoy.proofs.dm_settle.Kinds as dm_settle_kinds
use Rattle.druthmoy.proofs.dm_settle.Reads as dm_settle_reads
use Rattle.druthmoy.proofs.dm_wide_from_narrow.Kinds as dm_wide_from_narrow_kinds
use Rattle.druthmoy.proofs.dm_wide_from_narrow.Reads as dm_wide_from_narrow_reads
use Rattle.druthmoy.proofs.dm_narrow_from_wide.Kinds as dm_narrow_from_wide_kinds
use Rattle.druthmoy.proofs.dm_narrow_from_wide.Reads as dm_narrow_from_wide_reads
use Rattle.druthmoy.proofs.dm_shared_check.Kinds as dm_shared_check_kinds
use Rattle.druthmoy.proofs.dm_shared_check.Reads as dm_shared_check_reads
use Rattle.druthmoy.proofs.dm_shared_value.Kinds as dm_shared_value_kinds
use Rattle.druthmoy.proofs.dm_shared_value.Reads as dm_shared_value_reads
use Rattle.druthmoy.proofs.dm_shared_run.Kinds as dm_shared_run_kinds
use Rattle.druthmoy.proofs.dm_shared_run.Reads as dm_shared_run_reads
use Rattle.druthmoy.proofs.dm_shared_settle.Kinds as dm_shared_settle_kinds
use Rattle.druthmoy.proofs.dm_shared_settle.Reads as dm_shared_settle_reads
use Rattle.promises.specs.Calls.{Call, check, value, reasons, truth_vector, coefficients, vector_back, write_form, best_polarity, write_tree, write_kronecker, run, build_index, group, run_indexed, write_script, compact, settle, wide_from_narrow, narrow_from_wide, shared_check, shared_value, shared_run, shared_settle, answers, leaves, words_of, Faced}
use Rattle.promises.specs.ContractOutcomes.{IsCalled, IsCalledBy, IsFaced}

-- ---- from Rattle

-- to a caller who is answered the starts of a run with an index they were all 0
no_starts : (n : ℕ) (list script : List ℕ) (room index_room : ℕ)
    → indexed_starts n list script room index_room ≡ starts_if (begun n list script room index_room) (indexed_starts n list script room index_room) (replicate group_count 0)
unfolding indexed_starts begun
no_starts n list script room index_room = go (check_indexed n list script room index_room)
  where
    go : (o : Outcome) → starts_after o (run_of n list script room) ≡ starts_if (accepts o) (starts_after o (run_of n list script room)) (replicate group_count 0)
    go (accepted v) = refl
    go (refused r) = refl

pub check_called : IsCalled 1 check_kinds.ps check_kinds.r check_reads.Learnt
    (λ κs a. check a.0 a.1.0.now)
    (λ κs a ws. []) (λ κs z. counted z)
unfolding answers leaves
check_called κs a z ws p = record { answer = p; left = refl }

pub value_called : IsCalled 1 value_kinds.ps value_kinds.r value_reads.Learnt
    (λ κs a. value a.0 a.1.0.now a.1.1.0)
    (λ κs a ws. []) (λ κs z. valued z)
unfolding answers leaves
value_called κs a z ws p = record { answer = p; left = refl }

pub reasons_called : IsCalled 2 reasons_kinds.ps reasons_kinds.r reasons_reads.Learnt
    (λ κs a. reasons a.0 a.1.0.now a.1.1.0 a.1.1.1.0.now)
    (λ κs a ws. ws.1.1.1.0 ∷ []) (λ κs z. reasoned z)
unfolding answers leaves
reasons_called κs a z ws p = record { answer = p.0; left = ap (λ (b : List ℕ). b ∷ []) p.1 }

pub truth_vector_called : IsCalled 2 truth_vector_kinds.ps truth_vector_kinds.r truth_vector_reads.Learnt
    (λ κs a. truth_vector a.0 a.1.0.now a.1.1.0.now)
    (λ κs a ws. ws.1.1.0 ∷ []) (λ κs z. counted z)
unfolding answers leaves
truth_vector_called κs a z ws p = record { answer = p.0; left = ap (λ (b : List ℕ). b ∷ []) p.1 }

pub coefficients_called : IsCalled 2 coefficients_kinds.ps coefficients_kinds.r coefficients_reads.Learnt
    (λ κs a. coefficients a.0 a.1.0.now a.1.1.0 a.1.1.1.0.now)
    (λ κs a ws. ws.1.1.1.0 ∷ []) (λ κs z. counted z)
unfolding answers leaves
coefficients_called κs a z ws p = record { answer = p.0; left = ap (λ (b : List ℕ). b ∷ []) p.1 }

pub vector_back_called : IsCalled 2 vector_back_kinds.ps vector_back_kinds.r vector_back_reads.Learnt
    (λ κs a. vector_back a.0 a.1.0.now a.1.1.0 a.1.1.1.0.now)
    (λ κs a ws. ws.1.1.1.0 ∷ []) (λ κs z. counted z)
unfolding answers leaves
vector_back_called κs a z ws p = record { answer = p.0; left = ap (λ (b : List ℕ). b ∷ []) p.1 }

pub write_form_called : IsCalled 2 write_form_kinds.ps write_form_kinds.r write_form_reads.Learnt
    (λ κs a. write_form a.0 a.1.0.now a.1.1.0 a.1.1.1.0.now)
    (λ κs a ws. ws.1.1.1.0 ∷ []) (λ κs z. counted z)
unfolding answers leaves
write_form_called κs a z ws p = record { answer = p.0; left = ap (λ (b : List ℕ). b ∷ []) p.1 }

pub best_polarity_called : IsCalled 1 best_polarity_kinds.ps best_polarity_kinds.r best_polarity_reads.Learnt
    (λ κs a. best_polarity a.0 a.1.0.now)
    (λ κs a ws. []) (λ κs z. found z)
unfolding answers leaves
best_polarity_called κs a z ws p = record { answer = p; left = refl }

pub write_tree_called : IsCalled 2 write_tree_kinds.ps write_tree_kinds.r write_tree_reads.Learnt
    (λ κs a. write_tree a.0 a.1.0.now a.1.1.0.now)
    (λ κs a ws. ws.1.1.0 ∷ []) (λ κs z. listed z)
unfolding answers leaves
write_tree_called κs a z ws p = record { answer = p.0; left = ap (λ (b : List ℕ). b ∷ []) p.1 }

pub write_kronecker_called : IsCalled 2 write_kronecker_kinds.ps write_kronecker_kinds.r write_kronecker_reads.Learnt
    (λ κs a. write_kronecker a.0 a.1.0.now a.1.1.0.now)
    (λ κs a ws. ws.1.1.0 ∷ []) (λ κs z. kronecker_listed z)
unfolding answers leaves
write_kronecker_called κs a z ws p = record { answer = p.0; left = ap (λ (b : List ℕ). b ∷ []) p.1 }

pub run_called : IsCalled 3 run_kinds.ps run_kinds.r run_reads.Learnt
    (λ κs a. run a.0 a.1.0.now a.1.1.0.now a.1.1.1.0.now)
    (λ κs a ws. ws.1.1.1.0 ∷ []) (λ κs z. finished z)
unfolding answers leaves
run_called κs a z ws p = record { answer = p.0; left = ap (λ (b : List ℕ). b ∷ []) p.1 }

pub build_called : IsCalledBy 2 build_kinds.ps build_kinds.r build_reads.Learnt
    (λ κs a. build_index a.0 a.1.0.now a.1.1.0.now (replicate group_count 0))
    (λ κs a z ws. ws.1.1.0 ∷ z.starts ∷ []) (λ κs z. counted z.answer)
unfolding answers leaves build_starts
build_called κs a z ws p = record { answer = p.0; left = ap₂ (λ (b d : List ℕ). b ∷ d ∷ []) p.1.1 p.1.0 }

pub group_called : IsCalled 2 group_count_kinds.ps group_count_kinds.r group_count_reads.Learnt
    (λ κs a. group a.0 a.1.0.now a.1.1.0.now a.1.1.1.0 a.1.1.1.1.0)
    (λ κs a ws. []) (λ κs z. counted z)
unfolding answers leaves
group_called κs a z ws p = record { answer = p; left = refl }

pub run_indexed_called : IsCalledBy 4 run_indexed_kinds.ps run_indexed_kinds.r run_indexed_reads.Learnt
    (λ κs a. run_indexed a.0 a.1.0.now a.1.1.0.now a.1.1.1.0.now a.1.1.1.1.0.now (replicate group_count 0))
    (λ κs a z ws. ws.1.1.1.0 ∷ ws.1.1.1.1.0 ∷ z.starts ∷ []) (λ κs z. finished z.answer)
unfolding answers leaves
run_indexed_called κs a z ws p = record {
  answer = p.1.0;
  left = ap₂ (λ (bs : List ℕ × List ℕ) (d : List ℕ). bs.0 ∷ bs.1 ∷ d ∷ []) (ap₂ (λ (b d : List ℕ). (b, d)) p.1.1.1.0 p.1.1.1.1)
      (p.1.1.0 ∙ no_starts _ _ _ _ _);
}

pub write_script_called : IsCalled 3 write_script_kinds.ps write_script_kinds.r write_script_reads.Learnt
    (λ κs a. write_script a.0 a.1.0.now a.1.1.0.now a.1.1.1.0.now)
    (λ κs a ws. ws.1.1.0 ∷ ws.1.1.1.0 ∷ []) (λ κs z. wrote z)
unfolding answers leaves
write_script_called κs a z ws p = record { answer = p.0; left = ap₂ (λ (b d : List ℕ). b ∷ d ∷ []) p.1.0 p.1.1 }

pub compact_called : IsCalled 2 compact_kinds.ps compact_kinds.r compact_reads.Learnt (λ κs a. compact a.0 a.1.0 a.1.1.0.now a.1.1.1.0.now)
    (λ κs a ws. ws.1.1.1.0 ∷ []) (λ κs z. counted z)
unfolding answers leaves
compact_called κs a z ws p = record { answer = p.0; left = ap (λ (b : List ℕ). b ∷ []) p.1 }

pub settle_called : IsCalled 4 settle_kinds.ps settle_kinds.r settle_reads.Learnt
    (λ κs a. settle a.0 a.1.0.now a.1.1.0.now a.1.1.1.0.now a.1.1.1.1.0.now)
    (λ κs a ws. ws.1.1.1.0 ∷ ws.1.1.1.1.0 ∷ []) (λ κs z. settled z)
unfolding answers leaves
settle_called κs a z ws p = record { answer = p.0; left = ap₂ (λ (b d : List ℕ). b ∷ d ∷ []) p.1.0 p.1.1 }

pub wide_from_narrow_called : IsCalled 2 wide_from_narrow_kinds.ps wide_from_narrow_kinds.r wide_from_narrow_reads.Learnt
    (λ κs a. wide_from_narrow a.0 a.1.0.now a.1.1.0.now)
    (λ κs a ws. ws.1.1.0 ∷ []) (λ κs z. counted z)
unfolding answers leaves
wide_from_narrow_called κs a z ws p = record { answer = p.0; left = ap (λ (b : List ℕ). b ∷ []) p.1 }

pub narrow_from_wide_called : IsCalled 2 narrow_from_wide_kinds.ps narrow_from_wide_kinds.r narrow_from_wide_reads.Learnt
    (λ κs a. narrow_from_wide a.0 a.1.0.now a.1.1.0.now)
    (λ κs a ws. ws.1.1.0 ∷ []) (λ κs z. counted z)
unfolding answers leaves
narrow_from_wide_called κs a z ws p = record { answer = p.0; left = ap (λ (b : List ℕ). b ∷ []) p.1 }

pub shared_check_called : IsCalled 1 shared_check_kinds.ps shared_check_kinds.r shared_check_reads.Learnt
    (λ κs a. shared_check a.0 a.1.0.now)
    (λ κs a ws. []) (λ κs z. counted z)
unfolding answers leaves
shared_check_called κs a z ws p = record { answer = p; left = refl }

pub shared_value_called : IsCalled 1 shared_value_kinds.ps shared_value_kinds.r shared_value_reads.Learnt
    (λ κs a. shared_value a.0 a.1.0.now a.1.1.0)
    (λ κs a ws. []) (λ κs z. worded z)
unfolding answers leaves
shared_value_called κs a z ws p = record { answer = p; left = refl }

pub shared_run_called : IsCalled 3 shared_run_kinds.ps shared_run_kinds.r shared_run_reads.Learnt
    (λ κs a. shared_run a.0 a.1.0.now a.1.1.0.now a.1.1.1.0.now)
    (λ κs a ws. ws.1.1.1.0 ∷ []) (λ κs z. finished z)
unfolding answers leaves
shared_run_called κs a z ws p = record { answer = p.0; left = ap (λ (b : List ℕ). b ∷ []) p.1 }

pub shared_settle_called : IsCalled 4 shared_settle_kinds.ps shared_settle_kinds.r shared_settle_reads.Learnt
    (λ κs a. shared_settle a.0 a.1.0.now a.1.1.0.now a.1.1.1.0.now a.1.1.1.1.0.now)
    (λ κs a ws. ws.1.1.1.0 ∷ ws.1.1.1.1.0 ∷ []) (λ κs z. shared_settled z)
unfolding answers leaves
shared_settle_called κs a z ws p = record { answer = p.0; left = ap₂ (λ (b d : List ℕ). b ∷ d ∷ []) p.1.0 p.1.1 }

-- ---- from C and Rust

-- what a face leaves is of the call's own outcome
faced : (c : Call) (answer : List ℕ) (buffers : List (List ℕ)) → answer ≡ words_of c (answers c) → buffers ≡ leaves c → Faced c answer buffers
faced c answer buffers e f = record { outcome = answers c; called = record { answer = refl; left = f }; told = e }

pub dm_check_faced : IsFaced 2 dm_check_kinds.ps dm_check_kinds.r dm_check_reads.Learnt
    (λ κs a. check a.0 a.1.0.now)
    (λ κs a ws. []) (λ κs a ws. ws.1.1.0)
unfolding answers leaves words_of
dm_check_faced κs a z ws p = faced _ _ _ p refl

pub dm_value_faced : IsFaced 2 dm_value_kinds.ps dm_value_kinds.r dm_value_reads.Learnt
    (λ κs a. value a.0 a.1.0.now a.1.1.0)
    (λ κs a ws. []) (λ κs a ws. ws.1.1.1.0)
unfolding answers leaves words_of
dm_value_faced κs a z ws p = faced _ _ _ p refl

pub dm_reasons_faced : IsFaced 3 dm_reasons_kinds.ps dm_reasons_kinds.r dm_reasons_reads.Learnt
    (λ κs a. reasons a.0 a.1.0.now a.1.1.0 a.1.1.1.0.now)
    (λ κs a ws. ws.1.1.1.0 ∷ []) (λ κs a ws. ws.1.1.1.1.0)
unfolding answers leaves words_of
dm_reasons_faced κs a z ws p = faced _ _ _ p.0 (ap (λ (b : List ℕ). b ∷ []) p.1)

pub dm_truth_vector_faced : IsFaced 3 dm_truth_vector_kinds.ps dm_truth_vector_kinds.r dm_truth_vector_reads.Learnt
    (λ κs a. truth_vector a.0 a.1.0.now a.1.1.0.now)
    (λ κs a ws. ws.1.1.0 ∷ []) (λ κs a ws. ws.1.1.1.0)
unfolding answers leaves words_of
dm_truth_vector_faced κs a z ws p = faced _ _ _ p.0 (ap (λ (b : List ℕ). b ∷ []) p.1)

pub dm_coefficients_faced : IsFaced 3 dm_coefficients_kinds.ps dm_coefficients_kinds.r dm_coefficients_reads.Learnt
    (λ κs a. coefficients a.0 a.1.0.now a.1.1.0 a.1.1.1.0.now)
    (λ κs a ws. ws.1.1.1.0 ∷ []) (λ κs a ws. ws.1.1.1.1.0)
unfolding answers leaves words_of
dm_coefficients_faced κs a z ws p = faced _ _ _ p.0 (ap (λ (b : List ℕ). b ∷ []) p.1)

pub dm_vector_faced : IsFaced 3 dm_vector_kinds.ps dm_vector_kinds.r dm_vector_reads.Learnt
    (λ κs a. vector_back a.0 a.1.0.now a.1.1.0 a.1.1.1.0.now)
    (λ κs a ws. ws.1.1.1.0 ∷ []) (λ κs a ws. ws.1.1.1.1.0)
unfolding answers leaves words_of
dm_vector_faced κs a z ws p = faced _ _ _ p.0 (ap (λ (b : List ℕ). b ∷ []) p.1)

pub dm_write_form_faced : IsFaced 3 dm_write_form_kinds.ps dm_write_form_kinds.r dm_write_form_reads.Learnt
    (λ κs a. write_form a.0 a.1.0.now a.1.1.0 a.1.1.1.0.now)
    (λ κs a ws. ws.1.1.1.0 ∷ []) (λ κs a ws. ws.1.1.1.1.0)
unfolding answers leaves words_of
dm_write_form_faced κs a z ws p = faced _ _ _ p.0 (ap (λ (b : List ℕ). b ∷ []) p.1)

pub dm_best_polarity_faced : IsFaced 2 dm_best_polarity_kinds.ps dm_best_polarity_kinds.r dm_best_polarity_reads.Learnt
    (λ κs a. best_polarity a.0 a.1.0.now)
    (λ κs a ws. []) (λ κs a ws. ws.1.1.0)
unfolding answers leaves words_of
dm_best_polarity_faced κs a z ws p = faced _ _ _ p refl

pub dm_write_tree_faced : IsFaced 3 dm_write_tree_kinds.ps dm_write_tree_kinds.r dm_write_tree_reads.Learnt
    (λ κs a. write_tree a.0 a.1.0.now a.1.1.0.now)
    (λ κs a ws. ws.1.1.0 ∷ []) (λ κs a ws. ws.1.1.1.0)
unfolding answers leaves words_of
dm_write_tree_faced κs a z ws p = faced _ _ _ p.0 (ap (λ (b : List ℕ). b ∷ []) p.1)

pub dm_write_kronecker_faced : IsFaced 3 dm_write_kronecker_kinds.ps dm_write_kronecker_kinds.r dm_write_kronecker_reads.Learnt
    (λ κs a. write_kronecker a.0 a.1.0.now a.1.1.0.now)
    (λ κs a ws. ws.1.1.0 ∷ []) (λ κs a ws. ws.1.1.1.0)
unfolding answers leaves words_of
dm_write_kronecker_faced κs a z ws p = faced _ _ _ p.0 (ap (λ (b : List ℕ). b ∷ []) p.1)

pub dm_run_faced : IsFaced 4 dm_run_kinds.ps dm_run_kinds.r dm_run_reads.Learnt
    (λ κs a. run a.0 a.1.0.now a.1.1.0.now a.1.1.1.0.now)
    (λ κs a ws. ws.1.1.1.0 ∷ []) (λ κs a ws. ws.1.1.1.1.0)
unfolding answers leaves words_of
dm_run_faced κs a z ws p = faced _ _ _ p.0 (ap (λ (b : List ℕ). b ∷ []) p.1)

pub dm_index_faced : IsFaced 4 dm_index_kinds.ps dm_index_kinds.r dm_index_reads.Learnt
    (λ κs a. build_index a.0 a.1.0.now a.1.1.0.now a.1.1.1.0.now)
    (λ κs a ws. ws.1.1.0 ∷ ws.1.1.1.0 ∷ []) (λ κs a ws. ws.1.1.1.1.0)
unfolding answers leaves words_of
dm_index_faced κs a z ws p = faced _ _ _ p.0 (ap₂ (λ (b d : List ℕ). b ∷ d ∷ []) p.1.0 p.1.1)

pub dm_group_faced : IsFaced 4 dm_group_kinds.ps dm_group_kinds.r dm_group_reads.Learnt
    (λ κs a. group a.0 a.1.0.now a.1.1.0.now a.1.1.1.0.now a.1.1.1.1.0)
    (λ κs a ws. []) (λ κs a ws. ws.1.1.1.1.1.0)
unfolding answers leaves words_of
dm_group_faced κs a z ws p = faced _ _ _ p refl

pub dm_run_indexed_faced : IsFaced 6 dm_run_indexed_kinds.ps dm_run_indexed_kinds.r dm_run_indexed_reads.Learnt
    (λ κs a. run_indexed a.0 a.1.0.now a.1.1.0.now a.1.1.1.0.now a.1.1.1.1.0.now a.1.1.1.1.1.0.now)
    (λ κs a ws. ws.1.1.1.0 ∷ ws.1.1.1.1.0 ∷ ws.1.1.1.1.1.0 ∷ []) (λ κs a ws. ws.1.1.1.1.1.1.0)
unfolding answers leaves words_of
dm_run_indexed_faced κs a z ws p =
    faced _ _ _ p.0 (ap₂ (λ (bs : List ℕ × List ℕ) (d : List ℕ). bs.0 ∷ bs.1 ∷ d ∷ []) (ap₂ (λ (b d : List ℕ). (b, d)) p.1.0 p.1.1.0) p.1.1.1)

pub dm_write_script_faced : IsFaced 4 dm_write_script_kinds.ps dm_write_script_kinds.r dm_write_script_reads.Learnt
    (λ κs a. write_script a.0 a.1.0.now a.1.1.0.now a.1.1.1.0.now)
    (λ κs a ws. ws.1.1.0 ∷ ws.1.1.1.0 ∷ []) (λ κs a ws. ws.1.1.1.1.0)
unfolding answers leaves words_of
dm_write_script_faced κs a z ws p = faced _ _ _ p.0 (ap₂ (λ (b d : List ℕ). b ∷ d ∷ []) p.1.0 p.1.1)

pub dm_compact_faced : IsFaced 3 dm_compact_kinds.ps dm_compact_kinds.r dm_compact_reads.Learnt (λ κs a. compact a.0 a.1.0 a.1.1.0.now a.1.1.1.0.now)
    (λ κs a ws. ws.1.1.1.0 ∷ []) (λ κs a ws. ws.1.1.1.1.0)
unfolding answers leaves words_of
dm_compact_faced κs a z ws p = faced _ _ _ p.0 (ap (λ (b : List ℕ). b ∷ []) p.1)

pub dm_settle_faced : IsFaced 5 dm_settle_kinds.ps dm_settle_kinds.r dm_settle_reads.Learnt
    (λ κs a. settle a.0 a.1.0.now a.1.1.0.now a.1.1.1.0.now a.1.1.1.1.0.now)
    (λ κs a ws. ws.1.1.1.0 ∷ ws.1.1.1.1.0 ∷ []) (λ κs a ws. ws.1.1.1.1.1.0)
unfolding answers leaves words_of
dm_settle_faced κs a z ws p = faced _ _ _ p.0 (ap₂ (λ (b d : List ℕ). b ∷ d ∷ []) p.1.0 p.1.1)

pub dm_wide_from_narrow_faced : IsFaced 3 dm_wide_from_narrow_kinds.ps dm_wide_from_narrow_kinds.r dm_wide_from_narrow_reads.Learnt
    (λ κs a. wide_from_narrow a.0 a.1.0.now a.1.1.0.now)
    (λ κs a ws. ws.1.1.0 ∷ []) (λ κs a ws. ws.1.1.1.0)
unfolding answers leaves words_of
dm_wide_from_narrow_faced κs a z ws p = faced _ _ _ p.0 (ap (λ (b : List ℕ). b ∷ []) p.1)

pub dm_narrow_from_wide_faced : IsFaced 3 dm_narrow_from_wide_kinds.ps dm_narrow_from_wide_kinds.r dm_narrow_from_wide_reads.Learnt
    (λ κs a. narrow_from_wide a.0 a.1.0.now a.1.1.0.now)
    (λ κs a ws. ws.1.1.0 ∷ []) (λ κs a ws. ws.1.1.1.0)
unfolding answers leaves words_of
dm_narrow_from_wide_faced κs a z ws p = faced _ _ _ p.0 (ap (λ (b : List ℕ). b ∷ []) p.1)

pub dm_shared_check_faced : IsFaced 2 dm_shared_check_kinds.ps dm_shared_check_kinds.r dm_shared_check_reads.Learnt
    (λ κs a. shared_check a.0 a.1.0.now)
    (λ κs a ws. []) (λ κs a ws. ws.1.1.0)
unfolding answers leaves words_of
dm_shared_check_faced κs a z ws p = faced _ _ _ p refl

pub dm_shared_value_faced : IsFaced 2 dm_shared_value_kinds.ps dm_shared_value_kinds.r dm_shared_value_reads.Learnt
    (λ κs a. shared_value a.0 a.1.0.now a.1.1.0)
    (λ κs a ws. []) (λ κs a ws. ws.1.1.1.0)
unfolding answers leaves words_of
dm_shared_value_faced κs a z ws p = faced _ _ _ p refl

pub dm_shared_run_faced : IsFaced 4 dm_shared_run_kinds.ps dm_shared_run_kinds.r dm_shared_run_reads.Learnt
    (λ κs a. shared_run a.0 a.1.0.now a.1.1.0.now a.1.1.1.0.now)
    (λ κs a ws. ws.1.1.1.0 ∷ []) (λ κs a ws. ws.1.1.1.1.0)
unfolding answers leaves words_of
dm_shared_run_faced κs a z ws p = faced _ _ _ p.0 (ap (λ (b : List ℕ). b ∷ []) p.1)

pub dm_shared_settle_faced : IsFaced 5 dm_shared_settle_kinds.ps dm_shared_settle_kinds.r dm_shared_settle_reads.Learnt
    (λ κs a. shared_settle a.0 a.1.0.now a.1.1.0.now a.1.1.1.0.now a.1.1.1.1.0.now)
    (λ κs a ws. ws.1.1.1.0 ∷ ws.1.1.1.1.0 ∷ []) (λ κs a ws. ws.1.1.1.1.1.0)
unfolding answers leaves words_of
dm_shared_settle_faced κs a z ws p = faced _ _ _ p.0 (ap₂ (λ (b d : List ℕ). b ∷ d ∷ []) p.1.0 p.1.1)

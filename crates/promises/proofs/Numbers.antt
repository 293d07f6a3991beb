-- The numbers of the faults that each call tests before the first step.
-- Assumes nothing.
use mathlib.Core.Path.{refl}
use mathlib.Core.List.{List}
use Prim.Native.Nat.{ℕ}
use Rattle.records.specs.Records.{Codec}
use Rattle.cube.specs.declared.Cube.{Cube}
use Rattle.promises.specs.Calls.{Call, check, value, reasons, truth_vector, coefficients, vector_back, write_form, best_polarity, write_tree, write_kronecker, run, build_index, group, run_indexed, write_script, compact, settle, wide_from_narrow, narrow_from_wide, shared_check, shared_value, shared_run, shared_settle}
use Rattle.promises.specs.Refusals.{record_faults, list_faults, at_faults, script_faults, vector_faults, index_faults, shared_faults, shared_script_faults, faults}
use Rattle.promises.proofs.Chains.{Numbered, numbered_both}

records_numbered : (C : Codec Cube) (n : ℕ) (list : List ℕ) → Numbered (record_faults C n list)
unfolding record_faults
records_numbered C n list = (refl, (refl, (refl, tt)))

list_numbered : (C : Codec Cube) (limit n : ℕ) (list : List ℕ) → Numbered (list_faults C limit n list)
unfolding list_faults
list_numbered C limit n list = (refl, records_numbered C n list)

at_numbered : (n : ℕ) (list : List ℕ) (a : ℕ) → Numbered (at_faults n list a)
unfolding at_faults
at_numbered n list a = numbered_both (list_faults _ _ n list) _ (list_numbered _ _ n list) (refl, tt)

script_numbered : (n : ℕ) (script : List ℕ) → Numbered (script_faults n script)
unfolding script_faults
script_numbered n script = (refl, (refl, (refl, tt)))

vector_numbered : (n : ℕ) (vector : List ℕ) → Numbered (vector_faults n vector)
unfolding vector_faults
vector_numbered n vector = (refl, (refl, (refl, tt)))

index_numbered : (n : ℕ) (list index : List ℕ) → Numbered (index_faults n list index)
unfolding index_faults
index_numbered n list index = numbered_both (list_faults _ _ n list) _ (list_numbered _ _ n list) (refl, tt)

shared_numbered : (n : ℕ) (list : List ℕ) → Numbered (shared_faults n list)
unfolding shared_faults
shared_numbered n list = (refl, (refl, (refl, (refl, tt))))

shared_script_numbered : (n : ℕ) (script : List ℕ) → Numbered (shared_script_faults n script)
unfolding shared_script_faults
shared_script_numbered n script = (refl, (refl, (refl, tt)))

pub numbered : (c : Call) → Numbered (faults c)
unfolding faults
numbered (check n list) = list_numbered _ _ n list
numbered (value n list a) = at_numbered n list a
numbered (reasons n list a out) = numbered_both (at_faults n list a) _ (at_numbered n list a) (refl, tt)
numbered (truth_vector n list out) = numbered_both (list_faults _ _ n list) _ (list_numbered _ _ n list) (refl, tt)
numbered (coefficients n vector p out) = numbered_both (vector_faults n vector) _ (vector_numbered n vector) (refl, (refl, tt))
numbered (vector_back n vector p out) = numbered_both (vector_faults n vector) _ (vector_numbered n vector) (refl, (refl, tt))
numbered (write_form n vector p out) = numbered_both (vector_faults n vector) _ (vector_numbered n vector) (refl, (refl, tt))
numbered (best_polarity n vector) = vector_numbered n vector
numbered (write_tree n vector out) = numbered_both (vector_faults n vector) _ (vector_numbered n vector) (refl, tt)
numbered (write_kronecker n vector out) = (refl, numbered_both (vector_faults n vector) _ (vector_numbered n vector) (refl, tt))
numbered (run n list script work) = numbered_both (list_faults _ _ n list) _ (list_numbered _ _ n list) (refl, script_numbered n script)
numbered (build_index n list index starts) = index_numbered n list index
numbered (group n list index starts number) = numbered_both (index_faults n list index) _ (index_numbered n list index) (refl, (refl, (refl, tt)))
numbered (run_indexed n list script work index starts) =
    numbered_both (list_faults _ _ n list) _ (list_numbered _ _ n list) (refl, (refl, script_numbered n script))
numbered (write_script n list work script) = numbered_both (list_faults _ _ n list) _ (list_numbered _ _ n list) (refl, (refl, tt))
numbered (compact n count script out) = (refl, (refl, numbered_both (script_faults n script) _ (script_numbered n script) (refl, tt)))
numbered (settle n list script work out) =
    numbered_both (list_faults _ _ n list) _ (list_numbered _ _ n list) (refl, (refl, script_numbered n script))
numbered (wide_from_narrow n list out) = numbered_both (list_faults _ _ n list) _ (list_numbered _ _ n list) (refl, tt)
numbered (narrow_from_wide n list out) =
    (refl, (refl, numbered_both (record_faults _ n list) _ (records_numbered _ n list) (refl, tt)))
numbered (shared_check n list) = shared_numbered n list
numbered (shared_value n list a) = numbered_both (shared_faults n list) _ (shared_numbered n list) (refl, tt)
numbered (shared_run n list script work) = numbered_both (shared_faults n list) _ (shared_numbered n list) (refl, shared_script_numbered n script)
numbered (shared_settle n list script work out) =
    numbered_both (shared_faults n list) _ (shared_numbered n list) (refl, (refl, shared_script_numbered n script))

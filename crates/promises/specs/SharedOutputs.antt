-- What is promised of lists of shared products, in the words of document 02, Nine.
-- Assumes nothing.
use Rattle.std.specs.Prelude.{◌≡◌, false, List, ◌∷◌, ◌++◌, ℕ, ◌*◌, ◌≤◌, ◌<◌, length, get_or, take}
use Rattle.records.specs.Records.{list_of}
use Rattle.steps.specs.Effects.{IsRewrite}
use Rattle.script.specs.Run.{ended}
use Rattle.script.specs.Scripts.{step_records}
use Rattle.shared.specs.declared.Shared.{Shared}
use Rattle.shared.specs.SharedRecord.{shared_width, shares_of, shared_capacity}
use Rattle.shared.specs.Outputs.{carries}
use Rattle.shared_steps.specs.SharedSteps.{SharedStep, plain, merge, merge_operation}
use Rattle.shared_run.specs.SharedScripts.{shared_steps_of}
use Rattle.shared_run.specs.SharedRun.{shared_run}
use Rattle.promises.specs.Calls.{Call}
use Rattle.promises.specs.Calls as call

-- "products without bit k never sway output k": two lists that differ in one such product, wherever it stands, which is changed to another such one, added or removed
pub data DifferWithout (k : ℕ) : List Shared → List Shared → Type 0 where
  changed : (p s : List Shared) (x y : Shared) → carries k x ≡ false → carries k y ≡ false → DifferWithout k (p ++ (x ∷ s)) (p ++ (y ∷ s))
  added : (p s : List Shared) (x : Shared) → carries k x ≡ false → DifferWithout k (p ++ s) (p ++ (x ∷ s))
  removed : (p s : List Shared) (x : Shared) → carries k x ≡ false → DifferWithout k (p ++ (x ∷ s)) (p ++ s)

-- the list that a call left at the front of a buffer: 12 bytes for each product that is answered
abbrev pub shared_front : ℕ → List ℕ → List ℕ
shared_front count buffer = take (shared_width * count) buffer

-- "the script's result", after the undoing, with its count and the peak
pub record SharedEndsIn (n : ℕ) (list script work : List ℕ) (count peak : ℕ) : Type 0 where
  pub result : List Shared
  pub is : shared_run n (shared_capacity (length work)) (shared_steps_of script) (shares_of list) ≡ ended result peak
  pub many : count ≡ length result

-- "settling compares only the script's result and the given list, by products"; ties go to the script's result
pub record BurnedByProducts (result given burned : List Shared) : Type 0 where
  pub result_where_no_more : length result ≤ length given → burned ≡ result
  pub given_else : length given < length result → burned ≡ given

-- the steps that rewrite a list: all but L
abbrev pub IsSharedRewrite : SharedStep → Type 0
IsSharedRewrite (plain x) = IsRewrite x
IsSharedRewrite (merge i j) = Unit {0}

-- a call that takes a plain script
pub data WithPlainScript (n : ℕ) (script : List ℕ) : Call → Type 0 where
  of_run : (list work : List ℕ) → WithPlainScript n script (call.run n list script work)
  of_run_indexed : (list work index starts : List ℕ) → WithPlainScript n script (call.run_indexed n list script work index starts)
  of_settle : (list work out : List ℕ) → WithPlainScript n script (call.settle n list script work out)
  of_compact : (count : ℕ) (out : List ℕ) → WithPlainScript n script (call.compact n count script out)

-- step k of a script has "op 6"
pub record MergeAt (script : List ℕ) (k : ℕ) : Type 0 where
  pub inside : k < length (list_of step_records script)
  pub is : (get_or (list_of step_records script) k step_records.none).op ≡ merge_operation

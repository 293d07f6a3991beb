-- A call with another script that passes 7, 8 and 9: nothing before the first step is wrong of it where nothing is of the given one.
-- Assumes nothing.
use mathlib.Core.Path.{◌≡◌, sym, subst}
use mathlib.Core.List.{List}
use Prim.Native.Nat.{ℕ, ◌<◌}
use lib.ListN.{length}
use Rattle.cube.specs.Lists.{cubes, most_variables, cubes_of, cube_capacity}
use Rattle.promises.specs.Calls.{Call}
use Rattle.promises.specs.Refusals.{NoneWrong, list_faults, script_faults, faults}
use Rattle.promises.specs.OtherScript.{OtherScript, of_run, of_settle}
use Rattle.promises.proofs.Chains.{none_both, none_left, none_right}

-- as long a work buffer has room too
room_same : (count : ℕ) (work again : List ℕ) → length again ≡ length work → ((q : ℕ) → (q ≡ 0) × (cube_capacity (length work) < count) → ⊥)
    → (q : ℕ) → (q ≡ 0) × (cube_capacity (length again) < count) → ⊥
room_same count work again e = subst (λ (k : ℕ). (q : ℕ) → (q ≡ 0) × (cube_capacity k < count) → ⊥) (sym e)

module _ {n : ℕ} {list script other : List ℕ} where
  -- nothing is wrong of the list, nor of the script
  pub fine_list : {c c' : Call} → OtherScript n list script other c c' → NoneWrong (faults c) → NoneWrong (list_faults cubes most_variables n list)
  unfolding faults
  fine_list (of_run work again e) fine = none_left (list_faults cubes most_variables n list) _ fine
  fine_list (of_settle work again out e) fine = none_left (list_faults cubes most_variables n list) _ fine

  pub fine_script : {c c' : Call} → OtherScript n list script other c c' → NoneWrong (faults c) → NoneWrong (script_faults n script)
  unfolding faults
  fine_script (of_run work again e) fine = (none_right (list_faults cubes most_variables n list) _ fine).1
  fine_script (of_settle work again out e) fine = (none_right (list_faults cubes most_variables n list) _ fine).1.1

  pub fine_other : {c c' : Call} → OtherScript n list script other c c' → NoneWrong (faults c) → NoneWrong (script_faults n other) → NoneWrong (faults c')
  unfolding faults
  fine_other (of_run work again e) fine passes =
      let xs = list_faults cubes most_variables n list in
      let r : _ = none_right xs _ fine in
      none_both xs _ (none_left xs _ fine) (room_same (length (cubes_of list)) work again e r.0, passes)
  fine_other (of_settle work again out e) fine passes =
      let xs = list_faults cubes most_variables n list in
      let r : _ = none_right xs _ fine in
      none_both xs _ (none_left xs _ fine) (room_same (length (cubes_of list)) work again e r.0, (r.1.0, passes))

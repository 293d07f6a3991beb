-- The call `settle`: what it answers, and what it leaves in its buffers. Document 01, "Settling" and "Refusal numbers and places".
-- Assumes nothing.
use Rattle.std.specs.Prelude.{ℕ, List, [], ◌∷◌, ◌++◌, leb, length, Option, Some, None, Result}
use Rattle.settling.specs.declared.Settlement.{Settlement}
use Rattle.records.specs.declared.Refusal.{Refusal}
use Rattle.records.specs.Records.{image, zeros}
use Rattle.records.specs.Answers.{Outcome, accepted, refused, unless, and_then, after_call, outcome_of}
use Rattle.cube.specs.declared.Cube.{Cube}
use Rattle.cube.specs.Lists.{most_variables, cubes, cubes_of, cube_capacity}
use Rattle.cube.specs.Calls.{check_list}
use Rattle.polarity.specs.declared.BestPolarity.{BestPolarity}
use Rattle.script.specs.Run.{Ran, stopped, ended}
use Rattle.script.specs.Calls.{check_script, run_of, at_step}
use Rattle.settling.specs.Candidates.{burned_list, fixed_of}

-- "Settle: the same; 5 tests work, then output, against the given count", before any step
unfoldable pub check_settle : ℕ → List ℕ → List ℕ → ℕ → ℕ → Outcome
check_settle n list script work out =
    and_then (check_list most_variables n list)
    (unless (leb (length (cubes_of list)) (cube_capacity work)) 5 0
    (unless (leb (length (cubes_of list)) (cube_capacity out)) 5 0
    (check_script n script)))

-- the best polarity and its size; nothing above 8 variables
abbrev pub fixed_values : Option BestPolarity → List ℕ
fixed_values (Some best) = best.polarity ∷ best.products ∷ []
fixed_values None = []

-- "The counts are: given, peak, script's result, best polarity and its size .., burned"
abbrev pub ran_settled : ℕ → List Cube → Ran Cube → Outcome
ran_settled n given (stopped why step) = refused (at_step why step)
ran_settled n given (ended result peak) =
    accepted (length given ∷ peak ∷ length result ∷ (fixed_values (fixed_of n given) ++ (length (burned_list n result given) ∷ [])))

unfoldable pub settle_outcome : ℕ → List ℕ → List ℕ → ℕ → ℕ → Outcome
settle_outcome n list script work out = and_then (check_settle n list script work out) (ran_settled n (cubes_of list) (run_of n list script work))

-- "The work buffer ends all zero"; "A refusal found before the first step writes nothing"
abbrev pub settle_work_by : Outcome → List ℕ → List ℕ
settle_work_by o work = after_call o (zeros (length work)) work

unfoldable pub settle_work : ℕ → List ℕ → List ℕ → List ℕ → ℕ → List ℕ
settle_work n list script work out = settle_work_by (check_settle n list script (length work) out) work

-- "The winner fills the front of the output buffer; every other byte of it is zero"; a refusal leaves "the output untouched"
abbrev pub ran_burned : ℕ → List Cube → Ran Cube → List ℕ → List ℕ
ran_burned n given (stopped why step) out = out
ran_burned n given (ended result peak) out = image cubes (length out) (burned_list n result given)

abbrev pub settle_out_by : Outcome → ℕ → List Cube → Ran Cube → List ℕ → List ℕ
settle_out_by o n given ran out = after_call o (ran_burned n given ran out) out

unfoldable pub settle_out : ℕ → List ℕ → List ℕ → ℕ → List ℕ → List ℕ
settle_out n list script work out =
    settle_out_by (check_settle n list script work (length out)) n (cubes_of list) (run_of n list script work) out

-- document 01's number and values for each case of the answer
abbrev pub settled : Result Settlement Refusal → Outcome
settled = outcome_of (λ s. s.given ∷ s.peak ∷ s.script ∷ (fixed_values s.fixed ++ (s.burned ∷ [])))

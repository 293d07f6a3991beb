-- The calls run and settle on a list of shared products: what they answer, and what they leave in their buffers. Document 02, Nine; document 01, "Settling" and
-- "Refusal numbers and places".
-- Assumes nothing.
use Rattle.std.specs.Prelude.{List, [], ◌∷◌, ℕ, leb, length, Result}
use Rattle.shared_run.specs.declared.SharedSettlement.{SharedSettlement}
use Rattle.records.specs.declared.Refusal.{Refusal}
use Rattle.records.specs.Records.{image, zeros}
use Rattle.records.specs.Answers.{Outcome, accepted, refused, unless, and_then, after_call, outcome_of}
use Rattle.script.specs.Run.{Ran, stopped, ended}
use Rattle.script.specs.Calls.{check_before, at_step, ran_outcome, work_after_by}
use Rattle.shared.specs.declared.Shared.{Shared}
use Rattle.shared.specs.SharedRecord.{shares, shares_of, shared_capacity}
use Rattle.shared.specs.Calls.{check_shared}
use Rattle.shared_run.specs.SharedScripts.{check_shared_script, shared_steps_of}
use Rattle.shared_run.specs.SharedRun.{shared_run, shared_burned}

-- ---- run

-- "1 to 5, 7, 8, 9", before any step, in a work buffer of so many bytes: "capacities .. go by 12 bytes"
unfoldable pub check_shared_run : ℕ → List ℕ → List ℕ → ℕ → Outcome
check_shared_run n list script room = check_before (check_shared n list) (length (shares_of list)) (shared_capacity room) (check_shared_script n script)

-- then steps in turn, each 10, 11, 16 to 19, then 22; or 10, 11, 23; or 10, 13: the run of an accepted list and script
unfoldable pub shared_run_of : ℕ → List ℕ → List ℕ → ℕ → Ran Shared
shared_run_of n list script room = shared_run n (shared_capacity room) (shared_steps_of script) (shares_of list)

-- "run, count and peak"
unfoldable pub shared_run_outcome : ℕ → List ℕ → List ℕ → ℕ → Outcome
shared_run_outcome n list script room = and_then (check_shared_run n list script room) (ran_outcome (shared_run_of n list script room))

-- "A refusal found before the first step writes nothing"; "One found at a step leaves every byte of the work buffer zero"; "An accepted run fills the front of
-- the work buffer with its list and clears the rest"
unfoldable pub shared_run_after : ℕ → List ℕ → List ℕ → List ℕ → List ℕ
shared_run_after n list script work = work_after_by shares (check_shared_run n list script (length work)) work (shared_run_of n list script (length work))

-- ---- settle

-- "Settle: the same; 5 tests work, then output, against the given count", before any step
unfoldable pub check_shared_settle : ℕ → List ℕ → List ℕ → ℕ → ℕ → Outcome
check_shared_settle n list script work out =
    and_then (check_shared n list)
    (unless (leb (length (shares_of list)) (shared_capacity work)) 5 0
    (unless (leb (length (shares_of list)) (shared_capacity out)) 5 0
    (check_shared_script n script)))

-- given, peak, script's count, burned
abbrev pub ran_shared : List Shared → Ran Shared → Outcome
ran_shared given (stopped why step) = refused (at_step why step)
ran_shared given (ended result peak) = accepted (length given ∷ peak ∷ length result ∷ length (shared_burned result given) ∷ [])

unfoldable pub shared_settle_outcome : ℕ → List ℕ → List ℕ → ℕ → ℕ → Outcome
shared_settle_outcome n list script work out =
    and_then (check_shared_settle n list script work out) (ran_shared (shares_of list) (shared_run_of n list script work))

-- "The work buffer ends all zero"; "A refusal found before the first step writes nothing"
unfoldable pub shared_settle_work : ℕ → List ℕ → List ℕ → List ℕ → ℕ → List ℕ
shared_settle_work n list script work out = after_call (check_shared_settle n list script (length work) out) (zeros (length work)) work

-- "The winner fills the front of the output buffer; every other byte of it is zero"; a refusal leaves "the output untouched"
abbrev pub ran_shared_out : List Shared → Ran Shared → List ℕ → List ℕ
ran_shared_out given (stopped why step) out = out
ran_shared_out given (ended result peak) out = image shares (length out) (shared_burned result given)

unfoldable pub shared_settle_out : ℕ → List ℕ → List ℕ → ℕ → List ℕ → List ℕ
shared_settle_out n list script work out =
    after_call (check_shared_settle n list script work (length out)) (ran_shared_out (shares_of list) (shared_run_of n list script work) out) out

-- document 01's number and values for each case of the answer
abbrev pub shared_settled : Result SharedSettlement Refusal → Outcome
shared_settled = outcome_of (λ s. s.given ∷ s.peak ∷ s.script ∷ s.burned ∷ [])

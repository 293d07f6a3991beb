-- Inside: how far the steps of a run went, which the inner functions of `run` answer one another.
-- Assumes nothing.
use Rattle.cube.specs.declared.Cube.{Cube}
use Rattle.std.specs.Prelude.{ℕ, ◌≡◌, Bool, cond, eqb, List, map, length, Result, Ok, Err, IfOk}
use Rattle.script.specs.declared.Peaked.{Peaked}
use Rattle.script.specs.declared.Ended.{Ended}
use Rattle.records.specs.declared.Refusal.{Refusal}
use Rattle.records.specs.Records.{Codec, records, list_of, capacity_of}
use Rattle.records.specs.Answers.{Outcome}
use Rattle.records.specs.Kinds.{checked}
use Rattle.cube.specs.Cubes.{Good}
use Rattle.cube.specs.Lists.{cubes, most_records}
use Rattle.steps.specs.declared.StepRecord.{StepRecord}
use Rattle.steps.specs.Moves.{After}
use Rattle.steps.specs.Steps.{Step, step, meaning}
use Rattle.steps.specs.Calls.{ReadyBy}
use Rattle.script.specs.Run.{Ran, stopped, ended, steps_from, finish_by}
use Rattle.script.specs.Pending.{none_pending, pend_step, pend_by, pend, restored}
use Rattle.script.specs.Calls.{check_before, at_step, ran_work_by, ran_outcome, run_of, finished}
use Rattle.script.specs.Scripts.{step_records, most_steps}

-- what is pending after one more step of a script, by its record: nothing more where it is no L step
abbrev pub pend_record : List ℕ → StepRecord → List ℕ
pend_record os x = cond (eqb x.op 5) (pend_step os (meaning x)) os

-- what the steps answer, with what is pending after them
abbrev pub reached : {A : Type 0} → Ran A → List ℕ → Result Ended Refusal
reached (stopped why step) pending = Err (at_step why step)
reached (ended l peak) pending = Ok (record { count = length l; peak = peak; pending = pending })

-- the steps xs done from `first` records on, with what is pending after them: the answer r, and the work buffer after it, for any kind of record and of step
pub record SteppingBy {A X : Type 0} (C : Codec A) (σ : X → List A → After A) (Fine : A → Type 0) (n cap first : ℕ) (xs : List X) (pending work work' : List ℕ) (r : Result Ended Refusal)
    : Type 0 where
  pub answer : r ≡ reached (steps_from σ 0 first xs (records C first work)) pending
  pub buffer : work' ≡ ran_work_by C (length work) (steps_from σ 0 first xs (records C first work))
  pub ready : IfOk r (λ e. ReadyBy C Fine n e.count cap work')

-- and for cubes
abbrev pub Stepping : (n cap first : ℕ) (xs : List Step) (work work' : List ℕ) (r : Result Ended Refusal) → Type 0
Stepping n cap first xs work work' r = SteppingBy cubes (step n cap) (Good n) n cap first xs (pend none_pending xs) work work' r

-- a run by the records of the steps: the steps in turn, and then what is pending taken back in the cube of each record
abbrev pub run_back : {A : Type 0} → ((Cube → Cube) → A → A) → (StepRecord → List A → After A) → ℕ → List StepRecord → List A → Ran A
run_back on σ n rs l = finish_by (map (on (restored n (pend_by pend_record none_pending rs)))) (steps_from σ 0 (length l) rs l)

-- the run of a list's bytes by a script's, in a work buffer of so many bytes
abbrev pub run_listed : {A : Type 0} → Codec A → ((Cube → Cube) → A → A) → (ℕ → ℕ → StepRecord → List A → After A) → ℕ → List ℕ → List ℕ → ℕ → Ran A
run_listed C on σ n list script room = run_back on (σ n (capacity_of C most_records room)) n (list_of step_records script) (list_of C list)

-- what is found before its first step
abbrev pub check_run_by : {A : Type 0} → Codec A → (ℕ → List ℕ → Outcome) → (ℕ → StepRecord → Bool) → ℕ → List ℕ → List ℕ → ℕ → Outcome
check_run_by C check fits n list script room =
    check_before (check n list) (length (list_of C list)) (capacity_of C most_records room) (checked step_records (fits n) 7 8 9 most_steps script)

-- a run: the answer r, and the work buffer after it
pub record AnsweredBy {A : Type 0} (C : Codec A) (ran : Ran A) (work work' : List ℕ) (r : Result Peaked Refusal) : Type 0 where
  pub answer : finished r ≡ ran_outcome ran
  pub buffer : work' ≡ ran_work_by C (length work) ran

-- that of an accepted list and script
abbrev pub Answered : (n : ℕ) (list script work work' : List ℕ) (r : Result Peaked Refusal) → Type 0
Answered n list script work work' r = AnsweredBy cubes (run_of n list script (length work)) work work' r

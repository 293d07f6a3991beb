-- One step on a work buffer: what it needs, answers and leaves.
-- Assumes nothing.
use Rattle.std.specs.Prelude.{ℕ, ◌*◌, ◌≤◌, List, length, Result, Ok, Err}
use Rattle.bits.specs.Sums.{All}
use Rattle.steps.specs.declared.StepRefusal.{StepRefusal}
use Rattle.records.specs.Records.{Codec, Held, records, image}
use Rattle.cube.specs.declared.Cube.{Cube}
use Rattle.cube.specs.Cubes.{Good}
use Rattle.cube.specs.Lists.{cubes, most_variables}
use Rattle.steps.specs.declared.StepRecord.{StepRecord}
use Rattle.steps.specs.Moves.{After, stop, next}
use Rattle.steps.specs.Steps.{Allowed, meaning}

-- the work buffer holds `count` records of one kind, all of them fine, over n variables, zeros after them, and has room for cap
pub record ReadyBy {A : Type 0} (C : Codec A) (Fine : A → Type 0) (n count cap : ℕ) (work : List ℕ) : Type 0 where
  pub held : Held C count work
  pub good : All Fine (records C count work)
  pub few : n ≤ most_variables
  pub room : C.width * cap ≤ length work

-- so many good cubes
abbrev pub Ready : (n count cap : ℕ) (work : List ℕ) → Type 0
Ready n count cap work = ReadyBy cubes (Good n) n count cap work

-- what refusal 9 leaves of a step's record: a known operation, with "a used v" below n and "a used literal" at most 1
pub record Known (n : ℕ) (x : StepRecord) : Type 0 where
  pub least : 1 ≤ x.op
  pub most : x.op ≤ 5
  pub fits : Allowed n (meaning x)

-- the answer of a step, on any kind of record
abbrev pub stepped : {A : Type 0} → After A → Result ℕ StepRefusal
stepped (stop why) = Err why
stepped (next l) = Ok (length l)

-- the buffer after it: the next list and zeros after it; refused, it is as it was
abbrev pub stepped_by : {A : Type 0} → Codec A → List ℕ → After A → List ℕ
stepped_by C work (stop why) = work
stepped_by C work (next l) = image C (length work) l

abbrev pub work_stepped : List ℕ → After Cube → List ℕ
work_stepped work e = stepped_by cubes work e

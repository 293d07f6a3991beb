-- One step on a work buffer of shared products: what it needs.
-- Assumes nothing.
use Rattle.std.specs.Prelude.{List, ℕ, ◌≤◌}
use Rattle.steps.specs.declared.StepRecord.{StepRecord}
use Rattle.steps.specs.Calls.{ReadyBy}
use Rattle.shared.specs.SharedRecord.{shares, Fine}
use Rattle.shared_steps.specs.SharedSteps.{merge_operation, SharedAllowed, shared_meaning}

-- the work buffer holds `count` shared products that are accepted over n variables, zeros after them, and has room for cap
abbrev pub SharedReady : (n count cap : ℕ) (work : List ℕ) → Type 0
SharedReady n count cap work = ReadyBy shares (Fine n) n count cap work

-- what refusal 9 leaves of a step's record: one of the six operations, with "a used v" below n and "a used literal" at most 1
pub record SharedKnown (n : ℕ) (x : StepRecord) : Type 0 where
  pub least : 1 ≤ x.op
  pub most : x.op ≤ merge_operation
  pub fits : SharedAllowed n (shared_meaning x)

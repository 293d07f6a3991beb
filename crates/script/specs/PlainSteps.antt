-- The plain steps of a script, which are all but its L steps, and the step among them that corresponds to one of the script. Document 02, Twelve: "L steps
-- and plain steps."
-- Assumes nothing.
use Rattle.std.specs.Prelude.{ℕ, length, take}
use mathlib.Core.List.{List, filter}
use Rattle.std.proofs.Math.Decide.{ℕ_discrete}
use Rattle.records.specs.Records.{flat, list_of}
use Rattle.steps.specs.Steps.{Step, is_l, meaning}
use Rattle.script.specs.Scripts.{step_records}

-- those that are not of a kind, in their order
abbrev pub without : {X : Type 0} → (X → ℕ) → List X → List X
without kind xs = filter (λ x. ℕ_discrete (kind x) 0) xs

-- how many of them are before place s
abbrev pub without_before : {X : Type 0} → (X → ℕ) → List X → ℕ → ℕ
without_before kind xs s = length (without kind (take s xs))

-- "take out all L steps"
abbrev pub plain_steps : List Step → List Step
plain_steps xs = without is_l xs

-- the script that is made of them: their records, end to end
unfoldable pub without_l : List ℕ → List ℕ
without_l script = flat step_records.enc (without (λ r. is_l (meaning r)) (list_of step_records script))

-- "at the step that corresponds" to step s: the number of steps before s that are not L steps
abbrev pub corresponding : List Step → ℕ → ℕ
corresponding xs s = without_before is_l xs s

-- A call with a script, and the same call without the script's L steps. Document 02, Twelve: "For every plain list and script with no split, take out all L
-- steps: the run is refused exactly when the first one was, with the same number, at the step that corresponds; else it ends with the same records in the same
-- places. With splits it isn't claimed." The script without them is `without_l` and the step that corresponds `corresponding`, in script/specs/PlainSteps.antt.
-- Assumes nothing.
use Rattle.std.specs.Prelude.{◌≡◌, List, [], ◌∷◌, ◌++◌, ℕ}
use Rattle.bits.specs.Sums.{All}
use Rattle.records.specs.declared.Refusal.{Refusal}
use Rattle.records.specs.Records.{zeros}
use Rattle.records.specs.Answers.{refusal_with}
use Rattle.steps.specs.Steps.{is_split}
use Rattle.script.specs.Scripts.{steps_of}
use Rattle.script.specs.PlainSteps.{without_l, corresponding}
use Rattle.promises.specs.Calls.{Call}
use Rattle.promises.specs.OtherScript.{OtherScript}

-- "script with no split"
abbrev pub NoSplit : List ℕ → Type 0
NoSplit script = All (λ x. is_split x ≡ 0) (steps_of script)

-- the second call is the first one with all L steps taken out of its script
abbrev pub TakenOut : ℕ → List ℕ → List ℕ → Call → Call → Type 0
TakenOut n list script c c' = OtherScript n list script (without_l script) c c'

-- "with the same number, at the step that corresponds", and the same third answer
abbrev pub at_corresponding : List ℕ → Refusal → Refusal
at_corresponding script r = refusal_with r.number (corresponding (steps_of script) r.place) r.differing

-- ---- "With splits it isn't claimed": two scripts over 1 variable

-- the cubes -, 0 and 1, a record each
abbrev pub no_literal : List ℕ
no_literal = zeros 8

abbrev pub complemented_literal : List ℕ
complemented_literal = 1 ∷ 0 ∷ 0 ∷ 0 ∷ 0 ∷ 0 ∷ 0 ∷ 0 ∷ []

abbrev pub plain_literal : List ℕ
plain_literal = 1 ∷ 0 ∷ 0 ∷ 0 ∷ 1 ∷ 0 ∷ 0 ∷ 0 ∷ []

-- L v=0 literal 0, then split v=0 0
abbrev pub split_script : List ℕ
split_script = 5 ∷ 0 ∷ 0 ∷ 0 ∷ 0 ∷ 0 ∷ 0 ∷ 0 ∷ 3 ∷ 0 ∷ 0 ∷ 0 ∷ 0 ∷ 0 ∷ 0 ∷ 0 ∷ []

-- and then drop 0 1
abbrev pub split_and_drop : List ℕ
split_and_drop = split_script ++ (1 ∷ 0 ∷ 0 ∷ 0 ∷ 1 ∷ 0 ∷ 0 ∷ 0 ∷ [])

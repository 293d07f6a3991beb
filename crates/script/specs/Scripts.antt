-- The records of a script. Document 01, "The steps of a script": "A step is 8 bytes: operation, variable v, place i (2 bytes, little-endian), place j
-- (2 bytes, little-endian), literal, zero. Fields that an operation does not use are zero."
-- Assumes nothing.
use Rattle.std.specs.Prelude.{ℕ, ◌%◌, Bool, true, false, ◌&&◌, ◌||◌, List, [], ◌∷◌, map, eqb, ltb, leb, get_or}
use Rattle.records.specs.Records.{Codec, list_of}
use Rattle.records.specs.Fields.{by_fields}
use Rattle.steps.specs.declared.StepRecord.{StepRecord}
use Rattle.steps.specs.Steps.{Step, drop, join, split, turn, L, meaning}

-- "Script: 0 to 1,024 steps"
abbrev pub most_steps : ℕ
most_steps = 1024

abbrev pub step_width : ℕ
step_width = 8

-- one byte, one, two, two, one and one, each number little-endian
abbrev pub step_records : Codec StepRecord
step_records =
    by_fields (1 ∷ 1 ∷ 2 ∷ 2 ∷ 1 ∷ 1 ∷ [])
    (λ r. r.op ∷ r.v ∷ r.i ∷ r.j ∷ r.literal ∷ r.zero ∷ [])
    (λ xs. record { op = get_or xs 0 0; v = get_or xs 1 0; i = get_or xs 2 0; j = get_or xs 3 0; literal = get_or xs 4 0; zero = get_or xs 5 0 })

-- how many places two bytes can name
abbrev pub place_size : ℕ
place_size = 65536

-- what of a step fits its record
abbrev pub narrow_step : StepRecord → StepRecord
narrow_step r = record { op = r.op; v = r.v; i = r.i % place_size; j = r.j % place_size; literal = r.literal; zero = r.zero }

-- which fields an operation uses (document 01's table, column "uses"): 1 drop, 2 join, 3 split, 4 turn, 5 L
abbrev pub known : ℕ → Bool
known op = leb 1 op && leb op 5

abbrev pub uses_v : ℕ → Bool
uses_v op = leb 3 op

abbrev pub uses_i : ℕ → Bool
uses_i op = leb op 4

abbrev pub uses_j : ℕ → Bool
uses_j op = leb op 2 || eqb op 4

abbrev pub uses_literal : ℕ → Bool
uses_literal op = eqb op 5

-- a field that is used passes its test, and one that is not is zero
abbrev pub field : Bool → Bool → ℕ → Bool
field true test x = test
field false test x = eqb x 0

-- not 9: "unknown op, unused field not zero, a used v at or above n, a used literal above 1"
unfoldable pub fits : ℕ → StepRecord → Bool
fits n r =
    known r.op
    && (field (uses_v r.op) (ltb r.v n) r.v
    && (field (uses_i r.op) true r.i
    && (field (uses_j r.op) true r.j
    && (field (uses_literal r.op) (leb r.literal 1) r.literal
    && eqb r.zero 0))))

-- the record of a step: what a script that was made is written by. No contract here needs it; calls that make scripts do
unfoldable pub record_of : Step → StepRecord
record_of (drop i j) = record { op = 1; v = 0; i = i; j = j; literal = 0; zero = 0 }
record_of (join i j) = record { op = 2; v = 0; i = i; j = j; literal = 0; zero = 0 }
record_of (split v i) = record { op = 3; v = v; i = i; j = 0; literal = 0; zero = 0 }
record_of (turn v i j) = record { op = 4; v = v; i = i; j = j; literal = 0; zero = 0 }
record_of (L v b) = record { op = 5; v = v; i = 0; j = 0; literal = b; zero = 0 }

-- the steps of a script's bytes
unfoldable pub steps_of : List ℕ → List Step
steps_of b = map meaning (list_of step_records b)

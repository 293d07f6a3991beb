-- Inside: a step's eight bytes as two numbers of four, by which steps are compared and copied. None of it is needed to read the call.
-- Assumes nothing.
use Rattle.std.specs.Prelude.{Bool, cond, ◌&&◌, List, [], ◌∷◌, ℕ, ◌+◌, ◌*◌, ◌/◌, ◌%◌, eqb, ltb, get_or}
use Rattle.records.specs.Numbers.{byte_size}
use Rattle.records.specs.Fields.{by_fields}
use Rattle.records.specs.Records.{Codec, list_of}
use Rattle.steps.specs.declared.StepRecord.{StepRecord}
use Rattle.script.specs.Scripts.{step_records, place_size}
use Rattle.compactor.specs.declared.Halves.{Halves}

-- the bytes of a step, as two numbers of four bytes
abbrev pub half_records : Codec Halves
half_records = by_fields (4 ∷ 4 ∷ []) (λ h. h.low ∷ h.high ∷ []) (λ xs. record { low = get_or xs 0 0; high = get_or xs 1 0 })

-- the record of a step of a script, and its halves
abbrev pub record_at : List ℕ → ℕ → StepRecord
record_at b k = get_or (list_of step_records b) k step_records.none

abbrev pub halves_at : List ℕ → ℕ → Halves
halves_at b k = get_or (list_of half_records b) k half_records.none

-- the operation is the lowest byte
abbrev pub operation_of : Halves → ℕ
operation_of x = x.low % byte_size

abbrev pub equal_halves : Halves → Halves → Bool
equal_halves x y = eqb x.low y.low && eqb x.high y.high

-- the join (operation 2) of the place of a split with this one
abbrev pub join_of : ℕ → Halves → Halves
join_of count x = record { low = x.low / place_size * place_size + 2; high = count }

-- a pair, by the halves of its steps: a split (3) and its join, or two equal turns (4) or L steps (5)
unfoldable pub half_pair : ℕ → Halves → Halves → Bool
half_pair count x y = cond (eqb (operation_of x) 3) (equal_halves (join_of count x) y) (ltb 3 (operation_of x) && equal_halves x y)

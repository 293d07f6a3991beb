-- Inside: what the functions of this crate promise one another. A change as a move, the places of a move, and what is done to the work buffer.
-- Assumes nothing.
use Rattle.std.specs.Prelude.{◌≡◌, cond, ◌&&◌, List, ℕ, ◌+◌, ◌*◌, ◌/◌, ◌%◌, ◌^◌, ◌<◌, eqb, ltb, Option, None, Some, Result}
use Rattle.std.specs.Int.Bits.{bit_and, bit_xor}
use Rattle.steps.specs.declared.StepRefusal.{StepRefusal}
use Rattle.records.specs.declared.reason.Reason.{Reason}
use Rattle.records.specs.Reasons.{number_of}
use Rattle.records.specs.Records.{Codec}
use Rattle.cube.specs.declared.Cube.{Cube}
use Rattle.cube.specs.Cubes.{one, with_code}
use Rattle.cube.specs.CubeRecord.{cubes}
use Rattle.orders.specs.Orders.{code_after}
use Rattle.steps.specs.declared.Change.{Change}
use Rattle.steps.specs.declared.Change.TheVariants as change_is
use Rattle.steps.specs.declared.operation.Step as operation
use Rattle.steps.specs.declared.operation.Step.TheVariants as step_is
use Rattle.steps.specs.declared.reorder.Masks.{Masks}
use Rattle.steps.specs.declared.StepRecord.{StepRecord}
use Rattle.steps.specs.Moves.{Move, refuse, drops, joins, splits, turns, After}
use Rattle.steps.specs.Steps.{Step, drop, join, split, turn, L, meaning, decision}
use Rattle.steps.specs.Effects.{TwoPlaces}
use Rattle.steps.specs.Calls.{stepped, stepped_by}

-- the move that a change is
unfoldable pub move_of : {A : Type 0} → Change A → Move A
move_of (change_is.Refuse why) = refuse why
move_of change_is.Drop = drops
move_of (change_is.Join c) = joins c
move_of (change_is.Split c d) = splits c d
move_of (change_is.Turn c d) = turns c d

-- the step of a list of cubes that a step by its operation is
abbrev pub step_of : operation.Step → Step
step_of (step_is.Drop i j) = drop i j
step_of (step_is.Join i j) = join i j
step_of (step_is.Split v i) = split v i
step_of (step_is.Turn v i j) = turn v i j
step_of (step_is.L v b) = L v b

-- the number that two places are refused by, 10 or 11, or 0
unfoldable pub places_number : ℕ → ℕ → ℕ → ℕ
places_number count i j = cond (ltb i count && ltb j count) (cond (eqb i j) 11 0) 10

-- why two places are refused, if they are: a reason with that number
abbrev pub Misplaced : ℕ → ℕ → ℕ → Option Reason → Type 0
Misplaced count i j None = 0 ≡ places_number count i j
Misplaced count i j (Some reason) = (number_of reason ≡ places_number count i j) × (number_of reason ≡ 0 → ⊥)

-- a place of so many records, and room for one record more
pub record OnePlace (count room i : ℕ) : Type 0 where
  pub inside : i < count
  pub more : count < room

-- the places of a move are places of the list, and where it adds a record there is room
unfoldable pub Placed : {A : Type 0} → ℕ → ℕ → ℕ → ℕ → Move A → Type 0
Placed count room i j (refuse why) = Unit {0}
Placed count room i j drops = TwoPlaces count i j
Placed count room i j (joins x) = TwoPlaces count i j
Placed count room i j (splits x y) = OnePlace count room i
Placed count room i j (turns x y) = TwoPlaces count i j

-- what is decided of a step, from the cubes a and b at its places
pub record Decided (n count cap : ℕ) (x : StepRecord) (a b : Cube) (change : Change Cube) : Type 0 where
  pub is : move_of change ≡ decision n count cap (meaning x) a b

-- what a step does, on any kind of record: its answer, and the buffer after it
pub record DoneBy {A : Type 0} (C : Codec A) (work work' : List ℕ) (e : After A) (r : Result ℕ StepRefusal) : Type 0 where
  pub answer : r ≡ stepped e
  pub buffer : work' ≡ stepped_by C work e

abbrev pub Done : (work work' : List ℕ) (e : After Cube) (r : Result ℕ StepRefusal) → Type 0
Done = DoneBy cubes

-- the product of the one literal that the order o makes of the code x, at the variable v
abbrev pub literal_after : ℕ → ℕ → ℕ → Cube
literal_after v o x = with_code one v (code_after o x)

-- how many numbers a mask holds
abbrev pub half_size : ℕ
half_size = 4294967296

-- the two masks of a cube as one number: seen is its low half, value its high half; and the cube of such a number
abbrev pub word_of : Cube → ℕ
word_of c = c.seen + half_size * c.value

abbrev pub halves : ℕ → Cube
halves x = record { seen = x % half_size; value = x / half_size }

-- a cube with its masks exchanged
abbrev pub crossed : Cube → Cube
crossed c = record { seen = c.value; value = c.seen }

-- each bit of x changed by the sum of itself and a, the bit of y and b, and c
abbrev pub changed : ℕ → ℕ → ℕ → ℕ → ℕ → ℕ
changed x a y b c = bit_xor (bit_xor (bit_xor x (bit_and x a)) (bit_and y b)) c

-- the order o at the variable v, as masks
unfoldable pub masks_at : ℕ → ℕ → Masks
masks_at v o = record {
  own = word_of (record {
    seen = bit_xor (bit_xor (2 ^ v) (literal_after v o 0).seen) (literal_after v o 2).seen;
    value = bit_xor (bit_xor (2 ^ v) (literal_after v o 0).value) (literal_after v o 1).value;
  });
  other = word_of (record {
    seen = bit_xor (literal_after v o 0).seen (literal_after v o 1).seen;
    value = bit_xor (literal_after v o 0).value (literal_after v o 2).value;
  });
  always = word_of (literal_after v o 2);
}

-- a cube by masks: its two masks as one number, of which each bit is changed by the sum, modulo 2, of itself where `own` is set, the variable's other bit
-- where `other` is, and 1 where `always` is
unfoldable pub by_masks : Masks → Cube → Cube
by_masks k c = halves (changed (word_of c) k.own (word_of (crossed c)) k.other k.always)

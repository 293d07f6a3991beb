-- Two outcomes that satisfy the contract of a public function of this crate are equal.
-- Assumes nothing.
use mathlib.Core.Path.{◌≡◌, refl, sym, ap, ◌∙◌}
use mathlib.Core.Bool.{Bool, true, false, true≢false}
use mathlib.Core.List.{List, [], ◌∷◌}
use mathlib.Core.Logic.{⊎_elim}
use borrow.Author.Tests.{lt-ltb}
use Prim.Native.Nat.{ℕ}
use lib.ListN.{get_or}
use Rattle.std.specs.Prelude.{cond, eqb, ltb, ◌||◌, ◌⊎◌, ◌<◌, Option, Some, None, Result, Ok, Err}
use Rattle.bits.specs.Outcomes.{Determined}
use Rattle.bits.proofs.Determined.{same, same_told}
use Rattle.pla.specs.declared.MapSize.{MapSize}
use Rattle.records.specs.declared.Refusal.{Refusal}
use Rattle.records.specs.declared.reason.Reason.{Reason}
use Rattle.records.specs.declared.reason.Reason.TheVariants.{TooManyVariables, CutShort, TooManyRecords, BadRecord, NoRoom, LabelOutside, ScriptCutShort, TooManySteps, BadStep, NoSuchPlace, SamePlace, Full, BadVector, PolarityOutside, Unequal, NotOneApart, NotTwoApart, EqualThere, TooWide, NoSuchOutput, OutputsDiffer, NotMergeable, NotOneToTwelve, OtherIndex, LengthsDiffer, NoInputs, NoOutputs, NotEsop, NoProduct, TooManyProducts, OtherCount, UnknownLine, NoStep, TooManyStepLines, TextTooLong, NotOneOutput}
use Rattle.records.specs.Reasons.{number_of}
use Rattle.records.proofs.Answers.{answer_back, answer_known}
use Rattle.records.specs.Answers.{Outcome}
use Rattle.shared.specs.declared.Shared.{Shared}
use Rattle.lines.specs.Gathering.{Says, knows, has, over, bad}
use Rattle.pla.specs.declared.Header.{Header}
use Rattle.pla.specs.declared.Line.{Line}
use Rattle.pla.specs.declared.Line.TheVariants as line_variants
use Rattle.pla.specs.Names.{name_number, number_or_0, IsNameOf}
use Rattle.pla.specs.declared.names.Name.{Name}
use Rattle.pla.specs.declared.names.Name.TheVariants.{Inputs, Outputs, Kind, Products, Passed, End}
use Rattle.pla.specs.declared.names.UnknownName.{UnknownName}
use Rattle.pla.specs.Products.{lacks}
use Rattle.pla.specs.Pla.{line_is, read_pla}
use Rattle.records.proofs.Reasons.{reason_of, reason_known}
use Rattle.pla.proofs.names.NameTryFromU8.try_from.Kinds as try_from_kinds
use Rattle.pla.proofs.names.NameTryFromU8.try_from.Reads as try_from_reads
use Rattle.pla.proofs.names.Name.of.Kinds as of_kinds
use Rattle.pla.proofs.names.Name.of.Reads as of_reads
use Rattle.pla.proofs.names.Name.says.Kinds as says_kinds
use Rattle.pla.proofs.names.Name.says.Reads as says_reads
use Rattle.pla.proofs.names.name_of.Kinds as name_of_kinds
use Rattle.pla.proofs.names.name_of.Reads as name_of_reads
use Rattle.pla.proofs.names.named.Kinds as named_kinds
use Rattle.pla.proofs.names.named.Reads as named_reads
use Rattle.pla.proofs.product.lacking.Kinds as lacking_kinds
use Rattle.pla.proofs.product.lacking.Reads as lacking_reads
use Rattle.pla.proofs.read.read.Kinds as read_kinds
use Rattle.pla.proofs.read.read.Reads as read_reads

-- what a line says, read back
line_back : Says Header Shared → Result Line Reason
line_back (knows h) = Ok (line_variants.Knows h)
line_back (has h s) = Ok (line_variants.Has h s)
line_back over = Ok line_variants.Over
line_back (bad number) = Err (reason_of number)

line_known : (a : Result Line Reason) → line_back (line_is a) ≡ a
unfolding line_back
line_known (Ok (line_variants.Knows h)) = refl
line_known (Ok (line_variants.Has h s)) = refl
line_known (Ok line_variants.Over) = refl
line_known (Err why) = ap Err (reason_known why)

-- what is lacking, read back
lacks_back : ℕ → Result (Unit {0}) Reason
lacks_back number = cond (eqb number 0) (Ok tt) (Err (reason_of number))

lacks_known : (a : Result (Unit {0}) Reason) → lacks_back (lacks a) ≡ a
unfolding lacks_back
lacks_known (Ok u) = refl
lacks_known (Err why) = go why
  where
    go : (why : Reason) → cond {A = Result (Unit {0}) Reason} (eqb (number_of why) 0) (Ok tt) (Err (reason_of (number_of why))) ≡ Err why
    go TooManyVariables = ap Err (reason_known TooManyVariables)
    go CutShort = ap Err (reason_known CutShort)
    go TooManyRecords = ap Err (reason_known TooManyRecords)
    go BadRecord = ap Err (reason_known BadRecord)
    go NoRoom = ap Err (reason_known NoRoom)
    go LabelOutside = ap Err (reason_known LabelOutside)
    go ScriptCutShort = ap Err (reason_known ScriptCutShort)
    go TooManySteps = ap Err (reason_known TooManySteps)
    go BadStep = ap Err (reason_known BadStep)
    go NoSuchPlace = ap Err (reason_known NoSuchPlace)
    go SamePlace = ap Err (reason_known SamePlace)
    go Full = ap Err (reason_known Full)
    go BadVector = ap Err (reason_known BadVector)
    go PolarityOutside = ap Err (reason_known PolarityOutside)
    go Unequal = ap Err (reason_known Unequal)
    go NotOneApart = ap Err (reason_known NotOneApart)
    go NotTwoApart = ap Err (reason_known NotTwoApart)
    go EqualThere = ap Err (reason_known EqualThere)
    go TooWide = ap Err (reason_known TooWide)
    go NoSuchOutput = ap Err (reason_known NoSuchOutput)
    go OutputsDiffer = ap Err (reason_known OutputsDiffer)
    go NotMergeable = ap Err (reason_known NotMergeable)
    go NotOneToTwelve = ap Err (reason_known NotOneToTwelve)
    go OtherIndex = ap Err (reason_known OtherIndex)
    go LengthsDiffer = ap Err (reason_known LengthsDiffer)
    go NoInputs = ap Err (reason_known NoInputs)
    go NoOutputs = ap Err (reason_known NoOutputs)
    go NotEsop = ap Err (reason_known NotEsop)
    go NoProduct = ap Err (reason_known NoProduct)
    go TooManyProducts = ap Err (reason_known TooManyProducts)
    go OtherCount = ap Err (reason_known OtherCount)
    go UnknownLine = ap Err (reason_known UnknownLine)
    go NoStep = ap Err (reason_known NoStep)
    go TooManyStepLines = ap Err (reason_known TooManyStepLines)
    go TextTooLong = ap Err (reason_known TextTooLong)
    go NotOneOutput = ap Err (reason_known NotOneOutput)

-- a name, read back from its number
named_by : ℕ → Option Name
named_by number = get_or (None ∷ Some Inputs ∷ Some Outputs ∷ Some Kind ∷ Some Products ∷ Some Passed ∷ Some End ∷ []) number None

named_known : (a : Option Name) → named_by (number_or_0 a) ≡ a
unfolding named_by
named_known None = refl
named_known (Some Inputs) = refl
named_known (Some Outputs) = refl
named_known (Some Kind) = refl
named_known (Some Products) = refl
named_known (Some Passed) = refl
named_known (Some End) = refl

-- two names with one number are one, and no name has 0 or a number above 6
one_name : (a b : Name) → name_number a ≡ name_number b → a ≡ b
one_name a b e = some_once (sym (named_known (Some a)) ∙ ap named_by e ∙ named_known (Some b))
  where
    some_once : {a b : Name} → Some a ≡ Some b → a ≡ b
    some_once e = cc

is_free : ℕ → Bool
is_free n = ltb 6 n || eqb n 0

not_free : (a : Name) → is_free (name_number a) ≡ false
unfolding is_free
not_free Inputs = refl
not_free Outputs = refl
not_free Kind = refl
not_free Products = refl
not_free Passed = refl
not_free End = refl

free : (n : ℕ) → (n ≡ 0) ⊎ (6 < n) → is_free n ≡ true
unfolding is_free
free n = ⊎_elim (λ e. ap is_free e) (λ l. ap (λ (b : Bool). b || eqb n 0) (lt-ltb 6 n l))

no_name : (a : Name) (n : ℕ) → name_number a ≡ n → (n ≡ 0) ⊎ (6 < n) → ⊥
no_name a n e h = true≢false (sym (free n h) ∙ sym (ap is_free e) ∙ not_free a)

name_once : (n : ℕ) (z z' : Result Name UnknownName) → IsNameOf n z → IsNameOf n z' → z ≡ z'
name_once n (Ok a) (Ok b) p q = ap Ok (one_name a b (same p q))
name_once n (Ok a) (Err e) p q = absurd (no_name a n p q.1)
name_once n (Err e) (Ok b) p q = absurd (no_name b n q p.1)
name_once n (Err e) (Err f) p q = ap (λ (k : ℕ). Err (record { number = k })) (same p.0 q.0)

-- the reader's answer, read back
read_value : List ℕ → MapSize
read_value v = record { inputs = get_or v 0 0; outputs = get_or v 1 0; products = get_or v 2 0 }

read_back : Outcome → Result MapSize Refusal
read_back = answer_back read_value

read_known : (r : Result MapSize Refusal) → read_back (read_pla r) ≡ r
unfolding read_value read_back
read_known = answer_known _ read_value (λ a. refl)

pub try_from_determined : Determined 0 try_from_kinds.ps try_from_kinds.r try_from_reads.Learnt
try_from_determined κs a z z' ws ws' p q = (name_once _ z z' p q, refl)

pub of_determined : Determined 1 of_kinds.ps of_kinds.r of_reads.Learnt
of_determined κs a z z' ws ws' p q = (same_told number_or_0 named_by named_known p q, refl)

pub says_determined : Determined 1 says_kinds.ps says_kinds.r says_reads.Learnt
says_determined κs a z z' ws ws' p q = (same_told line_is line_back line_known p q, refl)

pub name_of_determined : Determined 1 name_of_kinds.ps name_of_kinds.r name_of_reads.Learnt
name_of_determined κs a z z' ws ws' p q = (same p q, refl)

pub named_determined : Determined 1 named_kinds.ps named_kinds.r named_reads.Learnt
named_determined κs a z z' ws ws' p q = (same_told line_is line_back line_known p q, refl)

pub lacking_determined : Determined 0 lacking_kinds.ps lacking_kinds.r lacking_reads.Learnt
lacking_determined κs a z z' ws ws' p q = (same_told lacks lacks_back lacks_known p q, refl)

pub read_determined : Determined 2 read_kinds.ps read_kinds.r read_reads.Learnt
read_determined κs a z z' ws ws' p q = (same_told read_pla read_back read_known p.0 q.0, ap (λ (b : List ℕ). (tt, (b, tt))) (same p.1 q.1))

-- A reason is known by its number, and no reason has 0, 12 or a number above 37.
-- Assumes nothing.
use mathlib.Core.Path.{◌≡◌, refl, sym, ap, ◌∙◌}
use mathlib.Core.List.{List, [], ◌∷◌}
use Prim.Native.Nat.{ℕ}
use mathlib.Core.Bool.{Bool, true, false, true≢false}
use mathlib.Core.Logic.{⊎_elim}
use borrow.Author.Tests.{lt-ltb}
use lib.Dec.{eqb}
use lib.ListN.{get_or}
use Rattle.records.specs.declared.reason.Reason.{Reason}
use Rattle.records.specs.declared.reason.Reason.TheVariants.{TooManyVariables, CutShort, TooManyRecords, BadRecord, NoRoom, LabelOutside, ScriptCutShort, TooManySteps, BadStep, NoSuchPlace, SamePlace, Full, BadVector, PolarityOutside, Unequal, NotOneApart, NotTwoApart, EqualThere, TooWide, NoSuchOutput, OutputsDiffer, NotMergeable, NotOneToTwelve, OtherIndex, LengthsDiffer, NoInputs, NoOutputs, NotEsop, NoProduct, TooManyProducts, OtherCount, UnknownLine, NoStep, TooManyStepLines, TextTooLong, NotOneOutput}
use Rattle.records.specs.Reasons.{number_of}
use Rattle.std.specs.Prelude.{◌⊎◌, ◌<◌, ◌||◌, ltb}

-- the reason at each number; any where there is none
reasons : List Reason
reasons =
    NoInputs ∷ TooManyVariables ∷ CutShort ∷ TooManyRecords ∷ BadRecord ∷ NoRoom ∷
    LabelOutside ∷ ScriptCutShort ∷ TooManySteps ∷ BadStep ∷ NoSuchPlace ∷ SamePlace ∷
    NoInputs ∷ Full ∷ BadVector ∷ PolarityOutside ∷ Unequal ∷ NotOneApart ∷
    NotTwoApart ∷ EqualThere ∷ TooWide ∷ NoSuchOutput ∷ OutputsDiffer ∷ NotMergeable ∷
    NotOneToTwelve ∷ OtherIndex ∷ LengthsDiffer ∷ NoInputs ∷ NoOutputs ∷ NotEsop ∷
    NoProduct ∷ TooManyProducts ∷ OtherCount ∷ UnknownLine ∷ NoStep ∷ TooManyStepLines ∷
    TextTooLong ∷ NotOneOutput ∷ []

pub reason_of : ℕ → Reason
reason_of number = get_or reasons number NoInputs

pub reason_known : (why : Reason) → reason_of (number_of why) ≡ why
unfolding reason_of reasons
reason_known TooManyVariables = refl
reason_known CutShort = refl
reason_known TooManyRecords = refl
reason_known BadRecord = refl
reason_known NoRoom = refl
reason_known LabelOutside = refl
reason_known ScriptCutShort = refl
reason_known TooManySteps = refl
reason_known BadStep = refl
reason_known NoSuchPlace = refl
reason_known SamePlace = refl
reason_known Full = refl
reason_known BadVector = refl
reason_known PolarityOutside = refl
reason_known Unequal = refl
reason_known NotOneApart = refl
reason_known NotTwoApart = refl
reason_known EqualThere = refl
reason_known TooWide = refl
reason_known NoSuchOutput = refl
reason_known OutputsDiffer = refl
reason_known NotMergeable = refl
reason_known NotOneToTwelve = refl
reason_known OtherIndex = refl
reason_known LengthsDiffer = refl
reason_known NoInputs = refl
reason_known NoOutputs = refl
reason_known NotEsop = refl
reason_known NoProduct = refl
reason_known TooManyProducts = refl
reason_known OtherCount = refl
reason_known UnknownLine = refl
reason_known NoStep = refl
reason_known TooManyStepLines = refl
reason_known TextTooLong = refl
reason_known NotOneOutput = refl

-- two reasons with one number are one
pub one_reason : (r s : Reason) → number_of r ≡ number_of s → r ≡ s
one_reason r s e = sym (reason_known r) ∙ ap reason_of e ∙ reason_known s

-- the numbers that no reason has
is_free : ℕ → Bool
is_free n = ltb 37 n || (eqb n 0 || eqb n 12)

not_free : (r : Reason) → is_free (number_of r) ≡ false
unfolding is_free
not_free TooManyVariables = refl
not_free CutShort = refl
not_free TooManyRecords = refl
not_free BadRecord = refl
not_free NoRoom = refl
not_free LabelOutside = refl
not_free ScriptCutShort = refl
not_free TooManySteps = refl
not_free BadStep = refl
not_free NoSuchPlace = refl
not_free SamePlace = refl
not_free Full = refl
not_free BadVector = refl
not_free PolarityOutside = refl
not_free Unequal = refl
not_free NotOneApart = refl
not_free NotTwoApart = refl
not_free EqualThere = refl
not_free TooWide = refl
not_free NoSuchOutput = refl
not_free OutputsDiffer = refl
not_free NotMergeable = refl
not_free NotOneToTwelve = refl
not_free OtherIndex = refl
not_free LengthsDiffer = refl
not_free NoInputs = refl
not_free NoOutputs = refl
not_free NotEsop = refl
not_free NoProduct = refl
not_free TooManyProducts = refl
not_free OtherCount = refl
not_free UnknownLine = refl
not_free NoStep = refl
not_free TooManyStepLines = refl
not_free TextTooLong = refl
not_free NotOneOutput = refl

free : (n : ℕ) → (n ≡ 0) ⊎ ((n ≡ 12) ⊎ (37 < n)) → is_free n ≡ true
unfolding is_free
free n = ⊎_elim (λ e. ap is_free e) (⊎_elim (λ e. ap is_free e) (λ l. ap (λ (b : Bool). b || (eqb n 0 || eqb n 12)) (lt-ltb 37 n l)))

-- and none has one of them
pub no_reason : (r : Reason) (n : ℕ) → number_of r ≡ n → (n ≡ 0) ⊎ ((n ≡ 12) ⊎ (37 < n)) → ⊥
no_reason r n e h = true≢false (sym (free n h) ∙ sym (ap is_free e) ∙ not_free r)

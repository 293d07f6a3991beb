-- Why a call is refused: the number of each reason.
-- Assumes nothing.
use Rattle.std.specs.Prelude.{◌≡◌, ◌<◌, ◌⊎◌, ℕ, List, Result, Ok, Err, codes}
use Rattle.records.specs.declared.reason.Reason.{Reason}
use Rattle.records.specs.declared.reason.UnknownReason.{UnknownReason}
use Rattle.records.specs.declared.reason.Reason.TheVariants.{TooManyVariables, CutShort, TooManyRecords, BadRecord, NoRoom, LabelOutside, ScriptCutShort, TooManySteps, BadStep, NoSuchPlace, SamePlace, Full, BadVector, PolarityOutside, Unequal, NotOneApart, NotTwoApart, EqualThere, TooWide, NoSuchOutput, OutputsDiffer, NotMergeable, NotOneToTwelve, OtherIndex, LengthsDiffer, NoInputs, NoOutputs, NotEsop, NoProduct, TooManyProducts, OtherCount, UnknownLine, NoStep, TooManyStepLines, TextTooLong, NotOneOutput}

-- the number that C and the programs say
abbrev pub number_of : Reason → ℕ
number_of TooManyVariables = 1
number_of CutShort = 2
number_of TooManyRecords = 3
number_of BadRecord = 4
number_of NoRoom = 5
number_of LabelOutside = 6
number_of ScriptCutShort = 7
number_of TooManySteps = 8
number_of BadStep = 9
number_of NoSuchPlace = 10
number_of SamePlace = 11
number_of Full = 13
number_of BadVector = 14
number_of PolarityOutside = 15
number_of Unequal = 16
number_of NotOneApart = 17
number_of NotTwoApart = 18
number_of EqualThere = 19
number_of TooWide = 20
number_of NoSuchOutput = 21
number_of OutputsDiffer = 22
number_of NotMergeable = 23
number_of NotOneToTwelve = 24
number_of OtherIndex = 25
number_of LengthsDiffer = 26
number_of NoInputs = 27
number_of NoOutputs = 28
number_of NotEsop = 29
number_of NoProduct = 30
number_of TooManyProducts = 31
number_of OtherCount = 32
number_of UnknownLine = 33
number_of NoStep = 34
number_of TooManyStepLines = 35
number_of TextTooLong = 36
number_of NotOneOutput = 37

-- what a number is read as: the reason that has it; none has 0, 12 or one above 37
abbrev pub ReadAs : ℕ → Result Reason UnknownReason → Type 0
ReadAs n (Ok r) = number_of r ≡ n
ReadAs n (Err e) = (e.number ≡ n) × ((n ≡ 0) ⊎ ((n ≡ 12) ⊎ (37 < n)))

-- what the programs say of it
abbrev pub words_of : Reason → List ℕ
words_of TooManyVariables = codes "the number of variables is above what this takes, or is no number"
words_of CutShort = codes "the file is cut short: its length is no multiple of a record's"
words_of TooManyRecords = codes "there are more than 4,096 products"
words_of BadRecord = codes "the record is bad: a value bit outside seen, a seen bit at or above the number of variables, or no output"
words_of NoRoom = codes "a buffer is too short"
words_of LabelOutside = codes "the label is no number below 2^n in one to ten digits"
words_of ScriptCutShort = codes "the script is cut short"
words_of TooManySteps = codes "there are more than 1,024 steps"
words_of BadStep = codes "the step is bad: a variable at or above the number of inputs, a literal above 1, or a merge in a script for one output"
words_of NoSuchPlace = codes "there is no product at one of the step's places: count from the list as it stands before the step"
words_of SamePlace = codes "the step needs two places, and both are the same"
words_of Full = codes "a split has no room: the list has 4,096 products"
words_of BadVector = codes "the vector is not one of 2^n bytes, each 0 or 1"
words_of PolarityOutside = codes "the polarity has a bit at or above the number of variables"
words_of Unequal = codes "a drop needs two equal cubes"
words_of NotOneApart = codes "a join needs two cubes that differ in exactly one variable"
words_of NotTwoApart = codes "a turn needs two cubes that differ in exactly two variables"
words_of EqualThere = codes "a turn needs a variable in which its two cubes differ"
words_of TooWide = codes "a list of more than 16 variables can't be narrowed"
words_of NoSuchOutput = codes "there is no such output"
words_of OutputsDiffer = codes "the step needs two products with the same outputs"
words_of NotMergeable = codes "a merge needs two equal cubes with different outputs"
words_of NotOneToTwelve = codes "a map has 1 to 12 outputs"
words_of OtherIndex = codes "the index is not that of this list"
words_of LengthsDiffer = codes "the lengths of the lists don't add up"
words_of NoInputs = codes "the number of inputs must be said once, before the products: .i and a number from 0 to 32"
words_of NoOutputs = codes "the number of outputs must be said once, before the products: .o and a number from 1 to 32"
words_of NotEsop = codes "the type must be said before the products, and must be .type esop: any other PLA means OR"
words_of NoProduct = codes "this is no product: a character 0, 1 or - for each input, then 0, 1, - or ~ for each output"
words_of TooManyProducts = codes "there are more than 4,096 products in some output"
words_of OtherCount = codes ".p must be said at most once, and must be the number of products"
words_of UnknownLine = codes "this is no line of ESOP-PLA: .i .o .type .p .ilb .ob .e .end are read, the last two alone on their line"
words_of NoStep = codes "this is no step: drop I J, join I J, split xV I, turn xV I J, L xV LITERAL, merge I J"
words_of TooManyStepLines = codes "there are more than 1,024 steps"
words_of TextTooLong = codes "the text has more than 1,048,576 bytes"
words_of NotOneOutput = codes "this takes a map of one output"

-- What a row shows of an answer.
-- Assumes nothing.
use Rattle.std.specs.Prelude.{ℕ, Bool, true, false, List, ◌++◌, Option, Some, None, Result, Ok, Err, codes}
use Rattle.std.specs.Fmt.{decimal}
use Rattle.records.specs.declared.Refusal.{Refusal}
use Rattle.polarity.specs.declared.BestPolarity.{BestPolarity}
use Rattle.settling.specs.declared.Settlement.{Settlement}

-- a refusal: its number, its place and its third answer
abbrev pub refused_text : Refusal → List ℕ
refused_text r = codes "= refused " ++ (decimal r.number ++ (codes " at " ++ (decimal r.place ++ (codes " differing " ++ decimal r.differing))))

-- a value after an equals sign, or a refusal
abbrev pub answer_text : {A : Type 0} → (A → List ℕ) → Result A Refusal → List ℕ
answer_text text (Ok a) = codes "= " ++ text a
answer_text text (Err r) = refused_text r

-- two and three numbers with a space between them
abbrev pub two : ℕ → ℕ → List ℕ
two a b = decimal a ++ codes " " ++ decimal b

abbrev pub three : ℕ → ℕ → ℕ → List ℕ
three a b c = two a b ++ codes " " ++ decimal c

-- 1 for yes
abbrev pub flag : Bool → ℕ
flag true = 1
flag false = 0

-- the counts of what is settled, before what is burned
abbrev pub counts_text : ℕ → ℕ → ℕ → List ℕ
counts_text given peak script = codes "given " ++ decimal given ++ codes " peak " ++ decimal peak ++ codes " script " ++ decimal script

-- the best polarity and its size, a stroke for each where there is none
abbrev pub fixed_text : Option BestPolarity → List ℕ
fixed_text (Some best) = two best.polarity best.products
fixed_text None = codes "- -"

abbrev pub settlement_text : Settlement → List ℕ
settlement_text s = counts_text s.given s.peak s.script ++ codes " fixed " ++ fixed_text s.fixed ++ codes " burned " ++ decimal s.burned

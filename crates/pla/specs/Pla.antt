-- A map as text: ESOP-PLA. What it is read as, what is answered, and what is left in the buffer. docs/TEXTS.md.
-- Assumes nothing.
use Rattle.std.specs.Prelude.{Bool, cond, not, ◌||◌, List, [], ◌∷◌, ℕ, eqb, length, get_or, Result, Ok, Err}
use Rattle.pla.specs.declared.MapSize.{MapSize}
use Rattle.records.specs.declared.Refusal.{Refusal}
use Rattle.records.specs.declared.reason.Reason.{Reason}
use Rattle.records.specs.Reasons.{number_of}
use Rattle.records.specs.Records.{image}
use Rattle.records.specs.Answers.{Outcome, accepted, refused, refusal, outcome_of}
use Rattle.shared.specs.declared.Shared.{Shared}
use Rattle.shared.specs.SharedRecord.{shares, shared_capacity}
use Rattle.text.specs.Blanks.{blanks}
use Rattle.lines.specs.Lines.{content}
use Rattle.lines.specs.Words.{first_word, after_word, blank_from}
use Rattle.lines.specs.Gathering.{Says, knows, has, over, bad, Progress, gathered}
use Rattle.lines.specs.Gathering as progress_is
use Rattle.pla.specs.declared.Header.{Header}
use Rattle.pla.specs.declared.Line.{Line}
use Rattle.pla.specs.declared.Line.TheVariants as line_variants
use Rattle.pla.specs.Names.{dot, name_of}
use Rattle.pla.specs.Header.{unsaid, nothing_said, named}
use Rattle.pla.specs.Products.{lacking, product}

-- what line k says before its comment: nothing, a name and what it is for, or a product
unfoldable pub says_before : ℕ → Header → List ℕ → Says Header Shared
says_before k h c =
    cond (blank_from c 0) (knows h) (cond (eqb (get_or c (blanks c) 0) dot) (named k h (name_of (first_word c)) (after_word c)) (product h c))

unfoldable pub line_says : ℕ → Header → List ℕ → Says Header Shared
line_says k h l = says_before k h (content l)

-- a product in no output is in no list
abbrev pub in_some : Shared → Bool
in_some s = not (eqb s.outputs 0)

-- the text through to its end; 31 a product more than there is room for, 36 a text that is too long
unfoldable pub read_through : ℕ → List ℕ → Progress Header Shared
read_through room t = gathered line_says in_some 31 room 36 nothing_said t

-- a map as text: its inputs and outputs, and its products in their order; or a refusal, by a number at a line
pub data Pla : Type 0 where
  made : ℕ → ℕ → List Shared → Pla
  wrong : ℕ → ℕ → Pla

-- at the end, at line k: what is lacking; "`.p` (if it is there it must be the number of products)", else 32 at its line
abbrev pub finished : Header → List Shared → ℕ → Pla
finished h l k =
    cond (eqb (lacking h) 0)
    (cond (eqb h.stated unsaid || eqb h.stated h.products) (made h.inputs h.outputs l) (wrong 32 h.line))
    (wrong (lacking h) k)

abbrev pub at_end : Progress Header Shared → Pla
at_end (progress_is.before h l k) = finished h l k
at_end (progress_is.ended h l k) = finished h l k
at_end (progress_is.refused_by number k) = wrong number k

-- what a text means, where there is room for so many products
unfoldable pub pla_of : ℕ → List ℕ → Pla
pla_of room t = at_end (read_through room t)

-- ---- the call

-- what is answered: the inputs, the outputs and the number of products in some output; or the refusal, whose place is the line
abbrev pub told_of : Pla → Outcome
told_of (made n m l) = accepted (n ∷ m ∷ length l ∷ [])
told_of (wrong number k) = refused (refusal number k)

abbrev pub products_of : Pla → List Shared
products_of (made n m l) = l
products_of (wrong number k) = []

unfoldable pub pla_outcome : List ℕ → ℕ → Outcome
pla_outcome t bytes = told_of (pla_of (shared_capacity bytes) t)

-- the buffer, of so many bytes: the products' records at its front, and zeros after them; after a refusal zeros alone
unfoldable pub pla_after : List ℕ → ℕ → List ℕ
pla_after t bytes = image shares bytes (products_of (pla_of (shared_capacity bytes) t))

-- what the code's answer for a line stands for
abbrev pub line_is : Result Line Reason → Says Header Shared
line_is (Ok (line_variants.Knows h)) = knows h
line_is (Ok (line_variants.Has h s)) = has h s
line_is (Ok line_variants.Over) = over
line_is (Err why) = bad (number_of why)

-- the numbers of each case of the call's answer
abbrev pub read_pla : Result MapSize Refusal → Outcome
read_pla = outcome_of (λ a. a.inputs ∷ a.outputs ∷ a.products ∷ [])

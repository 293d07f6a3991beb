-- Reading at a place of a text: the value and the place after it, or the place that is wrong.
-- Assumes nothing.
use Rattle.std.specs.Prelude.{Bool, true, false, cond, ◌&&◌, List, [], ◌∷◌, ℕ, zero, suc, ◌+◌, ◌*◌, ◌-◌, eqb, ltb, leb, length, get_or, drop, Result, Ok, Err}
use Rattle.cube.specs.declared.Cube.{Cube}
use Rattle.cube.specs.Cubes.{one, with_code}
use Rattle.script.specs.Scripts.{uses_v, uses_i, uses_j, uses_literal}
use Rattle.steps.specs.declared.StepRecord.{StepRecord}
use Rattle.text.specs.declared.Read.{Read}
use Rattle.text.specs.declared.WrongAt.{WrongAt}
use Rattle.text.specs.Blanks.{blank, past_blanks}
use Rattle.text.specs.Numbers.{is_digit}
use Rattle.text.specs.Cubes.{code_of_glyph}
use Rattle.text.specs.Steps.{drop_word, join_word, split_word, turn_word, l_word, variable_lead}

-- what a reader answers: the value and the place after it, or the place that is wrong
abbrev pub Reading : Type 0 → Type 0
Reading A = Result (Read A) WrongAt

abbrev pub read_to : {A : Type 0} → A → ℕ → Reading A
read_to x p = Ok (record { value = x; next = p })

abbrev pub wrong_at : {A : Type 0} → ℕ → Reading A
wrong_at p = Err (record { place = p })

-- what is read is read on, and what is wrong stays so
abbrev pub on_read : {A B : Type 0} → Reading A → (A → ℕ → Reading B) → Reading B
on_read (Ok a) rest = rest a.value a.next
on_read (Err w) rest = Err w

-- ---- words

-- a word, which stands for a number; wrong at the first letter that is another
unfoldable pub word_in : ℕ → List ℕ → List ℕ → ℕ → Reading ℕ
word_in number [] t p = read_to number p
word_in number (w ∷ ws) t p = cond (ltb p (length t) && eqb (get_or t p 0) w) (word_in number ws t (p + 1)) (wrong_at p)

-- ---- numbers

-- x and the digits after it, as far as they go; wrong at the digit that takes the number above `most`
unfoldable pub digits_from : ℕ → List ℕ → ℕ → ℕ → Reading ℕ
digits_from most [] p x = read_to x p
digits_from most (b ∷ t) p x =
    cond (is_digit b) (cond (leb (x * 10 + (b - 48)) most) (digits_from most t (p + 1) (x * 10 + (b - 48))) (wrong_at p)) (read_to x p)

-- a number of at least one digit
unfoldable pub number_in : ℕ → List ℕ → ℕ → Reading ℕ
number_in most t p = cond (is_digit (get_or t p 0)) (digits_from most (drop p t) p 0) (wrong_at p)

-- ---- cubes

-- the codes of `left` variables from k on, put into c
unfoldable pub codes_from : List ℕ → ℕ → ℕ → ℕ → Cube → Reading Cube
codes_from t zero k p c = read_to c p
codes_from t (suc left) k p c =
    cond (ltb (code_of_glyph (get_or t p 0)) 3) (codes_from t left (k + 1) (p + 1) (with_code c k (code_of_glyph (get_or t p 0)))) (wrong_at p)

-- a cube over n variables
abbrev pub cube_in : ℕ → List ℕ → ℕ → Reading Cube
cube_in n t p = codes_from t n 0 p one

-- ---- steps

-- at least one blank, and the place after all of them; past the end there is none
unfoldable pub gap_in : List ℕ → ℕ → Reading ℕ
gap_in t p = cond (blank (get_or t p 0)) (read_to 0 (past_blanks t p)) (wrong_at p)

-- a gap, a lead and a number at most `most`, where the field is used
unfoldable pub field_at : Bool → List ℕ → ℕ → List ℕ → ℕ → Reading ℕ
field_at true lead most t p = on_read (gap_in t p) (λ x q. on_read (word_in 0 lead t q) (λ y z. number_in most t z))
field_at false lead most t p = read_to 0 p

-- the operation, by its name
unfoldable pub operation_at : List ℕ → ℕ → Reading ℕ
operation_at t p =
    cond (eqb (get_or t p 0) 100) (word_in 1 drop_word t p)
    (cond (eqb (get_or t p 0) 106) (word_in 2 join_word t p)
    (cond (eqb (get_or t p 0) 115) (word_in 3 split_word t p)
    (cond (eqb (get_or t p 0) 116) (word_in 4 turn_word t p)
    (word_in 5 l_word t p))))

-- the fields that an operation uses, each as large as its bytes of the record allow; "Fields that an operation does not use are zero"
unfoldable pub fields_at : ℕ → List ℕ → ℕ → Reading StepRecord
fields_at op t p =
    on_read (field_at (uses_v op) variable_lead 255 t p) (λ v a.
    on_read (field_at (uses_i op) [] 65535 t a) (λ i b.
    on_read (field_at (uses_j op) [] 65535 t b) (λ j e.
    on_read (field_at (uses_literal op) [] 255 t e) (λ literal z.
    read_to (record { op = op; v = v; i = i; j = j; literal = literal; zero = 0 }) z))))

unfoldable pub step_in : List ℕ → ℕ → Reading StepRecord
step_in t p = on_read (operation_at t p) (λ op q. fields_at op t q)

-- A line with a product. docs/TEXTS.md, "A map: ESOP-PLA": "cubes `01- 1`". "An output character 1 puts the product into that output, 0, `-` or `~` doesn't."
-- Assumes nothing.
use Rattle.std.specs.Prelude.{cond, ◌||◌, List, [], ◌∷◌, ℕ, ◌+◌, ◌-◌, ◌*◌, ◌^◌, eqb, ltb, leb, Result, Ok, Err, Option, Some, None}
use Rattle.cube.specs.declared.Cube.{Cube}
use Rattle.cube.specs.Cubes.{one, with_code}
use Rattle.cube.specs.Lists.{most_variables}
use Rattle.records.specs.declared.reason.Reason.{Reason}
use Rattle.records.specs.Reasons.{number_of}
use Rattle.shared.specs.declared.Shared.{Shared}
use Rattle.shared.specs.SharedRecord.{sharing}
use Rattle.shared.specs.Outputs.{output_count}
use Rattle.text.specs.Blanks.{blank}
use Rattle.text.specs.Cubes.{code_of_glyph}
use Rattle.lines.specs.Gathering.{Says, has, bad}
use Rattle.pla.specs.declared.Header.{Header}

-- whether a character puts the product into its output: 1 it does, 0 it doesn't, 2 it is no output's character
abbrev pub output_of : ℕ → ℕ
output_of b = cond (eqb b 49) 1 (cond (eqb b 48 || (eqb b 45 || eqb b 126)) 0 2)

-- the characters that are left of a line, blanks left out, from the k-th on: the first n are the codes of the variables, variable 0 first, put into c, and the next m the
-- outputs, output 0 first, added to o
unfoldable pub spelt : ℕ → ℕ → ℕ → Cube → ℕ → List ℕ → Option Shared
spelt n m k c o [] = cond (eqb k (n + m)) (Some (sharing o c)) None
spelt n m k c o (b ∷ l) =
    cond (blank b) (spelt n m k c o l)
    (cond (ltb k n)
    (cond (ltb (code_of_glyph b) 3) (spelt n m (k + 1) (with_code c k (code_of_glyph b)) o l) None)
    (cond (ltb k (n + m))
    (cond (ltb (output_of b) 2) (spelt n m (k + 1) c (o + output_of b * 2 ^ (k - n)) l) None)
    None))

-- one product more; 30 where the line is none
abbrev pub product_said : Header → Option Shared → Says Header Shared
product_said h (Some s) =
    has (record { inputs = h.inputs; outputs = h.outputs; esop = h.esop; stated = h.stated; line = h.line; products = h.products + 1 }) s
product_said h None = bad 30

-- what has to be said before a product, and at the end: 27 the inputs, 28 the outputs (what is not said is above every limit), 29 the type ("or of none, is refused: it means OR"); 0 where all is said
unfoldable pub lacking : Header → ℕ
lacking h = cond (leb h.inputs most_variables) (cond (leb h.outputs output_count) (cond h.esop 0 29) 28) 27

-- the number of the reason by which something is lacking; 0 where all is said
abbrev pub lacks : Result (Unit {0}) Reason → ℕ
lacks (Ok u) = 0
lacks (Err why) = number_of why

-- a line with a product
unfoldable pub product : Header → List ℕ → Says Header Shared
product h l = cond (eqb (lacking h) 0) (product_said h (spelt h.inputs h.outputs 0 one 0 l)) (bad (lacking h))

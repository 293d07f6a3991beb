-- What the lines of a map as text say before its products, and what is refused of them. docs/TEXTS.md, "A map: ESOP-PLA". Refusals of a text have numbers of their own, after 26, and a line.
-- Assumes nothing.
use Rattle.std.specs.Prelude.{Bool, true, false, cond, ◌&&◌, List, ℕ, eqb, leb, Option, Some, None}
use Rattle.cube.specs.Lists.{most_variables}
use Rattle.shared.specs.declared.Shared.{Shared}
use Rattle.shared.specs.Outputs.{output_count}
use Rattle.lines.specs.Words.{only_number, only_word, blank_from}
use Rattle.lines.specs.Gathering.{Says, knows, over, bad}
use Rattle.pla.specs.declared.Header.{Header}
use Rattle.pla.specs.Names.{esop_word}

-- what is not said yet: a number that no line can say
abbrev pub unsaid : ℕ
unsaid = 18446744073709551615

-- of a text of which nothing is read
abbrev pub nothing_said : Header
nothing_said = record { inputs = unsaid; outputs = unsaid; esop = false; stated = unsaid; line = 0; products = 0 }

-- "`.i n`": a number of at most 32, once; else 27
abbrev pub inputs_said : Header → Option ℕ → Says Header Shared
inputs_said h (Some x) = cond (eqb h.inputs unsaid)
    (knows (record { inputs = x; outputs = h.outputs; esop = h.esop; stated = h.stated; line = h.line; products = h.products })) (bad 27)
inputs_said h None = bad 27

-- "`.o m`": a number from 1 to 32, once; else 28
abbrev pub outputs_said : Header → Option ℕ → Says Header Shared
outputs_said h (Some x) = cond (leb 1 x && eqb h.outputs unsaid)
    (knows (record { inputs = h.inputs; outputs = x; esop = h.esop; stated = h.stated; line = h.line; products = h.products })) (bad 28)
outputs_said h None = bad 28

-- "`.type esop`"; "A PLA of another type […] is refused: it means OR", by 29
abbrev pub type_said : Header → Bool → Says Header Shared
type_said h true = knows (record { inputs = h.inputs; outputs = h.outputs; esop = true; stated = h.stated; line = h.line; products = h.products })
type_said h false = bad 29

-- "`.p`": a number, once; else 32. Whether it is the number of products is known at the end, and refused at this line
abbrev pub products_said : ℕ → Header → Option ℕ → Says Header Shared
products_said k h (Some x) = cond (eqb h.stated unsaid)
    (knows (record { inputs = h.inputs; outputs = h.outputs; esop = h.esop; stated = x; line = k; products = h.products })) (bad 32)
products_said k h None = bad 32

-- "`.e` or `.end`", alone; else 33
abbrev pub end_said : Bool → Says Header Shared
end_said true = over
end_said false = bad 33

-- the greatest number of products that a text can state
abbrev pub most_stated : ℕ
most_stated = 1048576

-- line k: a name, as a number, and what stands after it; 33 for a name that is none of these
unfoldable pub named : ℕ → Header → ℕ → List ℕ → Says Header Shared
named k h name l =
    cond (eqb name 1) (inputs_said h (only_number most_variables l))
    (cond (eqb name 2) (outputs_said h (only_number output_count l))
    (cond (eqb name 3) (type_said h (only_word esop_word l))
    (cond (eqb name 4) (products_said k h (only_number most_stated l))
    (cond (eqb name 5) (knows h)
    (cond (eqb name 6) (end_said (blank_from l 0)) (bad 33))))))

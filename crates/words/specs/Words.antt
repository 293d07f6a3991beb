-- The eight words of an answer: the number of the refusal, 0 when accepted; its place; the values in document 01's order, and zeros. A refusal has one value,
-- its third answer (document 02, Four), and of a map the list's number too (document 02, Thirteen).
-- Assumes nothing.
use Rattle.std.specs.Prelude.{ℕ, cond, List, [], ◌∷◌, ◌++◌, eqb, length, take, drop, get_or}
use Rattle.records.specs.Answers.{Outcome, accepted, refused}
use Rattle.settling.specs.declared.Settlement.{Settlement}
use Rattle.settling.specs.Calls.{fixed_values}
use Rattle.selector.specs.Answers.{MapOutcome, map_accepted, map_refused, list_refused}
pub use Rattle.selector.specs.Answers.{after_each}

-- a number, a place and six values, 0 for each that is missing
abbrev pub eight : ℕ → ℕ → List ℕ → List ℕ
eight number place v =
    number ∷ place ∷ get_or v 0 0 ∷ get_or v 1 0 ∷ get_or v 2 0 ∷ get_or v 3 0 ∷ get_or v 4 0 ∷ get_or v 5 0 ∷ []

-- the values of an answer, 0 for each that is missing
abbrev pub six : List ℕ → List ℕ
six v = get_or v 0 0 ∷ get_or v 1 0 ∷ get_or v 2 0 ∷ get_or v 3 0 ∷ get_or v 4 0 ∷ get_or v 5 0 ∷ []

unfoldable pub words : Outcome → List ℕ
words (accepted values) = eight 0 0 values
words (refused r) = eight r.number r.place (r.differing ∷ [])

-- what stands for the best polarity and for its size where there is none, and for the list's number where a refusal belongs to no list
abbrev pub all_ones : ℕ
all_ones = 18446744073709551615

-- settle answers six values, and four above 8 variables, where it has no best polarity: then both of its words are all ones
abbrev pub with_absent : List ℕ → List ℕ
with_absent v = cond (eqb (length v) 4) (take 3 v ++ (all_ones ∷ all_ones ∷ drop 3 v)) v

abbrev pub settlement_values : Settlement → List ℕ
settlement_values s = with_absent (s.given ∷ s.peak ∷ s.script ∷ (fixed_values s.fixed ++ (s.burned ∷ [])))

unfoldable pub settled_words : Outcome → List ℕ
settled_words (accepted values) = words (accepted (with_absent values))
settled_words (refused r) = words (refused r)

-- a group's answer has the entry that it begins at after the number of its entries
abbrev pub with_start : ℕ → Outcome → Outcome
with_start start (accepted values) = accepted (values ++ (start ∷ []))
with_start start (refused r) = refused r

-- a call on a map answers one number; a refusal has its third answer and the list's number (document 02, Thirteen), all ones where it belongs to no list
unfoldable pub map_words : MapOutcome → List ℕ
map_words (map_accepted x) = eight 0 0 (x ∷ [])
map_words (map_refused r) = eight r.number r.place (r.differing ∷ all_ones ∷ [])
map_words (list_refused r k) = eight r.number r.place (r.differing ∷ k ∷ [])

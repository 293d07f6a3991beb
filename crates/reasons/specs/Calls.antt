-- Reasons: what the call answers and leaves. Document 02, One: "Write the places of all products true there, ascending, 2 bytes each, to a lent buffer, and answer
-- their number and the bit".
-- Assumes nothing.
use Rattle.std.specs.Prelude.{List, [], ◌∷◌, ℕ, ◌*◌, leb, length, get_or, Result}
use Rattle.bits.specs.Below.{those}
use Rattle.records.specs.declared.Refusal.{Refusal}
use Rattle.records.specs.Answers.{Outcome, accepted, unless, and_then, after_call, outcome_of}
use Rattle.records.specs.Records.{written}
use Rattle.records.specs.Places.{place_width, places}
use Rattle.cube.specs.declared.Cube.{Cube}
use Rattle.cube.specs.Cubes.{one, holds}
use Rattle.cube.specs.Lists.{cubes_of, list_value}
use Rattle.cube.specs.Calls.{check_at}
use Rattle.reasons.specs.declared.TrueProducts.{TrueProducts}

-- "the places of all products true there, ascending"
unfoldable pub true_places : ℕ → List Cube → ℕ → List ℕ
true_places n l a = those (λ i. holds n (get_or l i one) a) (length l) 0

-- "Refusals: those of the value call, then 5 for a buffer shorter than 2 bytes a record"; accepted, "their number and the bit"
unfoldable pub reasons_outcome : ℕ → List ℕ → ℕ → ℕ → Outcome
reasons_outcome n b a room =
    and_then (check_at n b a)
    (unless (leb (place_width * length (cubes_of b)) room) 5 0
    (accepted (length (true_places n (cubes_of b) a) ∷ list_value n (cubes_of b) a ∷ [])))

-- the buffer after it: the places at its front, and no other byte
unfoldable pub reasons_after : ℕ → List ℕ → ℕ → List ℕ → List ℕ
reasons_after n b a out = after_call (reasons_outcome n b a (length out)) (written places 0 (true_places n (cubes_of b) a) out) out

-- the number and values for each case of the answer
abbrev pub reasoned : Result TrueProducts Refusal → Outcome
reasoned = outcome_of (λ a. a.count ∷ a.bit ∷ [])

-- Bytes of a text, and where one first stands.
-- Assumes nothing.
use Rattle.std.specs.Prelude.{Bool, true, false, List, [], ◌∷◌, ℕ, suc, eqb, take, drop}

-- the place of a text's first byte, where it is the one looked for, or one after the place in the rest
unfoldable pub index_after : Bool → ℕ → ℕ
index_after true k = 0
index_after false k = suc k

-- the first place of a byte in a text, or the text's length where it isn't there
unfoldable pub index_of : ℕ → List ℕ → ℕ
index_of b [] = 0
index_of b (x ∷ l) = index_after (eqb x b) (index_of b l)

-- the bytes from..end of a text
unfoldable pub slice : ℕ → ℕ → List ℕ → List ℕ
slice from end l = drop from (take end l)

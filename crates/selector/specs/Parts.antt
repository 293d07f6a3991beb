-- Inside: lists end to end, cut by their lengths one after the other.
-- Assumes nothing.
use Rattle.std.specs.Prelude.{ℕ, List, [], ◌∷◌, take, drop}

-- the parts of a buffer, one for each length
abbrev pub parts_of : List ℕ → List ℕ → List (List ℕ)
parts_of [] b = []
parts_of (k ∷ ks) b = take k b ∷ parts_of ks (drop k b)

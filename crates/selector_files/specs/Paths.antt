-- Inside: the path of a file of a map. The folder's name comes with its slash, or is empty for the folder that the program is run in.
-- Assumes nothing.
use Rattle.std.specs.Prelude.{List, [], ◌∷◌, ◌++◌, ℕ}
use Rattle.text.specs.Numbers.{decimal}

-- `bit`, the number of the slot bit in decimal, and the ending
unfoldable pub bit_path : List ℕ → ℕ → List ℕ → List ℕ
bit_path folder k ending = ((folder ++ (98 ∷ 105 ∷ 116 ∷ [])) ++ decimal k) ++ ending

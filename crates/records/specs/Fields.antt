-- Records whose fields are numbers, end to end, each of its own width.
-- Assumes nothing.
use Rattle.std.specs.Prelude.{ℕ, ◌+◌, ◌*◌, List, [], ◌∷◌, ◌++◌, length}
use Rattle.records.specs.Numbers.{bytes_of, number_at}
use Rattle.records.specs.Records.{Codec, zeros}

-- the bytes of all fields
abbrev pub total : List ℕ → ℕ
total [] = 0
total (w ∷ ws) = w + total ws

-- the bytes of as many numbers as there are widths
abbrev pub field_bytes : List ℕ → List ℕ → List ℕ
field_bytes [] xs = []
field_bytes (w ∷ ws) [] = []
field_bytes (w ∷ ws) (x ∷ xs) = bytes_of w x ++ field_bytes ws xs

-- the numbers of these widths from byte `base + at` on
abbrev pub numbers_at : List ℕ → List ℕ → ℕ → ℕ → List ℕ
numbers_at [] b base at = []
numbers_at (w ∷ ws) b base at = number_at w b (base + at) ∷ numbers_at ws b base (at + w)

-- the kind of record that has numbers of these widths for its fields
abbrev pub by_fields : {A : Type 0} → List ℕ → (A → List ℕ) → (List ℕ → A) → Codec A
by_fields widths fields of = record {
  width = total widths;
  enc = λ a. field_bytes widths (fields a);
  read = λ b i. of (numbers_at widths b (total widths * i) 0);
  none = of (zeros (length widths));
}

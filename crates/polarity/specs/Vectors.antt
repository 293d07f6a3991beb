-- Truth vectors and coefficients as bytes. Document 01, "Fixed polarity": "A truth vector is 2^n bytes, each 0 or 1, indexed by assignment."
-- Assumes nothing.
use Rattle.std.specs.Prelude.{◌≡◌, Bool, List, [], ◌∷◌, ℕ, ◌^◌, ◌≤◌, ◌<◌, leb, eqb, length, get_or}
use Rattle.bits.specs.Below.{list_below}
use Rattle.records.specs.Answers.{Outcome, accepted, unless, unless_at}
use Rattle.cube.specs.Lists.{vector_variables}
use Rattle.polarity.specs.Forms.{coefficient, value_back}

-- the byte at an index
abbrev pub byte_at : List ℕ → ℕ → ℕ
byte_at l t = get_or l t 0

-- l is a vector of n variables
pub record Vector (n : ℕ) (l : List ℕ) : Type 0 where
  pub few : n ≤ vector_variables
  pub long : length l ≡ 2 ^ n
  pub bits : (t : ℕ) → byte_at l t < 2

-- not "a byte above 1"
abbrev pub is_bit : ℕ → Bool
is_bit x = leb x 1

-- 1 and 14: "vector or coefficient length not 2^n (place 2^n), else a byte above 1", at the "lowest such byte"
unfoldable pub check_vector : ℕ → List ℕ → Outcome
check_vector n l =
    unless (leb n vector_variables) 1 0
    (unless (eqb (length l) (2 ^ n)) 14 (2 ^ n)
    (unless_at is_bit 14 l
    (accepted (2 ^ n ∷ []))))

-- the coefficients of a vector under p, and the vector of coefficients under p
abbrev pub coefficient_vector : ℕ → ℕ → List ℕ → List ℕ
coefficient_vector n p l = list_below (2 ^ n) (coefficient n p (byte_at l))

abbrev pub vector_back : ℕ → ℕ → List ℕ → List ℕ
vector_back n p l = list_below (2 ^ n) (value_back n p (byte_at l))

-- What it means that a call with the short script answers the same but for the peak; and two scripts for which nothing is claimed. Document 02, Eleven: "Where the
-- given script is not refused, the short one is not refused either, and ends with the same list, with a peak no higher."
-- Assumes nothing.
use Rattle.std.specs.Prelude.{◌≡◌, List, [], ◌∷◌, ℕ, ◌≤◌, get_or, set}
use Rattle.records.specs.Answers.{Outcome, accepted}

-- accepted with the same values but for the second one, which is no higher: of run and of settle the second value is the peak
pub record SameButPeak (v : List ℕ) (o : Outcome) : Type 0 where
  pub peak : ℕ
  pub is : o ≡ accepted (set v 1 peak)
  pub no_higher : peak ≤ get_or v 1 0

-- ---- what is not claimed: two scripts over 1 variable

-- turn v=0 0 1, twice
abbrev pub two_turns : List ℕ
two_turns = 4 ∷ 0 ∷ 0 ∷ 0 ∷ 1 ∷ 0 ∷ 0 ∷ 0 ∷ 4 ∷ 0 ∷ 0 ∷ 0 ∷ 1 ∷ 0 ∷ 0 ∷ 0 ∷ []

-- split v=0 0, and then join 0 1
abbrev pub split_and_join : List ℕ
split_and_join = 3 ∷ 0 ∷ 0 ∷ 0 ∷ 0 ∷ 0 ∷ 0 ∷ 0 ∷ 2 ∷ 0 ∷ 0 ∷ 0 ∷ 1 ∷ 0 ∷ 0 ∷ 0 ∷ []

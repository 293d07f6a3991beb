-- What it means that a converter undoes the other. Document 02, Seven: "wide from narrow gives the same cubes at the same places, and narrow from wide undoes it".
-- Assumes nothing.
use Rattle.std.specs.Prelude.{◌≡◌, List, [], ◌∷◌, ℕ, length, take, drop}
use Rattle.records.specs.Answers.{Outcome, accepted}

-- a call that answered o and made out' of out: accepted with the count k, the bytes b are at the front again, and those after them are as they were
pub record Undone (o : Outcome) (k : ℕ) (b out out' : List ℕ) : Type 0 where
  pub answer : o ≡ accepted (k ∷ [])
  pub bytes : take (length b) out' ≡ b
  pub rest : drop (length b) out' ≡ drop (length b) out

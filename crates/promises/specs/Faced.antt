-- The eight words that a caller from C or Rust reads of a map that was settled.
-- Assumes nothing.
use Rattle.std.specs.Prelude.{◌≡◌, List, [], ◌∷◌, ℕ, Option, Some, None, Ok}
use Rattle.druthmoy.specs.Faces.{all_ones}
use Rattle.polarity.specs.declared.BestPolarity.{BestPolarity}
use Rattle.settling.specs.declared.Settlement.{Settlement}
use Rattle.settling.specs.Calls.{settled}
use Rattle.promises.specs.Calls.{settle, Called}

-- the words of the best polarity and of its size; both all ones where there is none
abbrev pub polarity_word : Option BestPolarity → ℕ
polarity_word (Some best) = best.polarity
polarity_word None = all_ones

abbrev pub size_word : Option BestPolarity → ℕ
size_word (Some best) = best.products
size_word None = all_ones

-- an accepted call of settle, of which the demands speak, and its counts in the words 2 to 7
pub record SettledFace (n : ℕ) (list script work out : List ℕ) (answer work' out' : List ℕ) : Type 0 where
  pub settlement : Settlement
  pub called : Called (settle n list script work out) (settled (Ok settlement)) (work' ∷ out' ∷ [])
  pub counts : answer
      ≡ 0 ∷ 0 ∷ settlement.given ∷ settlement.peak ∷ settlement.script ∷ polarity_word settlement.fixed ∷ size_word settlement.fixed ∷ settlement.burned ∷ []

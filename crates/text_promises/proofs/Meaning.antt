-- What a text means: the value of each output of the map that it is read as.
-- Assumes nothing.
use mathlib.Core.Path.{◌≡◌, ap}
use mathlib.Core.List.{List}
use Prim.Native.Nat.{ℕ}
use Rattle.shared.specs.declared.Shared.{Shared}
use Rattle.shared.specs.Outputs.{output_value}
use Rattle.pla.specs.Pla.{Pla, made, wrong, pla_of}
use Rattle.text_promises.specs.TextMeaning.{pla_value, text_value}

module _ (room : ℕ) (t : List ℕ) where
  -- A text that is read means the value of each output of its map at each assignment, ..
  pub what_a_text_means : (n m : ℕ) (l : List Shared) → pla_of room t ≡ made n m l → (k a : ℕ) → text_value room k t a ≡ output_value n k l a
  unfolding text_value
  what_a_text_means n m l e k a = ap (λ (p : Pla). pla_value k p a) e

  -- .. and one that is refused means 0 everywhere.
  pub refused_means_nothing : (number line : ℕ) → pla_of room t ≡ wrong number line → (k a : ℕ) → text_value room k t a ≡ 0
  unfolding text_value
  refused_means_nothing number line e k a = ap (λ (p : Pla). pla_value k p a) e

-- Words of source document 000: its rules as the steps do them, and its L-transformation.
-- Assumes nothing.
use Rattle.std.specs.Prelude.{◌≡◌, ◌≢◌, List, [], ◌∷◌, ℕ, ◌-◌, ◌<◌}
use Rattle.cube.specs.declared.Cube.{Cube}
use Rattle.cube.specs.Cubes.{code, put}
use Rattle.cube.specs.Lists.{list_value}
use Rattle.orders.specs.Codes.{third}
use Rattle.steps.specs.Moves.{drops, joins, splits, turns}
use Rattle.steps.specs.Steps.{drop_move, join_move, split_move, turn_move}
use Rattle.steps.specs.Effects.{TwoPlaces}

-- "0 for the complemented literal, 1 for the plain one, 2 for absent" (document 01)
abbrev pub complemented : ℕ
complemented = 0

abbrev pub plain : ℕ
plain = 1

abbrev pub absent : ℕ
absent = 2

-- 000's bar: the other literal of a variable
abbrev pub bar : ℕ → ℕ
bar r = 1 - r

-- "The third of two different codes is the remaining one of 0, 1, 2" (document 01): z is that of x and y
pub record IsThird (x y z : ℕ) : Type 0 where
  pub first : x < 3
  pub second : y < 3
  pub unlike : y ≢ x
  pub is : third x y ≡ z

-- 000's f ≡ g: two lists, be they different, are the same function
abbrev pub Same : ℕ → List Cube → List Cube → Type 0
Same n f g = (a : ℕ) → list_value n f a ≡ list_value n g a

-- ---- rewrite rules: what the step decides of the left side, wherever its cubes stand; and both sides are the same function

-- a ⊕ b → 0, as S6, 1 ⊕ 1 → 0
pub record DropRule (n : ℕ) (a b : Cube) : Type 0 where
  pub decided : (count i j : ℕ) → TwoPlaces count i j → drop_move n count i j a b ≡ drops
  pub same : Same n (a ∷ b ∷ []) []

-- a ⊕ b → x, as S1, x ⊕ x̄ → 1, and S2, x ⊕ 1 → x̄
pub record JoinRule (n : ℕ) (a b x : Cube) : Type 0 where
  pub decided : (count i j : ℕ) → TwoPlaces count i j → join_move n count i j a b ≡ joins x
  pub same : Same n (a ∷ b ∷ []) (x ∷ [])

-- a → x ⊕ y at the variable v, as 1S, 1 → x ⊕ x̄, and 2S, x̄ → x ⊕ 1
pub record SplitRule (n v : ℕ) (a x y : Cube) : Type 0 where
  pub decided : (count cap i : ℕ) → i < count → count < cap → split_move count cap v i a ≡ splits x y
  pub same : Same n (a ∷ []) (x ∷ y ∷ [])

-- a ⊕ b → x ⊕ y by the turn at the variable v, as S3, xy ⊕ ȳ → 1 ⊕ x̄y, S4, xy ⊕ x̄ȳ → x̄ ⊕ y, and S5, xy ⊕ x̄ȳ → x ⊕ ȳ
pub record TurnRule (n v : ℕ) (a b x y : Cube) : Type 0 where
  pub decided : (count i j : ℕ) → TwoPlaces count i j → turn_move n count v i j a b ≡ turns x y
  pub same : Same n (a ∷ b ∷ []) (x ∷ y ∷ [])

-- ---- 000, definition 4.1: a product loses the literal r where it has it, and gains it where it has no literal of r's variable

-- the term c becomes d; r is the literal of the variable v with code b
pub record Transformed (v b : ℕ) (c d : Cube) : Type 0 where
  pub deletes : code c v ≡ b → d ≡ put c v absent
  pub adds : code c v ≡ absent → d ≡ put c v b
  pub leaves : code c v ≢ b → code c v ≢ absent → d ≡ c

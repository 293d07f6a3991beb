-- Where a byte first stands in a text: as many bytes before it as are another.
-- Assumes nothing.
use mathlib.Core.Path.{◌≡◌, refl}
use mathlib.Core.Bool.{Bool, true, false, not, cond}
use mathlib.Core.List.{List, [], ◌∷◌}
use Prim.Native.Nat.{ℕ, suc, ◌+◌}
use native.Mathlib.Omega.{arith}
use lib.Dec.{eqb}
use Rattle.std.specs.List.{prefix_len}
use Rattle.lines.specs.Bytes.{index_of, index_after}

pub index_prefix : (b : ℕ) (l : List ℕ) → prefix_len (λ (x : ℕ). not (eqb x b)) l ≡ index_of b l
unfolding index_of index_after
index_prefix b [] = refl
index_prefix b (x ∷ l) = go (eqb x b) _ _ (omega (arith, index_prefix b l))
  where
    go : (s : Bool) (m n : ℕ) → 1 + m ≡ suc n → cond (not s) (1 + m) 0 ≡ index_after s n
    go true m n e = refl
    go false m n e = e

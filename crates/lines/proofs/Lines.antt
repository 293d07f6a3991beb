-- The lines of a text, from a place on: the line there, and those after its newline.
-- Assumes nothing.
use mathlib.Core.Path.{◌≡◌, refl, sym, ap, ap₂, ◌∙◌}
use mathlib.Core.Bool.{Bool, true, false, cond}
use mathlib.Core.List.{List, [], ◌∷◌}
use Prim.Native.Nat.{ℕ, suc, ◌+◌, ◌-◌, ◌≤◌, ◌<◌}
use native.Mathlib.Nat.{add-zero}
use native.Mathlib.Omega.{arith}
use lib.Dec.{eqb}
use lib.ListN.{length, take, drop, drop_of_length-le, length-drop}
use lib.Seq.{take-length, length-take-le, drop-drop}
use Rattle.io.specs.Counts.{IsPrefixLen}
use Rattle.lines.specs.Bytes.{index_of, index_after, slice}
use Rattle.lines.specs.Lines.{newline, begun, lines}

-- ---- where a byte first stands

after_le : (s : Bool) {k n : ℕ} → k ≤ n → index_after s k ≤ suc n
unfolding index_after
after_le true h = omega arith
after_le false h = omega arith

pub index_le : (b : ℕ) (l : List ℕ) → index_of b l ≤ length l
unfolding index_of
index_le b [] = omega arith
index_le b (x ∷ l) = after_le (eqb x b) (index_le b l)

-- the index of a byte counts bytes of the text
pub counts_index : (b : ℕ) (l : List ℕ) {r : ℕ} → r ≡ index_of b l → IsPrefixLen r l
counts_index b l {r} e =
    let h : r ≤ length l = omega (arith, index_le b l) in
    (h, sym (length-take-le r l h))

-- ---- the first line of a text

by_byte : (b : ℕ) (s : Bool) (t : List ℕ) (k : ℕ) → begun b (lines t) ≡ (b ∷ take k t) ∷ lines (drop (suc k) t)
    → cond s ([] ∷ lines t) (begun b (lines t)) ≡ take (index_after s k) (b ∷ t) ∷ lines (drop (suc (index_after s k)) (b ∷ t))
unfolding index_after
by_byte b true t k e = refl
by_byte b false t k e = e

first_line : (b : ℕ) (t : List ℕ) → lines (b ∷ t) ≡ take (index_of newline (b ∷ t)) (b ∷ t) ∷ lines (drop (suc (index_of newline (b ∷ t))) (b ∷ t))
unfolding lines index_of
first_line b [] = by_byte b (eqb b newline) [] 0 refl
first_line b (c ∷ t) = by_byte b (eqb b newline) (c ∷ t) (index_of newline (c ∷ t)) (ap (begun b) (first_line c t))

some_line : (s : List ℕ) → 0 < length s → lines s ≡ take (index_of newline s) s ∷ lines (drop (suc (index_of newline s)) s)
some_line [] h = absurd (omega arith)
some_line (b ∷ t) h = first_line b t

-- ---- the line at a place, which ends at its newline

module _ (t : List ℕ) (at : ℕ) {end : ℕ} (e : end ≡ at + index_of newline (drop at t)) where
  pub line_end_least : at ≤ end
  line_end_least = omega arith

  pub line_end_within : at ≤ length t → end ≤ length t
  line_end_within h = omega (arith, index_le newline (drop at t), length-drop at t)

  pub lines_at : at < length t → lines (drop at t) ≡ take (end - at) (drop at t) ∷ lines (drop (end + 1) t)
  lines_at h =
      let some : 0 < length (drop at t) = omega (arith, length-drop at t) in
      let count : index_of newline (drop at t) ≡ end - at = omega arith in
      let next : at + suc (index_of newline (drop at t)) ≡ end + 1 = omega arith in
      some_line (drop at t) some
      ∙ ap₂ (λ (x : List ℕ) (y : List (List ℕ)). x ∷ y)
      (ap (λ (k : ℕ). take k (drop at t)) count)
      (ap lines (drop-drop (suc (index_of newline (drop at t))) at t ∙ ap (λ (k : ℕ). drop k t) next))

pub lines_past : (t : List ℕ) {at : ℕ} → length t ≤ at → lines (drop at t) ≡ []
unfolding lines
lines_past t h = ap lines (drop_of_length-le t h)

-- The rows of a work buffer, looked at in turn: the loop over them, and the new cube before it.
-- Assumes nothing.
use mathlib.Core.Path.{◌≡◌, refl, sym, ap, ◌∙◌, subst}
use mathlib.Core.Bool.{Bool, false, cond, true≢false}
use mathlib.Core.List.{List}
use Prim.Native.Nat.{ℕ, ◌+◌, ◌≤◌, ◌<◌, zero-le}
use native.Mathlib.Decide.{ℕ_discrete}
use native.Mathlib.Omega.{arith}
use lib.ListN.{length, get_or, set, length-set}
use borrow.Author.Tests.{eq-eqb, ne_eqb}
use Rattle.bits.specs.Below.{FirstIn}
use Rattle.records.specs.Records.{records}
use Rattle.records.proofs.Records.{length_records}
use Rattle.cube.specs.declared.Cube.{Cube}
use Rattle.cube.specs.Lists.{cubes}
use Rattle.writer.specs.Pairs.{pair_at, partner, has_pair, IsPair}
use Rattle.writer.specs.Watching.{Watched, FoundPair, looked}
use Rattle.writer.proofs.Pairs.{pair_partner}
use Rattle.writer.proofs.Watching.{watched_rows, found_new, row_of, found_none, found_row, watched_more}

module _ (n : ℕ) (l : List Cube) (i mark : ℕ) where
  pub looked_unmarked : mark ≡ 0 → looked mark n l i ≡ partner n l i
  unfolding looked
  looked_unmarked z = ap (λ (t : Bool). cond t (partner n l i) (length l)) (eq-eqb mark 0 z)

  pub looked_marked : (mark ≡ 0 → ⊥) → looked mark n l i ≡ length l
  unfolding looked
  looked_marked z = ap (λ (t : Bool). cond t (partner n l i) (length l)) (ne_eqb mark 0 z)

-- the rows below r are done, and there are as many marks as there were
pub record Rows (n : ℕ) (l : List Cube) (marks₀ : List ℕ) (r : ℕ) (marks : List ℕ) : Type 0 where
  pub watched : Watched n l r (length l) marks
  pub long : length marks ≡ length marks₀

module _ (n count : ℕ) (b : List ℕ) where
  abbrev l : List Cube
  l = records cubes count b

  size : length (records cubes count b) ≡ count
  size = length_records cubes count b

  -- ---- the loop

  module _ (marks₀ : List ℕ) where
    pub rows_none : (row : ℕ) → Watched n (records cubes count b) row count marks₀ → Rows n (records cubes count b) marks₀ row marks₀
    rows_none row w = record { watched = subst (λ (k : ℕ). Watched n l row k marks₀) (sym size) w; long = refl }

    module _ (r : ℕ) (marks : List ℕ) (w : Rows n (records cubes count b) marks₀ r marks) where
      pub rows_end : count ≤ r → has_pair n (records cubes count b) ≡ false
      rows_end h = found_none n l r marks w.watched (omega (arith, size))

      module _ (h : r < count) (j : ℕ) (ej : j ≡ looked (get_or marks r 0) n (records cubes count b) r) where
        pub rows_found : j < count → FoundPair n (records cubes count b) marks (record { i = r; j = j })
        rows_found g =
            elim (ℕ_discrete (get_or marks r 0) 0) [
              | yes z ↦ found (ej ∙ looked_unmarked n l r (get_or marks r 0) z)
              | no z ↦ absurd (omega (arith, ej, looked_marked n l r (get_or marks r 0) z, size))
            ]
          where
            found : j ≡ partner n l r → FoundPair n l marks (record { i = r; j = j })
            found e =
                subst (λ (k : ℕ). FoundPair n l marks (record { i = r; j = k })) (sym e)
                (found_row n l r marks w.watched (omega (arith, size)) (omega (arith, e, size)))

        pub rows_more : count ≤ j → Rows n (records cubes count b) marks₀ (r + 1) (set marks r 1)
        rows_more g = record {
          watched = watched_more n l r marks w.watched (omega (arith, size)) 1 none;
          long = length-set marks r 1 ∙ w.long;
        }
          where
            none : (s : ℕ) → IsPair n l r s → ⊥
            none s p =
                let e = looked_unmarked n l r (get_or marks r 0) (row_of n l r marks w.watched r s p).1 in
                omega (arith, ej, e, pair_partner n l r s p, p.inside, size)

  -- ---- the new cube at row

  module _ (row : ℕ) (marks : List ℕ) (w : Watched n (records cubes count b) row row marks) where
    only_rows : ((r : ℕ) → IsPair n l r row → ⊥) → Watched n l row count marks
    only_rows f = subst (λ (k : ℕ). Watched n l row k marks) size (watched_rows n l row row marks w f)

    pub find_past : count ≤ row → Watched n (records cubes count b) row count marks
    find_past h = only_rows (λ r p. omega (arith, p.inside, size))

    module _ (k : ℕ) (q : FirstIn (λ s. pair_at n (records cubes count b) s row) 0 row k) where
      pub find_none : row ≤ k → Watched n (records cubes count b) row count marks
      find_none h = only_rows (λ r p. true≢false (sym p.near ∙ q.before.none r zero-le (omega (arith, p.above))))

      pub find_low : row < count → k < row → FoundPair n (records cubes count b) marks (record { i = k; j = row })
      find_low h g = found_new n l row row marks w refl (omega (arith, size)) k q g

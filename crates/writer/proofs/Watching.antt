-- The rows that have to be looked at: what a search leaves of them, and what a step does to them.
-- Assumes nothing.
use mathlib.Core.Path.{◌≡◌, sym, ap, ap₂, ◌∙◌, subst}
use mathlib.Core.Logic.{◌≢◌, ◌⊎◌, inl, inr, ⊎_elim}
use mathlib.Core.Bool.{true≢false, false}
use mathlib.Core.List.{List}
use Prim.Native.Nat.{ℕ, ◌+◌, ◌-◌, ◌≤◌, ◌<◌, zero-le}
use native.Mathlib.Decide.{ℕ_discrete}
use native.Mathlib.Omega.{arith}
use lib.ListN.{length, get_or, set, length-set}
use lib.Seq.{get_or-set_same, get_or-set_other}
use Rattle.bits.specs.Below.{FirstIn}
use Rattle.bits.proofs.Bools.{below_or}
use Rattle.cube.specs.declared.Cube.{Cube}
use Rattle.cube.specs.Cubes.{one}
use Rattle.steps.specs.Steps.{cube_at}
use Rattle.writer.specs.Pairs.{pair, pair_at, partner, IsPair, First, has_pair}
use Rattle.writer.specs.Watching.{Watched, FoundPair}
use Rattle.writer.proofs.Pairs.{partner_pair, pair_partner, left_none}
use Rattle.writer.proofs.Moves.{Moved}

-- ---- the search

module _ (n : ℕ) (l : List Cube) (row new : ℕ) (marks : List ℕ) (w : Watched n l row new marks) where
  -- no pair is with the new place, or it is none: then nothing has to be looked at but the rows
  pub watched_rows : ((r : ℕ) → IsPair n l r new → ⊥) → Watched n l row (length l) marks
  watched_rows f = record {
    only = λ r s p. ⊎_elim (λ e. absurd (f r (subst (IsPair n l r) e p))) inr (w.only r s p);
  }

  -- rows that are still to be looked at are among those that were not marked
  pub watched_kept : Watched n l 0 new marks
  watched_kept = record { only = λ r s p. ⊎_elim inl (λ t. inr (zero-le, t.1)) (w.only r s p) }

  -- the lowest row that makes a pair with the new place is the first pair's
  pub found_new : new ≡ row → row < length l → (k : ℕ) → FirstIn (λ s. pair_at n l s new) 0 new k → k < new → FoundPair n l marks (record { i = k; j = new })
  found_new e h k q g = record {
    first = record { is = record { above = g; inside = omega (arith, e); near = q.passes g }; least = λ r s p. go r s p (w.only r s p) };
    kept = watched_kept;
  }
    where
      go : (r s : ℕ) → IsPair n l r s → (s ≡ new) ⊎ ((row ≤ r) × (get_or marks r 0 ≡ 0)) → (k < r) ⊎ ((k ≡ r) × (new ≤ s))
      go r s p (inr t) = inl (omega (arith, e, t.0))
      go r s p (inl t) =
          elim (ℕ_discrete k r) [
            | yes d ↦ inr (d, omega (arith, t))
            | no d ↦ ⊎_elim
                (λ b. absurd (true≢false (sym p.near ∙ ap (pair_at n l r) t ∙ q.before.none r zero-le b)))
                (λ b. inl (omega (arith, d))) (below_or r k)
          ]

-- over the rows in turn
module _ (n : ℕ) (l : List Cube) (row : ℕ) (marks : List ℕ) (w : Watched n l row (length l) marks) where
  -- a pair's row
  pub row_of : (r s : ℕ) → IsPair n l r s → (row ≤ r) × (get_or marks r 0 ≡ 0)
  row_of r s p = ⊎_elim (λ e. absurd (omega (arith, e, p.inside))) (λ t. t) (w.only r s p)

  pub found_none : length l ≤ row → has_pair n l ≡ false
  found_none h = left_none n l (λ r s p. omega (arith, (row_of r s p).0, p.above, p.inside))

  module _ (h : row < length l) where
    pub found_row : partner n l row < length l → FoundPair n l marks (record { i = row; j = partner n l row })
    found_row g = record {
      first = record { is = partner_pair n l row h g; least = least };
      kept = record { only = λ r s p. inr (zero-le, (row_of r s p).1) };
    }
      where
        least : (r s : ℕ) → IsPair n l r s → (row < r) ⊎ ((row ≡ r) × (partner n l row ≤ s))
        least r s p =
            elim (ℕ_discrete row r) [
              | yes e ↦ inr (e, subst (λ (x : ℕ). partner n l x ≤ s) (sym e) (pair_partner n l r s p))
              | no d ↦ inl (omega (arith, d, (row_of r s p).0))
            ]

    -- a row without a partner is marked
    pub watched_more : (m : ℕ) → ((s : ℕ) → IsPair n l row s → ⊥) → Watched n l (row + 1) (length l) (set marks row m)
    watched_more m f = record { only = λ r s p. inr (more r s p) }
      where
        more : (r s : ℕ) → IsPair n l r s → (row + 1 ≤ r) × (get_or (set marks row m) r 0 ≡ 0)
        more r s p =
            let t = row_of r s p in
            let d : r ≢ row = λ e. f s (subst (λ (x : ℕ). IsPair n l x s) e p) in
            (omega (arith, t.0, d), get_or-set_other marks row r m 0 d ∙ t.1)

-- ---- a step: two marks are taken away

zeroed : (marks : List ℕ) (i r : ℕ) → i < length marks → (r ≡ i) ⊎ (get_or marks r 0 ≡ 0) → get_or (set marks i 0) r 0 ≡ 0
zeroed marks i r h t = elim (ℕ_discrete r i) [ yes q ↦ at q | no q ↦ get_or-set_other marks i r 0 0 q ∙ ⊎_elim (λ e. absurd (q e)) (λ e. e) t ]
  where
    at : r ≡ i → get_or (set marks i 0) r 0 ≡ 0
    at q = ap (λ (k : ℕ). get_or (set marks i 0) k 0) q ∙ get_or-set_same marks i 0 0 h

module _ (n : ℕ) (l m : List Cube) (i j : ℕ) (is : First n l i j) (moved : Moved one l m i j) (marks : List ℕ) (room : length l ≤ length marks)
    (kept : Watched n l 0 j marks) where
  abbrev marks₂ : List ℕ
  marks₂ = set (set marks i 0) j 0

  clear : (r : ℕ) → (r ≡ j) ⊎ ((r ≡ i) ⊎ (get_or marks r 0 ≡ 0)) → get_or marks₂ r 0 ≡ 0
  clear r t =
      zeroed (set marks i 0) j r (omega (arith, is.is.inside, length-set marks i 0))
      (⊎_elim inl (λ u. inr (zeroed marks i r (omega (arith, is.is.above, is.is.inside)) u)) t)

  -- a pair of the old list, with another row and another place than those of the step
  old : (r s : ℕ) → IsPair n l r s → s ≢ j → (i ≤ r) × (get_or marks₂ r 0 ≡ 0)
  old r s p b = (
    ⊎_elim (λ h. omega arith) (λ h. omega (arith, h.0)) (is.least r s p),
    clear r (inr (inr (⊎_elim (λ e. absurd (b e)) (λ t. t.1) (kept.only r s p)))),
  )

  -- the new cube is at i; every other pair is made by a row from i on that is not marked
  pub watched_next : Watched n m i i marks₂
  watched_next = record { only = λ r s p. by r s p (ℕ_discrete s i) (ℕ_discrete r i) (ℕ_discrete r j) (ℕ_discrete s j) }
    where
      by : (r s : ℕ) → IsPair n m r s → Dec (s ≡ i) → Dec (r ≡ i) → Dec (r ≡ j) → Dec (s ≡ j) → (s ≡ i) ⊎ ((i ≤ r) × (get_or marks₂ r 0 ≡ 0))
      by r s p (yes a) b c d = inl a
      by r s p (no a) (yes b) c d = inr (omega (arith, b), clear r (inr (inl b)))
      by r s p (no a) (no b) (yes c) d = inr (omega (arith, c, is.is.above), clear r (inl c))
      by r s p (no a) (no b) (no c) (yes d) =
          let t = moved.last (omega (arith, d, p.inside)) in
          inr (old r (length l - 1) (record {
            above = omega (arith, d, t.0, p.above);
            inside = omega (arith, t.0);
            near = sym (ap₂ (pair n) (moved.other r (omega (arith, p.above, p.inside)) b c) (ap (cube_at m) d ∙ t.1)) ∙ p.near;
          }) (λ e. omega (arith, t.0)))
      by r s p (no a) (no b) (no c) (no d) =
          inr (old r s (record {
            above = p.above;
            inside = omega (arith, moved.fewer, p.inside);
            near = sym (ap₂ (pair n) (moved.other r (omega (arith, p.above, p.inside)) b c) (moved.other s p.inside a d)) ∙ p.near;
          }) d)

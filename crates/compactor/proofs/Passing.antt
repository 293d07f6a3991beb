-- The steps left, in one pass: those kept so far have no pair, and the next step undoes the last of them, or is kept.
-- Assumes nothing.
use mathlib.Core.Path.{◌≡◌, refl, sym, ap, ◌∙◌}
use mathlib.Core.Bool.{Bool, true, false, cond}
use mathlib.Core.List.{List, [], ◌∷◌, ◌++◌, append_assoc, append-nil}
use Prim.Native.Nat.{ℕ}
use Rattle.steps.specs.Steps.{Step}
use Rattle.compactor.specs.Compact.{step_pair, count_after, count_along, without_first, NoPair, compacted}
use Rattle.compactor.proofs.Pairs.{pair_count}
use Rattle.compactor.proofs.Removing.{compacted_none, compacted_first}

pub along_snoc : (count : ℕ) (xs : List Step) (x : Step) → count_along count (xs ++ x ∷ []) ≡ count_after (count_along count xs) x
unfolding count_along
along_snoc count [] x = refl
along_snoc count (y ∷ xs) x = along_snoc (count_after count y) xs x

module _ (t x : Step) where
  -- where the steps up to t have no pair, and x undoes t, those two are the first pair
  pub first_is : (rest : List Step) (count : ℕ) (xs : List Step) → NoPair count (xs ++ t ∷ []) → step_pair (count_along count xs) t x ≡ true
      → without_first count (xs ++ t ∷ x ∷ rest) ≡ xs ++ rest
  unfolding without_first NoPair count_along
  first_is rest count [] p e = ap (λ (b : Bool). cond b rest (t ∷ without_first (count_after count t) (x ∷ rest))) e
  first_is rest count (y ∷ []) p e =
      ap (λ (b : Bool). cond b (x ∷ rest) (y ∷ without_first (count_after count y) (t ∷ x ∷ rest))) p.0
      ∙ ap (λ (r : List Step). y ∷ r) (first_is rest (count_after count y) [] tt e)
  first_is rest count (y ∷ z ∷ xs) p e =
      ap (λ (b : Bool). cond b (xs ++ t ∷ x ∷ rest) (y ∷ without_first (count_after count y) (z ∷ xs ++ t ∷ x ∷ rest))) p.0
      ∙ ap (λ (r : List Step). y ∷ r) (first_is rest (count_after count y) (z ∷ xs) p.1 e)

  -- and where x does not undo t, there is none up to x
  none_on : (count : ℕ) (xs : List Step) → NoPair count (xs ++ t ∷ []) → step_pair (count_along count xs) t x ≡ false → NoPair count (xs ++ t ∷ x ∷ [])
  unfolding NoPair count_along
  none_on count [] p e = (e, tt)
  none_on count (y ∷ []) p e = (p.0, (e, tt))
  none_on count (y ∷ z ∷ xs) p e = (p.0, none_on (count_after count y) (z ∷ xs) p.1 e)

none_before : (t : Step) (count : ℕ) (xs : List Step) → NoPair count (xs ++ t ∷ []) → NoPair count xs
unfolding NoPair
none_before t count [] p = tt
none_before t count (y ∷ []) p = tt
none_before t count (y ∷ z ∷ xs) p = (p.0, none_before t (count_after count y) (z ∷ xs) p.1)

-- Of the steps `all` for lists of so many records, `kept` are kept so far and `rest` are to come; the count is now `along`
pub record Passing (count : ℕ) (all kept rest : List Step) (along : ℕ) : Type 0 where
  pub same : compacted count (kept ++ rest) ≡ compacted count all
  pub none : NoPair count kept
  pub counts : along ≡ count_along count kept

module _ (count : ℕ) (all : List Step) where
  pub passing_start : Passing count all [] all count
  unfolding count_along NoPair
  passing_start = record { same = refl; none = tt; counts = refl }

  pub passing_first : (x : Step) (rest : List Step) (along : ℕ) → Passing count all [] (x ∷ rest) along → Passing count all (x ∷ []) rest (count_after along x)
  unfolding count_along NoPair
  passing_first x rest along p = record { same = p.same; none = tt; counts = ap (λ (k : ℕ). count_after k x) p.counts }

  module _ (xs : List Step) (t x : Step) (rest : List Step) (along : ℕ) (p : Passing count all (xs ++ t ∷ []) (x ∷ rest) along) where
    -- the last one is taken off
    pub passing_off : step_pair (count_along count xs) t x ≡ true → Passing count all xs rest (count_after along x)
    passing_off e = record {
      same =
          ap (compacted count) (sym (first_is t x rest count xs p.none e)) ∙ compacted_first count (xs ++ t ∷ x ∷ rest)
          ∙ ap (compacted count) (sym (append_assoc xs (t ∷ []) (x ∷ rest))) ∙ p.same;
      none = none_before t count xs p.none;
      counts = ap (λ (k : ℕ). count_after k x) (p.counts ∙ along_snoc count xs t) ∙ pair_count (count_along count xs) t x e;
    }

    -- the next one is put on
    pub passing_on : step_pair (count_along count xs) t x ≡ false → Passing count all (xs ++ t ∷ x ∷ []) rest (count_after along x)
    passing_on e = record {
      same = ap (compacted count) (append_assoc xs (t ∷ x ∷ []) rest ∙ sym (append_assoc xs (t ∷ []) (x ∷ rest))) ∙ p.same;
      none = none_on t x count xs p.none e;
      counts =
          ap (λ (k : ℕ). count_after k x) p.counts ∙ sym (along_snoc count (xs ++ t ∷ []) x)
          ∙ ap (count_along count) (append_assoc xs (t ∷ []) (x ∷ []));
    }

  pub passing_end : (kept : List Step) (along : ℕ) → Passing count all kept [] along → kept ≡ compacted count all
  passing_end kept along p = sym (compacted_none count kept p.none) ∙ ap (compacted count) (sym (append-nil kept)) ∙ p.same

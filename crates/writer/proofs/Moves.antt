-- Where a drop or a join of two places moves the records of a list, of any kind.
-- Assumes nothing.
use mathlib.Core.Path.{◌≡◌, sym, ap, ap₂, ◌∙◌, subst}
use mathlib.Core.Logic.{◌≢◌}
use mathlib.Core.List.{List}
use Prim.Native.Nat.{ℕ, ◌-◌, ◌<◌, min, max}
use native.Mathlib.Omega.{arith}
use lib.ListN.{length, get_or, set, length-set}
use lib.Seq.{get_or-set_same, get_or-set_other, get_or-take}
use Rattle.records.specs.Places.{remove_at}
use Rattle.records.proofs.Images.{length_remove}
use Rattle.steps.specs.Moves.{drop_at, join_at}

-- from l to m: there are fewer; all places but i and j keep their records, and j gets the last one if it is still a place
pub record Moved {A : Type 0} (d : A) (l m : List A) (i j : ℕ) : Type 0 where
  pub fewer : length m < length l
  pub other : (s : ℕ) → s < length m → s ≢ i → s ≢ j → get_or m s d ≡ get_or l s d
  pub last : j < length m → (j < length l - 1) × (get_or m j d ≡ get_or l (length l - 1) d)

module _ {A : Type 0} (d : A) where
  remove_other : (l : List A) (i k : ℕ) → k ≢ i → k < length l - 1 → get_or (remove_at d l i) k d ≡ get_or l k d
  unfolding remove_at
  remove_other l i k e h =
      get_or-take (length l - 1) (set l i (get_or l (length l - 1) d)) k d h ∙ get_or-set_other l i k (get_or l (length l - 1) d) d e

  remove_same : (l : List A) (i : ℕ) → i < length l - 1 → get_or (remove_at d l i) i d ≡ get_or l (length l - 1) d
  unfolding remove_at
  remove_same l i h =
      get_or-take (length l - 1) (set l i (get_or l (length l - 1) d)) i d h ∙ get_or-set_same l i (get_or l (length l - 1) d) d (omega arith)

  module _ (l : List A) (i j : ℕ) (above : i < j) (inside : j < length l) where
    pub drop_moved : Moved d l (drop_at d l i j) i j
    unfolding drop_at
    drop_moved =
        let hi : max i j ≡ j = omega arith in
        let lo : min i j ≡ i = omega arith in
        subst (λ (m : List A). Moved d l m i j) (sym (ap₂ (λ (a b : ℕ). remove_at d (remove_at d l a) b) hi lo)) twice
      where
        once : length (remove_at d l j) ≡ length l - 1
        once = length_remove d l j

        both : length (remove_at d (remove_at d l j) i) ≡ length (remove_at d l j) - 1
        both = length_remove d (remove_at d l j) i

        twice : Moved d l (remove_at d (remove_at d l j) i) i j
        twice = record {
          fewer = omega (arith, once, both);
          other = λ s h a b. remove_other (remove_at d l j) i s a (omega (arith, both)) ∙ remove_other l j s b (omega (arith, once, both));
          last = λ h. (
            omega (arith, once, both),
            remove_other (remove_at d l j) i j (λ e. omega arith) (omega (arith, both)) ∙ remove_same l j (omega (arith, once, both)),
          );
        }

    pub join_moved : (x : A) → Moved d l (join_at d l i j x) i j
    unfolding join_at
    join_moved x =
        let same : length (set l i x) ≡ length l = length-set l i x in
        let once : length (remove_at d (set l i x) j) ≡ length (set l i x) - 1 = length_remove d (set l i x) j in
        record {
          fewer = omega arith;
          other = λ s h a b. remove_other (set l i x) j s b (omega arith) ∙ get_or-set_other l i s x d a;
          last = λ h. (
            omega arith,
            remove_same (set l i x) j (omega arith) ∙ ap (λ (k : ℕ). get_or (set l i x) (k - 1) d) same
                ∙ get_or-set_other l i (length l - 1) x d (λ e. omega arith),
          );
        }

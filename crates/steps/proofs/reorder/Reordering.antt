-- Codes moved by an order in every record of a buffer, by one pass.
-- Assumes nothing.
use mathlib.Core.Path.{◌≡◌, refl, sym, ap, ap₂, ◌∙◌, subst}
use mathlib.Core.List.{List, [], ◌∷◌, map}
use Prim.Native.Nat.{ℕ, zero, suc, ◌+◌, ◌/◌, ◌≤◌, ◌<◌, min, zero-le}
use native.Mathlib.Nat.{not-suc-le-zero, le_of_suc-le-suc, min-eq_left}
use native.Mathlib.Numerals.{add-one}
use native.Mathlib.Omega.{arith}
use lib.ListN.{length, get_or, set}
use Rattle.bits.specs.Sums.{All}
use Rattle.bits.proofs.Sums.{all_get}
use Rattle.records.specs.Records.{Codec, stored, records, list_of, image, Holds, Held}
use Rattle.records.proofs.Records.{Lawful, length_records, length_stored, list_at, holds_load, holds_place, holds_store}
use Rattle.cube.specs.Lists.{most_variables}
use Rattle.steps.specs.declared.reorder.Masks.{Masks}
use Rattle.steps.specs.Changes.{masks_at}
use Rattle.steps.specs.Kinds.{Recoded}
use Rattle.steps.proofs.perform.Placing.{held_room}

module _ {A : Type 0} (f : A → A) where
  -- the first k changed
  unfoldable pub map_to : ℕ → List A → List A
  map_to zero l = l
  map_to (suc k) [] = []
  map_to (suc k) (x ∷ l) = f x ∷ map_to k l

  map_at : (d : A) (k : ℕ) (l : List A) → get_or (map_to k l) k d ≡ get_or l k d
  unfolding map_to
  map_at d zero l = refl
  map_at d (suc k) [] = refl
  map_at d (suc k) (x ∷ l) = map_at d k l

  map_more : (d : A) (k : ℕ) (l : List A) → k < length l → set (map_to k l) k (f (get_or l k d)) ≡ map_to (suc k) l
  unfolding map_to
  map_more d k [] h = absurd (not-suc-le-zero h)
  map_more d zero (x ∷ l) h = refl
  map_more d (suc k) (x ∷ l) h = ap (λ (t : List A). f x ∷ t) (map_more d k l (le_of_suc-le-suc h))

  map_all : (l : List A) → map_to (length l) l ≡ map f l
  unfolding map_to
  map_all [] = refl
  map_all (x ∷ l) = ap (λ (t : List A). f x ∷ t) (map_all l)

  length_map_to : (k : ℕ) (l : List A) → length (map_to k l) ≡ length l
  unfolding map_to
  length_map_to zero l = refl
  length_map_to (suc k) [] = refl
  length_map_to (suc k) (x ∷ l) = ap suc (length_map_to k l)

-- f was applied to the first i of the n records of the buffer d
pub record Mapped {A : Type 0} (C : Codec A) (f : A → A) (n : ℕ) (d b : List ℕ) (i : ℕ) : Type 0 where
  pub long : length b ≡ length d
  pub within : i ≤ n
  pub holds : Holds C b (map_to f i (records C n d))

module _ {A : Type 0} (C : Codec A) (K : Lawful C) (f : A → A) (n : ℕ) (d : List ℕ) where
  pub mapped_none : Held C n d → Mapped C f n d d 0
  unfolding Held map_to
  mapped_none h = record { long = refl; within = zero-le; holds = h }

  module _ (b : List ℕ) (i : ℕ) (r : Mapped C f n d b i) where
    many : length (map_to f i (records C n d)) ≡ n
    many = length_map_to f i (records C n d) ∙ length_records C n d

    -- the next record is still as it was
    pub mapped_next : i < n → (c : A) → c ≡ get_or (list_of C b) i C.none → c ≡ get_or (records C n d) i C.none
    mapped_next h c e =
        let l : List A = map_to f i (records C n d) in
        e ∙ list_at C b i C.none (holds_place C K b l r.holds i (omega (arith, many)))
        ∙ holds_load C K b l r.holds i (omega (arith, many)) ∙ map_at f C.none i (records C n d)

    pub mapped_more : i < n → (x : A) → x ≡ f (get_or (records C n d) i C.none) → (b₁ : List ℕ) → b₁ ≡ stored C b i x → Mapped C f n d b₁ (i + 1)
    mapped_more h x ex b₁ e =
        let l : List A = map_to f i (records C n d) in
        let next : set l i x ≡ map_to f (i + 1) (records C n d) =
        ap (set l i) ex ∙ map_more f C.none i (records C n d) (omega (arith, length_records C n d))
        ∙ ap (λ (m : ℕ). map_to f m (records C n d)) (sym (add-one i)) in
        record {
          long = ap length e ∙ length_stored C b i x ∙ r.long;
          within = omega arith;
          holds = subst (λ (t : List ℕ). Holds C t (map_to f (i + 1) (records C n d))) (sym e)
              (subst (λ (m : List A). Holds C (stored C b i x) m) next (holds_store C K b l r.holds i x (omega (arith, many))));
        }

    pub mapped_end : n ≤ i → b ≡ image C (length d) (map f (records C n d))
    unfolding Holds
    mapped_end h =
        let whole : i ≡ length (records C n d) = omega (arith, length_records C n d, r.within) in
        r.holds
        ∙ ap₂ (image C) r.long (ap (λ (m : ℕ). map_to f m (records C n d)) whole ∙ map_all f (records C n d))

-- a buffer that holds so many records has room for them
pub whole_count : {A : Type 0} (C : Codec A) → Lawful C → (n : ℕ) (d : List ℕ) → Held C n d → (e : ℕ) → e ≡ min n (length d / C.width) → e ≡ n
whole_count C K n d h e q = q ∙ min-eq_left (held_room C K n d h)

-- the pass that moves every record's code at v by the order o
module _ {A : Type 0} (C : Codec A) (K : Lawful C) (Fine : A → Type 0) (moved : ℕ → ℕ → A → A) (v o n : ℕ) (d b : List ℕ) (i : ℕ) (r : Mapped C (moved v o) n d b i) (h : i < n) where
  abbrev there : A
  there = get_or (list_of C b) i C.none

  there_is : there ≡ get_or (records C n d) i C.none
  there_is = mapped_next C K (moved v o) n d b i r h there refl

  -- the next record is as fine as it was
  pub mapped_fine : All Fine (records C n d) → Fine there
  mapped_fine all = subst Fine (sym there_is) (all_get Fine (records C n d) i C.none all (omega (arith, length_records C n d)))

  pub mapped_recoded : (masks : Masks) → masks ≡ masks_at v o → v < most_variables → (b₁ : List ℕ) → Recoded C moved masks i b b₁ → Mapped C (moved v o) n d b₁ (i + 1)
  mapped_recoded masks e hv b₁ done = mapped_more C K (moved v o) n d b i r h (moved v o there) (ap (moved v o) there_is) b₁ (done.is v o hv e)

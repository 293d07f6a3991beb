-- The tests for places, taken apart, and what a removal, a drop, a join, a split and a turn do to a list of any kind of record: its length, what holds of
-- every record, a map, and sums modulo 2.
-- Assumes nothing.
use mathlib.Core.Path.{◌≡◌, refl, sym, ap, ap₂, ◌∙◌, subst}
use mathlib.Core.Logic.{◌≢◌, ◌⊎◌, inl, inr}
use mathlib.Core.Bool.{Bool, true, false, ◌&&◌}
use mathlib.Core.List.{List, [], ◌∷◌, ◌++◌, map}
use Prim.Native.Nat.{ℕ, zero, suc, ◌+◌, ◌-◌, ◌≤◌, ◌<◌, min, max}
use native.Mathlib.Nat.{not-suc-le-zero, le_of_suc-le-suc}
use native.Mathlib.Decide.{ℕ_discrete, dec_le}
use native.Mathlib.Omega.{arith}
use lib.Dec.{eqb, ltb}
use lib.ListN.{length, get_or, set, take, length-set, length-append, length-map}
use lib.Seq.{set_at, take_at, get_or-set_same, get_or-set_other, get_or-take, take-suc, take_all}
use borrow.Author.Tests.{ltb-true, ltb-false, eqb-true, eqb-false}
use Rattle.bits.specs.Sums.{◌⊕◌, sum, All}
use Rattle.bits.proofs.Bools.{xor_assoc, xor_cancel, xor_swap}
use Rattle.bits.proofs.Sums.{sum_snoc, sum_set, all_get, all_set, all_take, all_snoc}
use Rattle.records.specs.Places.{remove_at}
use Rattle.records.proofs.Images.{length_remove}
use Rattle.steps.specs.Moves.{drop_at, join_at, split_at, turn_at}
use Rattle.steps.specs.Effects.{TwoPlaces}
use Rattle.steps.specs.Changes.{OnePlace}

-- ---- the tests for places, taken apart: what holds of each outcome holds of the tests

-- a place past the end; one place twice; two places
pub two_tests : (count i j : ℕ) (P : Bool → Bool → Type 0) → ((u : Bool) → (count ≤ i) ⊎ (count ≤ j) → P false u)
    → (i < count → i ≡ j → P true true) → (TwoPlaces count i j → P true false) → P (ltb i count && ltb j count) (eqb i j)
two_tests count i j P past same two = go (ltb i count) (ltb j count) (eqb i j) refl refl refl
  where
    go : (s t u : Bool) → ltb i count ≡ s → ltb j count ≡ t → eqb i j ≡ u → P (s && t) u
    go false t u p q r = past u (inl (ltb-false i count p))
    go true false u p q r = past u (inr (ltb-false j count q))
    go true true true p q r = same (ltb-true i count p) (eqb-true i j r)
    go true true false p q r = two (record { first = ltb-true i count p; second = ltb-true j count q; unlike = eqb-false i j r })

-- a place past the end; no room; a place, and room for one more
pub one_tests : (count room i : ℕ) (P : Bool → Bool → Type 0) → ((u : Bool) → count ≤ i → P false u) → (i < count → room ≤ count → P true false)
    → (OnePlace count room i → P true true) → P (ltb i count) (ltb count room)
one_tests count room i P past full one = go (ltb i count) (ltb count room) refl refl
  where
    go : (s t : Bool) → ltb i count ≡ s → ltb count room ≡ t → P s t
    go false t p q = past t (ltb-false i count p)
    go true false p q = full (ltb-true i count p) (ltb-false count room q)
    go true true p q = one (record { inside = ltb-true i count p; more = ltb-true count room q })

-- ---- lengths

module _ {A : Type 0} (d : A) where
  -- two fewer
  pub length_drop_at : (l : List A) (i j : ℕ) → length (drop_at d l i j) ≡ length l - 2
  unfolding drop_at
  length_drop_at l i j = omega (arith, length_remove d (remove_at d l (max i j)) (min i j), length_remove d l (max i j))

  -- one fewer
  pub length_join_at : (l : List A) (i j : ℕ) (x : A) → length (join_at d l i j x) ≡ length l - 1
  unfolding join_at
  length_join_at l i j x = omega (arith, length_remove d (set l i x) j, length-set l i x)

module _ {A : Type 0} where
  -- one more
  pub length_split_at : (l : List A) (i : ℕ) (x y : A) → length (split_at l i x y) ≡ length l + 1
  unfolding split_at
  length_split_at l i x y = omega (arith, length-append (set l i x) (y ∷ []), length-set l i x)

  -- as many
  pub length_turn_at : (l : List A) (i j : ℕ) (x y : A) → length (turn_at l i j x y) ≡ length l
  unfolding turn_at
  length_turn_at l i j x y = length-set (set l i x) j y ∙ length-set l i x

-- ---- what holds of every record

module _ {A : Type 0} (P : A → Type 0) where
  module _ (d : A) where
    pub all_remove : (l : List A) (i : ℕ) → i < length l → All P l → All P (remove_at d l i)
    unfolding remove_at
    all_remove l i h a =
        all_take P (length l - 1) (set l i (get_or l (length l - 1) d)) (all_set P l i (get_or l (length l - 1) d) a (all_get P l (length l - 1) d a (omega arith)))

    pub all_drop : (l : List A) (i j : ℕ) → TwoPlaces (length l) i j → All P l → All P (drop_at d l i j)
    unfolding drop_at
    all_drop l i j p a =
        all_remove (remove_at d l (max i j)) (min i j) (omega (arith, p.unlike, length_remove d l (max i j))) (all_remove l (max i j) (omega arith) a)

    pub all_join : (l : List A) (i j : ℕ) (x : A) → TwoPlaces (length l) i j → All P l → P x → All P (join_at d l i j x)
    unfolding join_at
    all_join l i j x p a h = all_remove (set l i x) j (omega (arith, length-set l i x)) (all_set P l i x a h)

  pub all_split : (l : List A) (i : ℕ) (x y : A) → All P l → P x → P y → All P (split_at l i x y)
  unfolding split_at
  all_split l i x y a h k = all_snoc P (set l i x) y (all_set P l i x a h) k

  pub all_turn : (l : List A) (i j : ℕ) (x y : A) → All P l → P x → P y → All P (turn_at l i j x y)
  unfolding turn_at
  all_turn l i j x y a h k = all_set P (set l i x) j y (all_set P l i x a h) k

-- ---- a map

module _ {A B : Type 0} (f : A → B) where
  pub set_map : (l : List A) (i : ℕ) (x : A) → set (map f l) i (f x) ≡ map f (set l i x)
  set_map [] i x = refl
  set_map (y ∷ l) zero x = refl
  set_map (y ∷ l) (suc i) x = ap (λ (r : List B). f y ∷ r) (set_map l i x)

  pub take_map : (n : ℕ) (l : List A) → take n (map f l) ≡ map f (take n l)
  take_map zero l = refl
  take_map (suc n) [] = refl
  take_map (suc n) (x ∷ l) = ap (λ (r : List B). f x ∷ r) (take_map n l)

  snoc_map : (l : List A) (x : A) → map f l ++ (f x ∷ []) ≡ map f (l ++ (x ∷ []))
  snoc_map [] x = refl
  snoc_map (y ∷ l) x = ap (λ (r : List B). f y ∷ r) (snoc_map l x)

  -- the record at a place, whatever stands for a place that is not there
  pub get_map : (l : List A) (i : ℕ) (d : A) (e : B) → i < length l → get_or (map f l) i e ≡ f (get_or l i d)
  get_map [] i d e h = absurd (not-suc-le-zero h)
  get_map (x ∷ l) zero d e h = refl
  get_map (x ∷ l) (suc i) d e h = get_map l i d e (le_of_suc-le-suc h)

  module _ (d : A) (e : B) where
    pub remove_map : (l : List A) (i : ℕ) → remove_at e (map f l) i ≡ map f (remove_at d l i)
    unfolding remove_at
    remove_map [] i = refl
    remove_map (x ∷ l) i =
        let s : List A = x ∷ l in
        let m : ℕ = suc (length l) - 1 in
        ap (λ (k : ℕ). take (suc k - 1) (set (map f s) i (get_or (map f s) (suc k - 1) e))) (length-map l f)
        ∙ ap (λ (y : B). take m (set (map f s) i y)) (get_map s m d e (omega arith))
        ∙ ap (take m) (set_map s i (get_or s m d))
        ∙ take_map m (set s i (get_or s m d))

    pub drop_map : (l : List A) (i j : ℕ) → drop_at e (map f l) i j ≡ map f (drop_at d l i j)
    unfolding drop_at
    drop_map l i j = ap (λ (r : List B). remove_at e r (min i j)) (remove_map l (max i j)) ∙ remove_map (remove_at d l (max i j)) (min i j)

    pub join_map : (l : List A) (i j : ℕ) (x : A) → join_at e (map f l) i j (f x) ≡ map f (join_at d l i j x)
    unfolding join_at
    join_map l i j x = ap (λ (r : List B). remove_at e r j) (set_map l i x) ∙ remove_map (set l i x) j

  pub split_map : (l : List A) (i : ℕ) (x y : A) → split_at (map f l) i (f x) (f y) ≡ map f (split_at l i x y)
  unfolding split_at
  split_map l i x y = ap (λ (r : List B). r ++ (f y ∷ [])) (set_map l i x) ∙ snoc_map (set l i x) y

  pub turn_map : (l : List A) (i j : ℕ) (x y : A) → turn_at (map f l) i j (f x) (f y) ≡ map f (turn_at l i j x y)
  unfolding turn_at
  turn_map l i j x y = ap (λ (r : List B). set r j (f y)) (set_map l i x) ∙ set_map (set l i x) j y

-- ---- the last record removed

pub remove_last : {A : Type 0} (d : A) (l : List A) (y : A) → remove_at d (l ++ y ∷ []) (length l) ≡ l
unfolding remove_at
remove_last {A} d l y =
    let s : List A = l ++ y ∷ [] in
    let e : length s - 1 ≡ length l = omega (arith, length-append l (y ∷ [])) in
    ap (λ (k : ℕ). take k (set s (length l) (get_or s k d))) e
    ∙ ap (take (length l)) (set_at l y [] (get_or s (length l) d) (length l) refl)
    ∙ take_at l (get_or s (length l) d ∷ []) (length l) refl

-- ---- sums modulo 2 of any weight

module _ {A : Type 0} (d : A) where
  get_remove : (l : List A) (i k : ℕ) → k ≢ i → k < length l - 1 → get_or (remove_at d l i) k d ≡ get_or l k d
  unfolding remove_at
  get_remove l i k e h =
      get_or-take (length l - 1) (set l i (get_or l (length l - 1) d)) k d h ∙ get_or-set_other l i k (get_or l (length l - 1) d) d e

  -- the last place holds what it held, wherever that was copied
  last_kept : (l : List A) (i m : ℕ) → i < length l → get_or (set l i (get_or l m d)) m d ≡ get_or l m d
  last_kept l i m h =
      elim (ℕ_discrete m i) [
        | yes e ↦ subst (λ (k : ℕ). get_or (set l i (get_or l m d)) k d ≡ get_or l m d) (sym e) (get_or-set_same l i (get_or l m d) d h)
        | no e ↦ get_or-set_other l i m (get_or l m d) d e
      ]

  module _ (w : A → Bool) where
    -- a list without its last record
    sum_shorten : (l : List A) → 0 < length l → sum w (take (length l - 1) l) ⊕ w (get_or l (length l - 1) d) ≡ sum w l
    sum_shorten l h =
        sym (sum_snoc w (take (length l - 1) l) (get_or l (length l - 1) d))
        ∙ ap (sum w) (sym (take-suc l (length l - 1) d (omega arith)) ∙ take_all (suc (length l - 1)) l (omega arith))

    pub sum_remove : (l : List A) (i : ℕ) → i < length l → sum w (remove_at d l i) ≡ sum w l ⊕ w (get_or l i d)
    unfolding remove_at
    sum_remove l i h =
        let m : ℕ = length l - 1 in
        let z : A = get_or l m d in
        let s : List A = set l i z in
        let same : length s ≡ length l = length-set l i z in
        let cut : sum w (take m s) ⊕ w z ≡ sum w s
        = ap (λ (y : A). sum w (take m s) ⊕ w y) (sym (last_kept l i m h))
        ∙ subst (λ (k : ℕ). sum w (take (k - 1) s) ⊕ w (get_or s (k - 1) d) ≡ sum w s) same (sum_shorten s (omega arith)) in
        sym (xor_cancel (sum w (take m s)) (w z)) ∙ ap (λ (b : Bool). b ⊕ w z) (cut ∙ sum_set w d l i z h) ∙ xor_cancel (sum w l ⊕ w (get_or l i d)) (w z)

    module _ (l : List A) (i j : ℕ) (p : TwoPlaces (length l) i j) where
      -- two records of one weight go
      pub sum_drop : w (get_or l i d) ≡ w (get_or l j d) → sum w (drop_at d l i j) ≡ sum w l
      unfolding drop_at
      sum_drop e =
          sum_remove (remove_at d l (max i j)) (min i j) (omega (arith, p.unlike, length_remove d l (max i j)))
          ∙ ap₂ (λ (a : Bool) (y : A). a ⊕ w y) (sum_remove l (max i j) (omega arith))
          (get_remove l (max i j) (min i j) (omega (arith, p.unlike)) (omega (arith, p.unlike)))
          ∙ ap (λ (b : Bool). sum w l ⊕ w (get_or l (max i j) d) ⊕ b) both
          ∙ xor_cancel (sum w l) (w (get_or l (max i j) d))
        where
          both : w (get_or l (min i j) d) ≡ w (get_or l (max i j) d)
          both = elim (dec_le i j) [
            | yes h ↦ ap (λ (k : ℕ). w (get_or l k d)) (omega arith) ∙ e ∙ ap (λ (k : ℕ). w (get_or l k d)) (omega arith)
            | no h ↦ ap (λ (k : ℕ). w (get_or l k d)) (omega arith) ∙ sym e ∙ ap (λ (k : ℕ). w (get_or l k d)) (omega arith)
          ]

      -- a record of their sum takes the place of two
      pub sum_join : (x : A) → w x ≡ w (get_or l i d) ⊕ w (get_or l j d) → sum w (join_at d l i j x) ≡ sum w l
      unfolding join_at
      sum_join x e =
          let a : Bool = w (get_or l i d) in
          let b : Bool = w (get_or l j d) in
          sum_remove (set l i x) j (omega (arith, length-set l i x))
          ∙ ap₂ (λ (s : Bool) (y : A). s ⊕ w y) (sum_set w d l i x p.first) (get_or-set_other l i j x d (λ q. p.unlike (sym q)))
          ∙ ap (λ (c : Bool). sum w l ⊕ a ⊕ c ⊕ b) e
          ∙ ap (λ (c : Bool). c ⊕ b) (sym (xor_assoc (sum w l ⊕ a) a b) ∙ ap (λ (c : Bool). c ⊕ b) (xor_cancel (sum w l) a))
          ∙ xor_cancel (sum w l) b

      -- two records are exchanged for two of the same sum
      pub sum_turn : (x y : A) → w x ⊕ w y ≡ w (get_or l i d) ⊕ w (get_or l j d) → sum w (turn_at l i j x y) ≡ sum w l
      unfolding turn_at
      sum_turn x y e =
          let a : Bool = w (get_or l i d) in
          let b : Bool = w (get_or l j d) in
          sum_set w d (set l i x) j y (omega (arith, length-set l i x))
          ∙ ap₂ (λ (s : Bool) (z : A). s ⊕ w z ⊕ w y) (sum_set w d l i x p.first) (get_or-set_other l i j x d (λ q. p.unlike (sym q)))
          ∙ xor_swap (sum w l ⊕ a ⊕ w x) b (w y)
          ∙ ap (λ (c : Bool). c ⊕ b) (xor_assoc (sum w l ⊕ a) (w x) (w y) ∙ ap (λ (c : Bool). sum w l ⊕ a ⊕ c) e
          ∙ sym (xor_assoc (sum w l ⊕ a) a b) ∙ ap (λ (c : Bool). c ⊕ b) (xor_cancel (sum w l) a))
          ∙ xor_cancel (sum w l) b

    -- a record is parted in two of the same sum
    pub sum_split : (l : List A) (i : ℕ) → i < length l → (x y : A) → w x ⊕ w y ≡ w (get_or l i d) → sum w (split_at l i x y) ≡ sum w l
    unfolding split_at
    sum_split l i hi x y e =
        sum_snoc w (set l i x) y ∙ ap (λ (s : Bool). s ⊕ w y) (sum_set w d l i x hi)
        ∙ xor_assoc (sum w l ⊕ w (get_or l i d)) (w x) (w y) ∙ ap (λ (c : Bool). sum w l ⊕ w (get_or l i d) ⊕ c) e
        ∙ xor_cancel (sum w l) (w (get_or l i d))

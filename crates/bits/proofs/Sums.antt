-- Laws of lists of any kind of element: what changes at a place do to a sum modulo 2 and to what holds of every element, maps, and the first that fails.
-- Assumes nothing.
use mathlib.Core.Path.{◌≡◌, refl, sym, ap, ap₂, ◌∙◌}
use mathlib.Core.Bool.{Bool, true, false, cond}
use mathlib.Core.List.{List, [], ◌∷◌, ◌++◌, map}
use Prim.Native.Nat.{ℕ, zero, suc, ◌+◌, ◌%◌, ◌≤◌, ◌<◌, suc-le-suc, zero-le}
use native.Mathlib.Nat.{not-suc-le-zero, le_of_suc-le-suc, add-zero, zero-add}
use native.Mathlib.Numerals.{add-one}
use native.Mathlib.Omega.{arith}
use lib.ListN.{length, get_or, set, take, drop, drop_of_length-le}
use lib.Seq.{drop-cons}
use Rattle.bits.specs.Sums.{◌⊕◌, one_if, tally, sum, All, first_bad}
use Rattle.bits.proofs.Bools.{xor_assoc, xor_comm, xor_false, xor_cancel, parity_step, one_lt}

-- ---- counts and sums

-- all pass where nothing is tested
pub tally_all : {A : Type 0} (l : List A) → tally (λ x. true) l ≡ length l
unfolding tally
tally_all [] = refl
tally_all (x ∷ l) = omega (arith, tally_all l)

module _ {A : Type 0} (w : A → Bool) where
  -- the parity of how many pass is the sum
  pub tally_sum : (l : List A) → tally w l % 2 ≡ one_if (sum w l)
  unfolding tally sum
  tally_sum [] = refl
  tally_sum (x ∷ l) = parity_step (w x) (sum w l) (tally w l) (tally_sum l)

  pub tally_append : (l m : List A) → tally w (l ++ m) ≡ tally w l + tally w m
  unfolding tally
  tally_append [] m = sym (zero-add (tally w m))
  tally_append (x ∷ l) m = omega (arith, tally_append l m)

  pub tally_le : (l : List A) → tally w l ≤ length l
  unfolding tally
  tally_le [] = zero-le
  tally_le (x ∷ l) = omega (arith, tally_le l, one_lt (w x))

  pub sum_append : (l m : List A) → sum w (l ++ m) ≡ sum w l ⊕ sum w m
  unfolding sum
  sum_append [] m = refl
  sum_append (x ∷ l) m = ap (λ (s : Bool). w x ⊕ s) (sum_append l m) ∙ sym (xor_assoc (w x) (sum w l) (sum w m))

  pub sum_snoc : (l : List A) (x : A) → sum w (l ++ (x ∷ [])) ≡ sum w l ⊕ w x
  unfolding sum
  sum_snoc l x = sum_append l (x ∷ []) ∙ ap (λ (s : Bool). sum w l ⊕ s) (xor_false (w x))

  pub sum_map : {B : Type 0} (f : B → A) (l : List B) → sum w (map f l) ≡ sum (λ b. w (f b)) l
  unfolding sum
  sum_map f [] = refl
  sum_map f (x ∷ l) = ap (λ (s : Bool). w (f x) ⊕ s) (sum_map f l)

  -- a store takes the old element's weight out and puts the new one's in
  pub sum_set : (d : A) (l : List A) (i : ℕ) (x : A) → i < length l → sum w (set l i x) ≡ sum w l ⊕ w (get_or l i d) ⊕ w x
  unfolding sum
  sum_set d [] i x h = absurd (not-suc-le-zero h)
  sum_set d (y ∷ l) zero x h =
      xor_comm (w x) (sum w l) ∙ ap (λ (s : Bool). s ⊕ w x) (sym (ap (λ (s : Bool). s ⊕ w y) (xor_comm (w y) (sum w l)) ∙ xor_cancel (sum w l) (w y)))
  sum_set d (y ∷ l) (suc i) x h =
      ap (λ (s : Bool). w y ⊕ s) (sum_set d l i x (le_of_suc-le-suc h))
      ∙ sym (xor_assoc (w y) (sum w l ⊕ w (get_or l i d)) (w x))
      ∙ ap (λ (s : Bool). s ⊕ w x) (sym (xor_assoc (w y) (sum w l) (w (get_or l i d))))

pub sum_ext : {A : Type 0} (w v : A → Bool) (P : A → Type 0) → ((x : A) → P x → w x ≡ v x) → (l : List A) → All P l → sum w l ≡ sum v l
unfolding sum
sum_ext w v P h [] a = refl
sum_ext w v P h (x ∷ l) a = ap₂ ◌⊕◌ (h x a.0) (sum_ext w v P h l a.1)

pub tally_ext : {A : Type 0} (w v : A → Bool) (P : A → Type 0) → ((x : A) → P x → w x ≡ v x) → (l : List A) → All P l → tally w l ≡ tally v l
unfolding tally
tally_ext w v P h [] a = refl
tally_ext w v P h (x ∷ l) a = ap₂ (λ (b : Bool) (n : ℕ). one_if b + n) (h x a.0) (tally_ext w v P h l a.1)

-- a loop that counts from the front: what is left from place i on
module _ {A : Type 0} (w : A → Bool) (d : A) (l : List A) (i : ℕ) where
  pub tally_on : i < length l → tally w (drop i l) ≡ one_if (w (get_or l i d)) + tally w (drop (i + 1) l)
  unfolding tally
  tally_on h = rw (add-one i, drop-cons l i d h)

  pub tally_end : length l ≤ i → tally w (drop i l) ≡ 0
  unfolding tally
  tally_end h = rw (drop_of_length-le l {i = i} h)

  -- and one that adds a weight modulo 2
  pub sum_on : i < length l → sum w (drop i l) ≡ w (get_or l i d) ⊕ sum w (drop (i + 1) l)
  unfolding sum
  sum_on h = rw (add-one i, drop-cons l i d h)

  pub sum_end : length l ≤ i → sum w (drop i l) ≡ false
  unfolding sum
  sum_end h = rw (drop_of_length-le l {i = i} h)

-- ---- what holds of every element

module _ {A : Type 0} (P : A → Type 0) where
  pub all_get : (l : List A) (i : ℕ) (d : A) → All P l → i < length l → P (get_or l i d)
  all_get [] i d a h = absurd (not-suc-le-zero h)
  all_get (x ∷ l) zero d a h = a.0
  all_get (x ∷ l) (suc i) d a h = all_get l i d a.1 (le_of_suc-le-suc h)

  -- also past the end, where d stands
  pub all_get_or : (l : List A) (i : ℕ) (d : A) → All P l → P d → P (get_or l i d)
  all_get_or [] i d a p = p
  all_get_or (x ∷ l) zero d a p = a.0
  all_get_or (x ∷ l) (suc i) d a p = all_get_or l i d a.1 p

  pub all_set : (l : List A) (i : ℕ) (x : A) → All P l → P x → All P (set l i x)
  all_set [] i x a p = tt
  all_set (y ∷ l) zero x a p = (p, a.1)
  all_set (y ∷ l) (suc i) x a p = (a.0, all_set l i x a.1 p)

  pub all_take : (n : ℕ) (l : List A) → All P l → All P (take n l)
  all_take zero l a = tt
  all_take (suc n) [] a = tt
  all_take (suc n) (x ∷ l) a = (a.0, all_take n l a.1)

  pub all_append : (l m : List A) → All P l → All P m → All P (l ++ m)
  all_append [] m a b = b
  all_append (x ∷ l) m a b = (a.0, all_append l m a.1 b)

  pub all_parts : (l m : List A) → All P (l ++ m) → All P l × All P m
  all_parts [] m h = (tt, h)
  all_parts (x ∷ l) m h = let t = all_parts l m h.1 in ((h.0, t.0), t.1)

  pub all_snoc : (l : List A) (x : A) → All P l → P x → All P (l ++ (x ∷ []))
  all_snoc l x a p = all_append l (x ∷ []) a (p, tt)

  pub all_map : {B : Type 0} (Q : B → Type 0) (f : A → B) → ((x : A) → P x → Q (f x)) → (l : List A) → All P l → All Q (map f l)
  all_map Q f h [] a = tt
  all_map Q f h (x ∷ l) a = (h x a.0, all_map Q f h l a.1)

  pub all_each : (Q : A → Type 0) → ((x : A) → P x → Q x) → (l : List A) → All P l → All Q l
  all_each Q h [] a = tt
  all_each Q h (x ∷ l) a = (h x a.0, all_each Q h l a.1)

  pub all_of : (d : A) (l : List A) → ((i : ℕ) → i < length l → P (get_or l i d)) → All P l
  all_of d [] h = tt
  all_of d (x ∷ l) h = (h 0 (omega arith), all_of d l (λ i b. h (suc i) (suc-le-suc b)))

-- ---- maps

pub map_same : {A : Type 0} (l : List A) → l ≡ map (λ x. x) l
map_same [] = refl
map_same (x ∷ l) = ap (λ (r : List _). x ∷ r) (map_same l)

pub map_map : {A B C : Type 0} (g : B → C) (f : A → B) (l : List A) → map g (map f l) ≡ map (λ x. g (f x)) l
map_map g f [] = refl
map_map g f (x ∷ l) = ap (λ (r : List _). g (f x) ∷ r) (map_map g f l)

module _ {A B : Type 0} (P : A → Type 0) (f : A → B) where
  -- functions that agree where P holds
  pub map_each : (g : A → B) → ((x : A) → P x → f x ≡ g x) → (l : List A) → All P l → map f l ≡ map g l
  map_each g h [] a = refl
  map_each g h (x ∷ l) a = ap₂ (λ (y : B) (r : List B). y ∷ r) (h x a.0) (map_each g h l a.1)

  -- there and back
  pub map_back : (g : B → A) → ((x : A) → P x → g (f x) ≡ x) → (l : List A) → All P l → map g (map f l) ≡ l
  map_back g h [] a = refl
  map_back g h (x ∷ l) a = ap₂ (λ (y : A) (r : List A). y ∷ r) (h x a.0) (map_back g h l a.1)

-- ---- the first element that fails

module _ {A : Type 0} (f : A → Bool) where
  pub first_le : (l : List A) → first_bad f l ≤ length l
  unfolding first_bad
  first_le [] = zero-le
  first_le (x ∷ l) = go (f x) (first_le l)
    where
      go : (b : Bool) → first_bad f l ≤ length l → cond b (suc (first_bad f l)) 0 ≤ suc (length l)
      go true h = suc-le-suc h
      go false h = zero-le

  -- none fails
  pub first_none : (l : List A) → first_bad f l ≡ length l → All (λ x. f x ≡ true) l
  unfolding first_bad
  first_none [] e = tt
  first_none (x ∷ l) e = go (f x) refl (first_none l) e
    where
      go : (b : Bool) → f x ≡ b → (first_bad f l ≡ length l → All (λ x. f x ≡ true) l)
          → cond b (suc (first_bad f l)) 0 ≡ suc (length l) → All (λ x. f x ≡ true) (x ∷ l)
      go true p ih q = (p, ih (omega arith))
      go false p ih q = absurd (omega arith)

  pub none_first : (l : List A) → All (λ x. f x ≡ true) l → first_bad f l ≡ length l
  unfolding first_bad
  none_first [] a = refl
  none_first (x ∷ l) a = ap (λ (b : Bool). cond b (suc (first_bad f l)) 0) a.0 ∙ ap suc (none_first l a.1)

  -- as many pass as there are
  pub tally_none : (l : List A) → tally f l ≡ length l → first_bad f l ≡ length l
  unfolding tally first_bad
  tally_none [] e = refl
  tally_none (x ∷ l) e = go (f x) (tally_le f l) (tally_none l) e
    where
      go : (b : Bool) → tally f l ≤ length l → (tally f l ≡ length l → first_bad f l ≡ length l)
          → one_if b + tally f l ≡ suc (length l) → cond b (suc (first_bad f l)) 0 ≡ suc (length l)
      go true h ih q = ap suc (ih (omega arith))
      go false h ih q = absurd (omega arith)

  -- where it is a place, its element fails, and each before it passes
  pub first_fails : (d : A) (l : List A) → first_bad f l < length l → f (get_or l (first_bad f l) d) ≡ false
  unfolding first_bad
  first_fails d [] h = absurd (not-suc-le-zero h)
  first_fails d (x ∷ l) h = go (f x) refl (first_fails d l) h
    where
      go : (b : Bool) → f x ≡ b → (first_bad f l < length l → f (get_or l (first_bad f l) d) ≡ false)
          → cond b (suc (first_bad f l)) 0 < suc (length l) → f (get_or (x ∷ l) (cond b (suc (first_bad f l)) 0) d) ≡ false
      go true p ih q = ih (le_of_suc-le-suc q)
      go false p ih q = p

  pub first_lowest : (d : A) (l : List A) (i : ℕ) → i < first_bad f l → f (get_or l i d) ≡ true
  unfolding first_bad
  first_lowest d [] i h = absurd (not-suc-le-zero h)
  first_lowest d (x ∷ l) i h = go (f x) refl i (first_lowest d l) h
    where
      go : (b : Bool) → f x ≡ b → (i : ℕ) → ((i : ℕ) → i < first_bad f l → f (get_or l i d) ≡ true)
          → i < cond b (suc (first_bad f l)) 0 → f (get_or (x ∷ l) i d) ≡ true
      go true p zero ih q = p
      go true p (suc i) ih q = ih i (le_of_suc-le-suc q)
      go false p i ih q = absurd (not-suc-le-zero q)

  -- a loop that looks from the front: i elements have passed
  module _ (d : A) (l : List A) (i : ℕ) where
    pub looking_on : i < length l → f (get_or l i d) ≡ true → first_bad f l ≡ i + first_bad f (drop i l) → first_bad f l ≡ i + 1 + first_bad f (drop (i + 1) l)
    unfolding first_bad
    looking_on h p e = e ∙ rw (add-one i, drop-cons l i d h, p) (omega arith)

    pub looking_here : i < length l → f (get_or l i d) ≡ false → first_bad f l ≡ i + first_bad f (drop i l) → first_bad f l ≡ i
    unfolding first_bad
    looking_here h p e = e ∙ rw (drop-cons l i d h, p) (add-zero i)

    pub looking_end : length l ≤ i → first_bad f l ≡ i + first_bad f (drop i l) → first_bad f l ≡ i
    unfolding first_bad
    looking_end h e = e ∙ rw (drop_of_length-le l {i = i} h) (add-zero i)

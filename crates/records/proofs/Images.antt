-- Laws of the bytes of a list of records and of its image in a buffer, over any kind of record and its width.
-- Assumes nothing.
use mathlib.Core.Path.{◌≡◌, refl, sym, ap, ◌∙◌, subst}
use Prim.Native.Nat.{ℕ, zero, suc, ◌+◌, ◌-◌, ◌*◌, ◌≤◌, ◌<◌, suc-le-suc}
use native.Mathlib.Nat.{mul-zero, mul-suc, add_comm, add_assoc, zero-add, not-suc-le-zero, le_of_suc-le-suc, suc-add, zero-lt-suc, suc-ne-zero}
use native.Mathlib.Omega.{arith}
use mathlib.Core.List.{List, [], ◌∷◌, ◌++◌, append_assoc, append-nil}
use lib.ListN.{length, take, drop, get_or, set, replicate, length-append, length-set, length-replicate, replicate-append-replicate, length-take, length-drop, take-append-drop, get_or-append}
use lib.Seq.{sets, sets-eq, drop_at, get_or-append-add, take-suc-set, take_all, set-append_seam, length-take-le, ext_get_or, get_or-take, get_or-drop}
use Rattle.bits.specs.Below.{list_below}
use Rattle.records.specs.Places.{remove_at}
use Rattle.records.specs.Records.{flat, filled}

-- ---- a run of stores past a front

sets_cons : (vs : List ℕ) (x : ℕ) (l : List ℕ) (i : ℕ) → sets (x ∷ l) (suc i) vs ≡ x ∷ sets l i vs
sets_cons [] x l i = refl
sets_cons (v ∷ vs) x l i = sets_cons vs x (set l i v) (suc i)

pub sets_past : (p q vs : List ℕ) (i : ℕ) → sets (p ++ q) (length p + i) vs ≡ p ++ sets q i vs
sets_past [] q vs i = ap (λ (k : ℕ). sets q k vs) (zero-add i)
sets_past (x ∷ p) q vs i =
    ap (λ (k : ℕ). sets (x ∷ (p ++ q)) k vs) (suc-add (length p) i)
    ∙ sets_cons vs x (p ++ q) (length p + i) ∙ ap (λ (l : List ℕ). x ∷ l) (sets_past p q vs i)

-- a front is replaced by one as long
sets_front : (p q vs : List ℕ) → length vs ≡ length p → sets (p ++ q) 0 vs ≡ vs ++ q
sets_front p q vs e =
    sets-eq vs (p ++ q) 0 (simp length-append (omega arith))
    ∙ ap (λ (l : List ℕ). vs ++ l) (drop_at p q (0 + length vs) (omega arith))

-- ---- a place removed

module _ {A : Type 0} where
  set_end : (l : List A) (x a : A) → set (l ++ (x ∷ [])) (length l) a ≡ l ++ (a ∷ [])
  set_end l x a = set-append_seam l x [] a

  -- a store at the last place
  set_last : (l : List A) (k : ℕ) (a : A) → length l ≡ suc k → set l k a ≡ take k l ++ (a ∷ [])
  set_last l k a e =
      let h : k < length l = omega arith in
      sym (take_all (suc k) (set l k a) (rw length-set (omega arith))) ∙ take-suc-set l k a h

  pub length_remove : (d : A) (l : List A) (i : ℕ) → length (remove_at d l i) ≡ length l - 1
  unfolding remove_at
  length_remove d l i = simp (length-take, length-set) (omega arith)

-- ---- records end to end

module _ {A : Type 0} (enc : A → List ℕ) where
  pub flat_append : (l m : List A) → flat enc (l ++ m) ≡ flat enc l ++ flat enc m
  flat_append [] m = refl
  flat_append (a ∷ l) m = ap (λ (t : List ℕ). enc a ++ t) (flat_append l m) ∙ sym (append_assoc (enc a) (flat enc l) (flat enc m))

module _ {A : Type 0} (enc : A → List ℕ) (w : ℕ) (len : (a : A) → length (enc a) ≡ w) where
  pub length_flat : (l : List A) → length (flat enc l) ≡ w * length l
  length_flat [] = sym (mul-zero w)
  length_flat (a ∷ l) =
      length-append (enc a) (flat enc l) ∙ ap (λ (n : ℕ). n + length (flat enc l)) (len a)
      ∙ ap (λ (n : ℕ). w + n) (length_flat l) ∙ add_comm w (w * length l) ∙ sym (mul-suc w (length l))

  -- w * suc i bytes are those of one record and of i
  past : (a : A) (i : ℕ) → w * suc i ≡ length (enc a) + w * i
  past a i = mul-suc w i ∙ add_comm (w * i) w ∙ ap (λ (n : ℕ). n + w * i) (sym (len a))

  flat_put : (l : List A) (z : List ℕ) (i : ℕ) (a : A) → i < length l → sets (flat enc l ++ z) (w * i) (enc a) ≡ flat enc (set l i a) ++ z
  flat_put [] z i a h = absurd (not-suc-le-zero h)
  flat_put (x ∷ l) z zero a h =
      ap (λ (n : ℕ). sets ((enc x ++ flat enc l) ++ z) n (enc a)) (mul-zero w)
      ∙ ap (λ (b : List ℕ). sets b 0 (enc a)) (append_assoc (enc x) (flat enc l) z)
      ∙ sets_front (enc x) (flat enc l ++ z) (enc a) (len a ∙ sym (len x))
      ∙ sym (append_assoc (enc a) (flat enc l) z)
  flat_put (x ∷ l) z (suc i) a h =
      ap (λ (n : ℕ). sets ((enc x ++ flat enc l) ++ z) n (enc a)) (past x i)
      ∙ ap (λ (b : List ℕ). sets b (length (enc x) + w * i) (enc a)) (append_assoc (enc x) (flat enc l) z)
      ∙ sets_past (enc x) (flat enc l ++ z) (enc a) (w * i)
      ∙ ap (λ (b : List ℕ). enc x ++ b) (flat_put l z i a (le_of_suc-le-suc h))
      ∙ sym (append_assoc (enc x) (flat enc (set l i a)) z)

  pub flat_get : (l : List A) (z : List ℕ) (i k : ℕ) (d : A) → i < length l → k < w → get_or (flat enc l ++ z) (w * i + k) 0 ≡ get_or (enc (get_or l i d)) k 0
  flat_get [] z i k d h hk = absurd (not-suc-le-zero h)
  flat_get (x ∷ l) z zero k d h hk =
      ap (λ (n : ℕ). get_or ((enc x ++ flat enc l) ++ z) n 0) (ap (λ (n : ℕ). n + k) (mul-zero w) ∙ zero-add k)
      ∙ ap (λ (b : List ℕ). get_or b k 0) (append_assoc (enc x) (flat enc l) z)
      ∙ get_or-append (enc x) (flat enc l ++ z) 0 k (omega (arith, len x))
  flat_get (x ∷ l) z (suc i) k d h hk =
      ap (λ (n : ℕ). get_or ((enc x ++ flat enc l) ++ z) n 0) (ap (λ (n : ℕ). n + k) (past x i) ∙ add_assoc (length (enc x)) (w * i) k)
      ∙ ap (λ (b : List ℕ). get_or b (length (enc x) + (w * i + k)) 0) (append_assoc (enc x) (flat enc l) z)
      ∙ get_or-append-add (enc x) (flat enc l ++ z) (w * i + k) 0
      ∙ flat_get l z i k d (le_of_suc-le-suc h) hk

  -- the records whose bytes are those of s are s
  pub flat_list_below : (k : ℕ) (f : ℕ → A) (s : List ℕ) → length s ≡ w * k
      → ((i r : ℕ) → i < k → r < w → get_or (enc (f i)) r 0 ≡ get_or s (w * i + r) 0) → flat enc (list_below k f) ≡ s
  unfolding list_below
  flat_list_below zero f [] e h = refl
  flat_list_below zero f (x ∷ s) e h = absurd (suc-ne-zero (length s) (e ∙ mul-zero w))
  flat_list_below (suc k) f s e h =
      let long : length s ≡ w * k + w = e ∙ mul-suc w k in
      let front : length (take w s) ≡ w = length-take-le w s (omega arith) in
      let first : enc (f zero) ≡ take w s =
      ext_get_or 0 (enc (f zero)) (take w s) (len (f zero) ∙ sym front) (λ r hr.
      let hr' : r < w = omega (arith, len (f zero)) in
      h zero r (zero-lt-suc k) hr' ∙ ap (λ (n : ℕ). get_or s n 0) (ap (λ (n : ℕ). n + r) (mul-zero w) ∙ zero-add r) ∙ sym (get_or-take w s r 0 hr')) in
      let rest : flat enc (list_below k (λ i. f (suc i))) ≡ drop w s =
      flat_list_below k (λ i. f (suc i)) (drop w s) (rw length-drop (omega arith)) (λ i r hi hr.
      let at : w * suc i + r ≡ w + (w * i + r) = omega (arith, mul-suc w i) in
      h (suc i) r (suc-le-suc hi) hr ∙ ap (λ (n : ℕ). get_or s n 0) at ∙ sym (get_or-drop w s (w * i + r) 0)) in
      (λ j. first j ++ rest j) ∙ take-append-drop w s

  -- ---- the image of a list in a buffer of n bytes

  pub length_image : (n : ℕ) (l : List A) → w * length l ≤ n → length (filled n (flat enc l)) ≡ n
  unfolding filled
  length_image n l h = simp (length-append, length-replicate) (omega (arith, length_flat l))

  -- a byte of record i
  pub image_get : (n : ℕ) (l : List A) (i k : ℕ) (d : A) → i < length l → k < w → get_or (filled n (flat enc l)) (w * i + k) 0 ≡ get_or (enc (get_or l i d)) k 0
  unfolding filled
  image_get n l i k d h hk = flat_get l (replicate (n - length (flat enc l)) 0) i k d h hk

  -- a record stored at a place of the list
  pub image_put : (n : ℕ) (l : List A) (i : ℕ) (a : A) → i < length l → sets (filled n (flat enc l)) (w * i) (enc a) ≡ filled n (flat enc (set l i a))
  unfolding filled
  image_put n l i a h =
      flat_put l (replicate (n - length (flat enc l)) 0) i a h
      ∙ ap (λ (k : ℕ). flat enc (set l i a) ++ replicate (n - k) 0) (length_flat l ∙ ap (λ (k : ℕ). w * k) (sym (length-set l i a)) ∙ sym (length_flat (set l i a)))

  module _ (z : A) (zero_record : enc z ≡ replicate w 0) where
    -- a record of zeros at the end is not seen
    pub image_zero : (n : ℕ) (l : List A) → w * suc (length l) ≤ n → filled n (flat enc (l ++ (z ∷ []))) ≡ filled n (flat enc l)
    unfolding filled
    image_zero n l h =
        let more : flat enc (l ++ (z ∷ [])) ≡ flat enc l ++ replicate w 0 = flat_append enc l (z ∷ []) ∙ ap (λ (t : List ℕ). flat enc l ++ t) (append-nil (enc z) ∙ zero_record) in
        let long : length (flat enc (l ++ (z ∷ []))) ≡ length (flat enc l) + w = ap length more ∙ length-append (flat enc l) (replicate w 0) ∙ ap (λ (k : ℕ). length (flat enc l) + k) (length-replicate w 0) in
        let fits : length (flat enc l) + w ≤ n = omega (arith, length_flat l, mul-suc w (length l)) in
        let left : w + (n - length (flat enc (l ++ (z ∷ [])))) ≡ n - length (flat enc l) = omega arith in
        ap (λ (t : List ℕ). t ++ replicate (n - length (flat enc (l ++ (z ∷ [])))) 0) more
        ∙ append_assoc (flat enc l) (replicate w 0) (replicate (n - length (flat enc (l ++ (z ∷ [])))) 0)
        ∙ ap (λ (t : List ℕ). flat enc l ++ t) (replicate-append-replicate w (n - length (flat enc (l ++ (z ∷ [])))) 0)
        ∙ ap (λ (k : ℕ). flat enc l ++ replicate k 0) left

    -- a record stored just past the list
    pub image_push : (n : ℕ) (l : List A) (a : A) → w * suc (length l) ≤ n → sets (filled n (flat enc l)) (w * length l) (enc a) ≡ filled n (flat enc (l ++ (a ∷ [])))
    image_push n l a h =
        let len1 : length (l ++ (z ∷ [])) ≡ length l + 1 = length-append l (z ∷ []) in
        ap (λ (b : List ℕ). sets b (w * length l) (enc a)) (sym (image_zero n l h))
        ∙ image_put n (l ++ (z ∷ [])) (length l) a (omega arith)
        ∙ ap (λ (m : List A). filled n (flat enc m)) (set_end l z a)

    -- the last record cleared
    pub image_pop : (n : ℕ) (l : List A) (k : ℕ) → length l ≡ suc k → w * length l ≤ n → sets (filled n (flat enc l)) (w * k) (enc z) ≡ filled n (flat enc (take k l))
    image_pop n l k e h =
        let shorter : length (take k l) ≡ k = simp length-take (omega arith) in
        image_put n l k z (omega arith) ∙ ap (λ (m : List A). filled n (flat enc m)) (set_last l k z e)
        ∙ image_zero n (take k l) (subst (λ (m : ℕ). w * m ≤ n) (e ∙ ap suc (sym shorter)) h)

    -- place i removed: the last record copied there, and then cleared
    pub image_remove : (n : ℕ) (l : List A) (i k : ℕ) → i < length l → length l ≡ suc k → w * length l ≤ n
        → sets (sets (filled n (flat enc l)) (w * i) (enc (get_or l k z))) (w * k) (enc z) ≡ filled n (flat enc (remove_at z l i))
    unfolding remove_at
    image_remove n l i k hi e h =
        let m : List A = set l i (get_or l k z) in
        let same : length m ≡ length l = length-set l i (get_or l k z) in
        let k_is : k ≡ length l - 1 = omega arith in
        ap (λ (b : List ℕ). sets b (w * k) (enc z)) (image_put n l i (get_or l k z) hi)
        ∙ image_pop n m k (same ∙ e) (subst (λ (x : ℕ). w * x ≤ n) (sym same) h)
        ∙ ap (λ (x : ℕ). filled n (flat enc (take x (set l i (get_or l x z))))) k_is

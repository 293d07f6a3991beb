-- What a caller of the leaves uses of a buffer of records, of any kind: that it holds a list, and no bytes.
-- Assumes nothing.
use mathlib.Core.Path.{◌≡◌, refl, sym, ap, ap₂, ◌∙◌, subst}
use mathlib.Core.Bool.{Bool, true, false, cond}
use Prim.Native.Nat.{ℕ, suc, ◌+◌, ◌-◌, ◌*◌, ◌/◌, ◌≤◌, ◌<◌}
use native.Mathlib.Nat.{mul-suc, mul_comm, le_trans, mul-le-mul_left, le-div_iff_mul-le, div-mul-le_self, min-le_left, min-le_right, min-eq_left, min-eq_right, le_of_lt, add-zero, add-suc, suc-add, mul-zero, mul-div_right, div-one}
use native.Mathlib.Omega.{arith}
use mathlib.Core.List.{List, [], ◌∷◌, ◌++◌, append_assoc, append-nil}
use lib.Dec.{ltb}
use lib.ListN.{length, take, drop, get_or, set, replicate, length-append, length-replicate, length-drop, get_or-eq_default}
use lib.Seq.{sets, length-sets, sets-eq, drop-drop, drop_at}
use borrow.Author.Tests.{lt-ltb, le-ltb}
use borrow.Rule.Slice.PartMut.{put_mid}
use Rattle.bits.proofs.Below.{length_list_below, get_or_list_below, is_list_below}
use Rattle.records.specs.Places.{remove_at}
use Rattle.records.specs.Records.{flat, filled, Codec, stored, records, list_of, written, image, Holds, Held, capacity_of}
pub use Rattle.records.specs.Kinds.{Lawful}
use Rattle.records.proofs.Filling.{length_filled}
use Rattle.records.proofs.Widths.{sets_part}
use Rattle.records.proofs.Images.{length_flat, length_image, image_put, image_push, image_remove, sets_past}

-- ---- places of a buffer

-- a place within n bytes of records of w bytes
pub place_room : (w n i : ℕ) → 0 < w → i < n / w → w * i + w ≤ n
place_room w n i p l = let h = (le-div_iff_mul-le p).0 l in omega (arith, h, mul-suc w i, mul_comm w (suc i))

pub room_place : (w n i : ℕ) → 0 < w → w * suc i ≤ n → i < n / w
room_place w n i p h = (le-div_iff_mul-le p).1 (omega (arith, mul_comm w (suc i)))

module _ {A : Type 0} (C : Codec A) where
  pub length_records : (k : ℕ) (b : List ℕ) → length (records C k b) ≡ k
  unfolding records
  length_records k b = length_list_below k (C.read b)

  pub get_or_records : (k : ℕ) (b : List ℕ) (i : ℕ) (d : A) → i < k → get_or (records C k b) i d ≡ C.read b i
  unfolding records
  get_or_records k b i d h = get_or_list_below k (C.read b) i d h

  pub length_list : (b : List ℕ) → length (list_of C b) ≡ length b / C.width
  unfolding list_of
  length_list b = length_records (length b / C.width) b

  pub list_at : (b : List ℕ) (i : ℕ) (d : A) → i < length b / C.width → get_or (list_of C b) i d ≡ C.read b i
  unfolding list_of
  list_at b i d h = get_or_records (length b / C.width) b i d h

  pub list_past : (b : List ℕ) (i : ℕ) (d : A) → length b / C.width ≤ i → get_or (list_of C b) i d ≡ d
  list_past b i d h = get_or-eq_default (list_of C b) d {n = i} (rw length_list h)

  pub length_stored : (b : List ℕ) (i : ℕ) (a : A) → length (stored C b i a) ≡ length b
  unfolding stored
  length_stored b i a = go (ltb i (length b / C.width))
    where
      go : (t : Bool) → length (cond t (sets b (C.width * i) (C.enc a)) b) ≡ length b
      go true = length-sets b (C.width * i) (C.enc a)
      go false = refl

  pub stored_in : (b : List ℕ) (i : ℕ) (a : A) → i < length b / C.width → stored C b i a ≡ sets b (C.width * i) (C.enc a)
  unfolding stored
  stored_in b i a h = simp (lt-ltb _ _ h)

  pub stored_out : (b : List ℕ) (i : ℕ) (a : A) → length b / C.width ≤ i → stored C b i a ≡ b
  unfolding stored
  stored_out b i a h = simp (le-ltb _ _ h)

  pub capacity_fits : (limit n : ℕ) → C.width * capacity_of C limit n ≤ n
  unfolding capacity_of
  capacity_fits limit n =
      le_trans (mul-le-mul_left C.width (min-le_left (n / C.width) limit)) (omega (arith, mul_comm C.width (n / C.width), div-mul-le_self n C.width))

  pub capacity_low : (limit n : ℕ) → n / C.width < limit → n / C.width ≡ capacity_of C limit n
  unfolding capacity_of
  capacity_low limit n h = sym (min-eq_left (le_of_lt h))

  pub capacity_high : (limit n : ℕ) → limit ≤ n / C.width → limit ≡ capacity_of C limit n
  unfolding capacity_of
  capacity_high limit n h = sym (min-eq_right h)

  pub capacity_most : (limit n : ℕ) → capacity_of C limit n ≤ limit
  unfolding capacity_of
  capacity_most limit n = min-le_right (n / C.width) limit

-- a record stored over its part of the buffer
pub stored_part : {A : Type 0} (C : Codec A) → Lawful C → (b : List ℕ) (i : ℕ) (a : A) → i < length b / C.width
    → (part : List ℕ) → part ≡ sets (take (C.width * i + C.width - C.width * i) (drop (C.width * i) b)) 0 (C.enc a)
    → put_mid (C.width * i) (C.width * i + C.width - C.width * i) b part ≡ stored C b i a
stored_part C K b i a h part e =
    let p : ℕ = C.width * i in
    let w : ℕ = C.width in
    let long : p + w - p ≡ w = omega arith in
    ap (put_mid p (p + w - p) b) e
    ∙ ap (λ (m : ℕ). put_mid p m b (sets (take m (drop p b)) 0 (C.enc a))) long
    ∙ sets_part b (C.enc a) p w (K.len a) (place_room w (length b) i K.wide h)
    ∙ sym (stored_in C b i a h)

-- bytes are records of one byte, so that what holds of any kind of record holds of them
abbrev pub bytes : Codec ℕ
bytes = record { width = 1; enc = λ x. x ∷ []; read = λ b i. get_or b i 0; none = 0 }

pub list_bytes : (b : List ℕ) → list_of bytes b ≡ b
unfolding list_of records
list_bytes b = sym (is_list_below 0 b (length b / 1) (λ i. get_or b i 0) (sym (div-one (length b))) (λ i h. refl))

-- ---- a buffer that holds a list

module _ {A : Type 0} (C : Codec A) (K : Lawful C) where
  module _ (b : List ℕ) (l : List A) (is : Holds C b l) where
    -- the list fits
    pub holds_fits : C.width * length l ≤ length b
    unfolding Holds image filled
    holds_fits = omega (arith, simp (length-append, length-replicate) at (ap length is), length_flat C.enc C.width K.len l)

    pub holds_place : (i : ℕ) → i < length l → i < length b / C.width
    holds_place i h = room_place C.width (length b) i K.wide (le_trans (mul-le-mul_left C.width h) holds_fits)

    pub holds_load : (i : ℕ) → i < length l → C.read b i ≡ get_or l i C.none
    unfolding Holds
    holds_load i h = ap (λ (x : List ℕ). C.read x i) is ∙ K.reads (length b) l i h

    -- the list is what the records say
    pub holds_records : records C (length l) b ≡ l
    unfolding records
    holds_records = sym (is_list_below C.none l (length l) (C.read b) refl (λ i h. sym (holds_load i h)))

    pub holds_held : Held C (length l) b
    unfolding Held
    holds_held = subst (λ (m : List A). Holds C b m) (sym holds_records) is

    pub holds_store : (i : ℕ) (a : A) → i < length l → Holds C (stored C b i a) (set l i a)
    unfolding Holds image
    holds_store i a h =
        stored_in C b i a (holds_place i h)
        ∙ ap (λ (x : List ℕ). sets x (C.width * i) (C.enc a)) is ∙ image_put C.enc C.width K.len (length b) l i a h
        ∙ ap (λ (n : ℕ). filled n (flat C.enc (set l i a))) (sym (length_stored C b i a))

    pub holds_push : (a : A) → C.width * suc (length l) ≤ length b → Holds C (stored C b (length l) a) (l ++ (a ∷ []))
    unfolding Holds image
    holds_push a h =
        stored_in C b (length l) a (room_place C.width (length b) (length l) K.wide h)
        ∙ ap (λ (x : List ℕ). sets x (C.width * length l) (C.enc a)) is ∙ image_push C.enc C.width K.len C.none K.zero_record (length b) l a h
        ∙ ap (λ (n : ℕ). filled n (flat C.enc (l ++ (a ∷ [])))) (sym (length_stored C b (length l) a))

    -- place i removed: the last record stored there, and its own place cleared
    pub holds_remove : (i k : ℕ) → i < length l → length l ≡ suc k
        → Holds C (stored C (stored C b i (get_or l k C.none)) k C.none) (remove_at C.none l i)
    unfolding Holds image
    holds_remove i k hi e =
        let x : A = get_or l k C.none in
        let b₁ : List ℕ = stored C b i x in
        stored_in C b₁ k C.none (rw (length_stored C b i x) (holds_place k (omega arith)))
        ∙ ap (λ (y : List ℕ). sets y (C.width * k) (C.enc C.none))
        (stored_in C b i x (holds_place i hi) ∙ ap (λ (y : List ℕ). sets y (C.width * i) (C.enc x)) is)
        ∙ image_remove C.enc C.width K.len C.none K.zero_record (length b) l i k hi e holds_fits
        ∙ ap (λ (n : ℕ). filled n (flat C.enc (remove_at C.none l i))) (sym (length_stored C b₁ k C.none ∙ length_stored C b i x))

  -- k records fit
  pub held_fits : (k : ℕ) (b : List ℕ) → Held C k b → C.width * k ≤ length b
  unfolding Held
  held_fits k b h = subst (λ (m : ℕ). C.width * m ≤ length b) (length_records C k b) (holds_fits b (records C k b) h)

  pub held_place : (k : ℕ) (b : List ℕ) → Held C k b → (i : ℕ) → i < k → i < length b / C.width
  held_place k b h i l = room_place C.width (length b) i K.wide (le_trans (mul-le-mul_left C.width l) (held_fits k b h))

  -- the bytes of a list, and zeros after them, hold the list
  pub filled_holds : (n : ℕ) (l : List A) (s : List ℕ) → flat C.enc l ≡ s → length s ≤ n → Holds C (filled n s) l
  unfolding Holds image
  filled_holds n l s e h = ap₂ (λ (k : ℕ) (t : List ℕ). filled k t) (sym (length_filled n s h)) (sym e)

  -- a buffer whose first k records are those of l is as long as it was
  pub image_holds : (n : ℕ) (l : List A) → C.width * length l ≤ n → Holds C (image C n l) l
  unfolding Holds image
  image_holds n l h = ap (λ (k : ℕ). filled k (flat C.enc l)) (sym (length_image C.enc C.width K.len n l h))

  -- the records of the bytes of a list are the list
  pub list_flat : (l : List A) → list_of C (flat C.enc l) ≡ l
  unfolding list_of Holds image filled
  list_flat l =
      let b : List ℕ = flat C.enc l in
      let long : length b ≡ C.width * length l = length_flat C.enc C.width K.len l in
      let none : length b - length b ≡ 0 = omega arith in
      ap (λ (k : ℕ). records C k b) (ap (λ (n : ℕ). n / C.width) long ∙ mul-div_right (length l) K.wide)
      ∙ holds_records b l (sym (ap (λ (k : ℕ). b ++ replicate k 0) none ∙ append-nil b))

-- ---- a list written from a place on

module _ {A : Type 0} (C : Codec A) where
  pub length_written : (k : ℕ) (l : List A) (b : List ℕ) → length (written C k l b) ≡ length b
  unfolding written
  length_written k [] b = refl
  length_written k (a ∷ l) b = length_written (suc k) l (stored C b k a) ∙ length_stored C b k a

  pub written_append : (k : ℕ) (l m : List A) (b : List ℕ) → written C k (l ++ m) b ≡ written C (k + length l) m (written C k l b)
  unfolding written
  written_append k [] m b = ap (λ (j : ℕ). written C j m b) (sym (add-zero k))
  written_append k (a ∷ l) m b =
      written_append (suc k) l m (stored C b k a)
      ∙ ap (λ (j : ℕ). written C j m (written C (suc k) l (stored C b k a))) (suc-add k (length l) ∙ sym (add-suc k (length l)))

  pub written_snoc : (k : ℕ) (l : List A) (a : A) (b : List ℕ) → written C k (l ++ (a ∷ [])) b ≡ stored C (written C k l b) (k + length l) a
  unfolding written
  written_snoc k l a b = written_append k l (a ∷ []) b

module _ {A : Type 0} (C : Codec A) (K : Lawful C) where
  -- after a front of k records: the bytes of the list, and then what was there
  written_past : (p q : List ℕ) (k : ℕ) (l : List A) → length p ≡ C.width * k → C.width * length l ≤ length q
      → written C k l (p ++ q) ≡ p ++ (flat C.enc l ++ drop (C.width * length l) q)
  unfolding written
  written_past p q k [] e h = ap (λ (n : ℕ). p ++ drop n q) (sym (mul-zero C.width))
  written_past p q k (a ∷ l) e h =
      let w : ℕ = C.width in
      let long : w * suc (length l) ≡ w * length l + w = mul-suc w (length l) in
      let here : k < length (p ++ q) / w = room_place w (length (p ++ q)) k K.wide (omega (arith, length-append p q, mul-suc w k)) in
      let bytes : 0 + length (C.enc a) ≡ w = omega (arith, K.len a) in
      let end : w + w * length l ≡ w * suc (length l) = omega arith in
      let put : stored C (p ++ q) k a ≡ (p ++ C.enc a) ++ drop w q =
      stored_in C (p ++ q) k a here
      ∙ ap (λ (n : ℕ). sets (p ++ q) n (C.enc a)) (sym e ∙ sym (add-zero (length p)))
      ∙ sets_past p q (C.enc a) 0
      ∙ ap (λ (t : List ℕ). p ++ t) (sets-eq (C.enc a) q 0 (omega (arith, K.len a)) ∙ ap (λ (n : ℕ). C.enc a ++ drop n q) bytes)
      ∙ sym (append_assoc p (C.enc a) (drop w q)) in
      ap (written C (suc k) l) put
      ∙ written_past (p ++ C.enc a) (drop w q) (suc k) l (omega (arith, length-append p (C.enc a), K.len a, mul-suc w k)) (omega (arith, length-drop w q))
      ∙ append_assoc p (C.enc a) (flat C.enc l ++ drop (w * length l) (drop w q))
      ∙ ap (λ (t : List ℕ). p ++ (C.enc a ++ (flat C.enc l ++ t))) (drop-drop (w * length l) w q ∙ ap (λ (n : ℕ). drop n q) end)
      ∙ ap (λ (t : List ℕ). p ++ t) (sym (append_assoc (C.enc a) (flat C.enc l) (drop (w * suc (length l)) q)))

  pub written_front : (b : List ℕ) (l : List A) → C.width * length l ≤ length b
      → written C 0 l b ≡ flat C.enc l ++ drop (C.width * length l) b
  written_front b l h = written_past [] b 0 l (sym (mul-zero C.width)) h

  -- every byte after the list is as it was
  pub written_rest : (b : List ℕ) (l : List A) → C.width * length l ≤ length b → drop (C.width * length l) (written C 0 l b) ≡ drop (C.width * length l) b
  written_rest b l h =
      ap (drop (C.width * length l)) (written_front b l h)
      ∙ drop_at (flat C.enc l) (drop (C.width * length l) b) (C.width * length l) (length_flat C.enc C.width K.len l)

  -- what was written is read back, where a record within a front of bytes is read the same whatever comes after
  module _ (front : (s t : List ℕ) (i : ℕ) → i < length s / C.width → C.read (s ++ t) i ≡ C.read s i)
      (b : List ℕ) (l : List A) (h : C.width * length l ≤ length b) where
    pub written_read : (i : ℕ) → i < length l → C.read (written C 0 l b) i ≡ get_or l i C.none
    written_read i hi =
        let s : List ℕ = flat C.enc l in
        let here : i < length s / C.width =
        subst (λ (m : ℕ). i < m) (sym (ap length (list_flat C K l)) ∙ length_list C s) hi in
        ap (λ (x : List ℕ). C.read x i) (written_front b l h)
        ∙ front s (drop (C.width * length l) b) i here ∙ sym (list_at C s i C.none here) ∙ ap (λ (m : List A). get_or m i C.none) (list_flat C K l)

    pub written_records : records C (length l) (written C 0 l b) ≡ l
    unfolding records
    written_records = sym (is_list_below C.none l (length l) (C.read (written C 0 l b)) refl (λ i hi. sym (written_read i hi)))

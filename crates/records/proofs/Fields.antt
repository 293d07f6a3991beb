-- A kind of record that has numbers for its fields is lawful, and the bytes of what is read are the bytes that were there: from the fields' widths alone.
-- Assumes nothing.
use mathlib.Core.Path.{◌≡◌, refl, sym, ap, ap₂, ◌∙◌}
use mathlib.Core.Bool.{Bool, true, ◌&&◌}
use mathlib.Core.List.{List, [], ◌∷◌, ◌++◌, append_assoc, append-nil}
use Prim.Native.Nat.{ℕ, suc, ◌+◌, ◌-◌, ◌*◌, ◌/◌, ◌<◌, ◌≤◌}
use native.Mathlib.Nat.{add-zero, add_assoc, mul-zero}
use native.Mathlib.Omega.{arith}
use lib.Dec.{ltb}
use lib.ListN.{length, get_or, replicate, take, drop, length-append, length-take, length-drop, replicate-append-replicate, get_or-append}
use lib.Seq.{sets, split_at, length-take-le, get_or-take, get_or-drop, get_or-append-add, take-append-le, drop-append-le}
use borrow.Author.Tests.{ltb-true}
use Rattle.bits.specs.Below.{list_below}
use Rattle.bits.proofs.Bools.{both_true, below_or}
use mathlib.Core.Logic.{⊎_elim}
use Rattle.records.specs.Numbers.{bytes_of, number_at}
use Rattle.records.specs.Records.{flat, filled, image, records, list_of, zeros}
use Rattle.records.specs.Kinds.{Laws}
use Rattle.records.specs.Fields.{total, field_bytes, numbers_at, by_fields}
use Rattle.records.proofs.Widths.{length_bytes_lem, bytes_zero, number_past, number_front, bytes_back, number_part, sets_append}
use Rattle.records.proofs.Images.{flat_append, length_flat, flat_list_below}
use Rattle.records.proofs.Records.{Lawful, list_at, place_room}

-- each field has a byte
abbrev pub positive : List ℕ → Bool
positive [] = true
positive (w ∷ ws) = ltb 0 w && positive ws

-- ---- the bytes of some numbers

length_fields : (ws xs : List ℕ) → length xs ≡ length ws → length (field_bytes ws xs) ≡ total ws
length_fields [] xs e = refl
length_fields (w ∷ ws) [] e = absurd (omega arith)
length_fields (w ∷ ws) (x ∷ xs) e =
    length-append (bytes_of w x) (field_bytes ws xs) ∙ ap₂ ◌+◌ (length_bytes_lem w x) (length_fields ws xs (omega arith))

fields_zero : (ws : List ℕ) → field_bytes ws (zeros (length ws)) ≡ zeros (total ws)
fields_zero [] = refl
fields_zero (w ∷ ws) = ap₂ ◌++◌ (bytes_zero w) (fields_zero ws) ∙ replicate-append-replicate w (total ws) 0

-- one field more
pub fields_last : (ws xs : List ℕ) → length xs ≡ length ws → (w x : ℕ) → field_bytes ws xs ++ bytes_of w x ≡ field_bytes (ws ++ (w ∷ [])) (xs ++ (x ∷ []))
fields_last [] [] e w x = sym (append-nil (bytes_of w x))
fields_last [] (y ∷ xs) e w x = absurd (omega arith)
fields_last (v ∷ ws) [] e w x = absurd (omega arith)
fields_last (v ∷ ws) (y ∷ xs) e w x =
    append_assoc (bytes_of v y) (field_bytes ws xs) (bytes_of w x) ∙ ap (λ (s : List ℕ). bytes_of v y ++ s) (fields_last ws xs (omega arith) w x)

-- the numbers whose bytes stand after a front
fields_read : (ws xs : List ℕ) → positive ws ≡ true → length xs ≡ length ws → (a t : List ℕ) (base at : ℕ) → length a ≡ base + at
    → numbers_at ws (a ++ (field_bytes ws xs ++ t)) base at ≡ xs
fields_read [] [] wide e a t base at l = refl
fields_read [] (x ∷ xs) wide e a t base at l = absurd (omega arith)
fields_read (w ∷ ws) [] wide e a t base at l = absurd (omega arith)
fields_read (w ∷ ws) (x ∷ xs) wide e a t base at l =
    let s : List ℕ = bytes_of w x in
    let r : List ℕ = field_bytes ws xs in
    let p = both_true (ltb 0 w) (positive ws) wide in
    let here : number_at w (a ++ ((s ++ r) ++ t)) (base + at) ≡ x =
    ap (number_at w (a ++ ((s ++ r) ++ t))) (sym l ∙ sym (add-zero (length a)))
    ∙ number_past w a ((s ++ r) ++ t) 0
    ∙ ap (λ (b : List ℕ). number_at w b 0) (append_assoc s r t)
    ∙ number_front w x (r ++ t) (ltb-true 0 w p.0) in
    let behind : a ++ ((s ++ r) ++ t) ≡ (a ++ s) ++ (r ++ t) = ap (λ (b : List ℕ). a ++ b) (append_assoc s r t) ∙ sym (append_assoc a s (r ++ t)) in
    let rest : numbers_at ws (a ++ ((s ++ r) ++ t)) base (at + w) ≡ xs =
    ap (λ (b : List ℕ). numbers_at ws b base (at + w)) behind
    ∙ fields_read ws xs p.1 (omega arith) (a ++ s) t base (at + w) (length-append a s ∙ ap₂ ◌+◌ l (length_bytes_lem w x) ∙ add_assoc base at w) in
    ap₂ (λ (y : ℕ) (ys : List ℕ). y ∷ ys) here rest

-- the bytes of the numbers that were read
fields_back : (b : List ℕ) → ((i : ℕ) → get_or b i 0 < 256) → (ws : List ℕ) (base at r : ℕ) → r < total ws
    → get_or (field_bytes ws (numbers_at ws b base at)) r 0 ≡ get_or b (base + at + r) 0
fields_back b small [] base at r h = absurd (omega arith)
fields_back b small (w ∷ ws) base at r h =
    let s : List ℕ = bytes_of w (number_at w b (base + at)) in
    let t : List ℕ = field_bytes ws (numbers_at ws b base (at + w)) in
    let long : length s ≡ w = length_bytes_lem w (number_at w b (base + at)) in
    ⊎_elim
    (λ l. get_or-append s t 0 r (omega arith) ∙ bytes_back b small w (base + at) r l)
    (λ l.
    let e : r ≡ length s + (r - w) = omega arith in
    let f : base + (at + w) + (r - w) ≡ base + at + r = omega arith in
    ap (λ (n : ℕ). get_or (s ++ t) n 0) e ∙ get_or-append-add s t (r - w) 0
    ∙ fields_back b small ws base (at + w) (r - w) (omega arith) ∙ ap (λ (n : ℕ). get_or b n 0) f)
    (below_or r w)

-- the numbers in a part of a buffer
numbers_part : (b : List ℕ) (p m : ℕ) (ws : List ℕ) (base at : ℕ) → base + at + total ws ≤ m → numbers_at ws (take m (drop p b)) base at ≡ numbers_at ws b (p + base) at
numbers_part b p m [] base at h = refl
numbers_part b p m (w ∷ ws) base at h =
    ap₂ (λ (y : ℕ) (ys : List ℕ). y ∷ ys)
    (number_part w b p m (base + at) (omega arith) ∙ ap (number_at w b) (sym (add_assoc p base at)))
    (numbers_part b p m ws base (at + w) (omega arith))

-- two numbers stored one after the other
pub stored_both : (w x y : ℕ) (b : List ℕ) (p : ℕ) → sets (sets b p (bytes_of w x)) (p + w) (bytes_of w y) ≡ sets b p (field_bytes (w ∷ w ∷ []) (x ∷ y ∷ []))
stored_both w x y b p =
    ap (λ (k : ℕ). sets (sets b p (bytes_of w x)) (p + k) (bytes_of w y)) (sym (length_bytes_lem w x))
    ∙ sets_append b p (bytes_of w x) (bytes_of w y) ∙ ap (λ (vs : List ℕ). sets b p (bytes_of w x ++ vs)) (sym (append-nil (bytes_of w y)))

-- ---- the kind of record

-- what has to be shown of the fields: there are some, and the record is theirs and they the record's
pub record Fields {A : Type 0} (ws : List ℕ) (fields : A → List ℕ) (of : List ℕ → A) : Type 0 where
  pub wide : positive ws ≡ true
  pub some : 0 < total ws
  pub many : (a : A) → length (fields a) ≡ length ws
  pub back : (a : A) → of (fields a) ≡ a
  pub there : (b : List ℕ) (base : ℕ) → fields (of (numbers_at ws b base 0)) ≡ numbers_at ws b base 0
  pub none : fields (of (zeros (length ws))) ≡ zeros (length ws)

module _ {A : Type 0} (ws : List ℕ) (fields : A → List ℕ) (of : List ℕ → A) (F : Fields ws fields of) where
  long : (a : A) → length (field_bytes ws (fields a)) ≡ total ws
  long a = length_fields ws (fields a) (F.many a)

  field_image : (n : ℕ) (l : List A) (i : ℕ) → i < length l → of (numbers_at ws (image (by_fields ws fields of) n l) (total ws * i) 0) ≡ get_or l i (of (zeros (length ws)))
  unfolding image filled
  field_image n l i h =
      let enc : A → List ℕ = λ a. field_bytes ws (fields a) in
      let d : A = of (zeros (length ws)) in
      let x : A = get_or l i d in
      let z : List ℕ = replicate (n - length (flat enc l)) 0 in
      let front : List ℕ = flat enc (take i l) in
      let rest : List ℕ = flat enc (drop (suc i) l) in
      let parts : flat enc l ++ z ≡ front ++ (enc x ++ (rest ++ z)) =
      ap (λ (m : List A). flat enc m ++ z) (split_at l i d h)
      ∙ ap (λ (b : List ℕ). b ++ z) (flat_append enc (take i l) (x ∷ drop (suc i) l))
      ∙ append_assoc front (enc x ++ rest) z ∙ ap (λ (b : List ℕ). front ++ b) (append_assoc (enc x) rest z) in
      let long : length front ≡ total ws * i + 0 =
      length_flat enc (total ws) long (take i l) ∙ ap (λ (k : ℕ). total ws * k) (length-take-le i l (omega arith)) ∙ sym (add-zero (total ws * i)) in
      ap (λ (b : List ℕ). of (numbers_at ws b (total ws * i) 0)) parts
      ∙ ap of (fields_read ws (fields x) F.wide (F.many x) front (rest ++ z) (total ws * i) 0 long) ∙ F.back x

  pub fields_lawful : Lawful (by_fields ws fields of)
  fields_lawful = record {
    wide = F.some;
    len = long;
    zero_record = ap (field_bytes ws) F.none ∙ fields_zero ws;
    reads = field_image;
  }

  -- the bytes of the records of a buffer are the buffer's bytes
  pub fields_bytes : (k : ℕ) (s : List ℕ) → length s ≡ total ws * k → ((i : ℕ) → get_or s i 0 < 256)
      → flat (λ a. field_bytes ws (fields a)) (records (by_fields ws fields of) k s) ≡ s
  unfolding records
  fields_bytes k s e small =
      flat_list_below (λ a. field_bytes ws (fields a)) (total ws) long k (λ i. of (numbers_at ws s (total ws * i) 0)) s e (λ i r hi hr.
      ap (λ (xs : List ℕ). get_or (field_bytes ws xs) r 0) (F.there s (total ws * i))
      ∙ fields_back s small ws (total ws * i) 0 r hr ∙ ap (λ (n : ℕ). get_or s (n + r) 0) (add-zero (total ws * i)))

  -- the bytes of one of them are those of its part of the buffer
  pub fields_part : (b : List ℕ) → ((i : ℕ) → get_or b i 0 < 256) → (i : ℕ) → i < length b / total ws
      → field_bytes ws (fields (of (numbers_at ws b (total ws * i) 0))) ≡ take (total ws) (drop (total ws * i) b)
  unfolding list_below
  fields_part b small i h =
      let p : ℕ = total ws * i in
      let w : ℕ = total ws in
      let room : p + w ≤ length b = place_room w (length b) i F.some h in
      let one : length (take w (drop p b)) ≡ w * 1 = omega (arith, length-take w (drop p b), length-drop p b) in
      sym (append-nil (field_bytes ws (fields (of (numbers_at ws b p 0)))))
      ∙ flat_list_below (λ a. field_bytes ws (fields a)) w long 1 (λ k. of (numbers_at ws b p 0)) (take w (drop p b)) one (λ k r hk hr.
      let z : w * k + r ≡ r = omega (arith, ap (λ (t : ℕ). w * t) (only k hk), mul-zero w) in
      ap (λ (xs : List ℕ). get_or (field_bytes ws xs) r 0) (F.there b p)
      ∙ fields_back b small ws p 0 r hr ∙ ap (λ (n : ℕ). get_or b (n + r) 0) (add-zero p)
      ∙ sym (ap (λ (n : ℕ). get_or (take w (drop p b)) n 0) z ∙ get_or-take w (drop p b) r 0 hr ∙ get_or-drop p b r 0))
    where
      only : (k : ℕ) → k < 1 → k ≡ 0
      only k h = omega arith

  -- a record read from its part of the buffer
  pub fields_in : (b : List ℕ) (i : ℕ) (d : A) → i < length b / total ws
      → of (numbers_at ws (take (total ws * i + total ws - total ws * i) (drop (total ws * i) b)) 0 0) ≡ get_or (list_of (by_fields ws fields of) b) i d
  fields_in b i d h =
      let p : ℕ = total ws * i in
      ap of (numbers_part b p (p + total ws - p) ws 0 0 (omega arith) ∙ ap (λ (q : ℕ). numbers_at ws b q 0) (add-zero p))
      ∙ sym (list_at (by_fields ws fields of) b i d h)

  -- what a kind of record has to keep
  pub fields_laws : Laws (by_fields ws fields of)
  fields_laws = record {
    lawful = fields_lawful;
    part = λ b i h.
        ap (λ (q : ℕ). of (numbers_at ws (take (total ws * i + total ws - total ws * i) (drop (total ws * i) b)) q 0)) (mul-zero (total ws))
        ∙ fields_in b i (of (zeros (length ws))) h ∙ list_at (by_fields ws fields of) b i (of (zeros (length ws))) h;
  }

  -- a record within a front of bytes is read the same whatever comes after
  pub fields_front : (s t : List ℕ) (i : ℕ) → i < length s / total ws → (by_fields ws fields of).read (s ++ t) i ≡ (by_fields ws fields of).read s i
  fields_front s t i h =
      let w : ℕ = total ws in
      let p : ℕ = w * i in
      let room : p + w ≤ length s = place_room w (length s) i F.some h in
      let part : take w (drop p (s ++ t)) ≡ take w (drop p s) =
      ap (take w) (drop-append-le p s t (omega arith)) ∙ take-append-le w (drop p s) t (omega (arith, length-drop p s)) in
      let alone : (b : List ℕ) → numbers_at ws (take w (drop p b)) 0 0 ≡ numbers_at ws b p 0 =
      λ b. numbers_part b p w ws 0 0 (omega arith) ∙ ap (λ (q : ℕ). numbers_at ws b q 0) (add-zero p) in
      ap of (sym (alone (s ++ t)) ∙ ap (λ (b : List ℕ). numbers_at ws b 0 0) part ∙ alone s)

-- Bytes into the bits of four words, and those bits into bytes.
-- Assumes nothing.
use mathlib.Core.Path.{◌≡◌, refl, sym, ap, ap₂, ◌∙◌}
use mathlib.Core.Logic.{⊎_elim}
use mathlib.Core.List.{List, ◌++◌, append-nil, append_assoc}
use Prim.Native.Nat.{ℕ, zero, suc, ◌+◌, ◌-◌, ◌*◌, ◌/◌, ◌%◌, ◌≤◌, ◌<◌, min}
use native.Mathlib.Omega.{arith}
use lib.ListN.{length, get_or, take, drop, length-append, length-drop, drop_of_length-le}
use lib.Seq.{take_at, drop-append-add, drop-drop, length-take-le}
use Rattle.bits.specs.Bits.{bit}
use Rattle.bits.specs.Below.{list_below}
use Rattle.bits.specs.Packed.{word_at, bit_at, word_from, packed, put_bits}
use Rattle.bits.specs.declared.packed.Packed.{Packed}
use Rattle.bits.proofs.Bools.{below_or}
use Rattle.bits.proofs.Below.{length_list_below, list_below_cong, list_below_parts}
use Rattle.bits.proofs.Front.{front_none}
use Rattle.bits.proofs.packing.Packing.{digits, digits_bit}
use Rattle.bits.proofs.packing.Putting.{word_put, put_past}
use Rattle.bits.proofs.packed.Words.{word_bit}

-- ---- bytes packed

pub packed_is : (l : List ℕ) (a b c d : ℕ) → a ≡ word_from l 0 → b ≡ word_from l 64 → c ≡ word_from l 128 → d ≡ word_from l 192
    → record { a = a; b = b; c = c; d = d } ≡ packed l
unfolding packed
packed_is l a b c d ea eb ec ed = λ i. record { a = ea i; b = eb i; c = ec i; d = ed i }

lowest_bit : (l : List ℕ) (t : ℕ) → t < 256 → bit_at (packed l) t ≡ get_or l t 0 % 2
unfolding bit_at packed word_from
lowest_bit l t h =
    word (t / 64) (omega arith) (t % 64)
    ∙ digits_bit l (64 * (t / 64)) 64 (t % 64) (omega arith)
    ∙ ap (λ (i : ℕ). get_or l i 0 % 2) (omega arith)
  where
    word : (i : ℕ) → i < 4 → (j : ℕ) → bit (word_at (packed l) i) j ≡ bit (digits l (64 * i) 64) j
    word zero h j = refl
    word (suc zero) h j = refl
    word (suc (suc zero)) h j = refl
    word (suc (suc (suc zero))) h j = refl
    word (suc (suc (suc (suc i)))) h j = absurd (omega arith)

pub packed_bit : (l : List ℕ) → ((t : ℕ) → get_or l t 0 < 2) → (t : ℕ) → t < 256 → bit_at (packed l) t ≡ get_or l t 0
packed_bit l bits t h = lowest_bit l t h ∙ small (get_or l t 0) (bits t)
  where
    small : (x : ℕ) → x < 2 → x % 2 ≡ x
    small x h = omega arith

-- ---- word by word

-- the bits before `from` have been put
abbrev put_upto : Packed → List ℕ → ℕ → List ℕ
put_upto w b from = list_below (min from (length b)) (bit_at w) ++ drop from b

module _ (w : Packed) (b : List ℕ) where
  length_put : (from : ℕ) → length (put_upto w b from) ≡ length b
  length_put from = simp (length-append, length_list_below, length-drop) (omega arith)

  -- word i, where the buffer ends before it, and where it does not
  put_none : (x i : ℕ) → length b ≤ i * 64 → word_put x (i * 64) (put_upto w b (i * 64)) ≡ put_upto w b (i * 64 + 64)
  put_none x i h =
      let e : min (i * 64) (length b) ≡ min (i * 64 + 64) (length b) = omega arith in
      sym (put_past x (i * 64) (put_upto w b (i * 64)) (omega (arith, length_put (i * 64))))
      ∙ ap₂ (λ (k : ℕ) (l : List ℕ). list_below k (bit_at w) ++ l) e
      (drop_of_length-le b {i = i * 64} h ∙ sym (drop_of_length-le b {i = i * 64 + 64} (omega arith)))

  module _ (x i : ℕ) (ex : x ≡ word_at w i) (h : i * 64 < length b) where
    front : List ℕ
    front = list_below (i * 64) (bit_at w)

    upto : put_upto w b (i * 64) ≡ front ++ drop (i * 64) b
    unfolding front
    upto = let e : min (i * 64) (length b) ≡ i * 64 = omega arith in ap (λ (k : ℕ). list_below k (bit_at w) ++ drop (i * 64) b) e

    long : length front ≡ i * 64
    unfolding front
    long = length_list_below (i * 64) (bit_at w)

    part_is : (k : ℕ) → k ≤ 64 → front ++ list_below k (bit x) ≡ list_below (i * 64 + k) (bit_at w)
    unfolding front
    part_is k l =
        ap (λ (m : List ℕ). front ++ m) (list_below_cong k (bit x) (λ j. bit_at w (i * 64 + j)) (λ j m. ap (λ (y : ℕ). bit y j) ex ∙ sym (word_bit w i j (omega arith))))
        ∙ sym (list_below_parts (i * 64) k (bit_at w))

    put_some : word_put x (i * 64) (put_upto w b (i * 64)) ≡ put_upto w b (i * 64 + 64)
    put_some =
        let k : ℕ = min (length b - i * 64) 64 in
        let rest : drop (i * 64 + 64) (front ++ drop (i * 64) b) ≡ drop (i * 64 + 64) b =
        ap (λ (m : ℕ). drop (m + 64) (front ++ drop (i * 64) b)) (sym long) ∙ drop-append-add front (drop (i * 64) b) 64 ∙ drop-drop 64 (i * 64) b in
        let e : i * 64 + k ≡ min (i * 64 + 64) (length b) = omega arith in
        ap (λ (m : ℕ). take (i * 64) (put_upto w b (i * 64)) ++ (list_below (min (m - i * 64) 64) (bit x) ++ drop (i * 64 + 64) (put_upto w b (i * 64)))) (length_put (i * 64))
        ∙ ap (λ (l : List ℕ). take (i * 64) l ++ (list_below k (bit x) ++ drop (i * 64 + 64) l)) upto
        ∙ ap₂ (λ (l m : List ℕ). l ++ (list_below k (bit x) ++ m)) (take_at front (drop (i * 64) b) (i * 64) long) rest
        ∙ sym (append_assoc front (list_below k (bit x)) (drop (i * 64 + 64) b))
        ∙ ap (λ (l : List ℕ). l ++ drop (i * 64 + 64) b) (part_is k (omega arith) ∙ ap (λ (m : ℕ). list_below m (bit_at w)) e)

  put_next : (i : ℕ) (l m : List ℕ) → l ≡ put_upto w b (i * 64) → m ≡ word_put (word_at w i) (i * 64) l → m ≡ put_upto w b (i * 64 + 64)
  put_next i l m e f =
      f ∙ ap (word_put (word_at w i) (i * 64)) e ∙ ⊎_elim (put_some (word_at w i) i refl) (put_none (word_at w i) i) (below_or (i * 64) (length b))

  start : b ≡ put_upto w b 0
  start = let e : 0 ≡ min 0 (length b) = omega arith in (front_none (bit_at w) b).is ∙ ap (λ (k : ℕ). list_below k (bit_at w) ++ drop 0 b) e

  pub put_all : (l₁ l₂ l₃ l₄ : List ℕ) → l₁ ≡ word_put w.a 0 b → l₂ ≡ word_put w.b 64 l₁ → l₃ ≡ word_put w.c 128 l₂ → l₄ ≡ word_put w.d 192 l₃ → l₄ ≡ put_bits w b
  unfolding put_bits
  put_all l₁ l₂ l₃ l₄ e₁ e₂ e₃ e₄ = put_next 3 l₃ l₄ (put_next 2 l₂ l₃ (put_next 1 l₁ l₂ (put_next 0 b l₁ start e₁) e₂) e₃) e₄

  -- a lent front of at most 256 bytes is the first bits
  pub put_front : (m : ℕ) → m ≤ 256 → m ≤ length b → put_bits w (take m b) ≡ list_below m (bit_at w)
  unfolding put_bits
  put_front m h room =
      let long : length (take m b) ≡ m = length-take-le m b room in
      let e : min 256 (length (take m b)) ≡ m = omega arith in
      ap₂ (λ (k : ℕ) (l : List ℕ). list_below k (bit_at w) ++ l) e (drop_of_length-le (take m b) {i = 256} (omega arith)) ∙ append-nil (list_below m (bit_at w))

-- The bits of a word put to bytes: one by one, and four at a time; and to the bytes of a longer buffer.
-- Assumes nothing.
use mathlib.Core.Path.{◌≡◌, sym, ap, ap₂, ◌∙◌, subst}
use mathlib.Core.Logic.{⊎_elim}
use mathlib.Core.List.{List, ◌++◌, append-nil}
use Prim.Native.Nat.{ℕ, ◌+◌, ◌-◌, ◌/◌, ◌%◌, ◌^◌, ◌≤◌, ◌<◌, min}
use native.Mathlib.Omega.{arith}
use borrow.Rule.Slice.PartMut.{put_mid, Post-is}
use lib.ListN.{length, take, drop, length-take, length-drop, drop_of_length-le}
use lib.Seq.{take_all}
use Rattle.bits.specs.Bits.{bit}
use Rattle.bits.specs.Below.{list_below}
use Rattle.bits.specs.Packed.{byte_of, spread_bits}
use Rattle.bits.proofs.Bools.{below_or}
use Rattle.bits.proofs.Below.{list_below_cong}
use Rattle.bits.proofs.Front.{Front, front_part}
use Rattle.bits.proofs.packing.Spreading.{spread_byte, four_bits}

module _ (w : ℕ) (l₀ l : List ℕ) (j : ℕ) (r : Front (bit w) l₀ l j) where
  pub front_four : (next : ℕ) → next ≡ j + 4 → (end : ℕ) → end ≡ j + 4 → end ≤ length l → (x s : ℕ) → x ≡ w / 2 ^ j % 16 → s ≡ spread_bits 4 x
      → (part : List ℕ) → part ≡ list_below (length (take (end - j) (drop j l))) (byte_of s) → Front (bit w) l₀ (put_mid j (end - j) l part) next
  front_four next en end ee h x s ex es part ep =
      let long : length (take (end - j) (drop j l)) ≡ 4 = simp (length-take, length-drop) (omega arith) in
      let lt : x < 16 = omega (arith, ex) in
      subst (Front (bit w) l₀ (put_mid j (end - j) l part)) (sym en)
      (front_part (bit w) l₀ l j r 4 end ee h part
      (ep ∙ ap (λ (k : ℕ). list_below k (byte_of s)) long
      ∙ list_below_cong 4 (byte_of s) (λ i. bit w (j + i)) (λ i b.
      ap (λ (y : ℕ). byte_of y i) es ∙ spread_byte x i lt b ∙ ap (λ (y : ℕ). bit y i) ex ∙ four_bits w j i b)))

-- ---- word by word

-- the bytes from `from` on of b are the bits of x, as many as there are; no other byte changes
abbrev pub word_put : ℕ → ℕ → List ℕ → List ℕ
word_put x from b = take from b ++ (list_below (min (length b - from) 64) (bit x) ++ drop (from + 64) b)

module _ (x from : ℕ) (b : List ℕ) where
  pub put_past : length b ≤ from → b ≡ word_put x from b
  unfolding list_below
  put_past h =
      let none : min (length b - from) 64 ≡ 0 = omega arith in
      sym (rw (none, take_all from b h, drop_of_length-le b {i = from + 64} (omega arith)) (append-nil b))

  module _ (size : ℕ) (es : size ≡ min (length b - from) 64) (ne : size ≡ 0 → ⊥) where
    behind : drop (from + size) b ≡ drop (from + 64) b
    behind =
        ⊎_elim (λ l. drop_of_length-le b {i = from + size} (omega arith) ∙ sym (drop_of_length-le b {i = from + 64} (omega arith)))
        (λ l. let e : size ≡ 64 = omega arith in ap (λ (k : ℕ). drop (from + k) b) e) (below_or (length b) (from + 64))

    pub put_part : (end : ℕ) → end ≡ from + size → (part : List ℕ) → part ≡ list_below (length (take (end - from) (drop from b))) (bit x)
        → put_mid from (end - from) b part ≡ word_put x from b
    put_part end ee part ep =
        let long : length (take (end - from) (drop from b)) ≡ min (length b - from) 64 = simp (length-take, length-drop) (omega arith) in
        ap₂ (λ (l m : List ℕ). take from b ++ (l ++ m)) (ep ∙ ap (λ (k : ℕ). list_below k (bit x)) long)
        (Post-is from end b (omega arith) ∙ ap (λ (k : ℕ). drop k b) ee ∙ behind)

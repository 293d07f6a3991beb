-- Bytes packed into the bits of a word: one by one, and eight at a time.
-- Assumes nothing.
use mathlib.Core.Path.{◌≡◌, refl, sym, ap, ap₂, ◌∙◌, subst}
use mathlib.Core.List.{List}
use Prim.Native.Nat.{ℕ, ◌+◌, ◌-◌, ◌*◌, ◌%◌, ◌^◌, ◌≤◌, ◌<◌, min, zero-le}
use native.Mathlib.Nat.{mod-lt, zero-lt-suc, zero-add, zero-mul, mul_assoc}
use native.Mathlib.Numerals.{add-one}
use native.Mathlib.Omega.{arith}
use lib.Bits.{bit_and, bit_or, and_mask}
use lib.Dec.{lit<}
use lib.ListN.{length, get_or, take, drop, get_or-eq_default}
use lib.Pow.{pow-add}
use lib.Seq.{get_or-take, get_or-drop}
use Rattle.bits.specs.Bits.{bit}
use Rattle.bits.specs.Below.{sum_below}
use Rattle.bits.specs.Packed.{number_of, spread_bits, word_from}
use Rattle.bits.proofs.Below.{sum_cong, sum_parts, sum_times, sum_none}
use Rattle.bits.proofs.Weights.{weighted_lt, weighted_bit}
use Rattle.bits.proofs.packing.Spreading.{or_above, and_bytes}

-- the bytes from `from` on, a bit each, as the digits of a number
abbrev pub lowest : List ℕ → ℕ → ℕ → ℕ
lowest l from i = get_or l (from + i) 0 % 2

module _ (l : List ℕ) (from : ℕ) where
  abbrev pub digits : ℕ → ℕ
  digits m = sum_below m (λ i. lowest l from i * 2 ^ i)

  digit_lt : (i : ℕ) → lowest l from i < 2
  digit_lt i = mod-lt (get_or l (from + i) 0) (zero-lt-suc 1)

  digits_lt : (m : ℕ) → digits m < 2 ^ m
  digits_lt = weighted_lt (lowest l from) digit_lt

  pub digits_bit : (m i : ℕ) → i < m → bit (digits m) i ≡ lowest l from i
  digits_bit = weighted_bit (lowest l from) digit_lt

from_zero : (l : List ℕ) → digits l 0 8 ≡ sum_below 8 (λ i. get_or l i 0 % 2 * 2 ^ i)
from_zero l =
    sum_cong 8 (λ i. lowest l 0 i * 2 ^ i) (λ i. get_or l i 0 % 2 * 2 ^ i) (λ i b. ap (λ (k : ℕ). get_or l k 0 % 2 * 2 ^ i) (zero-add i))

pub eight_lt : (l : List ℕ) → sum_below 8 (λ i. get_or l i 0 % 2 * 2 ^ i) < 256
eight_lt l = subst (λ (y : ℕ). y < 256) (from_zero l) (digits_lt l 0 8)

lowest_bits : 0x0101_0101_0101_0101 ≡ sum_below 8 (λ i. 1 * 2 ^ (8 * i))
unfolding sum_below
lowest_bits = refl

-- the first j bytes of a word have been packed
pub record PackingWord (l : List ℕ) (from size w j : ℕ) : Type 0 where
  pub upto : j ≤ size
  pub is : w ≡ sum_below j (λ i. get_or l (from + i) 0 % 2 * 2 ^ i)

module _ (l : List ℕ) (from size : ℕ) where
  pub packing_none : PackingWord l from size 0 0
  unfolding sum_below
  packing_none = record { upto = zero-le; is = refl }

  module _ (w j : ℕ) (P : PackingWord l from size w j) (es : size ≡ min (length l - from) 64) where
    pub packing_more : j < size → (x : ℕ) → x ≡ get_or l (from + j) 0 % 2 → PackingWord l from size (bit_or w ((x * 2 ^ j) % 2 ^ 64)) (j + 1)
    unfolding sum_below
    packing_more h x ex =
        let lt : w < 2 ^ j = subst (λ (x : ℕ). x < 2 ^ j) (sym P.is) (digits_lt l from j) in
        record {
          upto = omega arith;
          is = ap (λ (y : ℕ). bit_or w ((y * 2 ^ j) % 2 ^ 64)) ex ∙ or_above j 1 w (lowest l from j) lt (digit_lt l from j) (omega arith)
              ∙ ap (λ (y : ℕ). y + lowest l from j * 2 ^ j) P.is ∙ ap (digits l from) (sym (add-one j));
        }

    pub packing_all : size ≤ j → w ≡ word_from l from
    unfolding word_from
    packing_all h =
        let e : j ≡ size = omega (arith, P.upto) in
        let g : ℕ → ℕ = λ i. lowest l from i * 2 ^ i in
        let parts : size + (64 - size) ≡ 64 = omega arith in
        let rest : sum_below (64 - size) (λ t. g (size + t)) ≡ 0 =
        sum_none (64 - size) (λ t. g (size + t)) (λ t b.
        ap (λ (x : ℕ). x % 2 * 2 ^ (size + t)) (get_or-eq_default l 0 {n = from + (size + t)} (omega arith)) ∙ zero-mul (2 ^ (size + t))) in
        P.is ∙ ap (digits l from) e ∙ sym (ap (digits l from) (sym parts) ∙ sum_parts size (64 - size) g ∙ omega (arith, rest))

    pub packing_eight : (next : ℕ) → next ≡ j + 8 → next ≤ size → from ≤ 192 → (at end : ℕ) → at ≡ from + j → end ≡ at + 8 → (x : ℕ) → x ≡ sum_below 8 (λ i. get_or (take (end - at) (drop at l)) i 0 % 2 * 2 ^ i)
        → PackingWord l from size (bit_or w ((x * 2 ^ j) % 2 ^ 64)) next
    packing_eight next en h hf at end ea ee x ex =
        let g : ℕ → ℕ = λ i. lowest l from i * 2 ^ i in
        let eight : x ≡ digits l at 8 =
        ex ∙ sum_cong 8 (λ i. get_or (take (end - at) (drop at l)) i 0 % 2 * 2 ^ i) (λ i. lowest l at i * 2 ^ i)
        (λ i b. ap (λ (y : ℕ). y % 2 * 2 ^ i) (get_or-take (end - at) (drop at l) i 0 (omega arith) ∙ get_or-drop at l i 0)) in
        let lw : w < 2 ^ j = subst (λ (y : ℕ). y < 2 ^ j) (sym P.is) (digits_lt l from j) in
        let lx : x < 2 ^ 8 = subst (λ (y : ℕ). y < 2 ^ 8) (sym eight) (digits_lt l at 8) in
        let moved : digits l at 8 * 2 ^ j ≡ sum_below 8 (λ t. g (j + t)) =
        sum_times 8 (λ i. lowest l at i * 2 ^ i) (2 ^ j)
        ∙ sum_cong 8 (λ i. lowest l at i * 2 ^ i * 2 ^ j) (λ t. g (j + t)) (λ t b.
        mul_assoc (lowest l at t) (2 ^ t) (2 ^ j)
        ∙ ap₂ (λ (i y : ℕ). get_or l i 0 % 2 * y) (omega arith) (sym (pow-add 2 t j) ∙ ap (λ (k : ℕ). 2 ^ k) (omega arith))) in
        record {
          upto = h;
          is = or_above j 8 w x lw lx (omega arith) ∙ ap₂ (λ (y z : ℕ). y + z) P.is (ap (λ (y : ℕ). y * 2 ^ j) eight ∙ moved) ∙ sym (sum_parts j 8 g)
              ∙ ap (digits l from) (sym en);
        }

-- the lowest bits of eight bytes, masked, are their number spread
pub eight_spread : (l : List ℕ) → length l ≡ 8 → ((i : ℕ) → get_or l i 0 < 256) → bit_and (number_of l) 0x0101_0101_0101_0101 ≡ spread_bits 8 (sum_below 8 (λ i. get_or l i 0 % 2 * 2 ^ i))
unfolding number_of spread_bits
eight_spread l long bytes =
    ap (λ (k : ℕ). bit_and (sum_below k (λ i. get_or l i 0 * 2 ^ (8 * i))) 0x0101_0101_0101_0101) long
    ∙ ap (bit_and (sum_below 8 (λ i. get_or l i 0 * 2 ^ (8 * i)))) lowest_bits
    ∙ and_bytes (λ i. get_or l i 0) bytes 1 (lit< tt) 8
    ∙ sum_cong 8 (λ i. bit_and (get_or l i 0) 1 * 2 ^ (8 * i)) (λ i. bit (sum_below 8 (λ i. get_or l i 0 % 2 * 2 ^ i)) i * 2 ^ (8 * i))
    (λ i b. ap (λ (y : ℕ). y * 2 ^ (8 * i)) (and_mask (get_or l i 0) 1 ∙ ap (λ (k : ℕ). get_or l k 0 % 2) (sym (zero-add i)) ∙ sym (digits_bit l 0 8 i b) ∙ ap (λ (y : ℕ). bit y i) (from_zero l)))

-- Bits that stand a byte each: as a number of so many bytes, spread and gathered.
-- Assumes nothing.
use mathlib.Core.Path.{◌≡◌, refl, sym, ap, ap₂, ◌∙◌, subst}
use mathlib.Core.Bool.{Bool, ◌&&◌, beq}
use mathlib.Core.List.{List}
use Prim.Native.Nat.{ℕ, zero, suc, ◌+◌, ◌-◌, ◌*◌, ◌/◌, ◌%◌, ◌^◌, ◌≤◌, ◌<◌, zero-le}
use native.Mathlib.Nat.{add_comm, zero-add, zero-mul, suc-mul}
use native.Mathlib.Numerals.{add-one}
use native.Mathlib.Omega.{arith}
use borrow.Author.Tests.{eqb-true, ne_eqb}
use lib.Bits.{bit_and, bit_or, bit_xor, and_block, or_shifted_r}
use lib.Dec.{eqb, leb, lit<}
use lib.ListN.{length, get_or}
use lib.Pow.{pow_pos, shl_exact, shr-shr}
use Rattle.bits.specs.Bits.{bit}
use Rattle.bits.specs.Below.{all_below, sum_below}
use Rattle.bits.specs.Packed.{byte_of, number_of, spread_bits}
use Rattle.bits.proofs.Bools.{beq_eq, all_at, all_at₂, all_ext}
use Rattle.bits.proofs.Weights.{weights_lt}

-- x written above the p lowest bits of a word
pub or_above : (p q w x : ℕ) → w < 2 ^ p → x < 2 ^ q → q + p ≤ 64 → bit_or w ((x * 2 ^ p) % 2 ^ 64) ≡ w + x * 2 ^ p
or_above p q w x hw hx h = ap (bit_or w) (shl_exact q p 64 hx h) ∙ or_shifted_r x p w hw ∙ add_comm (x * 2 ^ p) w

-- the first j bytes of a number have been read
pub record Numbering (l : List ℕ) (x j : ℕ) : Type 0 where
  pub upto : j ≤ length l
  pub is : x ≡ sum_below j (λ i. get_or l i 0 * 2 ^ (8 * i))

module _ (l : List ℕ) where
  pub numbering_none : Numbering l 0 0
  unfolding sum_below
  numbering_none = record { upto = zero-le; is = refl }

  module _ (x j : ℕ) (N : Numbering l x j) where
    pub numbering_more : ((i : ℕ) → get_or l i 0 < 256) → length l ≤ 8 → j < length l → (b : ℕ) → b ≡ get_or l j 0
        → Numbering l (bit_or x ((b * 2 ^ (8 * j)) % 2 ^ 64)) (j + 1)
    unfolding sum_below
    numbering_more bytes h m b e =
        let lt : x < 2 ^ (8 * j) = subst (λ (y : ℕ). y < 2 ^ (8 * j)) (sym N.is) (weights_lt 8 (λ i. get_or l i 0) bytes j) in
        let put : bit_or x ((b * 2 ^ (8 * j)) % 2 ^ 64) ≡ x + get_or l j 0 * 2 ^ (8 * j) =
        ap (λ (y : ℕ). bit_or x ((y * 2 ^ (8 * j)) % 2 ^ 64)) e ∙ or_above (8 * j) 8 x (get_or l j 0) lt (bytes j) (omega arith) in
        record {
          upto = omega arith;
          is = put ∙ ap (λ (y : ℕ). y + get_or l j 0 * 2 ^ (8 * j)) N.is ∙ ap (λ (k : ℕ). sum_below k (λ i. get_or l i 0 * 2 ^ (8 * i))) (sym (add-one j));
        }

    pub numbering_all : length l ≤ j → x ≡ number_of l
    unfolding number_of
    numbering_all h = let e : j ≡ length l = omega (arith, N.upto) in N.is ∙ ap (λ (k : ℕ). sum_below k (λ i. get_or l i 0 * 2 ^ (8 * i))) e

-- every byte masked alike
pub and_bytes : (b : ℕ → ℕ) → ((i : ℕ) → b i < 256) → (c : ℕ) → c < 256 → (m : ℕ)
    → bit_and (sum_below m (λ i. b i * 2 ^ (8 * i))) (sum_below m (λ i. c * 2 ^ (8 * i))) ≡ sum_below m (λ i. bit_and (b i) c * 2 ^ (8 * i))
unfolding sum_below
and_bytes b lt c small zero = refl
and_bytes b lt c small (suc m) =
    let k : ℕ = 8 * m in
    ap₂ bit_and (add_comm (sum_below m (λ i. b i * 2 ^ (8 * i))) (b m * 2 ^ k)) (add_comm (sum_below m (λ i. c * 2 ^ (8 * i))) (c * 2 ^ k))
    ∙ and_block k (b m) c (sum_below m (λ i. b i * 2 ^ (8 * i))) (sum_below m (λ i. c * 2 ^ (8 * i))) (weights_lt 8 b lt m) (weights_lt 8 (λ i. c) (λ i. small) m)
    ∙ ap (λ (y : ℕ). bit_and (b m) c * 2 ^ k + y) (and_bytes b lt c small m)
    ∙ add_comm (bit_and (b m) c * 2 ^ k) (sum_below m (λ i. bit_and (b i) c * 2 ^ (8 * i)))

-- ---- which of eight bytes are 0 or 1

-- a sum is 0 where each of its terms is, and nowhere else
sum_zero : (m : ℕ) (f : ℕ → ℕ) → eqb (sum_below m f) 0 ≡ all_below m (λ i. eqb (f i) 0)
unfolding sum_below
sum_zero zero f = refl
sum_zero (suc m) f = plus_zero (sum_below m f) (f m) ∙ ap (λ (t : Bool). t && eqb (f m) 0) (sum_zero m f)
  where
    plus_zero : (x y : ℕ) → eqb (x + y) 0 ≡ eqb x 0 && eqb y 0
    plus_zero zero y = ap (λ (z : ℕ). eqb z 0) (zero-add y)
    plus_zero (suc x) y = ne_eqb (suc x + y) 0 (λ e. omega arith) ∙ ap (λ (t : Bool). t && eqb y 0) (sym (ne_eqb (suc x) 0 (λ e. omega arith)))

times_zero : (x k : ℕ) → eqb (x * 2 ^ k) 0 ≡ eqb x 0
times_zero zero k = ap (λ (z : ℕ). eqb z 0) (zero-mul (2 ^ k))
times_zero (suc x) k = ne_eqb (suc x * 2 ^ k) 0 (λ e. omega (arith, pow_pos k, suc-mul x (2 ^ k))) ∙ sym (ne_eqb (suc x) 0 (λ e. omega arith))

above_bits : 0xfefe_fefe_fefe_fefe ≡ sum_below 8 (λ i. 254 * 2 ^ (8 * i))
unfolding sum_below
above_bits = refl

no_more : (x : ℕ) → x < 256 → eqb (bit_and x 254) 0 ≡ leb x 1
no_more x h = beq_eq _ _ (all_at 256 (λ x. beq (eqb (bit_and x 254) 0) (leb x 1)) refl x h)

pub eight_are : (l : List ℕ) → length l ≡ 8 → ((i : ℕ) → get_or l i 0 < 256) → (x : ℕ) → x ≡ number_of l
    → eqb (bit_and x 0xfefe_fefe_fefe_fefe) 0 ≡ all_below 8 (λ i. leb (get_or l i 0) 1)
unfolding number_of
eight_are l long bytes x e =
    ap (λ (y : ℕ). eqb y 0)
    (ap₂ bit_and (e ∙ ap (λ (k : ℕ). sum_below k (λ i. get_or l i 0 * 2 ^ (8 * i))) long) above_bits ∙ and_bytes (λ i. get_or l i 0) bytes 254 (lit< tt) 8)
    ∙ sum_zero 8 (λ i. bit_and (get_or l i 0) 254 * 2 ^ (8 * i))
    ∙ all_ext 8 (λ i. eqb (bit_and (get_or l i 0) 254 * 2 ^ (8 * i)) 0) (λ i. leb (get_or l i 0) 1)
    (λ i b. times_zero (bit_and (get_or l i 0) 254) (8 * i) ∙ no_more (get_or l i 0) (bytes i))

-- ---- spread bits gathered

abbrev pub twos : ℕ → ℕ
twos x = bit_and (bit_or x (x / 2 ^ 7)) 0x0003_0003_0003_0003

abbrev pub fours : ℕ → ℕ
fours x = bit_and (bit_or x (x / 2 ^ 14)) 0x0000_000f_0000_000f

abbrev pub eights : ℕ → ℕ
eights x = bit_and (bit_or x (x / 2 ^ 28)) 0xff

gathers : ℕ → Bool
gathers y = eqb (eights (fours (twos (spread_bits 8 y)))) y

pub gathered : (x y : ℕ) → y < 256 → x ≡ spread_bits 8 y → eights (fours (twos x)) ≡ y
unfolding gathers spread_bits sum_below
gathered x y h e = ap (λ (z : ℕ). eights (fours (twos z))) e ∙ eqb-true _ _ (all_at 256 gathers refl y h)

-- ---- four bits spread, and their bytes

copies : ℕ → Bool
copies x = eqb (bit_xor (bit_and ((15 - x) * 0x0020_4081) 0x0101_0101) 0x0101_0101) (spread_bits 4 x)

pub spread_four : (x : ℕ) → x < 16 → bit_xor (bit_and ((15 - x) * 0x0020_4081) 0x0101_0101) 0x0101_0101 ≡ spread_bits 4 x
unfolding copies spread_bits sum_below
spread_four x h = eqb-true _ _ (all_at 16 copies refl x h)

spreads : ℕ → ℕ → Bool
spreads x i = eqb (byte_of (spread_bits 4 x) i) (bit x i)

pub spread_byte : (x i : ℕ) → x < 16 → i < 4 → byte_of (spread_bits 4 x) i ≡ bit x i
unfolding spreads spread_bits sum_below
spread_byte x i hx hi = eqb-true _ _ (all_at₂ 16 4 spreads refl x i hx hi)

-- four bits of a word from j on
pub four_bits : (w j i : ℕ) → i < 4 → bit (w / 2 ^ j % 16) i ≡ bit w (j + i)
four_bits w j i h = low i h (w / 2 ^ j) ∙ ap (λ (x : ℕ). x % 2) (shr-shr w j i)
  where
    low : (i : ℕ) → i < 4 → (y : ℕ) → bit (y % 16) i ≡ bit y i
    low zero h y = omega arith
    low (suc zero) h y = omega arith
    low (suc (suc zero)) h y = omega arith
    low (suc (suc (suc zero))) h y = omega arith
    low (suc (suc (suc (suc i)))) h y = absurd (omega arith)

-- The truth vector: a product as bits, one for each assignment of eight variables, the value of a list as their sum, and the bytes that are written.
-- Assumes nothing.
use mathlib.Core.Path.{◌≡◌, refl, sym, ap, ap₂, ◌∙◌}
use mathlib.Core.Bool.{Bool, true, false, ◌&&◌}
use mathlib.Core.List.{List, ◌++◌}
use Prim.Native.Nat.{ℕ, zero, suc, ◌+◌, ◌-◌, ◌/◌, ◌%◌, ◌^◌, ◌≤◌, ◌<◌, min, zero-le}
use native.Mathlib.Nat.{zero-add, add-zero, add-suc}
use native.Mathlib.Omega.{arith}
use lib.Bits.{bit_xor}
use lib.Dec.{eqb}
use lib.ListN.{length, get_or, take, drop, set}
use lib.Pow.{pow_mono}
use borrow.Author.Tests.{eqb-true}
use Rattle.bits.specs.Bits.{bit}
use Rattle.bits.specs.Below.{all_below, list_below}
use Rattle.bits.specs.Sums.{one_if, tally, All}
use Rattle.bits.specs.Packed.{bit_at, both, summed, put_bits, literal_bits}
use Rattle.bits.specs.declared.packed.Packed.{Packed}
use Rattle.bits.proofs.Bools.{and_true, all_at₂, one_lt}
use Rattle.bits.proofs.Below.{list_below_cong}
use Rattle.bits.proofs.Front.{Front, front_none, front_more}
use Rattle.bits.proofs.Sums.{tally_on, tally_end, tally_ext}
use Rattle.bits.proofs.packed.Words.{bit_at_lt, full_bits, both_bit, summed_bit}
use Rattle.bits.proofs.packed.Packing.{put_front}
use Rattle.bits.proofs.packed.Literals.{literal_bit}
use Rattle.records.proofs.Records.{length_list}
use Rattle.cube.specs.declared.Cube.{Cube}
use Rattle.cube.specs.Cubes.{one, code_of, code, Good, met, holds}
use Rattle.cube.specs.Lists.{cubes, cubes_of, record_width, trues, list_value, truth_vector}
use Rattle.cube.proofs.Codes.{code_absent}

-- ---- a product, literal by literal

-- the bits at whose index the literals of the variables below k are true
abbrev pub Sliced : Cube → ℕ → Packed → Type 0
Sliced c k w = (a : ℕ) → a < 256 → bit_at w a ≡ one_if (all_below k (λ j. met (code c j) (bit a j)))

code_lt : (c : Cube) (k : ℕ) → code c k < 3
unfolding code
code_lt c k = go (bit c.seen k)
  where
    go : (s : ℕ) → code_of s (bit c.value k) < 3
    go zero = omega arith
    go (suc s) = omega arith

module _ (c : Cube) where
  pub sliced_none : Sliced c 0 (record { a = 2 ^ 64 - 1; b = 2 ^ 64 - 1; c = 2 ^ 64 - 1; d = 2 ^ 64 - 1 })
  sliced_none a h = full_bits true a

  pub sliced_more : (k : ℕ) (w w' : Packed) → k < 8 → Sliced c k w → w' ≡ both w (literal_bits (code c k) k) → Sliced c (suc k) w'
  sliced_more k w w' hk S e a h =
      ap (λ (x : Packed). bit_at x a) e ∙ both_bit w (literal_bits (code c k) k) a
      ∙ ap₂ min (S a h) (literal_bit (code c k) k a (code_lt c k) hk h)
      ∙ min_and (all_below k (λ j. met (code c j) (bit a j))) (met (code c k) (bit a k))
    where
      min_and : (x y : Bool) → min (one_if x) (one_if y) ≡ one_if (x && y)
      min_and true true = refl
      min_and true false = refl
      min_and false true = refl
      min_and false false = refl

  pub sliced_all : (w : Packed) → Sliced c 8 w → (a : ℕ) → a < 256 → bit_at w a ≡ one_if (holds 8 c a)
  unfolding holds
  sliced_all w S = S

-- ---- the value of a list, product by product

-- the first i products have been added
pub record Valuing (b : List ℕ) (w : Packed) (i : ℕ) : Type 0 where
  pub within : i ≤ length b / record_width
  pub so_far : (a : ℕ) → a < 256 → (bit_at w a + tally (λ c. holds 8 c a) (drop i (cubes_of b))) % 2 ≡ tally (λ c. holds 8 c a) (cubes_of b) % 2

abbrev nothing : Packed
nothing = record { a = 0; b = 0; c = 0; d = 0 }

xor_parity : (x y : ℕ) → x < 2 → y < 2 → bit_xor x y ≡ (x + y) % 2
xor_parity x y hx hy = eqb-true _ _ (all_at₂ 2 2 (λ x y. eqb (bit_xor x y) ((x + y) % 2)) refl x y hx hy)

module _ (b : List ℕ) where
  pub valuing_none : Valuing b nothing 0
  valuing_none = record { within = zero-le; so_far = λ a h. ap (λ (x : ℕ). x % 2) (ap (λ (x : ℕ). x + tally (λ c. holds 8 c a) (cubes_of b)) (full_bits false a) ∙ zero-add _) }

  module _ (w : Packed) (i : ℕ) (U : Valuing b w i) where
    pub valuing_more : i < length b / record_width → (c : Cube) → c ≡ get_or (cubes_of b) i one → (v : Packed) → ((a : ℕ) → a < 256 → bit_at v a ≡ one_if (holds 8 c a))
        → (w' : Packed) → w' ≡ summed w v → Valuing b w' (i + 1)
    valuing_more h c ec v ev w' ew = record {
      within = omega arith;
      so_far = λ a ha.
          let here : ℕ = one_if (holds 8 c a) in
          let rest : ℕ = tally (λ c. holds 8 c a) (drop (i + 1) (cubes_of b)) in
          let bits : bit_at w' a ≡ (bit_at w a + here) % 2 =
          ap (λ (x : Packed). bit_at x a) ew ∙ summed_bit w v a ∙ ap (bit_xor (bit_at w a)) (ev a ha) ∙ xor_parity (bit_at w a) here (bit_at_lt w a) (one_lt (holds 8 c a)) in
          let on : tally (λ c. holds 8 c a) (drop i (cubes_of b)) ≡ here + rest =
          tally_on (λ c. holds 8 c a) one (cubes_of b) i (omega (arith, length_list cubes b)) ∙ ap (λ (x : Cube). one_if (holds 8 x a) + rest) (sym ec) in
          shift (bit_at w a) here rest (bit_at w' a) (tally (λ c. holds 8 c a) (drop i (cubes_of b))) bits on ∙ U.so_far a ha;
    }
      where
        shift : (x y r z t : ℕ) → z ≡ (x + y) % 2 → t ≡ y + r → (z + r) % 2 ≡ (x + t) % 2
        shift x y r z t e f = omega arith

    pub valuing_all : length b / record_width ≤ i → (a : ℕ) → a < 256 → bit_at w a ≡ list_value 8 (cubes_of b) a
    unfolding list_value trues
    valuing_all h a ha =
        let end : tally (λ c. holds 8 c a) (drop i (cubes_of b)) ≡ 0 = tally_end (λ c. holds 8 c a) one (cubes_of b) i (omega (arith, length_list cubes b)) in
        last (bit_at w a) (tally (λ c. holds 8 c a) (drop i (cubes_of b))) (tally (λ c. holds 8 c a) (cubes_of b)) (bit_at_lt w a) end (U.so_far a ha)
      where
        last : (x t s : ℕ) → x < 2 → t ≡ 0 → (x + t) % 2 ≡ s % 2 → x ≡ s % 2
        last x t s l e f = omega arith

-- ---- fewer variables than eight

-- a variable at or above n has no literal, which is true everywhere
holds_more : (n : ℕ) (c : Cube) (a : ℕ) → Good n c → (d : ℕ) → holds (n + d) c a ≡ holds n c a
unfolding holds
holds_more n c a g zero = ap (λ (m : ℕ). all_below m (λ k. met (code c k) (bit a k))) (add-zero n)
holds_more n c a g (suc d) =
    ap (λ (m : ℕ). all_below m (λ k. met (code c k) (bit a k))) (add-suc n d)
    ∙ ap₂ (λ (x y : Bool). x && y) (holds_more n c a g d) (ap (λ (x : ℕ). met x (bit a (n + d))) (code_absent c (n + d) (g.below (n + d) (omega arith))))
    ∙ and_true (holds n c a)

pub value_more : (n : ℕ) (l : List Cube) (a : ℕ) → n ≤ 8 → All (Good n) l → list_value 8 l a ≡ list_value n l a
unfolding list_value trues
value_more n l a h g =
    ap (λ (x : ℕ). x % 2) (tally_ext (λ c. holds 8 c a) (λ c. holds n c a) (Good n)
    (λ c good. let e : 8 ≡ n + (8 - n) = omega arith in ap (λ (m : ℕ). holds m c a) e ∙ holds_more n c a good (8 - n)) l g)

-- the values written to the front of a buffer are the truth vector
pub vector_is : (n : ℕ) (b out : List ℕ) (assignments : ℕ) → assignments ≡ 2 ^ n → n ≤ 8 → All (Good n) (cubes_of b) → assignments ≤ length out
    → (w : Packed) → ((a : ℕ) → a < 256 → bit_at w a ≡ list_value 8 (cubes_of b) a)
    → (part : List ℕ) → part ≡ put_bits w (take assignments out) → part ++ drop assignments out ≡ truth_vector n (cubes_of b) ++ drop (2 ^ n) out
vector_is n b out assignments es few good room w is part ep =
    let most : assignments ≤ 256 = omega (arith, es, pow_mono {j = 8} few) in
    ap₂ (λ (l : List ℕ) (k : ℕ). l ++ drop k out)
    (ep ∙ put_front w out assignments most room
    ∙ list_below_cong assignments (bit_at w) (list_value n (cubes_of b)) (λ a h. is a (omega arith) ∙ value_more n (cubes_of b) a few good)
    ∙ ap (λ (k : ℕ). list_below k (list_value n (cubes_of b))) es) es

-- ---- assignment by assignment

-- the values at the first a of the assignments have been written
abbrev pub Vectoring : ℕ → List ℕ → List ℕ → List ℕ → ℕ → Type 0
Vectoring n b out out' a = (a ≤ 2 ^ n) × Front (list_value n (cubes_of b)) out out' a

module _ (n : ℕ) (b out : List ℕ) where
  pub vectoring_none : Vectoring n b out out 0
  vectoring_none = (zero-le, front_none (list_value n (cubes_of b)) out)

  pub vectoring_more : (out' : List ℕ) (a t : ℕ) → Vectoring n b out out' a → a < 2 ^ n → 2 ^ n ≤ length out → t ≡ trues n (cubes_of b) a
      → Vectoring n b out (set out' a (t % 2)) (a + 1)
  unfolding list_value
  vectoring_more out' a t r h room et =
      (omega arith, front_more (list_value n (cubes_of b)) out out' a r.1 (t % 2) (omega (arith, r.1.long)) (ap (λ (x : ℕ). x % 2) et))

  pub vectoring_done : (out' : List ℕ) (a : ℕ) → Vectoring n b out out' a → 2 ^ n ≤ a → out' ≡ truth_vector n (cubes_of b) ++ drop (2 ^ n) out
  vectoring_done out' a r h =
      let e : a ≡ 2 ^ n = omega (arith, r.0) in
      r.1.is ∙ ap (λ (k : ℕ). list_below k (list_value n (cubes_of b)) ++ drop k out) e

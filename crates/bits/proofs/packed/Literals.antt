-- The bits at whose index a literal is true.
-- Assumes nothing.
use mathlib.Core.Path.{◌≡◌, refl, sym, ap, ap₂, ◌∙◌}
use mathlib.Core.Logic.{⊎_elim}
use mathlib.Core.Bool.{cond, ◌||◌, not}
use Prim.Native.Nat.{ℕ, zero, suc, ◌+◌, ◌-◌, ◌/◌, ◌%◌, ◌^◌, ◌<◌, ◌≤◌, min}
use native.Mathlib.Omega.{arith}
use borrow.Author.Tests.{eqb-true, ne_eqb, lt-ltb, le-ltb}
use lib.Bits.{bit_and, bit_xor, differ}
use lib.Dec.{eqb}
use Rattle.bits.specs.Bits.{bit}
use Rattle.bits.specs.Packed.{word_at, bit_at, full_of, mixed, without_bits, literal_bits, mask_of, each_word}
use Rattle.bits.specs.Sums.{one_if}
use Rattle.bits.specs.declared.packed.Packed.{Packed}
use Rattle.bits.proofs.Bools.{below_or, all_at₂, all_at₃}
use Rattle.bits.proofs.Bits.{bit_lt, bit_and_lem, bit_xor_lem}
use Rattle.bits.proofs.word.Masks.{full_bit, mask_bit}
use Rattle.bits.proofs.packed.Passes.{each_word_lem, low_bit, high_bit, high_variable}

-- ---- the code's numbers

pub without_low : (k m : ℕ) → k < 6 → m ≡ mask_of k → record { a = m; b = m; c = m; d = m } ≡ without_bits k
unfolding without_bits
without_low k m h e = rw (lt-ltb k 6 h) (λ i. record { a = e i; b = e i; c = e i; d = e i })

pub without_six : (k : ℕ) → k ≡ 6 → record { a = 2 ^ 64 - 1; b = 0; c = 2 ^ 64 - 1; d = 0 } ≡ without_bits k
unfolding without_bits
without_six k e = sym (ap without_bits e)

pub without_above : (k : ℕ) → 6 ≤ k → (k ≡ 6 → ⊥) → record { a = 2 ^ 64 - 1; b = 2 ^ 64 - 1; c = 0; d = 0 } ≡ without_bits k
unfolding without_bits
without_above k l d = rw (le-ltb k 6 l, ne_eqb k 6 d)

pub literal_is : (x k : ℕ) (w : Packed) → w ≡ without_bits k → (l h : ℕ) → l ≡ full_of (not (eqb x 1)) → h ≡ full_of (not (eqb x 0))
    → (a b c d : ℕ) → a ≡ mixed w.a l h → b ≡ mixed w.b l h → c ≡ mixed w.c l h → d ≡ mixed w.d l h
    → record { a = a; b = b; c = c; d = d } ≡ literal_bits x k
unfolding literal_bits
literal_is x k w ew l h el eh a b c d ea eb ec ed =
    (λ i. record { a = ea i; b = eb i; c = ec i; d = ed i })
    ∙ ap₂ (λ (y z : ℕ). each_word (λ m. mixed m y z) w) el eh
    ∙ ap (each_word (λ m. mixed m (full_of (not (eqb x 1))) (full_of (not (eqb x 0))))) ew

-- ---- its bits

mixed_bit : (m x y j : ℕ) → bit (mixed m x y) j ≡ cond (eqb (bit m j) 1) (bit x j) (bit y j)
mixed_bit m x y j =
    bit_xor_lem y (bit_and m (bit_xor x y)) j
    ∙ ap (differ (bit y j)) (bit_and_lem m (bit_xor x y) j ∙ ap (min (bit m j)) (bit_xor_lem x y j))
    ∙ eqb-true _ _ (all_at₃ 2 2 2 (λ m x y. eqb (differ y (min m (differ x y))) (cond (eqb m 1) x y)) refl
    (bit m j) (bit x j) (bit y j) (bit_lt m j) (bit_lt x j) (bit_lt y j))

-- the words without variable 6 or 7 are full, those with it empty
without_word : (j i : ℕ) → j < 2 → i < 4 → word_at (without_bits (j + 6)) i ≡ full_of (not (eqb (bit i j) 1))
unfolding without_bits
without_word j i hj hi = eqb-true _ _ (all_at₂ 2 4 (λ j i. eqb (word_at (without_bits (j + 6)) i) (full_of (not (eqb (bit i j) 1)))) refl j i hj hi)

without_bit : (k t : ℕ) → k < 8 → t < 256 → bit (word_at (without_bits k) (t / 64)) (t % 64) ≡ 1 - bit t k
without_bit k t hk ht = ⊎_elim low (λ l. high_variable (λ k. bit (word_at (without_bits k) (t / 64)) (t % 64) ≡ 1 - bit t k) k hk l high) (below_or k 6)
  where
    turned : (b : ℕ) → b < 2 → one_if (not (eqb b 1)) ≡ 1 - b
    turned zero h = refl
    turned (suc zero) h = refl
    turned (suc (suc b)) h = absurd (omega arith)

    low : k < 6 → bit (word_at (without_bits k) (t / 64)) (t % 64) ≡ 1 - bit t k
    low l =
        ap (λ (w : Packed). bit (word_at w (t / 64)) (t % 64)) (sym (without_low k (mask_of k) l refl))
        ∙ ap (λ (x : ℕ). bit x (t % 64)) (each_word_lem (λ x. mask_of k) (record { a = 0; b = 0; c = 0; d = 0 }) (t / 64))
        ∙ mask_bit k (t % 64) l (omega arith) ∙ ap (λ (b : ℕ). 1 - b) (sym (low_bit k t l))

    high : (j : ℕ) → j < 2 → bit (word_at (without_bits (j + 6)) (t / 64)) (t % 64) ≡ 1 - bit t (j + 6)
    high j hj =
        ap (λ (x : ℕ). bit x (t % 64)) (without_word j (t / 64) hj (omega arith))
        ∙ full_bit (not (eqb (bit (t / 64) j) 1)) (t % 64) (omega arith)
        ∙ turned (bit (t / 64) j) (bit_lt (t / 64) j) ∙ ap (λ (b : ℕ). 1 - b) (high_bit j t)

pub literal_bit : (x k t : ℕ) → x < 3 → k < 8 → t < 256 → bit_at (literal_bits x k) t ≡ one_if (eqb x 2 || eqb x (bit t k))
unfolding bit_at literal_bits
literal_bit x k t hx hk ht =
    let l : ℕ = full_of (not (eqb x 1)) in
    let h : ℕ = full_of (not (eqb x 0)) in
    ap (λ (y : ℕ). bit y (t % 64)) (each_word_lem (λ m. mixed m l h) (without_bits k) (t / 64))
    ∙ mixed_bit (word_at (without_bits k) (t / 64)) l h (t % 64)
    ∙ ap₂ (λ (y z : ℕ). cond (eqb (bit (word_at (without_bits k) (t / 64)) (t % 64)) 1) y z)
    (full_bit (not (eqb x 1)) (t % 64) (omega arith)) (full_bit (not (eqb x 0)) (t % 64) (omega arith))
    ∙ ap (λ (y : ℕ). cond (eqb y 1) (one_if (not (eqb x 1))) (one_if (not (eqb x 0)))) (without_bit k t hk ht)
    ∙ eqb-true _ _ (all_at₂ 3 2 (λ x b. eqb (cond (eqb (1 - b) 1) (one_if (not (eqb x 1))) (one_if (not (eqb x 0)))) (one_if (eqb x 2 || eqb x b))) refl
    x (bit t k) hx (bit_lt t k))

-- A list's truth vector is a vector, a vector passes its check, and its length fits 256 bytes.
-- Assumes nothing.
use mathlib.Core.Path.{◌≡◌, sym, subst}
use mathlib.Core.Bool.{true}
use mathlib.Core.List.{List, [], ◌∷◌}
use Prim.Native.Nat.{ℕ, ◌*◌, ◌%◌, ◌^◌, ◌≤◌, ◌<◌}
use native.Mathlib.Nat.{mod-lt, zero-lt-suc}
use native.Mathlib.Decide.{dec_lt}
use native.Mathlib.Omega.{arith}
use borrow.Author.Tests.{le-leb, eq-eqb}
use lib.Dec.{lit<}
use lib.ListN.{length, get_or, get_or-eq_default}
use lib.Pow.{pow_mono}
use Rattle.bits.specs.Below.{list_below}
use Rattle.bits.specs.Sums.{first_bad}
use Rattle.bits.proofs.Bits.{shl_one}
use Rattle.bits.proofs.Below.{length_list_below, get_or_list_below}
use Rattle.bits.proofs.Sums.{none_first, all_of}
use Rattle.records.specs.Answers.{accepted}
use Rattle.cube.specs.declared.Cube.{Cube}
use Rattle.cube.specs.Lists.{truth_vector, list_value, trues, vector_variables}
use Rattle.polarity.specs.Vectors.{Vector, is_bit, check_vector}

-- a list of bits by index is a vector
pub bits_vector : (n : ℕ) (f : ℕ → ℕ) → n ≤ vector_variables → ((t : ℕ) → f t < 2) → Vector n (list_below (2 ^ n) f)
bits_vector n f h small = record { few = h; long = length_list_below (2 ^ n) f; bits = λ t. at t (dec_lt t (2 ^ n)) }
  where
    at : (t : ℕ) → Dec (t < 2 ^ n) → get_or (list_below (2 ^ n) f) t 0 < 2
    at t (yes l) = subst (λ (x : ℕ). x < 2) (sym (get_or_list_below (2 ^ n) f t 0 l)) (small t)
    at t (no l) =
        subst (λ (x : ℕ). x < 2) (sym (get_or-eq_default (list_below (2 ^ n) f) 0 {n = t} (omega (arith, length_list_below (2 ^ n) f)))) (lit< tt)

pub truth_vector_is : (n : ℕ) (l : List Cube) → n ≤ vector_variables → Vector n (truth_vector n l)
unfolding list_value
truth_vector_is n l h = bits_vector n (list_value n l) h (λ t. mod-lt (trues n l t) (zero-lt-suc 1))

pub vector_accepted : (n : ℕ) (l : List ℕ) → Vector n l → check_vector n l ≡ accepted (2 ^ n ∷ [])
unfolding check_vector
vector_accepted n l v =
    let all : first_bad is_bit l ≡ length l = none_first is_bit l (all_of (λ x. is_bit x ≡ true) 0 l (λ i h. le-leb (get_or l i 0) 1 (omega (arith, v.bits i)))) in
    simp (le-leb _ _ v.few, eq-eqb _ _ v.long, eq-eqb _ _ all)

-- as many bytes as assignments, and at most 256
pub power_is : (n : ℕ) → n ≤ vector_variables → (1 * 2 ^ n) % 2 ^ 64 ≡ 2 ^ n
power_is n h = shl_one n 64 (omega (arith, h))

pub power_small : (n : ℕ) → n ≤ vector_variables → (1 * 2 ^ n) % 2 ^ 64 ≤ 256
power_small n h = omega (arith, power_is n h, pow_mono h)

-- The check of a vector, by the first test that fails.
-- Assumes nothing.
use mathlib.Core.Path.{◌≡◌, sym, ap, ◌∙◌}
use mathlib.Core.Bool.{Bool, true, false, ◌&&◌}
use mathlib.Core.List.{List, [], ◌∷◌}
use Prim.Native.Nat.{ℕ, ◌+◌, ◌-◌, ◌*◌, ◌%◌, ◌^◌, ◌<◌, ◌≤◌}
use native.Mathlib.Nat.{div-one}
use native.Mathlib.Omega.{arith}
use lib.Dec.{leb, lit<}
use lib.ListN.{length, get_or, take, drop}
use lib.Seq.{get_or-take, get_or-drop}
use borrow.Author.Tests.{le-leb, lt-leb, eq-eqb, ne_eqb}
use Rattle.bits.specs.Below.{all_below}
use Rattle.bits.specs.Sums.{one_if, first_bad}
use Rattle.bits.proofs.Bools.{all_ext}
use Rattle.bits.proofs.Bits.{shl_one}
use Rattle.records.specs.declared.Refusal.{Refusal}
use Rattle.records.specs.Answers.{accepted, refused, refusal}
use Rattle.records.specs.Records.{list_of}
use Rattle.records.specs.Strides.{pass_from, stride_from}
use Rattle.records.proofs.Records.{bytes, list_bytes}
use Rattle.records.proofs.Looking.{Looking, found_none}
use Rattle.records.proofs.Striding.{stride_found, stride_next}
use Rattle.cube.specs.Lists.{vector_variables}
use Rattle.polarity.specs.Vectors.{byte_at, is_bit, check_vector}

-- ---- the lowest byte above 1: bytes are records of width 1

module _ (l : List ℕ) (i : ℕ) where
  pub eight_short : length l - i < 8 → false ≡ pass_from is_bit 0 8 l i
  unfolding pass_from
  eight_short h = sym (simp (lt-leb 8 (length l - i) h))

  pub eight_pass : 8 ≤ length l - i → (end : ℕ) → end ≡ i + 8 → (t : Bool) → t ≡ all_below 8 (λ j. is_bit (get_or (take (end - i) (drop i l)) j 0)) → t ≡ pass_from is_bit 0 8 l i
  unfolding pass_from
  eight_pass h end e t et =
      et ∙ all_ext 8 (λ j. is_bit (get_or (take (end - i) (drop i l)) j 0)) (λ j. is_bit (byte_at l (i + j)))
      (λ j b. ap is_bit (get_or-take (end - i) (drop i l) j 0 (omega arith) ∙ get_or-drop i l j 0))
      ∙ sym (ap (λ (t : Bool). t && all_below 8 (λ j. is_bit (byte_at l (i + j)))) (le-leb 8 (length l - i) h))

  pub passed_all : pass_from is_bit 0 8 l i ≡ true → 8 ≡ stride_from is_bit 0 8 l i
  unfolding stride_from
  passed_all e = sym (simp e)

  pub passed_one : pass_from is_bit 0 8 l i ≡ false → one_if (leb (byte_at l i) 1) ≡ stride_from is_bit 0 8 l i
  unfolding stride_from
  passed_one e = sym (simp e)

  module _ (r : Looking bytes is_bit l i) where
    pub none_bad : length l ≤ i → length l ≡ first_bad is_bit l
    none_bad h = sym (div-one (length l)) ∙ found_none bytes is_bit l i r (rw div-one h) ∙ ap (first_bad is_bit) (list_bytes l)

    module _ (h : i < length l) (g : ℕ) (eg : g ≡ stride_from is_bit 0 8 l i) where
      from_bytes : g ≡ stride_from is_bit 0 8 (list_of bytes l) i
      from_bytes = eg ∙ ap (λ (b : List ℕ). stride_from is_bit 0 8 b i) (sym (list_bytes l))

      pub bad_here : g ≡ 0 → i ≡ first_bad is_bit l
      bad_here z = stride_found bytes is_bit l i r (rw div-one h) 8 (lit< tt) g from_bytes z ∙ ap (first_bad is_bit) (list_bytes l)

      pub bits_on : (g ≡ 0 → ⊥) → Looking bytes is_bit l (i + g)
      bits_on = stride_next bytes is_bit l i r (rw div-one h) 8 (lit< tt) g from_bytes

      pub bits_within : (g ≡ 0 → ⊥) → i + g ≤ length l
      bits_within z = rw div-one at (bits_on z).within

-- ---- 1 and 14

module _ (n : ℕ) (l : List ℕ) where
  pub vector_1 : (r : Refusal) → r ≡ refusal 1 0 → vector_variables < n → refused r ≡ check_vector n l
  unfolding check_vector
  vector_1 r e h = ap refused e ∙ sym (simp (lt-leb _ _ h))

  module _ (m : ℕ) (few : n ≤ vector_variables) (em : m ≡ (1 * 2 ^ n) % 2 ^ 64) where
    power : m ≡ 2 ^ n
    power = em ∙ shl_one n 64 (omega arith)

    pub vector_14 : (r : Refusal) → r ≡ refusal 14 m → (length l ≡ m → ⊥) → refused r ≡ check_vector n l
    unfolding check_vector
    vector_14 r e h = ap refused (e ∙ ap (refusal 14) power) ∙ sym (simp (le-leb _ _ few, ne_eqb (length l) (2 ^ n) (λ q. h (q ∙ sym power))))

    module _ (long : length l ≡ m) (bad : ℕ) (eb : bad ≡ first_bad is_bit l) where
      pub vector_byte : (r : Refusal) → r ≡ refusal 14 bad → (bad ≡ m → ⊥) → refused r ≡ check_vector n l
      unfolding check_vector
      vector_byte r e h =
          ap refused (e ∙ ap (refusal 14) eb)
          ∙ sym (simp (le-leb _ _ few, eq-eqb (length l) (2 ^ n) (long ∙ power), ne_eqb (first_bad is_bit l) (length l) (λ q. h (eb ∙ q ∙ long))))

      pub vector_0 : bad ≡ m → accepted (m ∷ []) ≡ check_vector n l
      unfolding check_vector
      vector_0 h =
          ap (λ (x : ℕ). accepted (x ∷ [])) power
          ∙ sym (simp (le-leb _ _ few, eq-eqb (length l) (2 ^ n) (long ∙ power), eq-eqb (first_bad is_bit l) (length l) (sym eb ∙ h ∙ sym long)))

-- The call on a vector, by its tests: what the cheapest choice of its word says of the Kronecker list.
-- Assumes nothing.
use mathlib.Core.Path.{◌≡◌, sym, ap, ◌∙◌, fun_ext, subst}
use mathlib.Core.Logic.{⊎_elim}
use mathlib.Core.List.{List, [], ◌∷◌}
use Prim.Native.Nat.{ℕ, ◌^◌, ◌≤◌, ◌<◌}
use native.Mathlib.Omega.{arith}
use borrow.Author.Tests.{le-leb, lt-leb}
use lib.ListN.{length, get_or-eq_default}
use lib.Pow.{pow_mono}
use Rattle.bits.specs.Bits.{bit}
use Rattle.bits.specs.Packed.{bit_at, word_from}
use Rattle.bits.specs.declared.packed.Packed.{Packed}
use Rattle.bits.proofs.Bits.{bit_high}
use Rattle.bits.proofs.Bools.{below_or}
use Rattle.bits.proofs.packed.Alone.{alone_bit}
use Rattle.bits.proofs.packed.Packing.{packed_bit}
use Rattle.records.specs.declared.Refusal.{Refusal}
use Rattle.records.specs.Answers.{accepted, refused, refusal}
use Rattle.records.proofs.Answers.{and_then_lem, and_not}
use Rattle.cube.specs.Lists.{cube_capacity}
use Rattle.polarity.specs.Vectors.{byte_at, Vector, check_vector}
use Rattle.polarity.proofs.Shown.{alone_packed}
use Rattle.polarity.proofs.Vectors.{check_accepts}
use Rattle.kronecker.specs.declared.WrittenKronecker.{WrittenKronecker}
use Rattle.kronecker.specs.Choices.{best_choice, kronecker_list}
use Rattle.kronecker.specs.Calls.{kronecker_variables, kronecker_outcome}
use Rattle.kronecker.specs.Words.{FoundIs}

-- the function of a vector's word is the vector's
pub word_function : (n : ℕ) (l : List ℕ) → Vector n l → n ≤ kronecker_variables → (w : ℕ) → w ≡ word_from l 0 → w < 2 ^ 64 → bit w ≡ byte_at l
word_function n l v few w e h = fun_ext (λ t. ⊎_elim (inside t) (past t) (below_or t 64))
  where
    inside : (t : ℕ) → t < 64 → bit w t ≡ byte_at l t
    inside t m = sym (alone_bit w t m) ∙ ap (λ (x : Packed). bit_at x t) (alone_packed n l v few w e) ∙ packed_bit l v.bits t (omega arith)

    past : (t : ℕ) → 64 ≤ t → bit w t ≡ byte_at l t
    past t m = bit_high 64 w t h m ∙ sym (get_or-eq_default l 0 {n = t} (omega (arith, v.long, pow_mono {j = 6} few)))

-- ---- the call

module _ (n : ℕ) (l : List ℕ) (room : ℕ) where
  pub kronecker_1 : (r : Refusal) → r ≡ refusal 1 0 → kronecker_variables < n → kronecker_outcome n l room ≡ refused r
  unfolding kronecker_outcome
  kronecker_1 r er h = simp (lt-leb n kronecker_variables h) (ap refused (sym er))

  module _ (few : n ≤ kronecker_variables) where
    pub kronecker_refused : (r : Refusal) → check_vector n l ≡ refused r → kronecker_outcome n l room ≡ refused r
    unfolding kronecker_outcome
    kronecker_refused r e = simp (le-leb n kronecker_variables few) (and_not _ _ r e)

    module _ (values : List ℕ) (e : check_vector n l ≡ accepted values) (w : ℕ) (ew : w ≡ word_from l 0) (fits : w < 2 ^ 64) (r : WrittenKronecker) (F : FoundIs n (bit w) r)
        (capacity : ℕ) (ea : capacity ≡ cube_capacity room) where
      found : FoundIs n (byte_at l) r
      found = subst (λ (f : ℕ → ℕ). FoundIs n f r) (word_function n l (check_accepts n l values e) few w ew fits) F

      pub kronecker_5 : (x : Refusal) → x ≡ refusal 5 0 → capacity < r.products → kronecker_outcome n l room ≡ refused x
      unfolding kronecker_outcome
      kronecker_5 x ex h =
          let short : cube_capacity room < length (kronecker_list n (byte_at l)) = omega (arith, ea, found.products_are) in
          simp (le-leb n kronecker_variables few) (and_then_lem _ _ _ e ∙ simp (lt-leb _ _ short) (ap refused (sym ex)))

      pub kronecker_0 : r.products ≤ capacity → kronecker_outcome n l room ≡ accepted (r.cost ∷ r.choice ∷ r.products ∷ [])
      unfolding kronecker_outcome
      kronecker_0 h =
          let enough : length (kronecker_list n (byte_at l)) ≤ cube_capacity room = omega (arith, ea, found.products_are) in
          simp (le-leb n kronecker_variables few)
          (and_then_lem _ _ _ e ∙ simp (le-leb _ _ enough) (sym (λ i. accepted (found.cost_is i ∷ found.choice_is i ∷ found.products_are i ∷ []))))

      -- the list that was written is that of the cheapest choice
      pub choice_is_best : r.choice ≡ best_choice n (byte_at l)
      choice_is_best = found.choice_is

-- The loops over coefficients: counting the products of a form, and writing them; and the call by its tests.
-- Assumes nothing.
use mathlib.Core.Path.{◌≡◌, refl, sym, ap, ◌∙◌, subst}
use mathlib.Core.Bool.{Bool, true, false, cond}
use mathlib.Core.List.{List, [], ◌∷◌, map}
use native.Mathlib.Nat.{zero-add}
use Rattle.std.specs.List.{count_by}
use Rattle.std.proofs.lemmas.List.Recursion.{is_count_by}
use Rattle.bits.specs.Sums.{tally}
use Rattle.bits.proofs.Below.{sum_cong, those_tally, those_count}
use Prim.Native.Nat.{ℕ, ◌+◌, ◌^◌, ◌<◌, ◌≤◌}
use native.Mathlib.Omega.{arith}
use lib.ListN.{length}
use borrow.Author.Tests.{le-leb, lt-leb, lt-ltb, le-ltb}
use Rattle.bits.specs.Below.{sum_below, those}
use Rattle.bits.specs.Sums.{one_if}
use Rattle.records.specs.declared.Refusal.{Refusal}
use Rattle.records.specs.Answers.{accepted, refused, refusal}
use Rattle.records.specs.Records.{written}
use Rattle.records.proofs.Answers.{and_then_lem, and_not}
use Rattle.records.proofs.Picking.{Picking, picked_all}
use Rattle.cube.specs.Lists.{cubes, cube_capacity}
use Rattle.polarity.specs.Forms.{product, form_from}
use Rattle.polarity.specs.Vectors.{byte_at, Vector, check_vector}
use Rattle.polarity.specs.Calls.{form_outcome}
use Rattle.polarity.specs.Words.{nonzero}
use Rattle.polarity.proofs.Vectors.{check_accepts, check_long}
use Rattle.polarity.proofs.Forms.{form_length}

-- ---- counting

pub counted_sum : (l : List ℕ) → count_by nonzero l ≡ sum_below (length l) (λ s. one_if (nonzero (byte_at l s)))
unfolding tally
counted_sum l =
    sym (is_count_by (tally nonzero) nonzero refl (λ x xs. step (nonzero x) (tally nonzero xs)) l)
    ∙ sym (those_tally nonzero 0 l) ∙ those_count (λ s. nonzero (byte_at l s)) (length l) 0
    ∙ sum_cong (length l) _ _ (λ t b. ap (λ (s : ℕ). one_if (nonzero (byte_at l s))) (zero-add t))
  where
    step : (b : Bool) (m : ℕ) → one_if b + m ≡ cond b (1 + m) m
    step true m = refl
    step false m = zero-add m

-- ---- writing

-- the sets below s have been looked at, and the products of those with a coefficient are written
abbrev pub Writing : ℕ → List ℕ → List ℕ → List ℕ → ℕ → ℕ → Type 0
Writing p l out₀ out place s = Picking cubes (λ t. nonzero (byte_at l t)) (product p) (length l) out₀ out place s

pub writing_all : (n p : ℕ) (l out₀ out : List ℕ) (place s : ℕ) → Vector n l → Writing p l out₀ out place s → length l ≤ s
    → out ≡ written cubes 0 (form_from n p (byte_at l)) out₀
unfolding form_from
writing_all n p l out₀ out place s v W h =
    picked_all _ _ _ _ _ _ _ _ W h ∙ ap (λ (m : ℕ). written cubes 0 (map (product p) (those (λ t. nonzero (byte_at l t)) m 0)) out₀) v.long

-- ---- the call, by its tests

module _ (n : ℕ) (l : List ℕ) (p room : ℕ) where
  pub form_refused : (r : Refusal) → check_vector n l ≡ refused r → form_outcome n l p room ≡ refused r
  unfolding form_outcome
  form_refused r e = and_not _ _ r e

  module _ (m : ℕ) (e : check_vector n l ≡ accepted (m ∷ [])) where
    pub form_15 : (r : Refusal) → r ≡ refusal 15 0 → m ≤ p → form_outcome n l p room ≡ refused r
    unfolding form_outcome
    form_15 r er h = and_then_lem _ _ _ e ∙ simp (le-ltb p (2 ^ n) (subst (λ (x : ℕ). x ≤ p) (check_long n l m e) h)) (ap refused (sym er))

    module _ (low : p < m) (count : ℕ) (ec : count ≡ count_by nonzero l) where
      below : p < 2 ^ n
      below = subst (λ (x : ℕ). p < x) (check_long n l m e) low

      count_is : count ≡ length (form_from n p (byte_at l))
      count_is =
          ec ∙ counted_sum l ∙ ap (λ (k : ℕ). sum_below k (λ s. one_if (nonzero (byte_at l s)))) (check_accepts n l (m ∷ []) e).long ∙ sym (form_length n p (byte_at l))

      pub form_5 : (r : Refusal) (capacity : ℕ) → r ≡ refusal 5 0 → capacity ≡ cube_capacity room → capacity < count → form_outcome n l p room ≡ refused r
      unfolding form_outcome
      form_5 r capacity er ea h =
          let short : cube_capacity room < length (form_from n p (byte_at l)) = omega (arith, ea, count_is) in
          and_then_lem _ _ _ e ∙ simp (lt-ltb p (2 ^ n) below, lt-leb _ _ short) (ap refused (sym er))

      pub form_0 : (capacity : ℕ) → capacity ≡ cube_capacity room → count ≤ capacity → form_outcome n l p room ≡ accepted (count ∷ [])
      unfolding form_outcome
      form_0 capacity ea h =
          let fits : length (form_from n p (byte_at l)) ≤ cube_capacity room = omega (arith, ea, count_is) in
          and_then_lem _ _ _ e ∙ simp (lt-ltb p (2 ^ n) below, le-leb _ _ fits) (ap (λ (x : ℕ). accepted (x ∷ [])) (sym count_is))

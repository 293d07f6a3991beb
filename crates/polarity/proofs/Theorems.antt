-- What the definitions mean, in document 01's words: theorems for readers. A function of n variables is any f; where its values matter, they are 0 or 1.
-- Assumes nothing.
use mathlib.Core.Path.{◌≡◌, sym, ap, ◌∙◌, subst}
use mathlib.Core.Logic.{◌≢◌, ◌⊎◌, inl, inr}
use mathlib.Core.List.{List}
use Prim.Native.Nat.{ℕ, zero, suc, ◌-◌, ◌%◌, ◌^◌, ◌<◌, ◌≤◌, zero-le}
use native.Mathlib.Nat.{mod-eq_of_lt}
use native.Mathlib.Omega.{arith}
use lib.Bits.{bit_xor, xor_lt, xor_zero_r}
use lib.Pow.{suc_ones, pow_pos}
use Rattle.bits.specs.Bits.{bit}
use Rattle.bits.specs.Below.{first_below, LeastThen}
use Rattle.bits.specs.Sums.{All}
use Rattle.bits.proofs.Bits.{bit_lt, bit_high}
use Rattle.bits.proofs.Below.{get_or_list_below, is_list_below}
use Rattle.bits.proofs.Least.{Least}
use Rattle.cube.specs.declared.Cube.{Cube}
use Rattle.cube.specs.Cubes.{code_of, code, Good}
use Rattle.cube.specs.Lists.{list_value, truth_vector}
use Rattle.polarity.specs.Forms.{parity_within, coefficient, value_back, product, form_from, form_list, size, best_polarity}
use Rattle.polarity.specs.Cost.{cost, cheaper}
use Rattle.polarity.specs.Ranks.{rank}
use Rattle.polarity.specs.Vectors.{byte_at, Vector, coefficient_vector, vector_back}
use Rattle.polarity.specs.Words.{nonzero}
use Rattle.polarity.proofs.Subsets.{xor_twice}
use Rattle.polarity.proofs.Parities.{parity_cong, parity_lt, parity_twice}
use Rattle.polarity.proofs.Ranks.{rank_products, first_ranks, least_first}
use Rattle.polarity.proofs.Forms.{all_those, product_code, form_value, form_good, form_cong}

-- ---- there and back

module _ (n p : ℕ) (h : p < 2 ^ n) (f : ℕ → ℕ) where
  -- The value from the coefficients is the value ..
  pub values_back : (a : ℕ) → a < 2 ^ n → value_back n p (coefficient n p f) a ≡ f a % 2
  values_back a b = parity_twice n (λ t. f (bit_xor t p)) (bit_xor a p) (xor_lt n a p b h) ∙ ap (λ (x : ℕ). f x % 2) (xor_twice p a)

  -- .. and the coefficient of the values from coefficients is the coefficient.
  pub coefficients_back : (s : ℕ) → s < 2 ^ n → coefficient n p (value_back n p f) s ≡ f s % 2
  coefficients_back s b =
      parity_cong n (λ t. value_back n p f (bit_xor t p)) (parity_within n f) s (λ t c. ap (parity_within n f) (xor_twice p t)) ∙ parity_twice n f s b

module _ (n p : ℕ) (l : List ℕ) (v : Vector n l) (h : p < 2 ^ n) where
  -- Truth vector, coefficients, truth vector: under every polarity the vector comes back ..
  pub there_and_back : vector_back n p (coefficient_vector n p l) ≡ l
  there_and_back =
      sym (is_list_below 0 l (2 ^ n) (value_back n p (byte_at (coefficient_vector n p l))) v.long (λ a b.
      sym (parity_cong n (byte_at (coefficient_vector n p l)) (coefficient n p (byte_at l)) (bit_xor a p) (λ s c. get_or_list_below (2 ^ n) (coefficient n p (byte_at l)) s 0 c)
      ∙ values_back n p h (byte_at l) a b ∙ mod-eq_of_lt (v.bits a))))

  -- .. and coefficients, truth vector, coefficients too.
  pub back_and_there : coefficient_vector n p (vector_back n p l) ≡ l
  back_and_there =
      sym (is_list_below 0 l (2 ^ n) (coefficient n p (byte_at (vector_back n p l))) v.long (λ s b.
      sym (parity_cong n (λ t. byte_at (vector_back n p l) (bit_xor t p)) (λ t. value_back n p (byte_at l) (bit_xor t p)) s (λ t c.
      get_or_list_below (2 ^ n) (value_back n p (byte_at l)) (bit_xor t p) 0 (xor_lt n t p c h))
      ∙ coefficients_back n p h (byte_at l) s b ∙ mod-eq_of_lt (v.bits s))))

-- ---- the form

module _ (n p : ℕ) (f : ℕ → ℕ) where
  -- The form's list has the function's value at every assignment ..
  pub form_has_the_value : ((t : ℕ) → f t < 2) → p < 2 ^ n → (a : ℕ) → a < 2 ^ n → list_value n (form_list n p f) a ≡ f a
  form_has_the_value bits h a b =
      form_value n p (coefficient n p f) (parity_lt n (λ t. f (bit_xor t p))) a ∙ values_back n p h f a b ∙ mod-eq_of_lt (bits a)

  -- .. its cubes are good ..
  pub form_is_good : All (Good n) (form_list n p f)
  form_is_good = form_good n p (coefficient n p f)

-- .. and its truth vector is the vector that it was made of.
pub form_truth_vector : (n p : ℕ) (l : List ℕ) → Vector n l → p < 2 ^ n → truth_vector n (form_list n p (byte_at l)) ≡ l
form_truth_vector n p l v h =
    sym (is_list_below 0 l (2 ^ n) (list_value n (form_list n p (byte_at l))) v.long (λ a b. sym (form_has_the_value n p (byte_at l) v.bits h a b)))

module _ (n p : ℕ) (c : ℕ → ℕ) where
  -- A form uses for each variable one literal: absent, or plain where p's bit is 0 and complemented where it is 1.
  pub one_literal : All (λ d. (k : ℕ) → (code d k ≡ 2) ⊎ (code d k ≡ 1 - bit p k)) (form_from n p c)
  unfolding form_from
  one_literal = all_those _ (product p) (λ s. nonzero (c s)) (2 ^ n) 0 (λ s l u k. at s k (bit s k) (product_code p s k))
    where
      at : (s k x : ℕ) → code (product p s) k ≡ code_of x (1 - bit p k) → (code (product p s) k ≡ 2) ⊎ (code (product p s) k ≡ 1 - bit p k)
      at s k zero e = inl e
      at s k (suc x) e = inr e

  -- 001, definition 3: the literal whose code is the polarity's entry does not appear.
  pub literal_of_polarity_missing : All (λ d. (k : ℕ) → code d k ≢ bit p k) (form_from n p c)
  unfolding form_from
  literal_of_polarity_missing = all_those _ (product p) (λ s. nonzero (c s)) (2 ^ n) 0 (λ s l u k. at s k (bit s k) (product_code p s k))
    where
      at : (s k x : ℕ) → code (product p s) k ≡ code_of x (1 - bit p k) → code (product p s) k ≢ bit p k
      at s k zero e q = omega (arith, e, q, bit_lt p k)
      at s k (suc x) e q = omega (arith, e, q, bit_lt p k)

-- ---- polarity 0 is the positive form of 002, lemma 2.2

module _ (n : ℕ) (f : ℕ → ℕ) where
  -- Its literals are plain ..
  pub positive_literals : All (λ d. (k : ℕ) → (code d k ≡ 2) ⊎ (code d k ≡ 1)) (form_list n 0 f)
  unfolding form_from
  positive_literals = all_those _ (product 0) (λ s. nonzero (coefficient n 0 f s)) (2 ^ n) 0 (λ s l u k. at s k (bit s k) (product_code 0 s k))
    where
      at : (s k x : ℕ) → code (product 0 s) k ≡ code_of x (1 - bit 0 k) → (code (product 0 s) k ≡ 2) ⊎ (code (product 0 s) k ≡ 1)
      at s k zero e = inl e
      at s k (suc x) e = inr (omega (arith, e, bit_high 0 0 k (pow_pos 0) zero-le))

  -- .. and f is the EXOR of the coefficients of the sets whose variables are all 1.
  pub positive_form : ((t : ℕ) → f t < 2) → (a : ℕ) → a < 2 ^ n → f a ≡ parity_within n (parity_within n f) a
  positive_form bits a b = sym (parity_twice n f a b ∙ mod-eq_of_lt (bits a))

  -- Promised: a coefficient of the positive form is the parity within its set.
  pub positive_coefficient : (s : ℕ) → coefficient n 0 f s ≡ parity_within n f s
  positive_coefficient s = parity_cong n (λ t. f (bit_xor t 0)) f s (λ t b. ap f (xor_zero_r t))

-- ---- only one

-- 001, property 2, and 002: under a polarity, no other coefficients, and so no other form, give the function's values.
module _ (n p : ℕ) (h : p < 2 ^ n) (f c : ℕ → ℕ) (bits : (s : ℕ) → c s < 2)
    (same : (a : ℕ) → a < 2 ^ n → list_value n (form_from n p c) a ≡ f a) where
  pub coefficients_unique : (s : ℕ) → s < 2 ^ n → c s ≡ coefficient n p f s
  coefficients_unique s b =
      sym (parity_cong n (λ t. f (bit_xor t p)) (λ t. value_back n p c (bit_xor t p)) s (λ t d.
      sym (same (bit_xor t p) (xor_lt n t p d h)) ∙ form_value n p c bits (bit_xor t p))
      ∙ coefficients_back n p h c s b ∙ mod-eq_of_lt (bits s))

  pub form_unique : form_from n p c ≡ form_list n p f
  form_unique = form_cong n p c (coefficient n p f) coefficients_unique

-- ---- the best polarity

module _ (n : ℕ) (f : ℕ → ℕ) where
  abbrev form : ℕ → List Cube
  form p = form_list n p f

  pub best_has_least_rank : Least (λ p. rank (form p)) (2 ^ n) (best_polarity n f)
  unfolding best_polarity
  best_has_least_rank =
      subst (λ (m : ℕ). Least (λ p. rank (form p)) m (first_below (λ q p. cheaper (form q) (form p)) m)) (suc_ones n) (first_ranks form (2 ^ n - 1))

  -- No polarity's form costs less than the best one's; of those that cost as much none has fewer products, and of those with as many none is smaller.
  pub best_is_first : LeastThen (λ p. cost (form p)) (λ p. size n p f) (2 ^ n) (best_polarity n f)
  best_is_first = least_first form (2 ^ n) (best_polarity n f) best_has_least_rank

  -- Nor has any polarity's form fewer products at all: since one product is free at most, what costs less never has more of them.
  pub best_has_fewest : (q : ℕ) → q < 2 ^ n → size n (best_polarity n f) f ≤ size n q f
  best_has_fewest q h = rank_products (form (best_polarity n f)) (form q) (best_has_least_rank.least q zero-le h)

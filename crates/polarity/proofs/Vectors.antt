-- What an accepted check of a vector says.
-- Assumes nothing.
use mathlib.Core.Path.{◌≡◌, refl, sym, ap}
use mathlib.Core.Bool.{true}
use mathlib.Core.List.{List, [], ◌∷◌}
use Prim.Native.Nat.{ℕ, ◌^◌, ◌<◌, ◌≤◌}
use native.Mathlib.Omega.{arith}
use lib.Dec.{leb, eqb}
use lib.ListN.{length, get_or}
use lib.Pow.{pow_mono}
use borrow.Author.Tests.{leb-true, eqb-true}
use Rattle.bits.specs.Sums.{All}
use Rattle.bits.proofs.Sums.{all_get_or}
use Rattle.records.specs.Answers.{accepted}
use Rattle.records.proofs.Answers.{unless_accepted, unless_at_accepted, accepted_values}
use Rattle.cube.specs.Lists.{vector_variables}
use Rattle.polarity.specs.Vectors.{byte_at, Vector, is_bit, check_vector}

bits_of : (l : List ℕ) → All (λ x. is_bit x ≡ true) l → (t : ℕ) → byte_at l t < 2
bits_of l a t = let h : is_bit (byte_at l t) ≡ true = all_get_or (λ x. is_bit x ≡ true) l t 0 a refl in omega (arith, leb-true (byte_at l t) 1 h)

-- what an accepted vector is, and its length
module _ (n : ℕ) (l v : List ℕ) (e : check_vector n l ≡ accepted v) where
  check_says : Vector n l × (v ≡ 2 ^ n ∷ [])
  unfolding check_vector
  check_says =
      let p = unless_accepted (leb n vector_variables) 1 0 _ v e in
      let q = unless_accepted (eqb (length l) (2 ^ n)) 14 (2 ^ n) _ v p.1 in
      let r = unless_at_accepted is_bit 14 l _ v q.1 in
      (record { few = leb-true n vector_variables p.0; long = eqb-true (length l) (2 ^ n) q.0; bits = bits_of l r.0 }, sym (accepted_values r.1))

  pub check_accepts : Vector n l
  check_accepts = check_says.0

pub check_long : (n : ℕ) (l : List ℕ) (m : ℕ) → check_vector n l ≡ accepted (m ∷ []) → m ≡ 2 ^ n
check_long n l m e = ap (λ (v : List ℕ). get_or v 0 0) (check_says n l (m ∷ []) e).1

pub vector_most : (n : ℕ) (l : List ℕ) → Vector n l → 2 ^ n ≤ 256
vector_most n l v = pow_mono v.few

pub vector_fits : (n m : ℕ) (l : List ℕ) → Vector n l → n ≤ m → length l ≤ 2 ^ m
vector_fits n m l v h = omega (arith, v.long, pow_mono {j = m} h)

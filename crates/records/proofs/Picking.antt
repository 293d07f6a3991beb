-- A loop over the numbers below a bound that stores a record, of any kind, for each number that passes a test, one after another from the front. The
-- invariant is one record.
-- Assumes nothing.
use mathlib.Core.Path.{◌≡◌, refl, sym, ap, ap₂, ◌∙◌}
use mathlib.Core.Bool.{Bool, true, false}
use mathlib.Core.List.{List, ◌∷◌, map}
use Prim.Native.Nat.{ℕ, ◌+◌, ◌-◌, ◌≤◌, ◌<◌, zero-le}
use native.Mathlib.Nat.{zero-add, sub-zero}
use native.Mathlib.Numerals.{add-one}
use native.Mathlib.Omega.{arith}
use lib.ListN.{length}
use Rattle.bits.specs.Below.{those}
use Rattle.bits.proofs.Below.{those_next, those_skip, those_end}
use Rattle.records.specs.Records.{Codec, stored, written}
use Rattle.records.proofs.Records.{length_stored}

-- the numbers below s have been looked at, and `place` of them passed; what is left, written from there on, makes the whole
pub record Picking {A : Type 0} (C : Codec A) (test : ℕ → Bool) (of : ℕ → A) (m : ℕ) (out₀ out : List ℕ) (place s : ℕ) : Type 0 where
  pub long : length out ≡ length out₀
  pub within : s ≤ m
  pub few : place ≤ s
  pub so_far : place + length (those test (m - s) s) ≡ length (those test m 0)
  pub left : written C place (map of (those test (m - s) s)) out ≡ written C 0 (map of (those test m 0)) out₀

module _ {A : Type 0} (C : Codec A) (test : ℕ → Bool) (of : ℕ → A) (m : ℕ) (out₀ : List ℕ) where
  pub picking_none : Picking C test of m out₀ out₀ 0 0
  picking_none = record {
    long = refl;
    within = zero-le;
    few = zero-le;
    so_far = zero-add _ ∙ ap (λ (k : ℕ). length (those test k 0)) (sub-zero m);
    left = ap (λ (k : ℕ). written C 0 (map of (those test k 0)) out₀) (sub-zero m);
  }

  module _ (out : List ℕ) (place s : ℕ) (P : Picking C test of m out₀ out place s) where
    pub picking_skip : s < m → test s ≡ false → Picking C test of m out₀ out place (s + 1)
    picking_skip h e =
        let next : those test (m - s) s ≡ those test (m - (s + 1)) (s + 1) = those_skip test m s h e in
        record {
          long = P.long;
          within = omega arith;
          few = omega (arith, P.few);
          so_far = ap (λ (r : List ℕ). place + length r) (sym next) ∙ P.so_far;
          left = ap (λ (r : List ℕ). written C place (map of r) out) (sym next) ∙ P.left;
        }

    pub picking_more : (a : A) (out' : List ℕ) → s < m → test s ≡ true → a ≡ of s → out' ≡ stored C out place a → Picking C test of m out₀ out' (place + 1) (s + 1)
    unfolding written
    picking_more a out' h e ea eo =
        let next : those test (m - s) s ≡ s ∷ those test (m - (s + 1)) (s + 1) = those_next test m s h e in
        let put : out' ≡ stored C out place (of s) = eo ∙ ap (stored C out place) ea in
        record {
          long = ap length put ∙ length_stored C out place (of s) ∙ P.long;
          within = omega arith;
          few = omega (arith, P.few);
          so_far = omega (arith, ap length next, P.so_far);
          left = ap₂ (λ (k : ℕ) (b : List ℕ). written C k (map of (those test (m - (s + 1)) (s + 1))) b) (add-one place) put
              ∙ ap (λ (r : List ℕ). written C place (map of r) out) (sym next) ∙ P.left;
        }

    pub picked_all : m ≤ s → out ≡ written C 0 (map of (those test m 0)) out₀
    unfolding written
    picked_all h = ap (λ (r : List ℕ). written C place (map of r) out) (sym (those_end test m s h)) ∙ P.left

    pub picked_count : m ≤ s → place ≡ length (those test m 0)
    picked_count h = omega (arith, P.so_far, ap length (those_end test m s h))

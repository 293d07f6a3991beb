-- A loop over the records of a buffer, of any kind, that looks for the lowest one that fails a test. The invariant is one record.
-- Assumes nothing.
use mathlib.Core.Path.{◌≡◌, sym, ap, ◌∙◌}
use mathlib.Core.Bool.{Bool, true, false, not}
use mathlib.Core.List.{List}
use Prim.Native.Nat.{ℕ, ◌+◌, ◌/◌, ◌≤◌, ◌<◌, zero-le}
use native.Mathlib.Nat.{zero-add}
use native.Mathlib.Omega.{arith}
use borrow.Author.Tests.{not-true, not-false}
use lib.ListN.{length, get_or, drop}
use Rattle.bits.specs.Sums.{first_bad}
use Rattle.bits.proofs.Sums.{looking_on, looking_here, looking_end}
use Rattle.records.specs.Records.{Codec, list_of}
use Rattle.records.proofs.Records.{length_list}

-- the first i records pass
pub record Looking {A : Type 0} (C : Codec A) (test : A → Bool) (b : List ℕ) (i : ℕ) : Type 0 where
  pub within : i ≤ length b / C.width
  pub so_far : first_bad test (list_of C b) ≡ i + first_bad test (drop i (list_of C b))

module _ {A : Type 0} (C : Codec A) (test : A → Bool) (b : List ℕ) where
  pub looking_none : Looking C test b 0
  looking_none = record { within = zero-le; so_far = sym (zero-add (first_bad test (list_of C b))) }

  module _ (i : ℕ) (r : Looking C test b i) where
    pub found_none : length b / C.width ≤ i → length b / C.width ≡ first_bad test (list_of C b)
    found_none h =
        let e : i ≡ length b / C.width = omega (arith, r.within) in
        sym e ∙ sym (looking_end test C.none (list_of C b) i (omega (arith, length_list C b)) r.so_far)

    module _ (h : i < length b / C.width) (c : A) (ec : c ≡ get_or (list_of C b) i C.none) (t : Bool) (et : t ≡ test c) where
      pub found_bad : not t ≡ true → i ≡ first_bad test (list_of C b)
      found_bad f =
          sym (looking_here test C.none (list_of C b) i (omega (arith, length_list C b))
          (ap test (sym ec) ∙ sym et ∙ not-true t f) r.so_far)

      pub looking_next : not t ≡ false → Looking C test b (i + 1)
      looking_next f = record {
        within = omega arith;
        so_far = looking_on test C.none (list_of C b) i (omega (arith, length_list C b))
            (ap test (sym ec) ∙ sym et ∙ not-false t f) r.so_far;
      }

-- A loop over the records of a buffer, of any kind, that counts those that pass a test. The invariant is one record.
-- Assumes nothing.
use mathlib.Core.Path.{◌≡◌, sym, ap, ◌∙◌}
use mathlib.Core.Bool.{Bool}
use mathlib.Core.List.{List}
use Prim.Native.Nat.{ℕ, ◌+◌, ◌/◌, ◌≤◌, ◌<◌, zero-le}
use native.Mathlib.Nat.{zero-add}
use native.Mathlib.Omega.{arith}
use lib.ListN.{length, get_or, drop}
use Rattle.bits.specs.Sums.{one_if, tally, first_bad}
use Rattle.bits.proofs.Bools.{one_lt}
use Rattle.bits.proofs.Sums.{tally_on, tally_end, tally_none}
use Rattle.records.specs.Records.{Codec, list_of}
use Rattle.records.proofs.Records.{length_list}

-- t of the first i records pass
pub record Counting {A : Type 0} (C : Codec A) (test : A → Bool) (b : List ℕ) (t i : ℕ) : Type 0 where
  pub within : i ≤ length b / C.width
  pub few : t ≤ i
  pub so_far : t + tally test (drop i (list_of C b)) ≡ tally test (list_of C b)

module _ {A : Type 0} (C : Codec A) (test : A → Bool) (b : List ℕ) where
  pub counting_none : Counting C test b 0 0
  counting_none = record { within = zero-le; few = zero-le; so_far = zero-add (tally test (list_of C b)) }

  module _ (t i : ℕ) (r : Counting C test b t i) where
    pub counting_next : i < length b / C.width → (c : A) → c ≡ get_or (list_of C b) i C.none → (h : Bool) → h ≡ test c → Counting C test b (t + one_if h) (i + 1)
    counting_next l c ec h eh =
        let same : h ≡ test (get_or (list_of C b) i C.none) = eh ∙ ap test ec in
        record {
          within = omega arith;
          few = omega (arith, r.few, one_lt h);
          so_far = omega (arith, r.so_far, tally_on test C.none (list_of C b) i (omega (arith, length_list C b)), ap one_if same);
        }

    pub counted_all : length b / C.width ≤ i → t ≡ tally test (list_of C b)
    counted_all h = omega (arith, r.so_far, tally_end test C.none (list_of C b) i (omega (arith, length_list C b)))

  -- where as many pass as there are, none fails
  pub counted_none : (t : ℕ) → t ≡ tally test (list_of C b) → t ≡ length b / C.width → length b / C.width ≡ first_bad test (list_of C b)
  counted_none t is all = sym (tally_none test (list_of C b) (sym is ∙ all ∙ sym (length_list C b)) ∙ length_list C b)

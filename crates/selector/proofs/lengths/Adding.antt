-- Lengths that are taken off a size one by one, and the records of the lists that are counted along.
-- Assumes nothing.
use mathlib.Core.Path.{◌≡◌, sym, ap, ◌∙◌}
use mathlib.Core.Bool.{false}
use mathlib.Core.List.{List}
use Prim.Native.Nat.{ℕ, ◌+◌, ◌-◌, ◌/◌, ◌≤◌, ◌<◌}
use native.Mathlib.Omega.{arith}
use borrow.Author.Tests.{eqb-true, eq-eqb, ne_eqb}
use lib.Dec.{eqb}
use lib.ListN.{length, get_or}
use Rattle.bits.specs.Below.{sum_below}
use Rattle.bits.proofs.Below.{sum_cong}
use Rattle.bits.proofs.Bools.{same_bool}
use Rattle.records.proofs.Records.{length_list}
use Rattle.cube.specs.Lists.{cubes, record_width}
use Rattle.selector.specs.Maps.{starts, part, add_up, cubes_at, records_of}
use Rattle.selector.specs.Turns.{Mapped}
use Rattle.selector.proofs.Parts.{sum_zero, sum_next, start_next, start_before, part_length}

-- the first k lengths have been taken off
pub record Adding (lengths : List ℕ) (size left k : ℕ) : Type 0 where
  pub within : k ≤ length lengths
  pub left_is : left + starts lengths k ≡ size

module _ (lengths : List ℕ) (size : ℕ) where
  pub adding_none : Adding lengths size size 0
  adding_none = record { within = omega arith; left_is = omega (arith, sum_zero (λ i. get_or lengths i 0)) }

  module _ (left k : ℕ) (r : Adding lengths size left k) where
    pub adding_more : k < length lengths → get_or lengths k 0 ≤ left → Adding lengths size (left - get_or lengths k 0) (k + 1)
    adding_more h l = record { within = omega arith; left_is = omega (arith, start_next lengths k, r.left_is) }

    pub adding_short : k < length lengths → left < get_or lengths k 0 → false ≡ add_up lengths size
    unfolding add_up
    adding_short h l =
        sym (ne_eqb (starts lengths (length lengths)) size (λ e. omega (arith, e, start_before lengths k (length lengths) h, r.left_is)))

    pub adding_done : length lengths ≤ k → eqb left 0 ≡ add_up lengths size
    unfolding add_up
    adding_done h =
        let e : k ≡ length lengths = omega (arith, r.within) in
        let f : starts lengths k ≡ starts lengths (length lengths) = ap (starts lengths) e in
        same_bool _ _
        (λ t. eq-eqb (starts lengths (length lengths)) size (omega (arith, eqb-true left 0 t, f, r.left_is)))
        (λ t. eq-eqb left 0 (omega (arith, eqb-true (starts lengths (length lengths)) size t, f, r.left_is)))

-- the records of the first k lists have been counted
pub record CountingRecords (lengths : List ℕ) (records k : ℕ) : Type 0 where
  pub within : k ≤ length lengths
  pub so_far : records ≡ sum_below k (λ i. get_or lengths i 0 / record_width)
  pub few : records ≤ starts lengths k

module _ (lengths : List ℕ) where
  pub counting_none : CountingRecords lengths 0 0
  counting_none = record { within = omega arith; so_far = sym (sum_zero (λ i. get_or lengths i 0 / record_width)); few = omega arith }

  module _ (records k : ℕ) (r : CountingRecords lengths records k) where
    -- the count never passes the bytes of the lists, whatever part of a length is added
    pub counting_fits : (lists : List ℕ) → Mapped lists lengths → k < length lengths → records + get_or lengths k 0 ≤ length lists
    counting_fits lists m h = omega (arith, r.few, start_before lengths k (length lengths) h, m.adds)

    pub counting_more : k < length lengths → CountingRecords lengths (records + get_or lengths k 0 / record_width) (k + 1)
    counting_more h = record {
      within = omega arith;
      so_far = ap (λ (x : ℕ). x + get_or lengths k 0 / record_width) r.so_far ∙ sym (sum_next (λ i. get_or lengths i 0 / record_width) k);
      few = omega (arith, r.few, start_next lengths k);
    }

    pub counting_done : (lists : List ℕ) → Mapped lists lengths → length lengths ≤ k → records ≡ records_of lists lengths
    unfolding records_of
    counting_done lists m h =
        let e : k ≡ length lengths = omega (arith, r.within) in
        r.so_far ∙ ap (λ (x : ℕ). sum_below x (λ i. get_or lengths i 0 / record_width)) e
        ∙ sum_cong (length lengths) (λ i. get_or lengths i 0 / record_width) (λ i. length (cubes_at lists lengths i)) (λ i l.
        sym (length_list cubes (part lists lengths i) ∙ ap (λ (x : ℕ). x / record_width) (part_length lengths lists i l m.adds)))

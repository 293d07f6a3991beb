-- Laws of lists of shared products: the check of a list by its tests.
-- Assumes nothing.
use mathlib.Core.Path.{◌≡◌, sym, ap, ◌∙◌, subst}
use mathlib.Core.Bool.{Bool, true, not, ◌&&◌}
use mathlib.Core.List.{List, [], ◌∷◌}
use Prim.Native.Nat.{ℕ, ◌/◌, ◌%◌, ◌^◌, ◌≤◌, ◌<◌}
use borrow.Author.Tests.{le-leb, lt-leb, leb-true}
use lib.Dec.{leb, eqb}
use lib.ListN.{length, get_or}
use Rattle.bits.specs.Bits.{within}
use Rattle.bits.specs.Sums.{All}
use Rattle.bits.proofs.Sums.{all_each}
use Rattle.records.specs.declared.Refusal.{Refusal}
use Rattle.records.specs.Answers.{accepted, refused, refusal}
use Rattle.records.proofs.Answers.{accepted_values, unless_passes, unless_fails, unless_accepted}
use Rattle.records.proofs.Checks.{checked, records_accepted, accepted_records}
use Rattle.cube.specs.Cubes.{variables_below, mask_bits}
use Rattle.cube.specs.Lists.{most_variables, most_records}
use Rattle.cube.proofs.Codes.{good_within_below}
use Rattle.shared.specs.declared.Shared.{Shared}
use Rattle.shared.specs.SharedRecord.{shared_width, shares, shares_of, fine, Fine}
use Rattle.shared.specs.Calls.{check_shared}
use Rattle.shared.proofs.SharedRecord.{fine_parts, parts_fine}

-- ---- a record

-- by the set of the variables below n
pub fine_within : (n : ℕ) (r : Shared) → r.cube.seen < 2 ^ mask_bits → (below : ℕ) → below ≡ variables_below n
    → (t : Bool) → t ≡ (within r.cube.value r.cube.seen && within r.cube.seen below) → (t && not (eqb r.outputs 0)) ≡ fine n r
fine_within n r h below e t et = ap (λ (g : Bool). g && not (eqb r.outputs 0)) (et ∙ good_within_below n r.cube h below e)

-- ---- the check of a list: the limit of its variables, and then its records

-- what an accepted list is
pub record AcceptedShared (n : ℕ) (b : List ℕ) : Type 0 where
  pub few : n ≤ most_variables
  pub whole : length b % shared_width ≡ 0
  pub short : length b / shared_width ≤ most_records
  pub good : All (Fine n) (shares_of b)

module _ (n : ℕ) (b : List ℕ) where
  pub shared_few : (r : Refusal) → r ≡ refusal 1 0 → most_variables < n → refused r ≡ check_shared n b
  unfolding check_shared
  shared_few r e h = ap refused e ∙ sym (unless_fails _ 1 0 _ (lt-leb _ _ h))

  pub shared_records : n ≤ most_variables → checked shares (fine n) 2 3 4 most_records b ≡ check_shared n b
  unfolding check_shared
  shared_records h = sym (unless_passes _ 1 0 _ (le-leb n most_variables h))

  pub shared_accepts : (v : List ℕ) → check_shared n b ≡ accepted v → AcceptedShared n b
  unfolding check_shared
  shared_accepts v e =
      let p = unless_accepted (leb n most_variables) 1 0 _ v e in
      let a = records_accepted shares (fine n) 2 3 4 most_records b v p.1 in
      record {
        few = leb-true n most_variables p.0;
        whole = a.whole;
        short = a.short;
        good = all_each (λ r. fine n r ≡ true) (Fine n) (fine_parts n) (shares_of b) a.each;
      }

  -- and a list that is so is accepted
  pub accepts_shared : AcceptedShared n b → check_shared n b ≡ accepted (length b / shared_width ∷ [])
  accepts_shared a =
      sym (shared_records a.few)
      ∙ accepted_records shares (fine n) 2 3 4 most_records b
      (record { whole = a.whole; short = a.short; each = all_each (Fine n) (λ r. fine n r ≡ true) (parts_fine n) (shares_of b) a.good })

  -- the count that it answers
  module _ (count : ℕ) (e : check_shared n b ≡ accepted (count ∷ [])) where
    pub shared_count_is : count ≡ length b / shared_width
    shared_count_is = ap (λ (v : List ℕ). get_or v 0 0) (accepted_values (sym e ∙ accepts_shared (shared_accepts (count ∷ []) e)))

    pub shared_count_most : count ≤ most_records
    shared_count_most = subst (λ (k : ℕ). k ≤ most_records) (sym shared_count_is) (shared_accepts (count ∷ []) e).short

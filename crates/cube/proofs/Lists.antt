-- Laws of lists of cubes: the check of a list by its tests, and how many products are true.
-- Assumes nothing.
use mathlib.Core.Path.{◌≡◌, sym, ap, ◌∙◌, subst}
use mathlib.Core.Bool.{Bool, true}
use mathlib.Core.List.{List, [], ◌∷◌}
use Prim.Native.Nat.{ℕ, ◌/◌, ◌%◌, ◌^◌, ◌≤◌, ◌<◌}
use lib.Bits.{bit_and}
use lib.Dec.{eqb, leb}
use lib.ListN.{length, get_or}
use borrow.Author.Tests.{le-leb, lt-leb, leb-true}
use Rattle.bits.specs.Sums.{All}
use Rattle.bits.proofs.Sums.{all_get_or, all_each}
use Rattle.records.specs.Records.{Codec, flat, list_of}
use Rattle.records.specs.declared.Refusal.{Refusal}
use Rattle.records.specs.Answers.{accepted, refused, refusal}
use Rattle.records.proofs.Records.{list_flat}
use Rattle.records.proofs.Answers.{accepted_values, unless_passes, unless_fails, unless_accepted}
use Rattle.records.proofs.Checks.{checked, records_accepted, accepted_records}
use Rattle.cube.specs.declared.Cube.{Cube}
use Rattle.cube.specs.Cubes.{one, good, Good, holds}
use Rattle.cube.specs.Lists.{cubes, cubes_of, most_records}
use Rattle.cube.specs.Calls.{check_list_of}
use Rattle.cube.proofs.Codes.{good_parts, parts_good, good_more, one_good}
use Rattle.cube.proofs.Masks.{holds_mask}
use Rattle.cube.proofs.CubeRecord.{lawful}
pub use Rattle.cube.proofs.CubeRecord.{lawful, cubes_bytes}

-- ---- the check of a list of any kind of record: the limit of its variables, and then its records

-- what an accepted list is
pub record AcceptedList (C : Codec Cube) (limit n : ℕ) (b : List ℕ) : Type 0 where
  pub few : n ≤ limit
  pub whole : length b % C.width ≡ 0
  pub short : length b / C.width ≤ most_records
  pub good : All (Good n) (list_of C b)

module _ (C : Codec Cube) (limit n : ℕ) (b : List ℕ) where
  pub check_few : (r : Refusal) → r ≡ refusal 1 0 → limit < n → refused r ≡ check_list_of C limit n b
  unfolding check_list_of
  check_few r e h = ap refused e ∙ sym (unless_fails _ 1 0 _ (lt-leb _ _ h))

  pub check_records : n ≤ limit → checked C (good n) 2 3 4 most_records b ≡ check_list_of C limit n b
  unfolding check_list_of
  check_records h = sym (unless_passes _ 1 0 _ (le-leb n limit h))

  pub check_accepts : (v : List ℕ) → check_list_of C limit n b ≡ accepted v → AcceptedList C limit n b
  unfolding check_list_of
  check_accepts v e =
      let p = unless_accepted (leb n limit) 1 0 _ v e in
      let a = records_accepted C (good n) 2 3 4 most_records b v p.1 in
      record {
        few = leb-true n limit p.0;
        whole = a.whole;
        short = a.short;
        good = all_each (λ c. good n c ≡ true) (Good n) (good_parts n) (list_of C b) a.each;
      }

  -- and a list that is so is accepted
  pub accepts_check : AcceptedList C limit n b → check_list_of C limit n b ≡ accepted (length b / C.width ∷ [])
  accepts_check a =
      sym (check_records a.few)
      ∙ accepted_records C (good n) 2 3 4 most_records b
      (record { whole = a.whole; short = a.short; each = all_each (Good n) (λ c. good n c ≡ true) (parts_good n) (list_of C b) a.good })

  -- the count that it answers
  module _ (count : ℕ) (e : check_list_of C limit n b ≡ accepted (count ∷ [])) where
    pub count_is : count ≡ length b / C.width
    count_is = ap (λ (v : List ℕ). get_or v 0 0) (accepted_values (sym e ∙ accepts_check (check_accepts (count ∷ []) e)))

    pub count_most : count ≤ most_records
    count_most = subst (λ (k : ℕ). k ≤ most_records) (sym count_is) (check_accepts (count ∷ []) e).short

-- the cubes of the bytes of a list are the list
pub cubes_flat : (l : List Cube) → cubes_of (flat cubes.enc l) ≡ l
cubes_flat = list_flat cubes lawful

-- each place of a list of good cubes, also past its end, where the product with no literal stands
pub good_at : (n : ℕ) (l : List Cube) → All (Good n) l → (i : ℕ) → Good n (get_or l i one)
good_at n l a i = all_get_or (Good n) l i one a (one_good n)

-- the masked comparison at each place of a list of good cubes
pub mask_at : (n : ℕ) (l : List Cube) (a i : ℕ) → All (Good n) l → a < 2 ^ n
    → (c : Cube) → c ≡ get_or l i one → (h : Bool) → h ≡ eqb (bit_and c.seen a) c.value → h ≡ holds n c a
mask_at n l a i g ha c ec h eh = eh ∙ sym (holds_mask n c a (subst (Good n) (sym ec) (good_at n l g i)) ha)

-- good over some variables is good over more
pub all_good_more : (m n : ℕ) (l : List Cube) → m ≤ n → All (Good m) l → All (Good n) l
all_good_more m n l h a = all_each (Good m) (Good n) (λ c g. good_more m n c h g) l a

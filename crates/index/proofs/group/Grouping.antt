-- The call group by its tests: what each return answers, and what it hands back.
-- Assumes nothing.
use mathlib.Core.Path.{◌≡◌, sym, ap, ◌∙◌}
use mathlib.Core.List.{List, [], ◌∷◌}
use Prim.Native.Nat.{ℕ, ◌+◌, ◌-◌, ◌*◌, ◌/◌, ◌≤◌, ◌<◌}
use native.Mathlib.Omega.{arith}
use lib.Dec.{ltb}
use lib.ListN.{length, get_or, take, drop}
use borrow.Author.Tests.{lt-ltb, le-ltb}
use Rattle.records.specs.Records.{records}
use Rattle.records.specs.Places.{place_width, places}
use Rattle.records.specs.declared.Refusal.{Refusal}
use Rattle.records.specs.Answers.{Outcome, accepted, refused, refusal, unless}
use Rattle.records.proofs.Answers.{unless_passes, unless_fails}
use Rattle.records.proofs.Records.{length_list}
use Rattle.cube.specs.Lists.{cubes, cubes_of, record_width, most_variables}
use Rattle.cube.specs.Calls.{check_list}
use Rattle.index.specs.Index.{group_count, group_of, literals_at, index_of, starts_of, list_index, list_starts, list_group}
use Rattle.index.specs.Counting.{many, Started, next_start}
use Rattle.index.specs.Calls.{first_apart, unless_right, own_outcome, group_outcome, part_of, part_after, group_part}
use Rattle.index.proofs.Apart.{right_fails, right_passes}
use Rattle.index.proofs.build.Building.{fitting_refused, fitting_short, fitting_passes}
use Rattle.index.proofs.group.Sizes.{group_size}

-- ---- the index is looked through

module _ (b : List ℕ) (count : ℕ) (ec : count ≡ length b / record_width) (index starts : List ℕ) (m : ℕ)
    (right : List ℕ) (st : Started (literals_at (cubes_of b)) count right) where
  all : count ≡ length (cubes_of b)
  all = ec ∙ sym (length_list cubes b)

  -- the tests over the count
  abbrev left : Outcome
  left = unless (ltb m group_count) 21 0 (accepted (length (group_of (literals_at (cubes_of b)) count m) ∷ []))

  abbrev after : Outcome
  after = unless_right group_count starts (starts_of (literals_at (cubes_of b)) count) 25 left

  own : unless_right count (records places count index) (index_of (literals_at (cubes_of b)) count) 25 after ≡ own_outcome (cubes_of b) index starts m
  unfolding own_outcome list_index list_starts list_group
  own = ap (λ (k : ℕ). unless_right k (records places k index) (index_of (literals_at (cubes_of b)) k) 25
      (unless_right group_count starts (starts_of (literals_at (cubes_of b)) k) 25
      (unless (ltb m group_count) 21 0 (accepted (length (group_of (literals_at (cubes_of b)) k m) ∷ []))))) all

  module _ (bad : ℕ) (is : bad ≡ first_apart count (records places count index) (index_of (literals_at (cubes_of b)) count)) where
    pub own_entry : (r : Refusal) → r ≡ refusal 25 bad → (bad ≡ count → ⊥) → refused r ≡ own_outcome (cubes_of b) index starts m
    own_entry r e h = ap refused e ∙ right_fails count (records places count index) (index_of (literals_at (cubes_of b)) count) 25 after bad is h ∙ own

    module _ (whole : bad ≡ count) (off : ℕ) (os : off ≡ first_apart group_count starts right) where
      entries : after ≡ own_outcome (cubes_of b) index starts m
      entries = sym (right_passes count (records places count index) (index_of (literals_at (cubes_of b)) count) 25 after (sym is ∙ whole)) ∙ own

      off_is : off ≡ first_apart group_count starts (starts_of (literals_at (cubes_of b)) count)
      off_is = os ∙ ap (first_apart group_count starts) st.is

      pub own_start : (r : Refusal) → r ≡ refusal 25 off → (off ≡ group_count → ⊥) → refused r ≡ own_outcome (cubes_of b) index starts m
      own_start r e h = ap refused e ∙ right_fails group_count starts (starts_of (literals_at (cubes_of b)) count) 25 left off off_is h ∙ entries

      module _ (same : off ≡ group_count) where
        begins : left ≡ own_outcome (cubes_of b) index starts m
        begins = sym (right_passes group_count starts (starts_of (literals_at (cubes_of b)) count) 25 left (sym off_is ∙ same)) ∙ entries

        pub own_above : (r : Refusal) → r ≡ refusal 21 0 → group_count ≤ m → refused r ≡ own_outcome (cubes_of b) index starts m
        own_above r e h = ap refused e ∙ sym (unless_fails _ 21 0 _ (le-ltb _ _ h)) ∙ begins

        pub own_counted : m < group_count → (end : ℕ) → end ≡ next_start right count m → accepted ((end - get_or right m 0) ∷ []) ≡ own_outcome (cubes_of b) index starts m
        unfolding many
        own_counted h end ee =
            let size : end - get_or right m 0 ≡ length (group_of (literals_at (cubes_of b)) count m) = omega (arith, group_size (literals_at (cubes_of b)) count right st m h end ee) in
            ap (λ (x : ℕ). accepted (x ∷ [])) size ∙ sym (unless_passes _ 21 0 _ (lt-ltb _ _ h)) ∙ begins

  -- a group does not end before its start
  pub own_order : m < group_count → (end : ℕ) → end ≡ next_start right count m → get_or right m 0 ≤ end
  own_order h end ee = omega (arith, group_size (literals_at (cubes_of b)) count right st m h end ee)

-- ---- each return of the sibling

module _ (n : ℕ) (b index starts : List ℕ) (m : ℕ) where
  pub group_refused : (r : Refusal) → check_list most_variables n b ≡ refused r → refused r ≡ group_outcome n b index starts m
  unfolding group_outcome
  group_refused r e = sym (fitting_refused n b (length index) _ r e)

  module _ (count : ℕ) (e : check_list most_variables n b ≡ accepted (count ∷ [])) where
    pub group_short : (r : Refusal) → r ≡ refusal 5 0 → length index < place_width * count → refused r ≡ group_outcome n b index starts m
    unfolding group_outcome
    group_short r er h = ap refused er ∙ sym (fitting_short n b (length index) _ count e h)

    pub group_own : place_width * count ≤ length index → (o : Outcome) → o ≡ own_outcome (cubes_of b) index starts m → o ≡ group_outcome n b index starts m
    unfolding group_outcome
    group_own h o eo = eo ∙ sym (fitting_passes n b (length index) _ count e h)

  -- ---- each return of the group

  pub part_refused : (r : Refusal) → refused r ≡ group_outcome n b index starts m → (l : List ℕ) → l ≡ part_of index 0 0 → l ≡ group_part n b index starts m
  unfolding group_part part_of
  part_refused r e l el = el ∙ ap (λ (o : Outcome). part_after o index (get_or starts m 0)) e

  pub part_accepted : (size : ℕ) → accepted (size ∷ []) ≡ group_outcome n b index starts m → (l : List ℕ) → l ≡ part_of index (get_or starts m 0) size → l ≡ group_part n b index starts m
  unfolding group_part
  part_accepted size e l el = el ∙ ap (λ (o : Outcome). part_after o index (get_or starts m 0)) e

-- from one entry up to another
pub part_size : (b : List ℕ) (from size : ℕ)
    → take (place_width * (from + size) - place_width * from) (drop (place_width * from) b) ≡ take (place_width * size) (drop (place_width * from) b)
part_size b from size = let e : place_width * (from + size) - place_width * from ≡ place_width * size = omega arith in ap (λ (k : ℕ). take k (drop (place_width * from) b)) e

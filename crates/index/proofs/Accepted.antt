-- What an accepted call of build says of the list, one of group of the lent index, and what the part that it hands back holds.
-- Assumes nothing.
use mathlib.Core.Path.{◌≡◌, sym, ap, ap₂, ◌∙◌}
use mathlib.Core.List.{List, [], ◌∷◌}
use Prim.Native.Nat.{ℕ, suc, ◌+◌, ◌*◌, ◌/◌, ◌≤◌, ◌<◌}
use native.Mathlib.Nat.{lt_of_lt_of_le}
use native.Mathlib.Omega.{arith}
use lib.Count.{ones, ones-le}
use lib.Dec.{leb, ltb}
use lib.ListN.{length, get_or, take, drop, length-drop}
use lib.Pow.{pow_mono}
use lib.Seq.{get_or-take, get_or-drop, ext_get_or, length-take-le}
use borrow.Author.Tests.{leb-true, ltb-true}
use Rattle.bits.specs.Below.{list_below}
use Rattle.bits.proofs.Below.{length_list_below}
use Rattle.records.specs.Numbers.{number_at}
use Rattle.records.specs.Records.{records, list_of}
use Rattle.records.specs.Places.{place_width, places}
use Rattle.records.specs.Answers.{accepted}
use Rattle.records.proofs.Records.{length_records, get_or_records}
use Rattle.records.proofs.Answers.{accepted_values, unless_accepted, both_accepted}
use Rattle.cube.specs.declared.Cube.{Cube}
use Rattle.cube.specs.Cubes.{one, Good}
use Rattle.cube.specs.Lists.{cubes, cubes_of, most_variables}
use Rattle.cube.specs.Calls.{check_list}
use Rattle.cube.proofs.Codes.{good_seen}
use Rattle.cube.proofs.Lists.{AcceptedList, check_accepts, good_at}
use Rattle.index.specs.Index.{group_count, literals, literals_at, group_of, index_of, start_of, starts_of, list_index, list_starts, list_group}
use Rattle.index.specs.Counting.{many, Grouped}
use Rattle.index.specs.Calls.{build_outcome, group_outcome, own_outcome, part_of}
use Rattle.index.proofs.Entries.{length_index, next_within, group_in_index}
use Rattle.index.proofs.Apart.{right_accepted}
use Rattle.index.proofs.group.Sizes.{start_at}

-- a good cube has at most 32 literals
pub good_grouped : (n : ℕ) (l : List Cube) → n ≤ most_variables → (g : (p : ℕ) → Good n (get_or l p one)) → Grouped (literals_at l) (length l)
unfolding literals_at literals
good_grouped n l few g q h =
    let most : ones (get_or l q one).seen ≤ 32 = ones-le 32 _ (lt_of_lt_of_le (good_seen n _ (g q)) (pow_mono few)) in
    omega (arith, most)

pub list_grouped : (n : ℕ) (b : List ℕ) → AcceptedList cubes most_variables n b → Grouped (literals_at (cubes_of b)) (length (cubes_of b))
list_grouped n b a = good_grouped n (cubes_of b) a.few (good_at n (cubes_of b) a.good)

-- ---- an accepted call of build

pub record AcceptedBuild (n : ℕ) (b : List ℕ) (room : ℕ) (v : List ℕ) : Type 0 where
  pub values : List ℕ
  pub checked : check_list most_variables n b ≡ accepted values
  pub list : AcceptedList cubes most_variables n b
  pub fits : place_width * length (cubes_of b) ≤ room
  pub value : v ≡ length (cubes_of b) ∷ []

pub build_accepts : (n : ℕ) (b : List ℕ) (room : ℕ) (v : List ℕ) → build_outcome n b room ≡ accepted v → AcceptedBuild n b room v
unfolding build_outcome
build_accepts n b room v e =
    let p = both_accepted (check_list most_variables n b) _ v e in
    let q = unless_accepted (leb (place_width * length (cubes_of b)) room) 5 0 _ v p.second in
    record {
      values = p.values;
      checked = p.first;
      list = check_accepts cubes most_variables n b p.values p.first;
      fits = leb-true _ _ q.0;
      value = sym (accepted_values q.1);
    }

-- ---- an accepted call of group: the index is the list's, the number is one of 0 to 32, and the answer is how many cubes have so many literals

pub record AcceptedGroup (n : ℕ) (b index starts : List ℕ) (m : ℕ) (v : List ℕ) : Type 0 where
  pub list : AcceptedList cubes most_variables n b
  pub room : place_width * length (cubes_of b) ≤ length index
  pub entries : records places (length (cubes_of b)) index ≡ list_index (cubes_of b)
  pub begins : starts ≡ list_starts (cubes_of b)
  pub below : m < group_count
  pub value : v ≡ length (list_group (cubes_of b) m) ∷ []

module _ (n : ℕ) (b index starts : List ℕ) (m : ℕ) (long : length starts ≡ group_count) where
  pub group_accepts : (v : List ℕ) → group_outcome n b index starts m ≡ accepted v → AcceptedGroup n b index starts m v
  unfolding group_outcome own_outcome list_index list_starts starts_of
  group_accepts v e =
      let l : List Cube = cubes_of b in
      let p = both_accepted (check_list most_variables n b) _ v e in
      let a : AcceptedList cubes most_variables n b = check_accepts cubes most_variables n b p.values p.first in
      let q = unless_accepted (leb (place_width * length l) (length index)) 5 0 _ v p.second in
      let r = right_accepted (length l) (records places (length l) index) (index_of (literals_at l) (length l)) 25 _ v (length_records places (length l) index)
      (length_index (literals_at l) (length l) (list_grouped n b a)) q.1 in
      let s = right_accepted group_count starts (list_below group_count (start_of (literals_at l) (length l))) 25 _ v long (length_list_below group_count _) r.1 in
      let t = unless_accepted (ltb m group_count) 21 0 _ v s.1 in
      record { list = a; room = leb-true _ _ q.0; entries = r.0; begins = s.0; below = ltb-true m group_count t.0; value = sym (accepted_values t.1) }

-- ---- the part

-- an entry of the part is one of the index
part_at : (b : List ℕ) (from size e : ℕ) → e < size → places.read (part_of b from size) e ≡ places.read b (from + e)
unfolding part_of number_at
part_at b from size e h =
    let byte : (k : ℕ) → k < place_width * size → get_or (take (place_width * size) (drop (place_width * from) b)) k 0 ≡ get_or b (place_width * from + k) 0 =
    λ k l. get_or-take (place_width * size) (drop (place_width * from) b) k 0 l ∙ get_or-drop (place_width * from) b k 0 in
    let low : place_width * from + (place_width * e + 0) ≡ place_width * (from + e) + 0 = omega arith in
    let high : place_width * from + suc (place_width * e + 0) ≡ suc (place_width * (from + e) + 0) = omega arith in
    ap₂ (λ (x y : ℕ). x + 256 * (y + 256 * 0)) (byte (place_width * e + 0) (omega arith) ∙ ap (λ (k : ℕ). get_or b k 0) low)
    (byte (suc (place_width * e + 0)) (omega arith) ∙ ap (λ (k : ℕ). get_or b k 0) high)

module _ (n : ℕ) (b index starts : List ℕ) (m : ℕ) (v : List ℕ) (A : AcceptedGroup n b index starts m v) where
  abbrev f : ℕ → ℕ
  f = literals_at (cubes_of b)

  abbrev k : ℕ
  k = length (cubes_of b)

  abbrev size : ℕ
  size = get_or v 0 0

  grouped : Grouped f k
  grouped = list_grouped n b A.list

  size_is : size ≡ many f k m
  unfolding many list_group
  size_is = ap (λ (w : List ℕ). get_or w 0 0) A.value

  begin : get_or starts m 0 ≡ start_of f k m
  unfolding list_starts
  begin = start_at f k starts m A.begins A.below

  -- it is within the index
  pub part_fits : place_width * (get_or starts m 0 + size) ≤ length index
  part_fits = omega (arith, A.room, begin, size_is, next_within f k grouped m A.below)

  pub part_long : length (part_of index (get_or starts m 0) size) ≡ place_width * size
  unfolding part_of
  part_long = length-take-le (place_width * size) (drop (place_width * get_or starts m 0) index) (omega (arith, length-drop (place_width * get_or starts m 0) index, part_fits))

  -- and its entries are those of the group
  pub part_entries : list_of places (part_of index (get_or starts m 0) size) ≡ list_group (cubes_of b) m
  unfolding list_of list_group list_index many
  part_entries =
      let half : length (part_of index (get_or starts m 0) size) / place_width ≡ size = omega (arith, part_long) in
      ap (λ (j : ℕ). records places j (part_of index (get_or starts m 0) size)) half
      ∙ ext_get_or 0 (records places size (part_of index (get_or starts m 0) size)) (group_of f k m) (length_records places size _ ∙ size_is) (λ r hr.
      let lt : r < size = omega (arith, length_records places size (part_of index (get_or starts m 0) size)) in
      let in_group : r < many f k m = omega (arith, size_is) in
      let inside : get_or starts m 0 + r < k = omega (arith, begin, next_within f k grouped m A.below) in
      get_or_records places size (part_of index (get_or starts m 0) size) r 0 lt
      ∙ part_at index (get_or starts m 0) size r lt
      ∙ sym (get_or_records places k index (get_or starts m 0 + r) 0 inside)
      ∙ ap (λ (l : List ℕ). get_or l (get_or starts m 0 + r) 0) A.entries
      ∙ ap (λ (x : ℕ). get_or (index_of f k) (x + r) 0) begin
      ∙ group_in_index f k grouped m r A.below in_group)

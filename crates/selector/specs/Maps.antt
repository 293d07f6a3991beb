-- A map: lists end to end in a lent buffer, with their lengths; its slot numbers, and its cost. Document 02, Thirteen: "it takes 1 to 12 plain lists, one per slot bit, all
-- over the same n, end to end in a lent buffer with their lengths, scripts likewise, and answers a label's slot number, bit k from list k".
-- Assumes nothing.
use Rattle.std.specs.Prelude.{ℕ, zero, suc, ◌+◌, ◌-◌, ◌*◌, ◌^◌, Bool, List, [], ◌++◌, eqb, length, get_or, set, take, drop}
use Rattle.bits.specs.Below.{sum_below, list_below}
use Rattle.records.specs.Records.{zeros}
use Rattle.cube.specs.declared.Cube.{Cube}
use Rattle.cube.specs.Lists.{cubes_of, list_value}
use Rattle.polarity.specs.Cost.{cost}

-- "1 to 12 plain lists"
abbrev pub most_lists : ℕ
most_lists = 12

-- where part k of a buffer starts: after all parts before it
abbrev pub starts : List ℕ → ℕ → ℕ
starts lengths k = sum_below k (λ i. get_or lengths i 0)

-- part k of a buffer: "end to end in a lent buffer with their lengths"
unfoldable pub part : List ℕ → List ℕ → ℕ → List ℕ
part b lengths k = take (get_or lengths k 0) (drop (starts lengths k) b)

-- the lengths "add up to the lent buffers": the sum is one of numbers, which never wraps
unfoldable pub add_up : List ℕ → ℕ → Bool
add_up lengths size = eqb (starts lengths (length lengths)) size

-- list k of a map
abbrev pub cubes_at : List ℕ → List ℕ → ℕ → List Cube
cubes_at lists lengths k = cubes_of (part lists lengths k)

-- "a label's slot number, bit k from list k"
unfoldable pub slot_of : ℕ → List ℕ → List ℕ → ℕ → ℕ
slot_of n lists lengths a = sum_below (length lengths) (λ k. list_value n (cubes_at lists lengths k) a * 2 ^ k)

-- the records of all lists of a map
unfoldable pub records_of : List ℕ → List ℕ → ℕ
records_of lists lengths = sum_below (length lengths) (λ k. length (cubes_at lists lengths k))

-- m lists "end to end"
unfoldable pub join_below : {A : Type 0} → ℕ → (ℕ → List A) → List A
join_below zero f = []
join_below (suc m) f = join_below m f ++ f m

-- "the map's total cost": that of each of its m lists (document 02, Two), added up
unfoldable pub total_cost : ℕ → (ℕ → List Cube) → ℕ
total_cost m f = sum_below m (λ k. cost (f k))

-- a number for each of m lists, as an array of twelve: zeros after the last
unfoldable pub each_of : ℕ → (ℕ → ℕ) → List ℕ
each_of m f = list_below m f ++ zeros (most_lists - m)

-- ---- one list replaced

-- the bytes of a map with other bytes in the place of list j, and its lengths: "replacing one bit's list"
unfoldable pub replaced : List ℕ → List ℕ → ℕ → List ℕ → List ℕ
replaced lists lengths j new = take (starts lengths j) lists ++ (new ++ drop (starts lengths j + get_or lengths j 0) lists)

abbrev pub new_lengths : List ℕ → ℕ → List ℕ → List ℕ
new_lengths lengths j new = set lengths j (length new)

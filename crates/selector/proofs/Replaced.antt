-- A map with one list replaced by another, of any length: it is a map again, every other list is as it was, and that list is the new one.
-- Assumes nothing.
use mathlib.Core.Path.{◌≡◌, refl, sym, ap, ap₂, ◌∙◌}
use mathlib.Core.Logic.{◌≢◌, ⊎_elim}
use mathlib.Core.List.{List, ◌++◌}
use Prim.Native.Nat.{ℕ, ◌+◌, ◌-◌, ◌≤◌, ◌<◌}
use native.Mathlib.Omega.{arith}
use lib.ListN.{length, get_or, take, drop, length-append, length-drop, length-set, take-append-drop}
use lib.Seq.{get_or-set_same, get_or-set_other, length-take-le, take-append-le, drop-append-le, drop-append-add, drop-drop, take_at, drop_at}
use Rattle.bits.specs.Below.{sum_below}
use Rattle.bits.proofs.Bools.{below_or}
use Rattle.bits.proofs.Below.{sum_cong, sum_parts}
use Rattle.selector.specs.Maps.{starts, part, replaced, new_lengths}
use Rattle.selector.specs.Turns.{Mapped}
use Rattle.selector.proofs.Parts.{start_next, start_before}

-- what stands before m is not touched by what comes after it
front_part : (at size m : ℕ) (b c : List ℕ) → at + size ≤ m → m ≤ length b → take size (drop at (take m b ++ c)) ≡ take size (drop at b)
front_part at size m b c h k =
    let long : length (take m b) ≡ m = length-take-le m b k in
    let left : length (drop at (take m b)) ≡ m - at = length-drop at (take m b) ∙ ap (λ (x : ℕ). x - at) long in
    let cut : (d : List ℕ) → take size (drop at (take m b ++ d)) ≡ take size (drop at (take m b)) =
    λ d. ap (take size) (drop-append-le at (take m b) d (omega arith)) ∙ take-append-le size (drop at (take m b)) d (omega arith) in
    cut c ∙ sym (cut (drop m b)) ∙ ap (λ (d : List ℕ). take size (drop at d)) (take-append-drop m b)

module _ (lists lengths : List ℕ) (j : ℕ) (new : List ℕ) (m : Mapped lists lengths) (hj : j < length lengths) where
  abbrev lengths' : List ℕ
  lengths' = new_lengths lengths j new

  abbrev end : ℕ
  end = starts lengths j + get_or lengths j 0

  end_most : end ≤ length lists
  end_most = omega (arith, start_before lengths j (length lengths) hj, m.adds)

  size_new : get_or lengths' j 0 ≡ length new
  size_new = get_or-set_same lengths j (length new) 0 hj

  size_kept : (k : ℕ) → k ≢ j → get_or lengths' k 0 ≡ get_or lengths k 0
  size_kept k d = get_or-set_other lengths j k (length new) 0 d

  -- the lists up to j start where they did, ..
  start_kept : (k : ℕ) → k ≤ j → starts lengths' k ≡ starts lengths k
  start_kept k h = sum_cong k (λ i. get_or lengths' i 0) (λ i. get_or lengths i 0) (λ i l. size_kept i (λ e. omega (arith, e)))

  -- .. and those after it as much later as the new list is longer
  start_moved : (k : ℕ) → j < k → starts lengths' k + get_or lengths j 0 ≡ starts lengths k + length new
  start_moved k h =
      let rest : ℕ = k - (j + 1) in
      let e : k ≡ (j + 1) + rest = omega arith in
      let f : ℕ → ℕ = λ i. get_or lengths i 0 in
      let g : ℕ → ℕ = λ i. get_or lengths' i 0 in
      let same : sum_below rest (λ t. g ((j + 1) + t)) ≡ sum_below rest (λ t. f ((j + 1) + t)) =
      sum_cong rest (λ t. g ((j + 1) + t)) (λ t. f ((j + 1) + t)) (λ t l. size_kept ((j + 1) + t) (λ d. omega (arith, d))) in
      omega (
        arith,
        ap (λ (x : ℕ). sum_below x f) e ∙ sum_parts (j + 1) rest f,
        ap (λ (x : ℕ). sum_below x g) e ∙ sum_parts (j + 1) rest g,
        same,
        size_new,
        start_next lengths j,
        start_next lengths' j,
        start_kept j (omega arith),
      )

  front_long : length (take (starts lengths j) lists) ≡ starts lengths j
  front_long = length-take-le (starts lengths j) lists (omega (arith, end_most))

  -- the map as bytes: past the front and the new list stands what stood after list j
  past_new : (x : ℕ) → drop ((starts lengths j + length new) + x) (replaced lists lengths j new) ≡ drop (end + x) lists
  unfolding replaced
  past_new x =
      let at : (starts lengths j + length new) + x ≡ length (take (starts lengths j) lists) + (length new + x) = omega (arith, front_long) in
      ap (λ (y : ℕ). drop y (take (starts lengths j) lists ++ (new ++ drop end lists))) at
      ∙ drop-append-add (take (starts lengths j) lists) (new ++ drop end lists) (length new + x)
      ∙ drop-append-add new (drop end lists) x ∙ drop-drop x end lists

  -- It is a map again, with as many lists ..
  pub replaced_mapped : Mapped (replaced lists lengths j new) (new_lengths lengths j new)
  unfolding replaced
  replaced_mapped =
      let many : length lengths' ≡ length lengths = length-set lengths j (length new) in
      let long : length (replaced lists lengths j new) ≡ starts lengths j + (length new + (length lists - end)) =
      length-append (take (starts lengths j) lists) (new ++ drop end lists)
      ∙ ap₂ (λ (x y : ℕ). x + y) front_long (length-append new (drop end lists) ∙ ap (λ (x : ℕ). length new + x) (length-drop end lists)) in
      record {
        some = omega (arith, many, m.some);
        few = omega (arith, many, m.few);
        adds = ap (starts lengths') many ∙ omega (arith, long, end_most, m.adds, start_moved (length lengths) hj);
      }

  -- .. of which every other one is as it was, ..
  pub part_kept : (k : ℕ) → k ≢ j → part (replaced lists lengths j new) (new_lengths lengths j new) k ≡ part lists lengths k
  unfolding part replaced
  part_kept k d = ⊎_elim before after (below_or k j)
    where
      before : k < j → take (get_or lengths' k 0) (drop (starts lengths' k) (replaced lists lengths j new)) ≡ take (get_or lengths k 0) (drop (starts lengths k) lists)
      before h =
          ap₂ (λ (x y : ℕ). take x (drop y (replaced lists lengths j new))) (size_kept k d) (start_kept k (omega arith))
          ∙ front_part (starts lengths k) (get_or lengths k 0) (starts lengths j) lists (new ++ drop end lists) (start_before lengths k j h) (omega (arith, end_most))

      after : j ≤ k → take (get_or lengths' k 0) (drop (starts lengths' k) (replaced lists lengths j new)) ≡ take (get_or lengths k 0) (drop (starts lengths k) lists)
      after h =
          let later : j < k = omega (arith, d) in
          let above : end ≤ starts lengths k = start_before lengths j k later in
          let at : starts lengths' k ≡ (starts lengths j + length new) + (starts lengths k - end) = omega (arith, start_moved k later) in
          let back : end + (starts lengths k - end) ≡ starts lengths k = omega arith in
          ap₂ (λ (x y : ℕ). take x (drop y (replaced lists lengths j new))) (size_kept k d) at
          ∙ ap (take (get_or lengths k 0)) (past_new (starts lengths k - end) ∙ ap (λ (x : ℕ). drop x lists) back)

  -- .. and list j is the new one
  pub part_new : part (replaced lists lengths j new) (new_lengths lengths j new) j ≡ new
  unfolding part replaced
  part_new =
      ap₂ (λ (x y : ℕ). take x (drop y (replaced lists lengths j new))) size_new (start_kept j (omega arith))
      ∙ ap (take (length new)) (drop_at (take (starts lengths j) lists) (new ++ drop end lists) (starts lengths j) front_long)
      ∙ take_at new (drop end lists) (length new) refl

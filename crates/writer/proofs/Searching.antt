-- The search for a cube that makes a pair with another: by masks, by strides, and of the records that a work buffer holds.
-- Assumes nothing.
use mathlib.Core.Path.{◌≡◌, sym, ap, ap₂, ◌∙◌, subst}
use mathlib.Core.Bool.{true, not}
use mathlib.Core.List.{List}
use Prim.Native.Nat.{ℕ, suc, ◌+◌, ◌-◌, ◌≤◌, ◌<◌}
use native.Mathlib.Numerals.{add-one}
use native.Mathlib.Omega.{arith}
use lib.Count.{ones}
use lib.Dec.{ltb, leb}
use lib.ListN.{length, get_or}
use borrow.Author.Tests.{ltb-true, leb-true, lt-ltb, le-leb}
use Rattle.bits.specs.Below.{all_below, NoneTo, FirstIn}
use Rattle.bits.proofs.Bools.{both_true, same_bool}
use Rattle.bits.proofs.First.{none_more, first_same, first_agree}
use Rattle.records.specs.Records.{records}
use Rattle.records.specs.Strides.{pass_from}
use Rattle.records.proofs.Records.{length_records}
use Rattle.cube.specs.declared.Cube.{Cube}
use Rattle.cube.specs.Cubes.{Good, one, differing, differing_number}
use Rattle.cube.specs.Lists.{cubes, cubes_of}
use Rattle.cube.proofs.Apart.{apart_number}
use Rattle.cube.proofs.Lists.{lawful, good_at}
use Rattle.cube.proofs.Masks.{apart_count}
use Rattle.steps.specs.Steps.{cube_at}
use Rattle.steps.specs.Calls.{Ready}
use Rattle.steps.proofs.perform.Performing.{look_in}
use Rattle.writer.specs.Pairs.{pair, pair_at, partner}
use Rattle.writer.specs.Watching.{near, near_at, looked}
use Rattle.writer.proofs.Pairs.{pair_swap, partner_is}
use Rattle.writer.proofs.Scanning.{looked_unmarked, looked_marked}

-- ---- two cubes

-- in how many variables good cubes differ, by the set of them
pub number_ones : (n : ℕ) (c d : Cube) → Good n c → Good n d → differing_number n c d ≡ ones (differing c d)
number_ones n c d g h = sym (apart_number n c d) ∙ apart_count n c d g h

pub near_pair : (n : ℕ) (c d : Cube) → Good n c → Good n d → near c d ≡ pair n c d
unfolding near pair
near_pair n c d g h = at_most (ones (differing c d)) ∙ ap (λ (k : ℕ). leb k 1) (sym (number_ones n c d g h))
  where
    at_most : (k : ℕ) → ltb k 2 ≡ leb k 1
    at_most k =
        same_bool (ltb k 2) (leb k 1) (λ t. le-leb k 1 (omega (arith, ltb-true k 2 t))) (λ t. lt-ltb k 2 (omega (arith, leb-true k 1 t)))

-- ---- a stride

-- none of the cubes of a stride is near: so many places more
pub far_more : (c : Cube) (l : List Cube) (from end i m : ℕ) → NoneTo (near_at c l) from end i → i + m ≤ end → pass_from (λ d. not (near c d)) one m l i ≡ true
    → NoneTo (near_at c l) from end (i + m)
unfolding pass_from
far_more c l from end i m r h e =
    none_more (near_at c l) from end i m r h (both_true (leb m (length l - i)) (all_below m (λ k. not (near c (get_or l (i + k) one)))) e).1

-- ---- the records of a work buffer

module _ (n count : ℕ) (b : List ℕ) (ready : Ready n count count b) where
  abbrev l : List Cube
  l = records cubes count b

  pub read_cube : (i : ℕ) → i < count → (c : Cube) → c ≡ get_or (cubes_of b) i one → c ≡ cube_at (records cubes count b) i
  read_cube i h c e = look_in cubes count i b lawful ready.held h c e

  pub read_good : (i : ℕ) → i < count → (c : Cube) → c ≡ get_or (cubes_of b) i one → Good n c
  read_good i h c e = subst (Good n) (sym (read_cube i h c e)) (good_at n l ready.good i)

  module _ (i : ℕ) (h : i < count) (c : Cube) (ec : c ≡ get_or (cubes_of b) i one) where
    -- a cube is near another where they make a pair, either of them first
    near_here : (s : ℕ) → s < count → near_at c (cubes_of b) s ≡ pair_at n l i s
    near_here s g =
        near_pair n c (get_or (cubes_of b) s one) (read_good i h c ec) (read_good s g _ (λ k. get_or (cubes_of b) s one))
        ∙ ap₂ (pair n) (read_cube i h c ec) (read_cube s g _ (λ k. get_or (cubes_of b) s one))

    pub found_below : (k : ℕ) → FirstIn (near_at c (cubes_of b)) 0 i k → FirstIn (λ s. pair_at n (records cubes count b) s i) 0 i k
    found_below k p =
        first_agree (near_at c (cubes_of b)) (λ s. pair_at n l s i) 0 i k (λ s a g. near_here s (omega arith) ∙ pair_swap n (cube_at l i) (cube_at l s)) p

    found_above : (j : ℕ) → FirstIn (near_at c (cubes_of b)) (i + 1) count j → j ≡ partner n l i
    found_above j p =
        let size : length (records cubes count b) ≡ count = length_records cubes count b in
        first_same (pair_at n l i) (suc i) count j (partner n l i)
        (subst (λ (k : ℕ). FirstIn (pair_at n l i) k count j) (add-one i) (first_agree (near_at c (cubes_of b)) (pair_at n l i) (i + 1) count j (λ s a g. near_here s g) p))
        (subst (λ (k : ℕ). FirstIn (pair_at n l i) (suc i) k (partner n l i)) size (partner_is n l i (omega arith)))

    -- a row that is looked at
    pub looked_here : (mark j : ℕ) → mark ≡ 0 → FirstIn (near_at c (cubes_of b)) (i + 1) count j → j ≡ looked mark n (records cubes count b) i
    looked_here mark j z p = found_above j p ∙ sym (looked_unmarked n l i mark z)

  -- and one that is not
  pub looked_past : (i mark : ℕ) → (mark ≡ 0 → ⊥) → count ≡ looked mark n (records cubes count b) i
  looked_past i mark z = sym (looked_marked n l i mark z ∙ length_records cubes count b)

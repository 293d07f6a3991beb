-- The loop that stores the places of the true products, one after another; and how many they are.
-- Assumes nothing.
use mathlib.Core.Path.{◌≡◌, sym, ap, ◌∙◌, subst}
use mathlib.Core.Bool.{Bool}
use mathlib.Core.List.{List}
use Prim.Native.Nat.{ℕ, ◌/◌, ◌^◌, ◌≤◌, ◌<◌}
use lib.ListN.{length, get_or}
use Rattle.bits.specs.Below.{those}
use Rattle.bits.specs.Sums.{All}
use Rattle.bits.proofs.Sums.{map_same, tally_le}
use Rattle.bits.proofs.Below.{those_tally}
use Rattle.records.specs.Records.{written}
use Rattle.records.specs.Places.{places}
use Rattle.records.proofs.Records.{length_list}
use Rattle.records.proofs.Picking.{Picking, picked_all, picked_count}
use Rattle.cube.specs.declared.Cube.{Cube}
use Rattle.cube.specs.Cubes.{one, Good, holds, HoldsAt}
use Rattle.cube.specs.Lists.{cubes, cubes_of, record_width, trues}
use Rattle.cube.proofs.Lists.{good_at}
use Rattle.reasons.specs.Calls.{true_places}

-- how many places there are is how many products are true
pub places_trues : (n : ℕ) (l : List Cube) (a : ℕ) → length (true_places n l a) ≡ trues n l a
unfolding true_places trues
places_trues n l a = those_tally (λ c. holds n c a) one l

pub places_most : (n : ℕ) (l : List Cube) (a : ℕ) → length (true_places n l a) ≤ length l
unfolding trues
places_most n l a = subst (λ (k : ℕ). k ≤ length l) (sym (places_trues n l a)) (tally_le (λ c. holds n c a) l)

-- whether the product at a place is true, as it is answered of the cube there
pub true_here : (n : ℕ) (l : List Cube) (a i : ℕ) → All (Good n) l → a < 2 ^ n
    → (c : Cube) → c ≡ get_or l i one → (r : Bool) → HoldsAt c a r → holds n (get_or l i one) a ≡ r
true_here n l a i good below c ec r H = ap (λ (d : Cube). holds n d a) (sym ec) ∙ sym (H.means n (subst (Good n) (sym ec) (good_at n l good i)) below)

-- the first i products have been looked at, and the places of the k true ones are written
abbrev pub Showing : ℕ → List ℕ → ℕ → List ℕ → List ℕ → ℕ → ℕ → Type 0
Showing n b a out₀ out k i = Picking places (λ j. holds n (get_or (cubes_of b) j one) a) (λ j. j) (length b / record_width) out₀ out k i

module _ (n : ℕ) (b : List ℕ) (a : ℕ) (out₀ out : List ℕ) (k i : ℕ) (S : Showing n b a out₀ out k i) (h : length b / record_width ≤ i) where
  all : those (λ j. holds n (get_or (cubes_of b) j one) a) (length b / record_width) 0 ≡ true_places n (cubes_of b) a
  unfolding true_places
  all = ap (λ (m : ℕ). those (λ j. holds n (get_or (cubes_of b) j one) a) m 0) (sym (length_list cubes b))

  pub shown_count : k ≡ length (true_places n (cubes_of b) a)
  shown_count = picked_count _ _ _ _ _ _ _ _ S h ∙ ap length all

  pub shown_all : out ≡ written places 0 (true_places n (cubes_of b) a) out₀
  shown_all = picked_all _ _ _ _ _ _ _ _ S h ∙ ap (λ (r : List ℕ). written places 0 r out₀) (sym (map_same _) ∙ all)

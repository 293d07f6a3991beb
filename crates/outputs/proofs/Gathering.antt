-- The loop that gathers the cubes of the products that carry bit k: what one product does, and the invariant, which is one record.
-- Assumes nothing.
use mathlib.Core.Path.{◌≡◌, refl, sym, ap, ◌∙◌}
use mathlib.Core.Bool.{Bool, true, false, cond}
use mathlib.Core.List.{List, [], ◌∷◌}
use Prim.Native.Nat.{ℕ, ◌+◌, ◌/◌, ◌≤◌, ◌<◌}
use native.Mathlib.Numerals.{add-one}
use native.Mathlib.Omega.{arith}
use lib.Dec.{eqb}
use lib.ListN.{length, get_or, drop, drop_of_length-le}
use lib.Seq.{drop-cons}
use borrow.Author.Tests.{eq-eqb, ne_eqb}
use Rattle.bits.specs.Bits.{bit}
use Rattle.records.specs.Records.{stored, written}
use Rattle.records.proofs.Records.{length_list, length_stored}
use Rattle.cube.specs.declared.Cube.{Cube}
use Rattle.cube.specs.Lists.{cubes}
use Rattle.shared.specs.declared.Shared.{Shared}
use Rattle.shared.specs.SharedRecord.{no_shared, shared_width, shares, shares_of}
use Rattle.shared.specs.Outputs.{carries, carrying}
use Rattle.outputs.specs.Steps.{place_after, buffer_after}

-- ---- one product, by the test of its bit

module _ (k : ℕ) (s : Shared) (j : ℕ) (out : List ℕ) {t : ℕ} (e : t ≡ bit s.outputs k) where
  pub put_with : t ≡ 1 → {out' : List ℕ} → out' ≡ stored cubes out j s.cube → (j + 1 ≡ place_after k s j) × (out' ≡ buffer_after k s j out)
  unfolding place_after buffer_after
  put_with h {out'} put =
      let yes : carries k s ≡ true = ap (λ (x : ℕ). eqb x 1) (sym e) ∙ eq-eqb t 1 h in
      (ap (λ (y : Bool). cond y (j + 1) j) (sym yes), put ∙ ap (λ (y : Bool). cond y (stored cubes out j s.cube) out) (sym yes))

  pub put_without : (t ≡ 1 → ⊥) → (j ≡ place_after k s j) × (out ≡ buffer_after k s j out)
  unfolding place_after buffer_after
  put_without h =
      let no : carries k s ≡ false = ap (λ (x : ℕ). eqb x 1) (sym e) ∙ ne_eqb t 1 h in
      (ap (λ (y : Bool). cond y (j + 1) j) (sym no), ap (λ (y : Bool). cond y (stored cubes out j s.cube) out) (sym no))

-- ---- the loop: before product i, with the next cube to go to place j

pub record Gathering (k : ℕ) (b out₀ out : List ℕ) (j i : ℕ) : Type 0 where
  pub long : length out ≡ length out₀
  pub few : j ≤ i
  pub met : j + length (carrying k (drop i (shares_of b))) ≡ length (carrying k (shares_of b))
  pub left : written cubes j (carrying k (drop i (shares_of b))) out ≡ written cubes 0 (carrying k (shares_of b)) out₀

pub gathering_none : (k : ℕ) (b out₀ : List ℕ) → Gathering k b out₀ out₀ 0 0
gathering_none k b out₀ = record { long = refl; few = omega arith; met = omega arith; left = refl }

module _ {k j i : ℕ} {b out₀ out : List ℕ} (G : Gathering k b out₀ out j i) where
  -- product i, and the cubes of those after it that carry the bit
  abbrev at_i : Shared
  at_i = get_or (shares_of b) i no_shared

  abbrev rest : List Cube
  rest = carrying k (drop (i + 1) (shares_of b))

  module _ (h : i < length b / shared_width) where
    split : carrying k (drop i (shares_of b)) ≡ cond (carries k at_i) (at_i.cube ∷ rest) rest
    unfolding carrying
    split = let here : i < length (shares_of b) = omega (arith, length_list shares b) in rw (add-one i, drop-cons (shares_of b) i no_shared here)

    step : (y : Bool) → carrying k (drop i (shares_of b)) ≡ cond y (at_i.cube ∷ rest) rest
        → Gathering k b out₀ (cond y (stored cubes out j at_i.cube) out) (cond y (j + 1) j) (i + 1)
    unfolding written
    step true e = record {
      long = length_stored cubes out j at_i.cube ∙ G.long;
      few = let few = G.few in omega arith;
      met = omega (arith, rw e at G.met);
      left = rw (add-one j) (rw e at G.left);
    }
    step false e = record { long = G.long; few = let few = G.few in omega arith; met = rw e at G.met; left = rw e at G.left }

    pub gathering_more : {s : Shared} {j' : ℕ} {out' : List ℕ} → s ≡ get_or (shares_of b) i no_shared → j' ≡ place_after k s j → out' ≡ buffer_after k s j out
        → Gathering k b out₀ out' j' (i + 1)
    unfolding place_after buffer_after
    gathering_more es ej eo = rw (ej, eo, es) (step (carries k at_i) split)

  module _ (h : length b / shared_width ≤ i) where
    none_left : carrying k (drop i (shares_of b)) ≡ []
    unfolding carrying
    none_left = let past : length (shares_of b) ≤ i = omega (arith, length_list shares b) in rw (drop_of_length-le (shares_of b) past)

    pub gathering_count : j ≡ length (carrying k (shares_of b))
    gathering_count = omega (arith, rw none_left at G.met)

    pub gathering_all : out ≡ written cubes 0 (carrying k (shares_of b)) out₀
    unfolding written
    gathering_all = rw none_left at G.left

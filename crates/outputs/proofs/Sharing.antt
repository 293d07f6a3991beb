-- The loop that stores each cube of a list at its place, as a product of the same outputs. The invariant is one record.
-- Assumes nothing.
use mathlib.Core.Path.{◌≡◌, refl, sym, ap, ◌∙◌}
use mathlib.Core.List.{List, map}
use Prim.Native.Nat.{ℕ, ◌+◌, ◌/◌, ◌≤◌, ◌<◌}
use native.Mathlib.Numerals.{add-one}
use native.Mathlib.Omega.{arith}
use lib.ListN.{length, get_or, drop, drop_of_length-le, length-map, get_or-map}
use lib.Seq.{drop-cons}
use Rattle.records.specs.Records.{stored, written}
use Rattle.records.proofs.Records.{length_list, length_stored}
use Rattle.cube.specs.declared.Cube.{Cube}
use Rattle.cube.specs.Cubes.{one}
use Rattle.cube.specs.Lists.{record_width, cubes, cubes_of}
use Rattle.shared.specs.declared.Shared.{Shared}
use Rattle.shared.specs.SharedRecord.{sharing, shares}

-- what is left of the products of a list of cubes, stored from place i on, makes the whole
pub record Sharing (o : ℕ) (b out₀ out : List ℕ) (i : ℕ) : Type 0 where
  pub long : length out ≡ length out₀
  pub left : written shares i (drop i (map (sharing o) (cubes_of b))) out ≡ written shares 0 (map (sharing o) (cubes_of b)) out₀

pub sharing_none : (o : ℕ) (b out₀ : List ℕ) → Sharing o b out₀ out₀ 0
sharing_none o b out₀ = record { long = refl; left = refl }

module _ {o i : ℕ} {b out₀ out : List ℕ} (S : Sharing o b out₀ out i) where
  abbrev products : List Shared
  products = map (sharing o) (cubes_of b)

  many : length products ≡ length b / record_width
  many = length-map (cubes_of b) (sharing o) ∙ length_list cubes b

  pub sharing_more : i < length b / record_width → {c : Cube} → c ≡ get_or (cubes_of b) i one → {out' : List ℕ} → out' ≡ stored shares out i (sharing o c)
      → Sharing o b out₀ out' (i + 1)
  unfolding written
  sharing_more h {c} ec {out'} eo =
      let here : i < length products = omega (arith, many) in
      let at : sharing o c ≡ get_or products i (sharing o one) = ap (sharing o) ec ∙ sym (get_or-map (sharing o) (cubes_of b) i one) in
      record {
        long = ap length eo ∙ length_stored shares out i (sharing o c) ∙ S.long;
        left = rw (eo, at, add-one i) (rw (drop-cons products i (sharing o one) here) at S.left);
      }

  pub sharing_all : length b / record_width ≤ i → out ≡ written shares 0 (map (sharing o) (cubes_of b)) out₀
  unfolding written
  sharing_all h = let past : length products ≤ i = omega (arith, many) in rw (drop_of_length-le products past) at S.left

-- A list as shared products of output k: its list of output k is the list, and that of every other output is empty.
-- Assumes nothing.
use mathlib.Core.Path.{◌≡◌, refl, ap, ap₂, ◌∙◌}
use mathlib.Core.Logic.{◌≢◌}
use mathlib.Core.Bool.{Bool, true, false, cond}
use mathlib.Core.List.{List, [], ◌∷◌, ◌++◌, map, append-nil}
use Prim.Native.Nat.{ℕ, ◌*◌, ◌^◌, ◌≤◌}
use native.Mathlib.Omega.{arith}
use lib.Dec.{eqb}
use lib.ListN.{length, drop_of_length-le, length-map}
use Rattle.bits.proofs.Bits.{pow_bit, pow_bit_other}
use Rattle.records.specs.Records.{flat, written}
use Rattle.records.proofs.Records.{written_front}
use Rattle.cube.specs.declared.Cube.{Cube}
use Rattle.cube.specs.Lists.{cubes_of}
use Rattle.shared.specs.declared.Shared.{Shared}
use Rattle.shared.specs.SharedRecord.{sharing, shared_width, shares, shares_of}
use Rattle.shared.specs.Outputs.{carries, carrying}
use Rattle.shared.proofs.SharedRecord.{shared_lawful, shares_flat}

pub list_of_shares : (k : ℕ) (l : List Cube) → carrying k (map (sharing (2 ^ k)) l) ≡ l
unfolding carrying
list_of_shares k [] = refl
list_of_shares k (c ∷ l) =
    let yes : carries k (sharing (2 ^ k) c) ≡ true = ap (λ (x : ℕ). eqb x 1) (pow_bit k) in
    ap₂ (λ (y : Bool) (m : List Cube). cond y (c ∷ m) m) yes (list_of_shares k l)

pub list_of_other : (j k : ℕ) → j ≢ k → (l : List Cube) → carrying j (map (sharing (2 ^ k)) l) ≡ []
unfolding carrying
list_of_other j k ne [] = refl
list_of_other j k ne (c ∷ l) =
    let no : carries j (sharing (2 ^ k) c) ≡ false = ap (λ (x : ℕ). eqb x 1) (pow_bit_other k j ne) in
    ap₂ (λ (y : Bool) (m : List Cube). cond y (c ∷ m) m) no (list_of_other j k ne l)

-- the same of the buffer that `shares_of` leaves, where it has no more bytes than the products
pub list_of_written : (k : ℕ) (b out : List ℕ) → length out ≡ shared_width * length (cubes_of b)
    → carrying k (shares_of (written shares 0 (map (sharing (2 ^ k)) (cubes_of b)) out)) ≡ cubes_of b
list_of_written k b out e =
    let l : List Shared = map (sharing (2 ^ k)) (cubes_of b) in
    let many : length l ≡ length (cubes_of b) = length-map (cubes_of b) (sharing (2 ^ k)) in
    let long : length out ≤ shared_width * length l = omega arith in
    let bytes : written shares 0 l out ≡ flat shares.enc l =
    written_front shares shared_lawful out l (omega arith)
    ∙ ap (λ (t : List ℕ). flat shares.enc l ++ t) (drop_of_length-le out long)
    ∙ append-nil (flat shares.enc l) in
    ap (λ (t : List ℕ). carrying k (shares_of t)) bytes ∙ ap (carrying k) (shares_flat l) ∙ list_of_shares k (cubes_of b)

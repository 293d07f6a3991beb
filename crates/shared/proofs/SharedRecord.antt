-- Laws of the record of a shared product: there and back, its part of a list, and what is accepted of it, taken apart.
-- Assumes nothing.
use mathlib.Core.Path.{◌≡◌, refl, sym, ap, ◌∙◌}
use mathlib.Core.Bool.{true, not}
use mathlib.Core.List.{List, [], ◌∷◌}
use Prim.Native.Nat.{ℕ, ◌*◌, ◌<◌}
use native.Mathlib.Nat.{zero-add}
use borrow.Author.Tests.{eqb-false, ne_eqb, not-true}
use lib.Dec.{lit<}
use lib.ListN.{length, get_or}
use lib.Seq.{sets}
use Rattle.bits.proofs.Bools.{both_true, true_both}
use Rattle.records.specs.Numbers.{bytes_of, number_at}
use Rattle.records.specs.Records.{flat, records}
use Rattle.records.proofs.Fields.{Fields, fields_last, fields_lawful, fields_bytes}
use Rattle.records.proofs.Records.{Lawful, list_flat}
use Rattle.records.proofs.Widths.{sets_append}
use Rattle.cube.specs.declared.Cube.{Cube}
use Rattle.cube.specs.Cubes.{good}
use Rattle.cube.specs.CubeRecord.{record_width, mask_width, cubes, cube_of, cube_fields}
use Rattle.cube.proofs.Codes.{good_parts, parts_good}
use Rattle.cube.proofs.CubeRecord.{lawful}
use Rattle.shared.specs.declared.Shared.{Shared}
use Rattle.shared.specs.SharedRecord.{sharing, shared_width, outputs_width, shares, shares_of, fine, Fine}

-- ---- there and back

-- the three numbers of the record, and the product of three numbers
abbrev widths : List ℕ
widths = mask_width ∷ mask_width ∷ outputs_width ∷ []

abbrev fields : Shared → List ℕ
fields r = r.cube.seen ∷ r.cube.value ∷ r.outputs ∷ []

abbrev shared_of : List ℕ → Shared
shared_of xs = sharing (get_or xs 2 0) (cube_of xs)

numbers : Fields widths fields shared_of
numbers = record { wide = refl; some = lit< tt; many = λ r. refl; back = λ r. refl; there = λ b base. refl; none = refl }

pub shared_lawful : Lawful shares
shared_lawful = fields_lawful widths fields shared_of numbers

-- the bytes of the products of a list are the list's bytes
pub shared_bytes : (k : ℕ) (s : List ℕ) → length s ≡ shared_width * k → ((i : ℕ) → get_or s i 0 < 256) → flat shares.enc (records shares k s) ≡ s
shared_bytes = fields_bytes widths fields shared_of numbers

-- the products of the bytes of a list are the list
pub shares_flat : (l : List Shared) → shares_of (flat shares.enc l) ≡ l
shares_flat = list_flat shares shared_lawful

-- ---- a record's bytes

-- the cube read, and the outputs after it
pub outputs_read : (b : List ℕ) (c : Cube) (o : ℕ) → c ≡ cubes.read b 0 → o ≡ number_at outputs_width b record_width → record { cube = c; outputs = o } ≡ shares.read b 0
outputs_read b c o ec eo = λ t. record { cube = ec t; outputs = eo t }

-- the cube stored, and the outputs after it
pub outputs_stored : (r : Shared) (b b₁ b₂ : List ℕ) → b₁ ≡ sets b 0 (cubes.enc r.cube) → b₂ ≡ sets b₁ record_width (bytes_of outputs_width r.outputs)
    → b₂ ≡ sets b 0 (shares.enc r)
outputs_stored r b b₁ b₂ e₁ e₂ =
    let s : List ℕ = cubes.enc r.cube in
    let o : List ℕ = bytes_of outputs_width r.outputs in
    e₂
    ∙ ap (λ (c : List ℕ). sets c record_width o) e₁
    ∙ ap (λ (k : ℕ). sets (sets b 0 s) k o) (sym (zero-add (length s) ∙ lawful.len r.cube))
    ∙ sets_append b 0 s o
    ∙ ap (sets b 0) (fields_last (mask_width ∷ mask_width ∷ []) (cube_fields r.cube) refl outputs_width r.outputs)

-- ---- what is accepted of it

pub fine_parts : (n : ℕ) (r : Shared) → fine n r ≡ true → Fine n r
fine_parts n r e =
    let p = both_true (good n r.cube) _ e in
    record { good = good_parts n r.cube p.0; some = eqb-false _ _ (not-true _ p.1) }

pub parts_fine : (n : ℕ) (r : Shared) → Fine n r → fine n r ≡ true
parts_fine n r f = true_both (parts_good n r.cube f.good) (ap not (ne_eqb _ _ f.some))

-- Laws of the record of a cube, over how many bytes a mask has: there and back, and its part of a list.
-- Assumes nothing.
use mathlib.Core.Path.{◌≡◌, refl, sym, ap, ◌∙◌}
use mathlib.Core.Bool.{true}
use mathlib.Core.List.{List, [], ◌∷◌}
use Prim.Native.Nat.{ℕ, ◌-◌, ◌+◌, ◌*◌, ◌/◌, ◌≤◌, ◌<◌}
use native.Mathlib.Nat.{add-zero, zero-add}
use borrow.Rule.Slice.PartMut.{put_mid}
use lib.Dec.{eqb, lit<}
use lib.ListN.{length, get_or, take, drop}
use lib.Seq.{sets}
use Rattle.records.specs.Numbers.{bytes_of, number_at}
use Rattle.records.specs.Fields.{total}
use Rattle.records.specs.Records.{flat, records, list_of, stored}
use Rattle.records.proofs.Fields.{Fields, positive, fields_lawful, fields_bytes, fields_in, stored_both}
use Rattle.records.proofs.Records.{Lawful, list_at, list_past, stored_part, stored_out}
use Rattle.cube.specs.declared.Cube.{Cube}
use Rattle.cube.specs.Cubes.{one, bare}
use Rattle.cube.specs.CubeRecord.{cube_fields, cube_of, cube_record, mask_width, cubes, cubes_of, record_width}

-- ---- over the bytes of a mask

module _ (w : ℕ) (wide : positive (w ∷ w ∷ []) ≡ true) (some : 0 < total (w ∷ w ∷ [])) where
  pub masks : Fields (w ∷ w ∷ []) cube_fields cube_of
  masks = record { wide = wide; some = some; many = λ c. refl; back = λ c. refl; there = λ b base. refl; none = refl }

  pub record_lawful : Lawful (cube_record w)
  record_lawful = fields_lawful (w ∷ w ∷ []) cube_fields cube_of masks

  -- the bytes of the cubes of a list are the list's bytes
  pub record_bytes : (k : ℕ) (s : List ℕ) → length s ≡ total (w ∷ w ∷ []) * k → ((i : ℕ) → get_or s i 0 < 256)
      → flat (cube_record w).enc (records (cube_record w) k s) ≡ s
  record_bytes = fields_bytes (w ∷ w ∷ []) cube_fields cube_of masks

  -- the cube that the masks at a place make
  pub record_masks : (b : List ℕ) (i : ℕ) → i < length b / total (w ∷ w ∷ []) → (x y : ℕ) → x ≡ number_at w b (total (w ∷ w ∷ []) * i)
      → y ≡ number_at w b (total (w ∷ w ∷ []) * i + w) → record { seen = x; value = y } ≡ get_or (list_of (cube_record w) b) i one
  record_masks b i h x y ex ey =
      let p : ℕ = total (w ∷ w ∷ []) * i in
      (λ t. record { seen = (ex ∙ ap (number_at w b) (sym (add-zero p))) t; value = (ey ∙ ap (λ (q : ℕ). number_at w b (p + q)) (sym (zero-add w))) t })
      ∙ sym (list_at (cube_record w) b i one h)

-- ---- the record of a list

pub lawful : Lawful cubes
lawful = record_lawful mask_width refl (lit< tt)

pub cubes_bytes : (k : ℕ) (s : List ℕ) → length s ≡ record_width * k → ((i : ℕ) → get_or s i 0 < 256) → flat cubes.enc (records cubes k s) ≡ s
cubes_bytes = record_bytes mask_width refl (lit< tt)

-- seen read, and value after it
pub both_read : (b : List ℕ) (x y : ℕ) → x ≡ number_at mask_width b 0 → y ≡ number_at mask_width b mask_width → record { seen = x; value = y } ≡ cubes.read b 0
both_read b x y ex ey = λ t. record { seen = ex t; value = ey t }

-- seen stored, and value after it
pub both_stored : (c : Cube) (b b₁ b₂ : List ℕ) → b₁ ≡ sets b 0 (bytes_of mask_width c.seen) → b₂ ≡ sets b₁ mask_width (bytes_of mask_width c.value) → b₂ ≡ sets b 0 (cubes.enc c)
both_stored c b b₁ b₂ e₁ e₂ = e₂ ∙ rw e₁ (stored_both mask_width c.seen c.value b 0)

module _ (b : List ℕ) (i : ℕ) where
  -- a record read from its part of the buffer
  pub cube_in_lem : i < length b / record_width
      → (c : Cube) → c ≡ cubes.read (take (record_width * i + record_width - record_width * i) (drop (record_width * i) b)) 0 → c ≡ get_or (cubes_of b) i one
  cube_in_lem h c e = e ∙ fields_in (mask_width ∷ mask_width ∷ []) cube_fields cube_of (masks mask_width refl (lit< tt)) b i one h

  -- its masks, one by one
  pub masks_in : i < length b / record_width → (x y : ℕ) → x ≡ number_at mask_width b (record_width * i) → y ≡ number_at mask_width b (record_width * i + mask_width)
      → record { seen = x; value = y } ≡ get_or (cubes_of b) i one
  masks_in = record_masks mask_width refl (lit< tt) b i

  -- whether it has no literal, by its first mask
  pub seen_in : i < length b / record_width → (x : ℕ) → x ≡ number_at mask_width b (record_width * i) → eqb x 0 ≡ bare (get_or (cubes_of b) i one)
  seen_in h x e = ap bare (masks_in h x (number_at mask_width b (record_width * i + mask_width)) e refl)

  pub cube_past : length b / record_width ≤ i → one ≡ get_or (cubes_of b) i one
  cube_past h = sym (list_past cubes b i one h)

  pub bare_past : length b / record_width ≤ i → true ≡ bare (get_or (cubes_of b) i one)
  bare_past h = ap bare (cube_past h)

  -- a record stored over its part of the buffer
  pub cube_stored : (c : Cube) → i < length b / record_width
      → (part : List ℕ) → part ≡ sets (take (record_width * i + record_width - record_width * i) (drop (record_width * i) b)) 0 (cubes.enc c)
      → put_mid (record_width * i) (record_width * i + record_width - record_width * i) b part ≡ stored cubes b i c
  cube_stored c h part e = stored_part cubes lawful b i c h part e

  pub cube_not_stored : (c : Cube) → length b / record_width ≤ i → b ≡ stored cubes b i c
  cube_not_stored c h = sym (stored_out cubes b i c h)

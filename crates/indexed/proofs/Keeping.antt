-- The index kept up beside the work list: that of the list after a step is kept, and can be rebuilt.
-- Assumes nothing.
use mathlib.Core.Path.{◌≡◌, sym, ap, ◌∙◌, subst}
use mathlib.Core.Bool.{true}
use mathlib.Core.List.{List}
use Prim.Native.Nat.{ℕ, ◌-◌, ◌*◌, ◌/◌, ◌≤◌}
use native.Mathlib.Nat.{sub-zero}
use native.Mathlib.Omega.{arith}
use lib.ListN.{length}
use lib.Seq.{drop_at}
use Rattle.records.specs.Records.{Held, Holds, records, flat, filled, image, zeros}
use Rattle.records.specs.Places.{place_width, places}
use Rattle.records.proofs.Images.{length_flat, length_image}
use Rattle.records.proofs.Places.{places_lawful}
use Rattle.records.proofs.Records.{length_records, held_fits}
use Rattle.cube.specs.declared.Cube.{Cube}
use Rattle.cube.specs.Cubes.{good, Good}
use Rattle.cube.specs.Lists.{cubes, record_width, most_records}
use Rattle.cube.proofs.Codes.{good_parts}
use Rattle.cube.proofs.Lists.{lawful, good_at}
use Rattle.steps.specs.Moves.{next}
use Rattle.steps.specs.Steps.{Step, step}
use Rattle.script.specs.Carrying.{Carries}
use Rattle.script.proofs.Carrying.{carries_ready}
use Rattle.index.specs.Index.{literals_at, list_index}
use Rattle.index.specs.Counting.{ClearBehind}
use Rattle.index.proofs.Entries.{length_index}
use Rattle.index.proofs.Accepted.{good_grouped}
use Rattle.indexed.specs.Calls.{index_advanced}
use Rattle.indexed.specs.Keeping.{IndexKept}

-- ---- an index buffer that is zero behind its entries

pub clear_all : (index : List ℕ) (room : ℕ) → index ≡ zeros room → length index ≡ room → ClearBehind 0 index
clear_all index room e long = e ∙ ap zeros (sym long ∙ sym (sub-zero (length index)))

image_long : (room : ℕ) (l : List ℕ) → place_width * length l ≤ room → length (image places room l) ≡ room
unfolding image filled
image_long room l h = length_image places.enc place_width places_lawful.len room l h

image_behind : (room : ℕ) (l : List ℕ) → place_width * length l ≤ room → ClearBehind (length l) (image places room l)
unfolding image filled
image_behind room l h =
    let bytes : length (flat places.enc l) ≡ place_width * length l = length_flat places.enc place_width places_lawful.len l in
    let long : length (image places room l) ≡ room = length_image places.enc place_width places_lawful.len room l h in
    drop_at (flat places.enc l) (zeros (room - length (flat places.enc l))) (place_width * length l) bytes
    ∙ ap zeros (ap (λ (k : ℕ). room - k) bytes ∙ ap (λ (k : ℕ). k - place_width * length l) (sym long))

-- ---- a list of cubes in a work buffer

module _ (n count cap : ℕ) (w : List ℕ) (c : Carries cubes (good n) n count cap w) where
  abbrev l : List Cube
  l = records cubes count w

  many : length l ≡ count
  many = length_records cubes count w

  pub carried_here : count ≤ length w / record_width
  carried_here = omega (arith, held_fits cubes lawful count w (carries_ready cubes (good n) (Good n) n count cap w (good_parts n) c).held)

  -- an index built of it has an entry for each cube, and its buffer is as long as it was
  entries : length (list_index l) ≡ length l
  unfolding list_index
  entries = length_index (literals_at l) (length l) (good_grouped n l c.few (good_at n l (carries_ready cubes (good n) (Good n) n count cap w (good_parts n) c).good))

  pub built_long : (room : ℕ) → count ≤ cap → place_width * cap ≤ room → (index : List ℕ) → index ≡ image places room (list_index l) → length index ≡ room
  built_long room few fits index e = ap length e ∙ image_long room (list_index l) (omega (arith, entries, many, few, fits))

  -- and is kept
  pub index_kept : (room : ℕ) → count ≤ cap → cap ≤ most_records → place_width * cap ≤ room → (index : List ℕ) → index ≡ image places room (list_index l)
      → IndexKept cap l index
  index_kept room few most fits index e =
      let long : length index ≡ room = built_long room few fits index e in
      let behind : ClearBehind (length (list_index l)) (image places room (list_index l)) = image_behind room (list_index l) (omega (arith, entries, many, few, fits)) in
      record {
        few = omega (arith, many, few);
        most = most;
        fits = omega (arith, fits, long);
        is = e ∙ ap (λ (k : ℕ). image places k (list_index l)) (sym long);
        behind = subst (ClearBehind (length l)) (sym e) (subst (λ (k : ℕ). ClearBehind k (image places room (list_index l))) entries behind);
      }

-- ---- after a step, whichever it was

module _ (n cap : ℕ) (x : Step) (l m : List Cube) (e : step n cap x l ≡ next m) where
  -- the index of the list that the step leaves, in a buffer of so many bytes
  pub next_beside : (room : ℕ) → image places room (list_index m) ≡ index_advanced room (step n cap x l)
  next_beside room = sym (ap (index_advanced room) e)

  -- so the index beside it is that list's
  pub next_index : (index : List ℕ) → IndexKept cap m index → index ≡ index_advanced (length index) (step n cap x l)
  next_index index k = k.is ∙ next_beside (length index)

-- ---- the same of the work buffer: before a step it has `before` cubes at its front, after it `count`

module _ (n cap before count : ℕ) (x : Step) (work work' : List ℕ) (e : step n cap x (records cubes before work) ≡ next (records cubes count work')) where
  -- the index of the cubes that the step leaves there is that of the step's list
  pub next_in_work : (room : ℕ) → image places room (list_index (records cubes count work')) ≡ index_advanced room (step n cap x (records cubes before work))
  next_in_work room = next_beside n cap x (records cubes before work) (records cubes count work') e room

  -- and so is the index that is kept beside them
  pub next_kept : (index : List ℕ) → IndexKept cap (records cubes count work') index → index ≡ index_advanced (length index) (step n cap x (records cubes before work))
  next_kept index k = next_index n cap x (records cubes before work) (records cubes count work') e index k

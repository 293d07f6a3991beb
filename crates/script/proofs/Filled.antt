-- A work buffer that was filled with an accepted list is ready for the first step, and its records are the list's. For any kind of record, and for cubes.
-- Assumes nothing.
use mathlib.Core.Path.{◌≡◌, sym, ap, ◌∙◌, subst}
use mathlib.Core.List.{List}
use Prim.Native.Nat.{ℕ, ◌*◌, ◌/◌, ◌≤◌, ◌<◌}
use native.Mathlib.Omega.{arith}
use lib.ListN.{length, get_or}
use Rattle.bits.specs.Sums.{All}
use Rattle.records.specs.Records.{Codec, Holds, Held, records, list_of, image, filled, filled_by, flat}
use Rattle.records.proofs.Filling.{filled_by_lem, length_filled_by}
use Rattle.records.proofs.Records.{Lawful, length_records, holds_held, holds_records, filled_holds}
use Rattle.cube.specs.Cubes.{Good}
use Rattle.cube.specs.Lists.{cubes, cubes_of, record_width, most_variables}
use Rattle.cube.proofs.Lists.{lawful, AcceptedList, cubes_bytes}
use Rattle.steps.specs.Calls.{ReadyBy, Ready}

-- the bytes of the list are those of its records
module _ {A : Type 0} (C : Codec A) (K : Lawful C) (count : ℕ) (list work : List ℕ) (bytes : flat C.enc (records C count list) ≡ list)
    (fits : length list ≤ length work) (w : List ℕ) (e : w ≡ filled_by work list) where
  holds : Holds C w (records C count list)
  holds =
      subst (λ (t : List ℕ). Holds C t (records C count list)) (sym (e ∙ filled_by_lem work list fits))
      (filled_holds C K (length work) (records C count list) list bytes fits)

  -- it is the list's image
  pub filled_image_by : w ≡ image C (length work) (records C count list)
  unfolding image
  filled_image_by = e ∙ filled_by_lem work list fits ∙ ap (filled (length work)) (sym bytes)

  pub filled_records_by : records C count w ≡ records C count list
  filled_records_by = ap (λ (k : ℕ). records C k w) (sym (length_records C count list)) ∙ holds_records C K w (records C count list) holds

  pub filled_long_by : length w ≡ length work
  filled_long_by = ap length e ∙ length_filled_by work list

  -- with room for so many
  pub filled_ready_by : (Fine : A → Type 0) → All Fine (records C count list) → (n : ℕ) → n ≤ most_variables → (cap : ℕ) → C.width * cap ≤ length work
      → ReadyBy C Fine n count cap w
  filled_ready_by Fine good n few cap room = record {
    held = subst (λ (k : ℕ). Held C k w) (length_records C count list) (holds_held C K w (records C count list) holds);
    good = subst (All Fine) (sym filled_records_by) good;
    few = few;
    room = subst (λ (k : ℕ). C.width * cap ≤ k) (sym filled_long_by) room;
  }

-- ---- cubes

module _ (n : ℕ) (list work : List ℕ) (ok : AcceptedList cubes most_variables n list) (small : (i : ℕ) → get_or list i 0 < 256) (fits : length list ≤ length work)
    (w : List ℕ) (e : w ≡ filled_by work list) where
  abbrev count : ℕ
  count = length list / record_width

  bytes : flat cubes.enc (records cubes count list) ≡ list
  bytes = cubes_bytes count list (omega (arith, ok.whole)) small

  pub filled_records : records cubes (length list / record_width) w ≡ cubes_of list
  unfolding list_of
  filled_records = filled_records_by cubes lawful count list work bytes fits w e

  pub filled_long : length w ≡ length work
  filled_long = filled_long_by cubes lawful count list work bytes fits w e

  -- with room for so many
  pub filled_ready : (cap : ℕ) → record_width * cap ≤ length work → Ready n (length list / record_width) cap w
  unfolding list_of
  filled_ready cap room = filled_ready_by cubes lawful count list work bytes fits w e (Good n) ok.good n ok.few cap room

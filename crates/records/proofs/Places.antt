-- Places as records: one stored over its part of a buffer, and what was written is read back.
-- Assumes nothing.
use mathlib.Core.Path.{◌≡◌, refl, sym, ap, ◌∙◌}
use mathlib.Core.List.{List, [], ◌∷◌, append-nil}
use Prim.Native.Nat.{ℕ, ◌+◌, ◌-◌, ◌*◌, ◌/◌, ◌≤◌, ◌<◌}
use native.Mathlib.Nat.{add-zero}
use borrow.Rule.Slice.PartMut.{put_mid}
use lib.Dec.{lit<}
use lib.ListN.{length, get_or, take, drop}
use lib.Seq.{sets}
use Rattle.records.specs.Numbers.{bytes_of, number_at}
use Rattle.records.specs.Records.{records, stored, written}
use Rattle.records.specs.Places.{place_width, places}
use Rattle.records.proofs.Fields.{Fields, fields_lawful, fields_front}
use Rattle.records.proofs.Records.{Lawful, stored_part, written_rest, written_records}

place_field : Fields (place_width ∷ []) (λ (i : ℕ). i ∷ []) (λ xs. get_or xs 0 0)
place_field = record { wide = refl; some = lit< tt; many = λ i. refl; back = λ i. refl; there = λ b base. refl; none = refl }

pub places_lawful : Lawful places
places_lawful = fields_lawful (place_width ∷ []) (λ i. i ∷ []) (λ xs. get_or xs 0 0) place_field

-- a place read by its two bytes
pub place_read : (b : List ℕ) (k x : ℕ) → x ≡ number_at place_width b (place_width * k) → x ≡ places.read b k
place_read b k x e = e ∙ ap (number_at place_width b) (sym (add-zero (place_width * k)))

-- the two bytes of a place stored over its part of a buffer
pub place_stored : (b : List ℕ) (k i : ℕ) → k < length b / place_width
    → (part : List ℕ) → part ≡ sets (take (place_width * k + place_width - place_width * k) (drop (place_width * k) b)) 0 (bytes_of place_width i)
    → put_mid (place_width * k) (place_width * k + place_width - place_width * k) b part ≡ stored places b k i
place_stored b k i h part e =
    let p : ℕ = place_width * k in
    stored_part places places_lawful b k i h part (e ∙ ap (sets (take (p + place_width - p) (drop p b)) 0) (sym (append-nil (bytes_of place_width i))))

module _ (b l : List ℕ) (h : place_width * length l ≤ length b) where
  pub places_back : records places (length l) (written places 0 l b) ≡ l
  places_back = written_records places places_lawful (fields_front (place_width ∷ []) (λ i. i ∷ []) (λ xs. get_or xs 0 0) place_field) b l h

  pub places_rest : drop (place_width * length l) (written places 0 l b) ≡ drop (place_width * length l) b
  places_rest = written_rest places places_lawful b l h

-- Places of a list of any kind of record: one removed, and places as records. Document 01, "The steps of a script"; document 02, One.
-- Assumes nothing.
use Rattle.std.specs.Prelude.{ℕ, ◌-◌, List, [], ◌∷◌, length, get_or, set, take}
use Rattle.records.specs.Records.{Codec}
use Rattle.records.specs.Fields.{by_fields}

-- "To remove a place: copy the last record there, shorten by one"; d is never read where i is a place
unfoldable pub remove_at : {A : Type 0} → A → List A → ℕ → List A
remove_at d l i = take (length l - 1) (set l i (get_or l (length l - 1) d))

-- "the places .. 2 bytes each" (document 02, One)
abbrev pub place_width : ℕ
place_width = 2

abbrev pub places : Codec ℕ
places = by_fields (place_width ∷ []) (λ i. i ∷ []) (λ xs. get_or xs 0 0)

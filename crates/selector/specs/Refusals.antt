-- Why a call on a map is refused: a refusal of the map, which belongs to no list, or one of a list, "with the list's number".
-- Assumes nothing.
use Rattle.std.specs.Prelude.{ℕ, Some, None}
use Rattle.records.specs.declared.Refusal.{Refusal}
use Rattle.selector.specs.declared.MapRefusal.{MapRefusal}

abbrev pub of_map : Refusal → MapRefusal
of_map r = record { refusal = r; list = None }

abbrev pub of_list : Refusal → ℕ → MapRefusal
of_list r k = record { refusal = r; list = Some k }

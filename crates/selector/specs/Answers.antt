-- What a call on a map answers, and what it leaves in a buffer. Document 02, Thirteen: "A refused list or script refuses the map, with the list's number, and every buffer that
-- the call writes ends all zero, even where no script has started; only the first three below write nothing."
-- Assumes nothing.
use Rattle.std.specs.Prelude.{ℕ, zero, suc, List, length, Option, Some, None, Result, Ok, Err}
use Rattle.records.specs.declared.Refusal.{Refusal}
use Rattle.records.specs.Records.{zeros}
use Rattle.records.specs.Answers.{Outcome, accepted, refused}
use Rattle.selector.specs.Maps.{most_lists}
use Rattle.selector.specs.declared.MapRefusal.{MapRefusal}

-- accepted, with the number that was asked for; or a refusal of the map; or of a list, "with the list's number"
pub data MapOutcome : Type 0 where
  map_accepted : ℕ → MapOutcome
  map_refused : Refusal → MapOutcome
  list_refused : Refusal → ℕ → MapOutcome

-- the tests of the map come first
abbrev pub after_check : Outcome → MapOutcome → MapOutcome
after_check (accepted values) rest = rest
after_check (refused r) rest = map_refused r

-- the call on list k: "A refused list or script refuses the map, with the list's number"
abbrev pub after_list : ℕ → Outcome → MapOutcome → MapOutcome
after_list k (accepted values) rest = rest
after_list k (refused r) rest = list_refused r k

-- "then the lists in turn": the calls on lists 0, 1, .., m - 1, and then the rest
unfoldable pub in_turn : ℕ → (ℕ → Outcome) → MapOutcome → MapOutcome
in_turn zero call rest = rest
in_turn (suc m) call rest = in_turn m call (after_list m (call m) rest)

-- a buffer after a call: what an accepted call makes of it, "all zero" where a list is refused, and what it was where the map is: "only the first three below write nothing"
abbrev pub after_map : MapOutcome → List ℕ → List ℕ → List ℕ
after_map (map_accepted x) new old = new
after_map (map_refused r) new old = old
after_map (list_refused r k) new old = zeros (length old)

-- a number for each list, lent as an array of twelve, after a call: written like the buffers
abbrev pub after_each : MapOutcome → List ℕ → List ℕ → List ℕ
after_each (map_accepted x) new old = new
after_each (map_refused r) new old = old
after_each (list_refused r k) new old = zeros most_lists

-- the number and values for each case of the answer
abbrev pub refused_at : Refusal → Option ℕ → MapOutcome
refused_at r None = map_refused r
refused_at r (Some k) = list_refused r k

abbrev pub map_told : Result ℕ MapRefusal → MapOutcome
map_told (Ok x) = map_accepted x
map_told (Err e) = refused_at e.refusal e.list

-- The selector as a product: the calls on a map, each with what its contract says; what they refuse, in their order; and the map that settling leaves. Document 02, Thirteen.
-- Assumes nothing.
use Rattle.std.specs.Prelude.{◌≡◌, ◌≢◌, Bool, true, ◌||◌, List, [], ◌∷◌, ◌++◌, map, ℕ, ◌*◌, ◌<◌, eqb, length, get_or, take, drop}
use contract.Lifetimes.{Lfts}
use denote.Triple.Clauses.{Lasts, at_exit}
use borrow.Fn.Kind.{ParamKind, ResultKind}
use borrow.Fn.Kinds.{Out, Dens, res_t, ended_of}
use Rattle.records.specs.declared.Refusal.{Refusal}
use Rattle.records.specs.Records.{zeros}
use Rattle.records.specs.Places.{place_width}
use Rattle.records.specs.Answers.{refused, Accepts}
use Rattle.selector.specs.Maps.{most_lists, starts, part, cubes_at, slot_of, records_of, total_cost}
use Rattle.selector.specs.Answers.{MapOutcome, map_accepted, map_refused, list_refused}
use Rattle.selector.specs.Calls.{slot_outcome, map_reasons_outcome, true_numbers, shown_bytes, job, burned_at, settle_map_outcome, burned_lengths, burned_bytes}
use Rattle.druthmoy.specs.Faces.{map_words}
use Rattle.promises.specs.Calls.{Call, value, reasons, settle, answers, leaves, Called}
use Rattle.promises.specs.Refusals.{Fault, at, NoneWrong, FirstWrong}
use Rattle.promises.specs.Reasons.{shown_in}

-- ---- the calls

-- a call on a map, with its arguments in order; `work` and `out` are the bytes that the lent buffers held before it. The numbers that it answers of each list, `each`, are
-- a lent buffer too: a caller from C lends them, and to one from Rattle, who is answered them by value, they were all 0
pub data MapCall : Type 0 where
  -- "answers a label's slot number": n, the lists, their lengths, the label
  slot : ℕ → List ℕ → List ℕ → ℕ → MapCall
  -- "It settles each list with its own script": n, the lists, their lengths, the scripts, their lengths, work, out, each
  settle_map : ℕ → List ℕ → List ℕ → List ℕ → List ℕ → List ℕ → List ℕ → List ℕ → MapCall
  -- "it writes the reasons of One for all bits end to end, with their numbers": n, the lists, their lengths, the label, out, each
  map_reasons : ℕ → List ℕ → List ℕ → ℕ → List ℕ → List ℕ → MapCall

-- what its contract says that it answers
unfoldable pub map_answers : MapCall → MapOutcome
map_answers (slot n lists lengths a) = slot_outcome n lists lengths a
map_answers (settle_map n lists lengths scripts script_lengths work out each) = settle_map_outcome (job n lists lengths scripts script_lengths (length work)) (length out)
map_answers (map_reasons n lists lengths a out each) = map_reasons_outcome n lists lengths a (length out)

-- the buffers that it was lent, as they were
unfoldable pub map_lent : MapCall → List (List ℕ)
map_lent (slot n lists lengths a) = []
map_lent (settle_map n lists lengths scripts script_lengths work out each) = work ∷ out ∷ each ∷ []
map_lent (map_reasons n lists lengths a out each) = out ∷ each ∷ []

-- the number that is asked for: the slot, or "the map's total cost"
unfoldable pub map_number : MapCall → ℕ
map_number (slot n lists lengths a) = slot_of n lists lengths a
map_number (settle_map n lists lengths scripts script_lengths work out each) = total_cost (length lengths) (burned_at (job n lists lengths scripts script_lengths (length work)))
map_number (map_reasons n lists lengths a out each) = slot_of n lists lengths a

-- and what an accepted call leaves in its buffers: "the burned lists end to end in an output buffer and zeros after, and answers their lengths"
unfoldable pub map_makes : MapCall → List (List ℕ)
map_makes (slot n lists lengths a) = []
map_makes (settle_map n lists lengths scripts script_lengths work out each) =
    zeros (length work)
    ∷ burned_bytes (job n lists lengths scripts script_lengths (length work)) (length out)
    ∷ burned_lengths (job n lists lengths scripts script_lengths (length work))
    ∷ []
map_makes (map_reasons n lists lengths a out each) = shown_bytes n lists lengths a out ∷ true_numbers n lists lengths a ∷ []

-- "all zero"
abbrev pub all_zero : List (List ℕ) → List (List ℕ)
all_zero buffers = map (λ b. zeros (length b)) buffers

-- "A refused list or script refuses the map, .., and every buffer that the call writes ends all zero, ..; only the first three below write nothing"
abbrev pub map_leaves : MapOutcome → List (List ℕ) → List (List ℕ) → List (List ℕ)
map_leaves (map_accepted x) new old = new
map_leaves (map_refused r) new old = old
map_leaves (list_refused r k) new old = all_zero old

-- the call was made: it answered o, and left these buffers
pub record MapCalled (c : MapCall) (o : MapOutcome) (buffers : List (List ℕ)) : Type 0 where
  pub answer : o ≡ map_answers c
  pub left : buffers ≡ map_leaves (map_answers c) (map_makes c) (map_lent c)

-- that every outcome which a function's contract allows is one of a call on a map, as in ContractOutcomes.antt
abbrev pub IsMapCalled : (n : ℕ) (ps : List (ParamKind n)) (r : ResultKind n) → Out n ps r → ((κs : Lfts n) → Dens κs ps → MapCall)
    → ((κs : Lfts n) (a : Dens κs ps) → (res_t r κs).Denot → Lasts (ended_of n ps r) κs a → List (List ℕ)) → ((κs : Lfts n) → (res_t r κs).Denot → MapOutcome) → Type 0
IsMapCalled n ps r Learnt call left told =
    (κs : Lfts n) (a : Dens κs ps) (z : (res_t r κs).Denot) (ws : Lasts (ended_of n ps r) κs a) →
    Learnt κs a z (at_exit (ended_of n ps r) κs a ws) →
    MapCalled (call κs a) (told κs z) (left κs a z ws)

-- ---- the order of each call

-- "24 for no list or more than 12, then 26 for lengths that don't add up to the lent buffers"
unfoldable pub length_faults : List ℕ → List ℕ → List Fault
length_faults lists lengths =
    at 24 0 (length lengths < 1)
    ∷ at 24 0 (most_lists < length lengths)
    ∷ at 26 0 (starts lengths (length lengths) ≢ length lists)
    ∷ []

unfoldable pub map_faults : MapCall → List Fault
map_faults (slot n lists lengths a) = length_faults lists lengths
-- "or not one script a list, then 5 for an output shorter than the lists"
map_faults (settle_map n lists lengths scripts script_lengths work out each) =
    length_faults lists lengths
    ++ (at 26 0 (length script_lengths ≢ length lengths)
    ∷ at 26 0 (starts script_lengths (length script_lengths) ≢ length scripts)
    ∷ at 5 0 (length out < length lists)
    ∷ [])
-- "(reasons: 2 bytes a record)"
map_faults (map_reasons n lists lengths a out each) = length_faults lists lengths ++ (at 5 0 (length out < place_width * records_of lists lengths) ∷ [])

-- "then the lists in turn": so many
unfoldable pub lists_of : MapCall → ℕ
lists_of (slot n lists lengths a) = length lengths
lists_of (settle_map n lists lengths scripts script_lengths work out each) = length lengths
lists_of (map_reasons n lists lengths a out each) = length lengths

-- "each in the order of the call on it": value; settle with the list's own script, into as many bytes as the list has; reasons, into 2 bytes a record
unfoldable pub list_call : MapCall → ℕ → Call
list_call (slot n lists lengths a) k = value n (part lists lengths k) a
list_call (settle_map n lists lengths scripts script_lengths work out each) k =
    settle n (part lists lengths k) (part scripts script_lengths k) work (zeros (get_or lengths k 0))
list_call (map_reasons n lists lengths a out each) k = reasons n (part lists lengths k) a (zeros (place_width * length (cubes_at lists lengths k)))

-- ---- a refused call

-- "the first three below": 24, 26 and 5
abbrev pub before_lists : ℕ → Bool
before_lists number = eqb number 24 || (eqb number 26 || eqb number 5)

-- refused as a map: the first in order that is wrong, and nothing is written
pub record RefusedMap (r : Refusal) (buffers : List (List ℕ)) (c : MapCall) : Type 0 where
  pub wrong : FirstWrong (map_faults c) r.number r.place
  pub number : before_lists r.number ≡ true
  pub place : r.place ≡ 0
  pub third : r.differing ≡ 0
  pub nothing_written : buffers ≡ map_lent c

-- refused at list k: nothing of the map is wrong, the calls on the lists before it are accepted, and the call on it is refused so; every buffer is all zero
pub record RefusedList (r : Refusal) (k : ℕ) (buffers : List (List ℕ)) (c : MapCall) : Type 0 where
  pub none_wrong : NoneWrong (map_faults c)
  pub below : k < lists_of c
  pub before : (i : ℕ) → i < k → Accepts (answers (list_call c i))
  pub here : Called (list_call c k) (refused r) (leaves (list_call c k))
  pub zeroed : buffers ≡ all_zero (map_lent c)

-- accepted: nothing of the map is wrong, and the call on each list is accepted
pub record AcceptedMap (x : ℕ) (buffers : List (List ℕ)) (c : MapCall) : Type 0 where
  pub none_wrong : NoneWrong (map_faults c)
  pub each : (k : ℕ) → k < lists_of c → Accepts (answers (list_call c k))
  pub number : x ≡ map_number c
  pub made : buffers ≡ map_makes c

-- ---- what a call left

-- the settled map: as many of the lengths that settle_map answered as there are lists, and so many bytes of its output
abbrev pub lengths_left : ℕ → List ℕ → List ℕ
lengths_left count each = take count each

abbrev pub lists_left : ℕ → List ℕ → List ℕ → List ℕ
lists_left count each out' = take (starts (lengths_left count each) count) out'

-- the places that map_reasons showed of list k: as many as the number that it answered, after those of the lists before it
abbrev pub shown_of : ℕ → List ℕ → List ℕ → List ℕ
shown_of k each out' = shown_in (get_or each k 0) (drop (place_width * starts each k) out')

-- ---- from C and Rust

-- the call was made from C or Rust: it answered these words, and left these buffers, the lent numbers among them
pub record MapFaced (c : MapCall) (answer : List ℕ) (buffers : List (List ℕ)) : Type 0 where
  pub outcome : MapOutcome
  pub called : MapCalled c outcome buffers
  pub told : answer ≡ map_words outcome

-- the numbers that it was lent are twelve, where it was lent any: the face's signature says so, and no clause of its contract repeats it
unfoldable pub Twelve : MapCall → Type 0
Twelve (slot n lists lengths a) = Unit {0}
Twelve (settle_map n lists lengths scripts script_lengths work out each) = length each ≡ most_lists
Twelve (map_reasons n lists lengths a out each) = length each ≡ most_lists

-- that every outcome which the contract of a face allows is one of a call on a map
abbrev pub IsMapFaced : (n : ℕ) (ps : List (ParamKind n)) (r : ResultKind n) → Out n ps r → ((κs : Lfts n) → Dens κs ps → MapCall)
    → ((κs : Lfts n) (a : Dens κs ps) → Lasts (ended_of n ps r) κs a → List (List ℕ)) → ((κs : Lfts n) (a : Dens κs ps) → Lasts (ended_of n ps r) κs a → List ℕ) → Type 0
IsMapFaced n ps r Learnt call left answer =
    (κs : Lfts n) (a : Dens κs ps) (z : (res_t r κs).Denot) (ws : Lasts (ended_of n ps r) κs a) →
    Twelve (call κs a) →
    Learnt κs a z (at_exit (ended_of n ps r) κs a ws) →
    MapFaced (call κs a) (answer κs a ws) (left κs a ws)

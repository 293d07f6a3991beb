-- Every call on a map by its faults: it refuses by the first that is wrong, and where none is, it is the calls on its lists in turn.
-- Assumes nothing.
use mathlib.Core.Path.{◌≡◌, refl, sym, ap, ◌∙◌, subst}
use mathlib.Core.Logic.{inl, inr}
use mathlib.Core.Bool.{true}
use mathlib.Core.List.{List, [], ◌∷◌}
use Prim.Native.Nat.{ℕ, ◌*◌}
use lib.ListN.{length, get_or, length-replicate}
use Rattle.records.specs.Places.{place_width}
use Rattle.records.specs.Answers.{Outcome, accepted}
use Rattle.reasons.specs.Calls.{reasons_outcome}
use Rattle.settling.specs.Calls.{settle_outcome}
use Rattle.selector.specs.Maps.{most_lists, starts, part, add_up, cubes_at, records_of}
use Rattle.selector.specs.Answers.{map_accepted, after_check, in_turn}
use Rattle.selector.specs.Calls.{check_map, slot_turns, slot_outcome, check_map_reasons, reasons_at, reasons_turns, map_reasons_outcome, job, check_job, settle_at, settle_turns, settle_map_outcome}
use Rattle.selector.proofs.Turning.{check_accepted}
use Rattle.promises.specs.Calls.{answers}
use Rattle.promises.specs.Refusals.{Fault, fault_number, Wrong, NoneWrong, FirstWrong}
use Rattle.promises.specs.Selector.{MapCall, slot, settle_map, map_reasons, map_answers, map_number, length_faults, map_faults, lists_of, list_call, before_lists}
use Rattle.promises.proofs.Chains.{Judged, judge_end, judge_and, judged_right}
use Rattle.promises.proofs.Judging.{unless_le, unless_eq}

-- ---- the tests of the map

by_lengths : (lists lengths : List ℕ) → Judged (length_faults lists lengths) (check_map (length lists) lengths) (accepted (length lengths ∷ []))
unfolding check_map add_up length_faults
by_lengths lists lengths =
    unless_le
    (unless_le
    (unless_eq (judge_end (accepted (length lengths ∷ []))) (starts lengths (length lengths)) (length lists) 26 0)
    (length lengths) most_lists 24 0)
    1 (length lengths) 24 0

unfoldable pub map_check : MapCall → Outcome
map_check (slot n lists lengths a) = check_map (length lists) lengths
map_check (settle_map n lists lengths scripts script_lengths work out each) = check_job (job n lists lengths scripts script_lengths (length work)) (length out)
map_check (map_reasons n lists lengths a out each) = check_map_reasons lists lengths (length out)

pub by_map : (c : MapCall) → Judged (map_faults c) (map_check c) (accepted (lists_of c ∷ []))
unfolding map_faults map_check lists_of check_job add_up check_map_reasons
by_map (slot n lists lengths a) = by_lengths lists lengths
by_map (settle_map n lists lengths scripts script_lengths work out each) =
    judge_and (length_faults lists lengths) _ (check_map (length lists) lengths) _ _ _ (by_lengths lists lengths)
    (unless_eq
    (unless_eq
    (unless_le (judge_end (accepted (length lengths ∷ []))) (length lists) (length out) 5 0)
    (starts script_lengths (length script_lengths)) (length scripts) 26 0)
    (length script_lengths) (length lengths) 26 0)
by_map (map_reasons n lists lengths a out each) =
    judge_and (length_faults lists lengths) _ (check_map (length lists) lengths) _ _ _ (by_lengths lists lengths)
    (unless_le (judge_end (accepted (length lengths ∷ []))) (place_width * records_of lists lengths) (length out) 5 0)

-- what is so of each fault that is there is so of the first
abbrev Each : (ℕ → ℕ → Type 0) → List Fault → Type 0
Each P [] = Unit {0}
Each P (x ∷ xs) = ((q : ℕ) → Wrong x q → P (fault_number x) q) × Each P xs

first_each : (P : ℕ → ℕ → Type 0) (xs : List Fault) → Each P xs → (number place : ℕ) → FirstWrong xs number place → P number place
first_each P [] h number place f = absurd f
first_each P (x ∷ xs) h number place (inl f) = subst (λ (k : ℕ). P k place) (sym f.0) (h.0 place f.1)
first_each P (x ∷ xs) h number place (inr f) = first_each P xs h.1 number place f.1

-- it is 24, 26 or 5, at place 0
abbrev pub OfMap : ℕ → ℕ → Type 0
OfMap number place = (before_lists number ≡ true) × (place ≡ 0)

each_of_map : (c : MapCall) → Each OfMap (map_faults c)
unfolding map_faults length_faults
each_of_map (slot n lists lengths a) = ((λ q w. (refl, w.0)), ((λ q w. (refl, w.0)), ((λ q w. (refl, w.0)), tt)))
each_of_map (settle_map n lists lengths scripts script_lengths work out each) =
    ((λ q w. (refl, w.0)), ((λ q w. (refl, w.0)), ((λ q w. (refl, w.0)), ((λ q w. (refl, w.0)), ((λ q w. (refl, w.0)), ((λ q w. (refl, w.0)), tt))))))
each_of_map (map_reasons n lists lengths a out each) = ((λ q w. (refl, w.0)), ((λ q w. (refl, w.0)), ((λ q w. (refl, w.0)), ((λ q w. (refl, w.0)), tt))))

pub first_of_map : (c : MapCall) (number place : ℕ) → FirstWrong (map_faults c) number place → OfMap number place
first_of_map c = first_each OfMap (map_faults c) (each_of_map c)

-- ---- the lists in turn

pub in_turn_lem : (c : MapCall) → map_answers c ≡ after_check (map_check c) (in_turn (lists_of c) (λ k. answers (list_call c k)) (map_accepted (map_number c)))
unfolding map_answers map_check lists_of answers list_call map_number slot_outcome slot_turns settle_map_outcome settle_turns settle_at map_reasons_outcome reasons_turns reasons_at
in_turn_lem (slot n lists lengths a) = refl
in_turn_lem (settle_map n lists lengths scripts script_lengths work out each) =
    ap
    (λ (f : ℕ → Outcome).
    after_check (map_check (settle_map n lists lengths scripts script_lengths work out each))
    (in_turn (length lengths) f (map_accepted (map_number (settle_map n lists lengths scripts script_lengths work out each)))))
    (λ i k. settle_outcome n (part lists lengths k) (part scripts script_lengths k) (length work) (sym (length-replicate {A = ℕ} (get_or lengths k 0) 0) i))
in_turn_lem (map_reasons n lists lengths a out each) =
    ap
    (λ (f : ℕ → Outcome).
    after_check (map_check (map_reasons n lists lengths a out each)) (in_turn (length lengths) f (map_accepted (map_number (map_reasons n lists lengths a out each)))))
    (λ i k. reasons_outcome n (part lists lengths k) a (sym (length-replicate {A = ℕ} (place_width * length (cubes_at lists lengths k)) 0) i))

pub goes_on : (c : MapCall) → NoneWrong (map_faults c) → map_answers c ≡ in_turn (lists_of c) (λ k. answers (list_call c k)) (map_accepted (map_number c))
goes_on c none = in_turn_lem c ∙ check_accepted (map_check c) _ _ (judged_right (map_faults c) (map_check c) _ (by_map c) none)

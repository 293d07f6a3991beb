-- The call by its tests: what each return answers and leaves, and what an accepted call is.
-- Assumes nothing.
use mathlib.Core.Path.{◌≡◌, refl, sym, ap, ap₂, ◌∙◌}
use mathlib.Core.Bool.{Bool}
use mathlib.Core.List.{List, [], ◌∷◌, map}
use Prim.Native.Nat.{ℕ, zero, suc, ◌*◌, ◌/◌, ◌≤◌, ◌<◌, min}
use native.Mathlib.Omega.{arith}
use lib.Dec.{leb}
use lib.ListN.{length, get_or, length-replicate}
use borrow.Author.Tests.{le-leb, lt-leb, leb-true}
use Rattle.std.specs.Prelude.{Ok}
use Rattle.bits.specs.Sums.{one_if}
use Rattle.records.specs.declared.Refusal.{Refusal}
use Rattle.records.specs.Records.{records, image, written, filled_by, zeros}
use Rattle.records.specs.Answers.{Outcome, accepted, refused, refusal, Accepts}
use Rattle.records.proofs.Answers.{accepted_values, and_then_lem, and_not, unless_passes, unless_fails, unless_accepted, both_accepted, after_refused, after_accepted}
use Rattle.records.proofs.Records.{length_list, capacity_fits}
use Rattle.cube.specs.declared.Cube.{Cube}
use Rattle.cube.specs.Lists.{most_variables, most_records, record_width, cubes, cubes_of, cube_capacity}
use Rattle.cube.specs.Calls.{check_list}
use Rattle.cube.proofs.Lists.{AcceptedList, check_accepts, count_is}
use Rattle.steps.specs.Calls.{Ready}
use Rattle.script.specs.Scripts.{step_records, step_width, most_steps, record_of}
use Rattle.script.proofs.Filled.{filled_records, filled_long, filled_ready}
use Rattle.writer.specs.declared.Written.{Written}
use Rattle.writer.specs.Easy.{easy_steps, easy_end, easy_finished}
use Rattle.writer.specs.Calls.{write_outcome, write_work, write_steps, wrote}
use Rattle.writer.specs.Watching.{Unmarked, WritingIs}

-- ---- an accepted call

-- the list passes, there is room for it and for its steps, and the answer is the number of steps and whether no pair is left
pub record AcceptedWrite (n : ℕ) (list : List ℕ) (work script : ℕ) (v : List ℕ) : Type 0 where
  pub list_is : AcceptedList cubes most_variables n list
  pub fits : length (cubes_of list) ≤ cube_capacity work
  pub room : step_width * min (length (cubes_of list)) most_steps ≤ script
  pub value : v ≡ length (easy_steps n most_steps (cubes_of list)) ∷ one_if (easy_finished n most_steps (cubes_of list)) ∷ []

pub write_accepts : (n : ℕ) (list : List ℕ) (work script : ℕ) (v : List ℕ) → write_outcome n list work script ≡ accepted v → AcceptedWrite n list work script v
unfolding write_outcome
write_accepts n list work script v e =
    let p = both_accepted (check_list most_variables n list) _ v e in
    let q = unless_accepted (leb (length (cubes_of list)) (cube_capacity work)) 5 0 _ v p.second in
    let r = unless_accepted (leb (step_width * min (length (cubes_of list)) most_steps) script) 5 0 _ v q.1 in
    record {
      list_is = check_accepts cubes most_variables n list p.values p.first;
      fits = leb-true _ _ q.0;
      room = leb-true _ _ r.0;
      value = sym (accepted_values r.1);
    }

-- ---- the script of a checked list

-- an array of zeros has no mark
pub unmarked : (count size : ℕ) → count ≤ size → Unmarked count (zeros size)
unmarked count size h = let e : length (zeros size) ≡ size = length-replicate size 0 in record { room = omega arith; none = none size }
  where
    none : (size r : ℕ) → ◌≡◌ {A = ℕ} (get_or (zeros size) r 0) 0
    none zero r = refl
    none (suc size) zero = refl
    none (suc size) (suc r) = none size r

module _ (n : ℕ) (list work : List ℕ) (ok : Accepts (check_list most_variables n list)) (fits : length (cubes_of list) ≤ cube_capacity (length work))
    (small : (i : ℕ) → get_or list i 0 < 256) (w : List ℕ) (ew : w ≡ filled_by work list) where
  pub checked_list : AcceptedList cubes most_variables n list
  checked_list = check_accepts cubes most_variables n list ok.values ok.is

  room : length list ≤ length work
  room = omega (arith, checked_list.whole, fits, length_list cubes list, capacity_fits cubes most_records (length work))

  -- the filled work buffer is ready for the first step
  pub checked_ready : Ready n (length list / record_width) (length list / record_width) w
  checked_ready = filled_ready n list work checked_list small room w ew (length list / record_width) (omega (arith, room, checked_list.whole))

  pub checked_written : (w₂ script script₂ : List ℕ) (r : Written) → WritingIs n (records cubes (length list / record_width) w) w w₂ script script₂ r
      → WritingIs n (cubes_of list) work w₂ script script₂ r
  checked_written w₂ script script₂ r t =
      let same : records cubes (length list / record_width) w ≡ cubes_of list = filled_records n list work checked_list small room w ew in
      record {
        steps_are = t.steps_are ∙ ap (λ (l : List Cube). length (easy_steps n most_steps l)) same;
        finished_is = t.finished_is ∙ ap (easy_finished n most_steps) same;
        buffer = t.buffer ∙ ap₂ (λ (k : ℕ) (l : List Cube). image cubes k (easy_end n most_steps l)) (filled_long n list work checked_list small room w ew) same;
        bytes = t.bytes ∙ ap (λ (l : List Cube). written step_records 0 (map record_of (easy_steps n most_steps l)) script) same;
      }

-- ---- each return

-- what is answered and left in both buffers
abbrev pub Writes : ℕ → List ℕ → List ℕ → List ℕ → Outcome → List ℕ → List ℕ → Type 0
Writes n list work script o work' script' =
    (o ≡ write_outcome n list (length work) (length script))
    × ((work' ≡ write_work n list work (length script)) × (script' ≡ write_steps n list (length work) script))

module _ (n : ℕ) (list work script : List ℕ) where
  -- refused, and nothing written
  refuses : (r : Refusal) → write_outcome n list (length work) (length script) ≡ refused r → Writes n list work script (refused r) work script
  unfolding write_work write_steps
  refuses r e = (sym e, (sym (after_refused _ _ _ r e), sym (after_refused _ _ _ r e)))

  pub list_refused : (r : Refusal) → check_list most_variables n list ≡ refused r → Writes n list work script (refused r) work script
  unfolding write_outcome
  list_refused r e = refuses r (and_not _ _ r e)

  module _ (count : ℕ) (e : check_list most_variables n list ≡ accepted (count ∷ [])) where
    all : count ≡ length (cubes_of list)
    all = count_is cubes most_variables n list count e ∙ sym (length_list cubes list)

    module _ (cap : ℕ) (ec : cap ≡ cube_capacity (length work)) where
      pub work_short : cap < count → (r : Refusal) → r ≡ refusal 5 0 → Writes n list work script (refused r) work script
      unfolding write_outcome
      work_short h r er =
          refuses r (and_then_lem _ _ _ e ∙ unless_fails _ 5 0 _ (lt-leb (length (cubes_of list)) (cube_capacity (length work)) (omega (arith, all, ec))) ∙ ap refused (sym er))

      module _ (h : count ≤ cap) (most : ℕ) (em : most ≡ min count most_steps) where
        pub checked_fits : length (cubes_of list) ≤ cube_capacity (length work)
        checked_fits = omega (arith, all, ec)

        steps_most : step_width * most ≡ step_width * min (length (cubes_of list)) most_steps
        steps_most = ap (λ (k : ℕ). step_width * k) em ∙ ap (λ (k : ℕ). step_width * min k most_steps) all

        pub script_short : length script < step_width * most → (r : Refusal) → r ≡ refusal 5 0 → Writes n list work script (refused r) work script
        unfolding write_outcome
        script_short g r er =
            refuses r
            (and_then_lem _ _ _ e ∙ unless_passes _ 5 0 _ (le-leb _ _ checked_fits) ∙ unless_fails _ 5 0 _ (lt-leb (step_width * min (length (cubes_of list)) most_steps) (length script) (omega (arith, steps_most))) ∙ ap refused (sym er))

        pub all_written : step_width * most ≤ length script → (w s : List ℕ) (r : Written) → WritingIs n (cubes_of list) work w script s r
            → Writes n list work script (wrote (Ok r)) w s
        unfolding write_outcome write_work write_steps
        all_written g w s r t =
            let o =
            and_then_lem _ _ _ e ∙ unless_passes _ 5 0 _ (le-leb _ _ checked_fits) ∙ unless_passes _ 5 0 _ (le-leb (step_width * min (length (cubes_of list)) most_steps) (length script) (omega (arith, steps_most))) in (
              ap₂ (λ (k : ℕ) (f : Bool). accepted (k ∷ one_if f ∷ [])) t.steps_are t.finished_is ∙ sym o,
              (t.buffer ∙ sym (after_accepted _ _ _ _ o), t.bytes ∙ sym (after_accepted _ _ _ _ o)),
            )

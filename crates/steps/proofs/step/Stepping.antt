-- A step on the work buffer, put together: what each call asks, what the step answers and leaves, and that the buffer is ready for the next step.
-- Assumes nothing.
use mathlib.Core.Path.{◌≡◌, sym, ap, ◌∙◌, subst}
use mathlib.Core.List.{List}
use Prim.Native.Nat.{ℕ, ◌≤◌, ◌<◌, max}
use native.Mathlib.Omega.{arith}
use lib.ListN.{length}
use Rattle.records.specs.Records.{records, image}
use Rattle.cube.specs.declared.Cube.{Cube}
use Rattle.cube.specs.Cubes.{one, Good}
use Rattle.cube.specs.Lists.{cubes}
use Rattle.cube.proofs.Lists.{lawful}
use Rattle.steps.specs.declared.Change.{Change}
use Rattle.steps.specs.declared.StepRecord.{StepRecord}
use Rattle.steps.specs.Moves.{next, applied}
use Rattle.steps.specs.Steps.{Step, drop, join, split, turn, L, Allowed, meaning, step, decision}
use Rattle.steps.specs.Calls.{Ready, Known, work_stepped}
use Rattle.steps.specs.Changes.{move_of, Decided}
use Rattle.steps.specs.Kinds.{DecidedOn}
use Rattle.steps.proofs.Decisions.{Sound}
use Rattle.steps.proofs.Inversion.{split_accepted}
use Rattle.steps.proofs.Kept.{step_count, step_kept}
use Rattle.steps.proofs.Onward.{Stepwise, onward_records, onward_long, onward_ready}
use Rattle.steps.proofs.Making.{decision_made, decision_sound}

-- ---- what is decided of cubes, as it is asked of a kind of record

pub cube_decided : (n count cap : ℕ) (x : StepRecord) → Known n x → x.op < 5 → (a b : Cube) → Good n a → Good n b → (change : Change Cube)
    → Decided n count cap x a b change → DecidedOn cubes (step n cap (meaning x)) count cap x.i x.j a b (move_of change)
cube_decided n count cap x known low a b g h change made = record {
  placed = (subst (Sound n count cap x.i x.j a b) (sym made.is) (decision_sound n cap x low count a b g h known)).places;
  is = λ l many ea eb.
      decision_made n cap x low l
      ∙ ap (applied one x.i x.j l) ((λ t. decision n (many t) cap (meaning x) (sym ea t) (sym eb t)) ∙ sym made.is);
}

-- ---- the next list fits the buffer, which is then ready for the next step

pub step_fits : (n cap room : ℕ) (x : Step) (l m : List Cube) → length l ≤ room → cap ≤ room → step n cap x l ≡ next m → length m ≤ room
step_fits n cap room (drop i j) l m h k e = omega (arith, step_count n cap (drop i j) l m e)
step_fits n cap room (join i j) l m h k e = omega (arith, step_count n cap (join i j) l m e)
step_fits n cap room (split v i) l m h k e = omega (arith, step_count n cap (split v i) l m e, (split_accepted n cap v i l m e).room)
step_fits n cap room (turn v i j) l m h k e = omega (arith, step_count n cap (turn v i j) l m e)
step_fits n cap room (L v b) l m h k e = omega (arith, step_count n cap (L v b) l m e)

-- cubes step by step
pub cubes_stepwise : (n cap : ℕ) → Stepwise cubes (step n cap) (Good n) (Allowed n) cap
cubes_stepwise n cap = record {
  lawful = lawful;
  good = λ x l m fits g e. (step_kept n cap l m g x fits e).good;
  most = λ x l m e. step_fits n cap (max cap (length l)) x l m (omega arith) (omega arith) e;
}

-- after an accepted step
module _ (n count cap : ℕ) (b b' : List ℕ) (x : Step) (m : List Cube) (ready : Ready n count cap b)
    (e : step n cap x (records cubes count b) ≡ next m) (e' : b' ≡ work_stepped b (step n cap x (records cubes count b))) where
  step_image : b' ≡ image cubes (length b) m
  step_image = e' ∙ ap (work_stepped b) e

  -- the records of the buffer are the next list
  pub step_records_lem : records cubes (length m) b' ≡ m
  step_records_lem = onward_records cubes (step n cap) (Good n) (Allowed n) n cap (cubes_stepwise n cap) count b b' x m ready e step_image

  pub step_long : length b' ≡ length b
  step_long = onward_long cubes (step n cap) (Good n) (Allowed n) n cap (cubes_stepwise n cap) count b b' x m ready e step_image

  -- and it is ready for the next step
  pub ready_onward : Allowed n x → Ready n (length m) cap b'
  ready_onward fits = onward_ready cubes (step n cap) (Good n) (Allowed n) n cap (cubes_stepwise n cap) count b b' x m ready e step_image fits

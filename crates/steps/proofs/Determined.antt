-- Two outcomes that satisfy the contract of a public function of this crate are equal.
-- Assumes nothing.
use mathlib.Core.Path.{◌≡◌, refl, ap}
use mathlib.Core.List.{List}
use Prim.Native.Nat.{ℕ}
use denote.RattleType.{RattleType}
use denote.Param.Laws.{Laws, IsCopy}
use mir.Syntax.{Dict}
use Rattle.std.specs.declared.clone.Clone as clone
use Rattle.std.specs.Prelude.{◌<◌, Option, Some, None}
use Rattle.bits.specs.Outcomes.{Determined}
use Rattle.bits.proofs.Determined.{same, same_told}
use Rattle.cube.specs.declared.Cube.{Cube}
use Rattle.steps.specs.declared.Change.{Change}
use Rattle.steps.specs.declared.Change.TheVariants as change_is
use Rattle.steps.specs.Moves.{Move, refuse, drops, joins, splits, turns}
use Rattle.steps.specs.Changes.{move_of, step_of, Misplaced, masks_at}
use Rattle.steps.specs.Steps.{Step, drop, join, split, turn, L}
use Rattle.steps.specs.declared.operation.Step as operation
use Rattle.steps.specs.declared.operation.Step.TheVariants as step_is
use Rattle.steps.specs.declared.decides.Decides as decides
use Rattle.records.specs.declared.reason.Reason.{Reason}
use Rattle.records.proofs.Reasons.{one_reason}
use Rattle.cube.specs.Lists.{most_variables}
use Rattle.steps.proofs.decide.two_places.Kinds as two_places_kinds
use Rattle.steps.proofs.decide.two_places.Reads as two_places_reads
use Rattle.steps.proofs.decide.decide.Kinds as decide_kinds
use Rattle.steps.proofs.decide.decide.Reads as decide_reads
use Rattle.steps.proofs.perform.smaller.Kinds as smaller_kinds
use Rattle.steps.proofs.perform.smaller.Reads as smaller_reads
use Rattle.steps.proofs.perform.larger.Kinds as larger_kinds
use Rattle.steps.proofs.perform.larger.Reads as larger_reads
use Rattle.steps.proofs.decide.third_at.Kinds as third_at_kinds
use Rattle.steps.proofs.decide.third_at.Reads as third_at_reads
use Rattle.steps.proofs.perform.drop_both.Kinds as drop_both_kinds
use Rattle.steps.proofs.perform.drop_both.Reads as drop_both_reads
use Rattle.steps.proofs.perform.join_both.Kinds as join_both_kinds
use Rattle.steps.proofs.perform.join_both.Reads as join_both_reads
use Rattle.steps.proofs.reorder.masks_at.Kinds as masks_at_kinds
use Rattle.steps.proofs.reorder.masks_at.Reads as masks_at_reads
use Rattle.steps.proofs.reorder.recoded.Kinds as recoded_kinds
use Rattle.steps.proofs.reorder.recoded.Reads as recoded_reads
use Rattle.steps.proofs.reorder.reorder.Kinds as reorder_kinds
use Rattle.steps.proofs.reorder.reorder.Reads as reorder_reads
use Rattle.steps.proofs.step.do_step.Kinds as do_step_kinds
use Rattle.steps.proofs.step.do_step.Reads as do_step_reads
use Rattle.steps.proofs.operation.StepFromStepRecord.from.Kinds as from_kinds
use Rattle.steps.proofs.operation.StepFromStepRecord.from.Reads as from_reads
use Rattle.steps.proofs.StepRecord.is_letter.Kinds as is_letter_kinds
use Rattle.steps.proofs.StepRecord.is_letter.Reads as is_letter_reads
use Rattle.steps.proofs.decide.misplaced.Kinds as misplaced_kinds
use Rattle.steps.proofs.decide.misplaced.Reads as misplaced_reads
use Rattle.steps.proofs.decide.refuse.Kinds as refuse_kinds
use Rattle.steps.proofs.decide.refuse.Reads as refuse_reads
use Rattle.steps.proofs.decides.Decides.record_at.Kinds as decides_record_at_kinds
use Rattle.steps.proofs.decides.Decides.record_at.Reads as decides_record_at_reads
use Rattle.steps.proofs.decides.Decides.put_record.Kinds as decides_put_record_kinds
use Rattle.steps.proofs.decides.Decides.put_record.Reads as decides_put_record_reads
use Rattle.steps.proofs.decides.Decides.recode.Kinds as decides_recode_kinds
use Rattle.steps.proofs.decides.Decides.recode.Reads as decides_recode_reads
use Rattle.steps.proofs.perform.drop_places.Kinds as drop_places_kinds
use Rattle.steps.proofs.perform.drop_places.Reads as drop_places_reads
use Rattle.steps.proofs.perform.join_places.Kinds as join_places_kinds
use Rattle.steps.proofs.perform.join_places.Reads as join_places_reads
use Rattle.steps.proofs.reorder.reorder_on.Kinds as reorder_on_kinds
use Rattle.steps.proofs.reorder.reorder_on.Reads as reorder_on_reads
use Rattle.steps.proofs.step.step_on.Kinds as step_on_kinds
use Rattle.steps.proofs.step.step_on.Reads as step_on_reads

-- the change that a move is, read back
change_of : Move Cube → Change Cube
change_of (refuse why) = change_is.Refuse why
change_of drops = change_is.Drop
change_of (joins c) = change_is.Join c
change_of (splits c d) = change_is.Split c d
change_of (turns c d) = change_is.Turn c d

change_known : (change : Change Cube) → change_of (move_of change) ≡ change
unfolding change_of move_of
change_known (change_is.Refuse why) = refl
change_known change_is.Drop = refl
change_known (change_is.Join c) = refl
change_known (change_is.Split c d) = refl
change_known (change_is.Turn c d) = refl

-- the step by its operation, read back
pub operation_of : Step → operation.Step
operation_of (drop i j) = step_is.Drop i j
operation_of (join i j) = step_is.Join i j
operation_of (split v i) = step_is.Split v i
operation_of (turn v i j) = step_is.Turn v i j
operation_of (L v b) = step_is.L v b

pub operation_known : (x : operation.Step) → operation_of (step_of x) ≡ x
unfolding operation_of
operation_known (step_is.Drop i j) = refl
operation_known (step_is.Join i j) = refl
operation_known (step_is.Split v i) = refl
operation_known (step_is.Turn v i j) = refl
operation_known (step_is.L v b) = refl

pub from_determined : Determined 0 from_kinds.ps from_kinds.r from_reads.Learnt
from_determined κs a z z' ws ws' p q = (same_told step_of operation_of operation_known p q, refl)

pub is_letter_determined : Determined 0 is_letter_kinds.ps is_letter_kinds.r is_letter_reads.Learnt
is_letter_determined κs a z z' ws ws' p q = (same p q, refl)

-- one reason, or none, has the number that two places are refused by
misplaced_once : (count i j : ℕ) (z z' : Option Reason) → Misplaced count i j z → Misplaced count i j z' → z ≡ z'
misplaced_once count i j None None p q = refl
misplaced_once count i j None (Some r) p q = absurd (q.1 (same q.0 p))
misplaced_once count i j (Some r) None p q = absurd (p.1 (same p.0 q))
misplaced_once count i j (Some r) (Some s) p q = ap Some (one_reason r s (same p.0 q.0))

pub misplaced_determined : Determined 0 misplaced_kinds.ps misplaced_kinds.r misplaced_reads.Learnt
misplaced_determined κs a z z' ws ws' p q = (misplaced_once _ _ _ z z' p q, refl)

-- for what every kind of record holds
pub refuse_determined : (T : RattleType) (laws : Laws T) → Determined 1 (refuse_kinds.ps T laws) (refuse_kinds.r T laws) (refuse_reads.Learnt T laws)
refuse_determined T laws κs a z z' ws ws' p q = (same p q, refl)

pub two_places_determined : Determined 0 two_places_kinds.ps two_places_kinds.r two_places_reads.Learnt
two_places_determined κs a z z' ws ws' p q = (same p q, refl)

pub decide_determined : Determined 0 decide_kinds.ps decide_kinds.r decide_reads.Learnt
decide_determined κs a z z' ws ws' p q = (same_told move_of change_of change_known p.is q.is, refl)

-- `again::decide` is the same function
pub again_determined : Determined 0 decide_kinds.ps decide_kinds.r decide_reads.Learnt
again_determined = decide_determined

pub third_at_determined : Determined 0 third_at_kinds.ps third_at_kinds.r third_at_reads.Learnt
third_at_determined κs a z z' ws ws' p q = (same p q, refl)

pub drop_both_determined : Determined 1 drop_both_kinds.ps drop_both_kinds.r drop_both_reads.Learnt
drop_both_determined κs a z z' ws ws' p q = (same p.0 q.0, ap (λ (b : List ℕ). (b, (tt, (tt, (tt, tt))))) (same p.1 q.1))

pub join_both_determined : Determined 1 join_both_kinds.ps join_both_kinds.r join_both_reads.Learnt
join_both_determined κs a z z' ws ws' p q = (same p.0 q.0, ap (λ (b : List ℕ). (b, (tt, (tt, (tt, (tt, tt)))))) (same p.1 q.1))

pub smaller_determined : Determined 0 smaller_kinds.ps smaller_kinds.r smaller_reads.Learnt
smaller_determined κs a z z' ws ws' p q = (same p q, refl)

pub larger_determined : Determined 0 larger_kinds.ps larger_kinds.r larger_reads.Learnt
larger_determined κs a z z' ws ws' p q = (same p q, refl)

pub masks_at_determined : Determined 0 masks_at_kinds.ps masks_at_kinds.r masks_at_reads.Learnt
masks_at_determined κs a z z' ws ws' p q = (same p q, refl)

pub recoded_determined : Determined 0 recoded_kinds.ps recoded_kinds.r recoded_reads.Learnt
recoded_determined κs a z z' ws ws' p q = (same p q, refl)

pub reorder_determined : Determined 1 reorder_kinds.ps reorder_kinds.r reorder_reads.Learnt
reorder_determined κs a z z' ws ws' p q = (refl, ap (λ (b : List ℕ). (b, (tt, (tt, (tt, tt))))) (same p q))

pub do_step_determined : Determined 1 do_step_kinds.ps do_step_kinds.r do_step_reads.Learnt
do_step_determined κs a z z' ws ws' p q =
    (same p.0 q.0, ap (λ (b : List ℕ). (b, (tt, (tt, (tt, (tt, tt)))))) (same p.1 q.1))

-- ---- for every kind of record whose steps are decided

module _ (K Item : RattleType) (laws : Laws K) (item_laws : Laws Item) (copies : IsCopy Item) (decided : decides.Ghosts K.Denot Item.Denot) (decides : Dict)
    (clones : clone.Ghosts Item.Denot) (clone : Dict) where
  pub decides_record_at_determined : Determined 3 (decides_record_at_kinds.ps K Item laws item_laws copies) (decides_record_at_kinds.r K Item laws item_laws copies)
      (decides_record_at_reads.Learnt K Item laws item_laws copies decided decides clones clone)
  decides_record_at_determined κs a z z' ws ws' p q = (same p q, refl)

  pub decides_put_record_determined : Determined 3 (decides_put_record_kinds.ps K Item laws item_laws copies) (decides_put_record_kinds.r K Item laws item_laws copies)
      (decides_put_record_reads.Learnt K Item laws item_laws copies decided decides clones clone)
  decides_put_record_determined κs a z z' ws ws' p q = (refl, ap (λ (b : List ℕ). (b, (tt, (tt, tt)))) (same p q))

  -- where the masks are those of an order at a variable: of others the contract says nothing
  pub decides_recode_determined : (v o : ℕ) → v < most_variables → Determined 3 (decides_recode_kinds.ps K Item laws item_laws copies) (decides_recode_kinds.r K Item laws item_laws copies)
      (λ κs a z e. (a.0 ≡ masks_at v o) × decides_recode_reads.Learnt K Item laws item_laws copies decided decides clones clone κs a z e)
  decides_recode_determined v o h κs a z z' ws ws' p q = (refl, ap (λ (b : List ℕ). (tt, (b, (tt, tt)))) (same (p.1.is v o h p.0) (q.1.is v o h q.0)))

  pub drop_places_determined : Determined 3 (drop_places_kinds.ps K Item laws item_laws copies) (drop_places_kinds.r K Item laws item_laws copies)
      (drop_places_reads.Learnt K Item laws item_laws copies decided decides clones clone)
  drop_places_determined κs a z z' ws ws' p q = (same p.0 q.0, ap (λ (b : List ℕ). (b, (tt, (tt, (tt, tt))))) (same p.1 q.1))

  pub join_places_determined : Determined 3 (join_places_kinds.ps K Item laws item_laws copies) (join_places_kinds.r K Item laws item_laws copies)
      (join_places_reads.Learnt K Item laws item_laws copies decided decides clones clone)
  join_places_determined κs a z z' ws ws' p q = (same p.0 q.0, ap (λ (b : List ℕ). (b, (tt, (tt, (tt, (tt, tt)))))) (same p.1 q.1))

  pub reorder_on_determined : Determined 3 (reorder_on_kinds.ps K Item laws item_laws copies) (reorder_on_kinds.r K Item laws item_laws copies)
      (reorder_on_reads.Learnt K Item laws item_laws copies decided decides clones clone)
  reorder_on_determined κs a z z' ws ws' p q = (refl, ap (λ (b : List ℕ). (b, (tt, (tt, (tt, tt))))) (same p q))

  pub step_on_determined : Determined 3 (step_on_kinds.ps K Item laws item_laws copies) (step_on_kinds.r K Item laws item_laws copies)
      (step_on_reads.Learnt K Item laws item_laws copies decided decides clones clone)
  step_on_determined κs a z z' ws ws' p q = (same p.answer q.answer, ap (λ (b : List ℕ). (b, (tt, (tt, (tt, (tt, tt)))))) (same p.buffer q.buffer))

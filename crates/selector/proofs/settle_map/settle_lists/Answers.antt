-- `settle_map::settle_lists` meets its contract: the loop keeps `Settling`.
-- Assumes nothing.
use mathlib.Core.Logic.{inl, inr}
use mathlib.Core.Path.{refl, sym, ap, ◌∙◌}
use Prim.Native.Nat.{ℕ, ◌+◌, ◌≤◌}
use native.Mathlib.Omega.{arith}
use lib.ListN.{length}
use Rattle.std.proofs.Common.{rules}
use Rattle.std.proofs.lemmas.Grind.{common_steps}
use Rattle.std.specs.Prelude.{Err}
use Rattle.selector.proofs.Left.{parts_long, left_all, left_none, turn}
use Rattle.selector.proofs.settle_map.Settling.{Settling, settling_none, settling_room, settling_index, settling_refused, settling_to, settling_total, settling_more, settling_rest, settling_done}
use Rattle.selector.proofs.settle_map.settle_lists.Goals as goal

pub loop-k-init-derived : goal.loop-k-init-derived
loop-k-init-derived c = search (rules, parts_long)

pub loop-k-init : goal.loop-k-init
loop-k-init c = (
  settling_none _ _ _ refl _ (search rules),
  left_all _ _ _ _ (search rules) (search rules),
  left_all _ _ _ _ (search rules) (search rules),
)

pub overflow_add-room : goal.overflow_add-room
overflow_add-room c =
    let t = turn (Settling _ _ _ _ _ _ _) _ _ _ _ c.loop-k.invariant.0 c.loop-k.invariant.1 _ _ c.in-Some.ensures.steps.0.0 _ c.in-Some.ensures.steps.1 in
    let s = turn (Settling _ _ _ _ _ _ _) _ _ _ _ c.loop-k.invariant.0 c.loop-k.invariant.2 _ _ c.in-Some.ensures.steps.0.1 _ c.in-Some.ensures.steps.1 in
    omega (arith, settling_room _ _ c.requires _ _ _ _ _ _ t.0 t.1.below _ _ t.1.part_is s.1.part_is, c.loop-k.invariant.0.out_long)

pub settle_part-requires : goal.settle_part-requires
settle_part-requires c =
    let t = turn (Settling _ _ _ _ _ _ _) _ _ _ _ c.loop-k.invariant.0 c.loop-k.invariant.1 _ _ c.in-Some.ensures.steps.0.0 _ c.in-Some.ensures.steps.1 in
    let s = turn (Settling _ _ _ _ _ _ _) _ _ _ _ c.loop-k.invariant.0 c.loop-k.invariant.2 _ _ c.in-Some.ensures.steps.0.1 _ c.in-Some.ensures.steps.1 in
    (omega arith, settling_room _ _ c.requires _ _ _ _ _ _ t.0 t.1.below _ _ t.1.part_is s.1.part_is)

pub returns-in-Err : goal.returns-in-Err
returns-in-Err c =
    let t = turn (Settling _ _ _ _ _ _ _) _ _ _ _ c.loop-k.invariant.0 c.loop-k.invariant.1 _ _ c.in-Some.ensures.steps.0.0 _ c.in-Some.ensures.steps.1 in
    let s = turn (Settling _ _ _ _ _ _ _) _ _ _ _ c.loop-k.invariant.0 c.loop-k.invariant.2 _ _ c.in-Some.ensures.steps.0.1 _ c.in-Some.ensures.steps.1 in
    settling_refused _ _ c.requires _ _ _ _ _ _ t.0 t.1.below _ _ (grind (arith, common_steps, t.1.part_is)) (grind (arith, common_steps, s.1.part_is)) _ (omega arith) _ c.settle_part.ensures.part_told _ c.in-Err.is _ (length c.settle_part.new.out)
    c.clear.ensures (search (rules, c.loop-k.invariant.0.out_long)) _ (c.refused.ensures.0 ∙ ap Err c.of_list.ensures, c.refused.ensures.1)

pub bounds-sizes-k : goal.bounds-sizes-k
bounds-sizes-k c =
    let t = turn (Settling _ _ _ _ _ _ _) _ _ _ _ c.loop-k.invariant.0 c.loop-k.invariant.1 _ _ c.in-Some.ensures.steps.0.0 _ c.in-Some.ensures.steps.1 in
    let s = turn (Settling _ _ _ _ _ _ _) _ _ _ _ c.loop-k.invariant.0 c.loop-k.invariant.2 _ _ c.in-Some.ensures.steps.0.1 _ c.in-Some.ensures.steps.1 in
    settling_index _ _ c.requires _ _ _ _ _ _ t.0 t.1.below _ _ t.1.part_is s.1.part_is

pub overflow_add-total : goal.overflow_add-total
overflow_add-total c =
    let t = turn (Settling _ _ _ _ _ _ _) _ _ _ _ c.loop-k.invariant.0 c.loop-k.invariant.1 _ _ c.in-Some.ensures.steps.0.0 _ c.in-Some.ensures.steps.1 in
    let s = turn (Settling _ _ _ _ _ _ _) _ _ _ _ c.loop-k.invariant.0 c.loop-k.invariant.2 _ _ c.in-Some.ensures.steps.0.1 _ c.in-Some.ensures.steps.1 in
    omega (arith, settling_total _ _ c.requires _ _ _ _ _ _ t.0 t.1.below _ _ (grind (arith, common_steps, t.1.part_is)) (grind (arith, common_steps, s.1.part_is)) _ (omega arith) _ c.settle_part.ensures.part_told _ _ c.in-Ok.is, c.loop-k.invariant.0.out_long, c.well_formed)

pub overflow_add-to : goal.overflow_add-to
overflow_add-to c =
    let t = turn (Settling _ _ _ _ _ _ _) _ _ _ _ c.loop-k.invariant.0 c.loop-k.invariant.1 _ _ c.in-Some.ensures.steps.0.0 _ c.in-Some.ensures.steps.1 in
    let s = turn (Settling _ _ _ _ _ _ _) _ _ _ _ c.loop-k.invariant.0 c.loop-k.invariant.2 _ _ c.in-Some.ensures.steps.0.1 _ c.in-Some.ensures.steps.1 in
    omega (arith, settling_to _ _ c.requires _ _ _ _ _ _ t.0 t.1.below _ _ (grind (arith, common_steps, t.1.part_is)) (grind (arith, common_steps, s.1.part_is)) _ (omega arith) _ c.settle_part.ensures.part_told _ _ c.in-Ok.is, c.loop-k.invariant.0.out_long, c.well_formed)

pub loop-k-preserved : goal.loop-k-preserved
loop-k-preserved c =
    let t = turn (Settling _ _ _ _ _ _ _) _ _ _ _ c.loop-k.invariant.0 c.loop-k.invariant.1 _ _ c.in-Some.ensures.steps.0.0 _ c.in-Some.ensures.steps.1 in
    let s = turn (Settling _ _ _ _ _ _ _) _ _ _ _ c.loop-k.invariant.0 c.loop-k.invariant.2 _ _ c.in-Some.ensures.steps.0.1 _ c.in-Some.ensures.steps.1 in
    let next = c.in-Some.ensures.steps.2 ∙ ap (λ (i : ℕ). i + 1) (sym c.in-Some.ensures.steps.1) in (
      settling_more _ _ c.requires _ _ _ _ _ _ t.0 t.1.below _ _ (grind (arith, common_steps, t.1.part_is)) (grind (arith, common_steps, s.1.part_is)) _ (omega arith) _ c.settle_part.ensures.part_told _ _ c.in-Ok.is
          _ c.settle_part.ensures.out_after (search rules) _ (search rules) _ next,
      t.1.then _ next,
      s.1.then _ next,
    )

pub slice_bounds-clear-count : goal.slice_bounds-clear-count
slice_bounds-clear-count c = omega (arith, settling_rest _ _ c.requires _ _ _ _ _ _ c.loop-k.invariant.0 c.loop-k.invariant.1.within, c.loop-k.invariant.0.out_long, c.requires.room)

pub slice_bounds-clear-start : goal.slice_bounds-clear-start
slice_bounds-clear-start c = omega (arith, settling_rest _ _ c.requires _ _ _ _ _ _ c.loop-k.invariant.0 c.loop-k.invariant.1.within, c.loop-k.invariant.0.out_long, c.requires.room)

pub returns : goal.returns
returns c =
    let ended : length c.args.lists.lengths.now ≤ c.loop-k.k-iterator.count = elim c.in-None.ensures.steps.0 [
      | inl x ↦ left_none _ _ _ _ c.loop-k.invariant.1 x.1.0
      | inr x ↦ omega (arith, left_none _ _ _ _ c.loop-k.invariant.2 x.1.0, c.requires.one_a_list)
    ] in
    settling_done _ _ c.requires _ _ _ _ _ _ c.loop-k.invariant.0 c.loop-k.invariant.1.within ended _ c.clear-2.ensures _ refl refl

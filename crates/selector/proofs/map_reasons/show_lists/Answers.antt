-- `map_reasons::show_lists` meets its contract: the loop keeps `Showing`.
-- Assumes nothing.
use mathlib.Core.Path.{refl, sym, ap, ◌∙◌, subst}
use Prim.Native.Nat.{ℕ, ◌+◌, ◌*◌, ◌%◌, ◌^◌, ◌<◌}
use native.Mathlib.Omega.{arith}
use lib.ListN.{length}
use Rattle.std.proofs.Common.{rules}
use Rattle.std.specs.Prelude.{Err}
use Rattle.records.specs.Records.{zeros}
use Rattle.reasons.specs.Calls.{reasoned}
use Rattle.selector.specs.declared.MapRefusal.{MapRefusal}
use Rattle.selector.specs.Maps.{most_lists}
use Rattle.selector.specs.Turns.{ShownTurns}
use Rattle.selector.proofs.Left.{parts_long, left_all, left_none, turn}
use Rattle.selector.proofs.map_reasons.Showing.{Showing, showing_none, showing_room, showing_index, showing_refused, showing_to, showing_bit, showing_more, showing_done}
use Rattle.selector.proofs.map_reasons.show_lists.Goals as goal

pub loop-k-init-derived : goal.loop-k-init-derived
loop-k-init-derived c = search (rules, parts_long)

pub loop-k-init : goal.loop-k-init
loop-k-init c = (showing_none _ _ _ _ _ _ (search rules), left_all _ _ _ _ (search rules) (search rules))

pub overflow_add-room : goal.overflow_add-room
overflow_add-room c =
    let t = turn (Showing _ _ _ _ _ _ _ _ _) _ _ _ _ c.loop-k.invariant.0 c.loop-k.invariant.1 _ _ c.in-Some.ensures.steps.0 _ c.in-Some.ensures.steps.1 in
    omega (arith, showing_room _ _ _ _ _ c.requires _ _ _ _ _ t.0 t.1.below _ t.1.part_is, c.loop-k.invariant.0.out_long)

pub show_part-requires : goal.show_part-requires
show_part-requires c =
    let t = turn (Showing _ _ _ _ _ _ _ _ _) _ _ _ _ c.loop-k.invariant.0 c.loop-k.invariant.1 _ _ c.in-Some.ensures.steps.0 _ c.in-Some.ensures.steps.1 in
    (omega arith, showing_room _ _ _ _ _ c.requires _ _ _ _ _ t.0 t.1.below _ t.1.part_is)

pub returns-in-Err : goal.returns-in-Err
returns-in-Err c =
    let t = turn (Showing _ _ _ _ _ _ _ _ _) _ _ _ _ c.loop-k.invariant.0 c.loop-k.invariant.1 _ _ c.in-Some.ensures.steps.0 _ c.in-Some.ensures.steps.1 in
    subst (λ (r : MapRefusal). ShownTurns c.args.n c.args.lists.bytes.now c.args.lists.lengths.now c.args.a c.args.out.now c.args.numbers.now (Err r) c.clear.new.buf (zeros most_lists))
    (sym c.of_list.ensures)
    (showing_refused _ _ _ _ _ c.requires _ _ _ _ _ t.0 t.1.below _ t.1.part_is _ refl _ c.show_part.ensures.result_value _ (ap reasoned c.in-Err.is)
    _ (length c.show_part.new.out) c.clear.ensures (search (rules, c.loop-k.invariant.0.out_long)) _)

pub bounds-numbers-k : goal.bounds-numbers-k
bounds-numbers-k c =
    let t = turn (Showing _ _ _ _ _ _ _ _ _) _ _ _ _ c.loop-k.invariant.0 c.loop-k.invariant.1 _ _ c.in-Some.ensures.steps.0 _ c.in-Some.ensures.steps.1 in
    showing_index _ _ _ _ _ c.requires _ _ _ _ _ t.0 t.1.below _ t.1.part_is

pub with_bit-slot-requires : goal.with_bit-slot-requires
with_bit-slot-requires c =
    let t = turn (Showing _ _ _ _ _ _ _ _ _) _ _ _ _ c.loop-k.invariant.0 c.loop-k.invariant.1 _ _ c.in-Some.ensures.steps.0 _ c.in-Some.ensures.steps.1 in
    subst (λ (i : ℕ). (c.loop-k.slot < 2 ^ i) × ((i < most_lists) × (c.in-Ok.shown.count % 2 < 2))) (omega (arith, t.1.below, c.requires.lists_are.few))
    (showing_bit _ _ _ _ _ c.requires _ _ _ _ _ t.0 t.1.below _ t.1.part_is _ refl _ c.show_part.ensures.result_value _ _ (ap reasoned c.in-Ok.is))

pub overflow_mul-to : goal.overflow_mul-to
overflow_mul-to c =
    let t = turn (Showing _ _ _ _ _ _ _ _ _) _ _ _ _ c.loop-k.invariant.0 c.loop-k.invariant.1 _ _ c.in-Some.ensures.steps.0 _ c.in-Some.ensures.steps.1 in
    omega (
      arith,
      showing_to _ _ _ _ _ c.requires _ _ _ _ _ t.0 t.1.below _ t.1.part_is _ refl _ c.show_part.ensures.result_value _ _ (ap reasoned c.in-Ok.is),
      c.loop-k.invariant.0.out_long,
    )

pub overflow_add-to : goal.overflow_add-to
overflow_add-to c =
    let t = turn (Showing _ _ _ _ _ _ _ _ _) _ _ _ _ c.loop-k.invariant.0 c.loop-k.invariant.1 _ _ c.in-Some.ensures.steps.0 _ c.in-Some.ensures.steps.1 in
    omega (
      arith,
      showing_to _ _ _ _ _ c.requires _ _ _ _ _ t.0 t.1.below _ t.1.part_is _ refl _ c.show_part.ensures.result_value _ _ (ap reasoned c.in-Ok.is),
      c.loop-k.invariant.0.out_long,
    )

pub loop-k-preserved : goal.loop-k-preserved
loop-k-preserved c =
    let t = turn (Showing _ _ _ _ _ _ _ _ _) _ _ _ _ c.loop-k.invariant.0 c.loop-k.invariant.1 _ _ c.in-Some.ensures.steps.0 _ c.in-Some.ensures.steps.1 in
    let next = c.in-Some.ensures.steps.2 ∙ ap (λ (i : ℕ). i + 1) (sym c.in-Some.ensures.steps.1) in (
      showing_more _ _ _ _ _ c.requires _ _ _ _ _ t.0 t.1.below _ t.1.part_is _ refl _ c.show_part.ensures.result_value _ _ (ap reasoned c.in-Ok.is)
          _ c.show_part.ensures.out_after _ (c.with_bit-slot.ensures ∙ ap (λ (i : ℕ). c.loop-k.slot + (c.in-Ok.shown.count % 2) * 2 ^ i) (omega (arith, t.1.below, c.requires.lists_are.few))) _ next,
      t.1.then _ next,
    )

pub returns : goal.returns
returns c =
    showing_done _ _ _ _ _ c.requires _ _ _ _ _ c.loop-k.invariant.0 c.loop-k.invariant.1.within
    (left_none _ _ _ _ c.loop-k.invariant.1 c.in-None.ensures.steps.0.0) _

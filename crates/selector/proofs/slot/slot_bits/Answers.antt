-- `slot::slot_bits` meets its contract: the loop keeps `Slotting`.
-- Assumes nothing.
use mathlib.Core.Path.{◌≡◌, ap, ◌∙◌, subst}
use Prim.Native.Nat.{ℕ, ◌+◌, ◌*◌, ◌^◌, ◌<◌}
use native.Mathlib.Omega.{arith}
use Rattle.std.proofs.Common.{rules}
use Rattle.std.proofs.lemmas.Grind.{common_steps}
use Rattle.std.specs.Prelude.{Err}
use Rattle.cube.specs.Calls.{valued}
use Rattle.selector.specs.declared.MapRefusal.{MapRefusal}
use Rattle.selector.specs.Maps.{most_lists}
use Rattle.selector.specs.Refusals.{of_list}
use Rattle.selector.specs.Answers.{map_told}
use Rattle.selector.proofs.Left.{parts_long, left_all, left_next, left_none}
use Rattle.selector.proofs.slot.Slotting.{slotting_none, slotting_refused, slotting_bit, slotting_more, slotting_done}
use Rattle.selector.proofs.Handing.{known_ok, known_err, handed_map}
use Rattle.selector.proofs.slot.slot_bits.Goals as goal

pub loop-k-init-derived : goal.loop-k-init-derived
loop-k-init-derived c = search (rules, parts_long)

pub loop-k-init : goal.loop-k-init
loop-k-init c = (slotting_none _ _ _ _ _ (search rules), left_all _ _ _ _ (search rules) (search rules))

pub returns-in_err-found : goal.returns-in_err-found
returns-in_err-found c =
    let x = left_next _ _ _ _ c.loop-k.invariant.1 _ _ c.in-Some.ensures.steps.0 in
    let e = known_err c.value.result _ _ c.in_err-found.ensures.cases in
    let made : c.in_err-found.field-0.0 ≡ of_list e.why c.in-Some.k = search (rules, e.known) in
    handed_map _ _ _ c.from_residual.ensures
    (ap (λ (f : MapRefusal). map_told (Err f)) (made ∙ ap (of_list e.why) c.in-Some.ensures.steps.1)
    ∙ slotting_refused _ _ _ _ c.requires _ _ c.loop-k.invariant.0 x.below _ (grind (arith, common_steps, x.part_is)) _ c.value.ensures _ (ap valued e.is))

pub with_bit-slot-requires : goal.with_bit-slot-requires
with_bit-slot-requires c =
    let at = c.in-Some.ensures.steps.1 in
    let x = left_next _ _ _ _ c.loop-k.invariant.1 _ _ c.in-Some.ensures.steps.0 in
    let is = known_ok c.value.result _ c.in_ok-found.ensures.cases in
    subst (λ (i : ℕ). (c.loop-k.slot < 2 ^ i) × ((i < most_lists) × (c.in_ok-found.found.bit < 2))) (omega (arith, at, x.below, c.requires.few))
    (slotting_bit _ _ _ _ c.requires _ _ c.loop-k.invariant.0 x.below _ (grind (arith, common_steps, x.part_is)) _ c.value.ensures _ _ (ap valued is))

pub loop-k-preserved : goal.loop-k-preserved
loop-k-preserved c =
    let at = c.in-Some.ensures.steps.1 in
    let x = left_next _ _ _ _ c.loop-k.invariant.1 _ _ c.in-Some.ensures.steps.0 in
    let is = known_ok c.value.result _ c.in_ok-found.ensures.cases in (
      slotting_more _ _ _ _ c.requires _ _ c.loop-k.invariant.0 x.below _ (grind (arith, common_steps, x.part_is)) _ c.value.ensures _ _ (ap valued is) _
          (c.with_bit-slot.ensures ∙ ap (λ (i : ℕ). c.loop-k.slot + c.in_ok-found.found.bit * 2 ^ i) (omega (arith, at, x.below, c.requires.few))) _ c.in-Some.ensures.steps.2,
      x.then _ c.in-Some.ensures.steps.2,
    )

pub returns : goal.returns
returns c = slotting_done _ _ _ _ c.requires _ _ c.loop-k.invariant.0 c.loop-k.invariant.1.within (left_none _ _ _ _ c.loop-k.invariant.1 c.in-None.ensures.steps.0.0)

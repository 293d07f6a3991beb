-- `settle_map::settle_part` meets its contract.
-- Assumes nothing.
use mathlib.Core.Path.{refl, sym, ap, ◌∙◌}
use native.Mathlib.Omega.{arith}
use Rattle.polarity.specs.Cost.{cost}
use Rattle.selector.proofs.settle_map.Burning.{bytes_are, bytes_fit, counted_is, counted_short}
use Rattle.selector.proofs.settle_map.settle_part.Goals as goal

pub overflow_mul-bytes : goal.overflow_mul-bytes
overflow_mul-bytes c = omega (arith, c.requires.1, bytes_fit _ _ _ _ c.args.out.now _ _ c.requires _ c.in_ok-settled.ensures.result_value _ refl)

pub overflow_add-to : goal.overflow_add-to
overflow_add-to c = omega (arith, c.requires.1, bytes_fit _ _ _ _ c.args.out.now _ _ c.requires _ c.in_ok-settled.ensures.result_value _ refl)

pub slice_bounds-list_cost-end : goal.slice_bounds-list_cost-end
slice_bounds-list_cost-end c = omega (arith, c.requires.1, bytes_fit _ _ _ _ c.args.out.now _ _ c.requires _ c.in_ok-settled.ensures.result_value _ refl, c.out-1.given)

pub list_cost-cost-requires : goal.list_cost-cost-requires
list_cost-cost-requires c = counted_short _ _ _ _ c.args.out.now _ _ c.requires _ c.in_ok-settled.ensures.result_value _ refl _ c.burn_part.ensures.out_after _ refl

pub returns-clause-part_told : goal.returns-clause-part_told
returns-clause-part_told c = record {
  passed = record { values = _; is = sym c.in_ok-settled.ensures.result_value };
  bytes_are = bytes_are _ _ _ _ c.args.out.now _ _ c.requires _ c.in_ok-settled.ensures.result_value _ refl;
  price_is = c.list_cost-cost.ensures ∙ ap cost (counted_is _ _ _ _ c.args.out.now _ _ c.requires _ c.in_ok-settled.ensures.result_value _ refl _ c.burn_part.ensures.out_after _ refl);
}

-- `keep::keep_steps` meets its contract: the loop keeps `Stacked`.
-- Assumes nothing.
use mathlib.Core.Path.{refl}
use native.Mathlib.Omega.{arith}
use Rattle.script.proofs.Scripts.{length_script}
use Rattle.compactor.proofs.Stack.{keeping_start, keeping_room, keeping_count, keeping_last, keeping_end, keeping_more_room, keeping_some, keeping_more}
use Rattle.compactor.proofs.keep.keep_steps.Goals as goal

pub loop-k-init : goal.loop-k-init
loop-k-init c = keeping_start _ _ _ c.requires.script_len_bound _ refl

pub takes_off-off-requires : goal.takes_off-off-requires
takes_off-off-requires c =
    let v = c.loop-k.invariant in record { top_in_bounds = (keeping_room _ _ _ c.requires.script_len_bound _ _ _ _ v, keeping_count _ _ _ c.requires.script_len_bound _ _ _ _ v); top_in_bounds_2 = keeping_last _ _ _ c.requires.script_len_bound _ _ _ _ v c.loop-k-test.true }

pub keep-top-requires : goal.keep-top-requires
keep-top-requires c =
    let v = c.loop-k.invariant in
    let h = c.loop-k-test.true in (
      keeping_more_room _ _ _ c.requires.script_len_bound _ _ _ _ v c.requires.faithful h,
      omega (arith, c.requires.script_len_bound.0, h, length_script c.args.script.now),
      keeping_some _ _ _ c.requires.script_len_bound _ _ _ _ v c.requires.faithful h (λ i. omega (arith, c.type_inv.script i)) _ c.halves_at-x.ensures _ c.takes_off-off.ensures,
    )

pub count_after-count-requires : goal.count_after-count-requires
count_after-count-requires c =
    omega (arith, c.requires.script_len_bound.2, keeping_count _ _ _ c.requires.script_len_bound _ _ _ _ c.loop-k.invariant)

pub loop-k-preserved : goal.loop-k-preserved
loop-k-preserved c =
    keeping_more _ _ _ c.requires.script_len_bound _ _ _ _ c.loop-k.invariant c.requires.faithful c.loop-k-test.true (λ i. omega (arith, c.type_inv.script i)) _ c.halves_at-x.ensures _
    c.takes_off-off.ensures _ c.keep-top.ensures.value _ c.keep-top.ensures.kept_after _ c.count_after-count.ensures

pub returns : goal.returns
returns c =
    keeping_end _ _ _ c.requires.script_len_bound _ _ _ _ c.loop-k.invariant c.loop-k-test.false

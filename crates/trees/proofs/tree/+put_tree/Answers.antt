-- The proof of the cycle of calls {put_tree}. The measure is the number of variables that are left.
-- Assumes nothing.
use mathlib.Core.Path.{refl, ap}
use mathlib.Core.Bool.{false, ◌&&◌}
use Prim.Native.Nat.{ℕ, suc, ◌^◌}
use native.Mathlib.Numerals.{add-one}
use native.Mathlib.Omega.{arith}
use Rattle.trees.specs.Trees.{unmarked}
use Rattle.trees.specs.Words.{cheapest}
use Rattle.trees.proofs.tree.Putting.{leaf_next, put_leaf, half, chosen_node, put_node}
use Rattle.trees.proofs.tree.+put_tree.Goals as goal

pub put_leaf-requires : goal.put_leaf-requires
put_leaf-requires t c = omega (arith, ap (λ (x : ℕ). 2 ^ x) c.if-left-eq0.true, c.requires.1)

pub returns-then-left-eq0 : goal.returns-then-left-eq0
returns-then-left-eq0 t c =
    put_leaf c.args.k c.args.left c.if-left-eq0.true (cheapest c.args.free) c.args.w c.args.c c.args.at _ _ _ c.put_leaf.ensures.value c.put_leaf.ensures.out_after

pub choose-by-requires : goal.choose-by-requires
choose-by-requires t c = omega (arith, c.requires.0, c.if-left-eq0.false)

pub first_cube-x-requires : goal.first_cube-x-requires
first_cube-x-requires t c = omega (arith, c.requires.0, c.if-left-eq0.false)

pub second_cube-y-requires : goal.second_cube-y-requires
second_cube-y-requires t c = omega (arith, c.requires.0, c.if-left-eq0.false)

pub put_leaf-next-requires : goal.put_leaf-next-requires
put_leaf-next-requires t c =
    omega (arith, c.requires.1, half c.args.left c.if-left-eq0.false, ap (λ (x : ℕ). 2 ^ x) c.if-m-eq0.true)

pub put_leaf-requires-then-m-eq0 : goal.put_leaf-requires-then-m-eq0
put_leaf-requires-then-m-eq0 t c =
    omega (arith, c.requires.1, half c.args.left c.if-left-eq0.false, ap (λ (x : ℕ). 2 ^ x) c.if-m-eq0.true, leaf_next _ _ _ _ c.put_leaf-next.ensures.value)

pub returns-then-m-eq0 : goal.returns-then-m-eq0
returns-then-m-eq0 t c =
    let k = c.args.k in
    let none = c.if-m-eq0.true in
    put_node k (suc k) c.args.left _ refl (omega (arith, c.if-left-eq0.false)) c.requires.0 c.args.w _ _ c.args.c _ _ _
    c.first_half-u.ensures c.second_half-v.ensures c.first_cube-x.ensures c.second_cube-y.ensures
    (cheapest c.args.free) (cheapest (c.args.free && unmarked c.choose-by.result)) (cheapest false)
    (λ f S. chosen_node _ c.args.free _ f _ (c.choose-by.ensures.is f S) refl)
    _ _ _ _ _ _ (put_leaf (suc k) _ none _ _ _ _ _ _ _ c.put_leaf-next.ensures.value c.put_leaf-next.ensures.out_after) (put_leaf (suc k) _ none _ _ _ _ _ _ _ c.put_leaf-then-m-eq0.ensures.value c.put_leaf-then-m-eq0.ensures.out_after)

pub overflow_add-j : goal.overflow_add-j
overflow_add-j t c = omega (arith, c.requires.0)

pub put_tree-next-requires : goal.put_tree-next-requires
put_tree-next-requires t c =
    (omega (arith, c.decreases, c.if-left-eq0.false), (omega (arith, c.requires.0, c.if-left-eq0.false), omega (arith, c.requires.1, half c.args.left c.if-left-eq0.false)))

pub put_tree-requires : goal.put_tree-requires
put_tree-requires t c = (
  omega (arith, c.decreases, c.if-left-eq0.false),
  (omega (arith, c.requires.0, c.if-left-eq0.false), omega (arith, c.requires.1, half c.args.left c.if-left-eq0.false, c.put_tree-next.ensures.few)),
)

pub returns : goal.returns
returns t c =
    put_node c.args.k _ c.args.left _ (add-one c.args.k) (omega (arith, c.if-left-eq0.false)) c.requires.0 c.args.w _ _ c.args.c _ _ _
    c.first_half-u.ensures c.second_half-v.ensures
    c.first_cube-x.ensures c.second_cube-y.ensures
    (cheapest c.args.free) (cheapest _) (cheapest false)
    (λ f S. chosen_node _ c.args.free _ f _ (c.choose-by.ensures.is f S) c.stays_free.ensures)
    _ _ _ _ _ _ c.put_tree-next.ensures c.put_tree.ensures

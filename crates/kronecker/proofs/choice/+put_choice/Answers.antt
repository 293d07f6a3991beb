-- The proof of the cycle of calls {put_choice}. The measure is the number of variables that are left.
-- Assumes nothing.
use mathlib.Core.Path.{refl, ap}
use mathlib.Core.List.{List}
use Prim.Native.Nat.{ℕ, ◌+◌, ◌-◌, ◌/◌, ◌^◌}
use native.Mathlib.Numerals.{add-one}
use native.Mathlib.Omega.{arith}
use Rattle.bits.specs.Packed.{alone}
use Rattle.trees.specs.Words.{PutIs}
use Rattle.trees.proofs.tree.Putting.{leaf_next, put_leaf, half, put_node}
use Rattle.kronecker.specs.Words.{each}
use Rattle.kronecker.proofs.choice.Choosing.{choice_node}
use Rattle.kronecker.proofs.choice.+put_choice.Goals as goal
use Rattle.kronecker.proofs.choice.+put_choice.Goals.{After-second_cube-y}

pub put_leaf-requires : goal.put_leaf-requires
put_leaf-requires t c = omega (arith, ap (λ (x : ℕ). 2 ^ x) c.if-left-eq0.true, c.requires.1)

pub returns-then-left-eq0 : goal.returns-then-left-eq0
returns-then-left-eq0 t c =
    put_leaf c.args.k c.args.left c.if-left-eq0.true (each c.args.choice) (alone c.args.w) c.args.c c.args.at _ _ _ c.put_leaf.ensures.value c.put_leaf.ensures.out_after

pub overflow_add-j : goal.overflow_add-j
overflow_add-j t c = omega (arith, c.requires.0)

pub first_half-u-requires : goal.first_half-u-requires
first_half-u-requires t c = omega (arith, c.requires.0, c.if-left-eq0.false)

pub second_half-v-requires : goal.second_half-v-requires
second_half-v-requires t c = omega (arith, c.requires.0, c.if-left-eq0.false)

pub first_cube-x-requires : goal.first_cube-x-requires
first_cube-x-requires t c = omega (arith, c.requires.0, c.if-left-eq0.false)

pub second_cube-y-requires : goal.second_cube-y-requires
second_cube-y-requires t c = omega (arith, c.requires.0, c.if-left-eq0.false)

node_put : (t : ℕ) (d : After-second_cube-y t) (place next r : ℕ) (out mid out' : List ℕ) → PutIs (d.args.k + 1) (d.args.left - 1) (each (d.args.choice / 3)) (alone d.first_half-u.result) d.first_cube-x.result place out mid next
    → PutIs (d.args.k + 1) (d.args.left - 1) (each (d.args.choice / 3)) (alone d.second_half-v.result) d.second_cube-y.result next mid out' r
    → PutIs d.args.k d.args.left (each d.args.choice) (alone d.args.w) d.args.c place out out' r
node_put t d =
    put_node d.args.k _ d.args.left _ (add-one d.args.k) (omega (arith, d.if-left-eq0.false)) (omega (arith, d.requires.0)) (alone d.args.w) _ _ d.args.c _ _ _
    d.first_half-u.ensures d.second_half-v.ensures d.first_cube-x.ensures d.second_cube-y.ensures
    (each d.args.choice) (each (d.args.choice / 3)) (each (d.args.choice / 3)) (λ f S. choice_node _ d.args.choice _ _ d.expansion_of-by.ensures refl)

-- the last two products
pub put_leaf-next-requires : goal.put_leaf-next-requires
put_leaf-next-requires t c =
    omega (arith, c.requires.1, half c.args.left c.if-left-eq0.false, ap (λ (x : ℕ). 2 ^ x) c.if-m-eq0.true)

pub put_leaf-requires-then-m-eq0 : goal.put_leaf-requires-then-m-eq0
put_leaf-requires-then-m-eq0 t c =
    omega (arith, c.requires.1, half c.args.left c.if-left-eq0.false, ap (λ (x : ℕ). 2 ^ x) c.if-m-eq0.true, leaf_next _ _ _ _ c.put_leaf-next.ensures.value)

pub returns-then-m-eq0 : goal.returns-then-m-eq0
returns-then-m-eq0 t c =
    let none = c.if-m-eq0.true in
    node_put t (goal.at.returns-then-m-eq0 t c).After-second_cube-y _ _ _ _ _ _ (put_leaf _ _ none _ _ _ _ _ _ _ c.put_leaf-next.ensures.value c.put_leaf-next.ensures.out_after) (put_leaf _ _ none _ _ _ _ _ _ _ c.put_leaf-then-m-eq0.ensures.value c.put_leaf-then-m-eq0.ensures.out_after)

pub put_choice-next-requires : goal.put_choice-next-requires
put_choice-next-requires t c =
    (omega (arith, c.decreases, c.if-left-eq0.false), (omega (arith, c.requires.0, c.if-left-eq0.false), omega (arith, c.requires.1, half c.args.left c.if-left-eq0.false)))

pub put_choice-requires : goal.put_choice-requires
put_choice-requires t c =
    (omega (arith, c.decreases, c.if-left-eq0.false), (omega (arith, c.requires.0, c.if-left-eq0.false), omega (arith, c.requires.1, half c.args.left c.if-left-eq0.false, c.put_choice-next.ensures.few)))

pub returns : goal.returns
returns t c = node_put t (goal.at.returns t c).After-second_cube-y _ _ _ _ _ _ c.put_choice-next.ensures c.put_choice.ensures

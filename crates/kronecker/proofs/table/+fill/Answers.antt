-- The proof of the cycle of calls {fill}. The measure is the number of variables that are left.
-- Assumes nothing.
use mathlib.Core.Path.{◌≡◌, sym, ap, ◌∙◌}
use mathlib.Core.List.{List, [], ◌∷◌}
use Prim.Native.Nat.{ℕ, suc, ◌-◌, ◌*◌, ◌/◌, ◌%◌, ◌^◌, ◌≤◌, ◌<◌}
use native.Mathlib.Nat.{le_refl}
use native.Mathlib.Omega.{arith}
use lib.ListN.{length}
use lib.Pow.{pow_mono}
use lib.Seq.{length-take-le}
use Rattle.bits.specs.Bits.{bit}
use Rattle.bits.proofs.Bits.{shl_one}
use Rattle.kronecker.specs.Words.{products_of_all}
use Rattle.kronecker.proofs.table.Filling.{products_long, joined_words, none_left, stored_whole, part_is, one_long, second_long, two_long, last_long, three_fit, three_joined}
use Rattle.kronecker.proofs.table.+fill.Goals as goal
use Rattle.kronecker.proofs.table.+fill.Goals.{After-slice_known-3-1, After-slice_known-5-1, Else-left-eq1, Then-left-eq0}

long_none : (t : ℕ) (c : Then-left-eq0 t) → length c.args.table.now ≡ 1
long_none t c = c.requires.1 ∙ ap (λ (k : ℕ). 3 ^ k) c.if-left-eq0.true

pub bounds-table-0 : goal.bounds-table-0
bounds-table-0 t c = omega (arith, long_none t c)

pub returns-then-left-eq0 : goal.returns-then-left-eq0
returns-then-left-eq0 t c =
    stored_whole c.args.table.now (_ ∷ []) (long_none t c) ∙ sym (none_left c.args.w) ∙ ap (λ (k : ℕ). products_of_all k (bit c.args.w)) (sym c.if-left-eq0.true)

pub put_one-requires : goal.put_one-requires
put_one-requires t c = c.requires.1 ∙ ap (λ (k : ℕ). 3 ^ k) c.if-left-eq1.true

pub returns-then-left-eq1 : goal.returns-then-left-eq1
returns-then-left-eq1 t c =
    c.put_one.ensures ∙ ap (λ (k : ℕ). products_of_all k (bit c.args.w)) (sym c.if-left-eq1.true)

-- ---- more than one variable is left

abbrev n : (t : ℕ) (c : Else-left-eq1 t) → ℕ
n t c = c.args.left - 1

abbrev v : (t : ℕ) (c : Else-left-eq1 t) → List ℕ
v t c = c.args.table.now

below_left : (t : ℕ) (c : Else-left-eq1 t) → c.args.left ≡ suc (n t c)
below_left t c = omega (arith, c.if-left-eq0.false)

long : (t : ℕ) (c : Else-left-eq1 t) → length (v t c) ≡ 3 ^ suc (n t c)
long t c = c.requires.1 ∙ ap (λ (k : ℕ). 3 ^ k) (below_left t c)

few : (t : ℕ) (c : Else-left-eq1 t) → (n t c < t) × (n t c ≤ 5)
few t c = omega (arith, c.if-left-eq0.false, c.decreases, c.requires.0)

half : (t : ℕ) (c : Else-left-eq1 t) → (1 * 2 ^ n t c) % 2 ^ 64 ≡ 2 ^ n t c
half t c = shl_one (n t c) 64 (omega (arith, few t c))

pub overflow_shl-half : goal.overflow_shl-half
overflow_shl-half t c = omega (arith, few t c)

pub overflow_shr-upper : goal.overflow_shr-upper
overflow_shr-upper t c = omega (arith, half t c, pow_mono {i = n t c} {j = 5} (few t c).1)

pub slice_bounds-fill-end-2 : goal.slice_bounds-fill-end-2
slice_bounds-fill-end-2 t c = sym (length-take-le _ _ (omega arith))

pub fill-requires : goal.fill-requires
fill-requires t c =
    let here = (goal.at.fill-requires t c).Else-left-eq1 in ((few t here).0, (omega (arith, few t here), length-take-le _ _ (omega arith) ∙ part_is (n t here) (v t here) (long t here)))

-- ---- the first part is back

pub slice_bounds-fill-end-3 : goal.slice_bounds-fill-end-3
slice_bounds-fill-end-3 t c =
    let here = (goal.at.slice_bounds-fill-end-3 t c).Else-left-eq1 in omega (arith, one_long (n t here) (v t here) (long t here) _ c.fill.ensures)

pub fill-requires-2 : goal.fill-requires-2
fill-requires-2 t c =
    let here = (goal.at.fill-requires-2 t c).Else-left-eq1 in ((few t here).0, (omega (arith, few t here), second_long (n t here) (v t here) (long t here) _ c.fill.ensures))

-- ---- the second too

pub slice_bounds-fill-count-2 : goal.slice_bounds-fill-count-2
slice_bounds-fill-count-2 t c =
    let here = (goal.at.slice_bounds-fill-count-2 t c).Else-left-eq1 in omega (arith, two_long (n t here) (v t here) (long t here) _ c.fill.ensures _ c.fill-2.ensures)

pub slice_bounds-fill-start-2 : goal.slice_bounds-fill-start-2
slice_bounds-fill-start-2 t c = slice_bounds-fill-count-2 t c

pub slice_bounds-fill-end-4 : goal.slice_bounds-fill-end-4
slice_bounds-fill-end-4 t c = le_refl _

pub fill-requires-3 : goal.fill-requires-3
fill-requires-3 t c =
    let here = (goal.at.fill-requires-3 t c).Else-left-eq1 in ((few t here).0, (omega (arith, few t here), last_long (n t here) (v t here) (long t here) _ c.fill.ensures _ c.fill-2.ensures))

-- ---- and the last

pub join_parts-requires : goal.join_parts-requires
join_parts-requires t c =
    let here = (goal.at.join_parts-requires t c).Else-left-eq1 in
    three_fit (n t here) (v t here) (long t here) _ c.fill.ensures _ c.fill-2.ensures _ c.fill-3.ensures (omega (arith, few t here))

pub returns : goal.returns
returns t c =
    let here = (goal.at.returns t c).Else-left-eq1 in
    let w = c.args.w in
    c.join_parts.ensures ∙ three_joined (n t here) (v t here) (long t here) _ c.fill.ensures _ c.fill-2.ensures _ c.fill-3.ensures
    ∙ joined_words (n t here) w _ (ap (λ (k : ℕ). w / 2 ^ k) (half t here)) ∙ ap (λ (k : ℕ). products_of_all k (bit w)) (sym (below_left t here))

pub shape_of-table : goal.shape_of-table
shape_of-table t c =
    products_long c.args.left _ (returns t c) ∙ sym c.requires.1

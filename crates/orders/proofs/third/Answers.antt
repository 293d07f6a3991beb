-- `orders::third` meets its contract: for two different codes the remaining one is 3 less both, which is one law.
-- Assumes nothing.
use mathlib.Core.Path.{◌≡◌, ap, ◌∙◌}
use mathlib.Core.Logic.{◌≢◌, inl, inr}
use Prim.Native.Nat.{ℕ, ◌-◌, ◌%◌, ◌≤◌, ◌<◌}
use native.Mathlib.Omega.{arith}
use lib.Bits.{bit_and, and_le_r, and_mask}
use borrow.Author.Tests.{lt-ltb, le-ltb, eq-eqb}
use Rattle.orders.specs.Codes.{third_of}
use Rattle.orders.proofs.Codes.{third_of_codes, third_less_both}
use Rattle.orders.proofs.third.Goals as goal
use Rattle.orders.proofs.third.Goals.{then-y-x, else-y-x}

-- all the bits of a code are bits of 3
whole : (x all : ℕ) → x < 3 → all ≡ 3 → bit_and x all ≡ x
whole x all h e = let low : bit_and x 3 ≡ x % 4 = and_mask x 2 in omega (arith, ap (bit_and x) e)

module _ (x y all : ℕ) (hx : x < 3) (hy : y < 3) where
  -- two different codes leave 3 less both, and 3 has room for both ..
  left_of_different : y ≢ x → all ≡ 3 → all - bit_and x all - bit_and y all ≡ third_of x y
  left_of_different d e =
      let less : third_of x y ≡ 3 - x - y = third_of_codes x y hx hy d ∙ third_less_both x y hx hy d in
      omega (arith, whole x all hx e, whole y all hy e)

  room_of_different : y ≢ x → all ≡ 3 → bit_and y all ≤ all - bit_and x all
  room_of_different d e = omega (arith, whole x all hx e, whole y all hy e)

  -- .. and equal ones leave nothing, whatever is taken from nothing
  left_of_equal : (a b : ℕ) → y ≡ x → all ≡ 0 → all - a - b ≡ third_of x y
  unfolding third_of
  left_of_equal a b e z = let none : 0 ≡ third_of x y = simp (lt-ltb x 3 hx, lt-ltb y 3 hy, eq-eqb y x e) in omega arith

  room_of_equal : (a : ℕ) → all ≡ 0 → bit_and y all ≤ all - a
  room_of_equal a z = omega (arith, and_le_r y all)

pub returns-then-x-ge-CODES : goal.returns-then-x-ge-CODES
unfolding third_of
returns-then-x-ge-CODES c = search le-ltb

pub returns-then-y-ge-CODES : goal.returns-then-y-ge-CODES
unfolding third_of
returns-then-y-ge-CODES c = search (lt-ltb, le-ltb)

pub returns : goal.returns
returns c = elim c.if-y-x.branch [ then-y-x w ↦ search left_of_equal | else-y-x w ↦ search left_of_different ]

pub overflow_sub-result : goal.overflow_sub-result
overflow_sub-result c = search and_le_r

pub overflow_sub-result-2 : goal.overflow_sub-result-2
overflow_sub-result-2 c = elim c.if-y-x.branch [ then-y-x w ↦ search room_of_equal | else-y-x w ↦ search room_of_different ]

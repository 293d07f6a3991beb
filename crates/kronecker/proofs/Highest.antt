-- What choices share: by the highest variable, what a choice costs comes from the costs of the same choice without it, of the function's lower half, upper half and change.
-- A tree takes the lowest variable first, so the highest is brought out through all the others.
-- Assumes nothing.
use mathlib.Core.Path.{◌≡◌, refl, sym, ap, ap₂, ◌∙◌, fun_ext}
use mathlib.Core.Bool.{Bool, true, false, ◌&&◌}
use Prim.Native.Nat.{ℕ, zero, suc, ◌+◌, ◌*◌, ◌/◌, ◌%◌, ◌^◌, ◌<◌}
use native.Mathlib.Nat.{pow-suc, mul_assoc, add_comm}
use native.Mathlib.Omega.{arith}
use lib.Bits.{bit_xor}
use Rattle.bits.specs.Bits.{bit}
use Rattle.bits.proofs.Bools.{bit_one}
use Rattle.bits.proofs.Bits.{bit_lt, bit_zero, bit_shr, bit_xor_bits}
use Rattle.polarity.proofs.Subsets.{xor_parity}
use Rattle.trees.specs.declared.Expansion.{Expansion}
use Rattle.trees.specs.declared.Expansion.TheVariants.{Shannon, Positive, Negative}
use Rattle.trees.specs.Trees.{first, second, unmarked, Tree, tree_cost}
use Rattle.kronecker.specs.Choices.{expansion_of, choice_tree}
use Rattle.kronecker.specs.Words.{Half, low_half, high_half, sum_half, half_of, highest, products_of, cost_of}

-- ---- the branches of an expansion are halves by the lowest variable

abbrev first_of : Expansion → Half
first_of Shannon = low_half
first_of Positive = low_half
first_of Negative = high_half

abbrev second_of : Expansion → Half
second_of Shannon = high_half
second_of Positive = sum_half
second_of Negative = sum_half

abbrev lowest : Half → (ℕ → ℕ) → ℕ → ℕ
lowest h f a = half_of h (f (2 * a)) (f (2 * a + 1))

first_is : (e : Expansion) (f : ℕ → ℕ) → first e f ≡ lowest (first_of e) f
first_is Shannon f = refl
first_is Positive f = refl
first_is Negative f = refl

second_is : (e : Expansion) (f : ℕ → ℕ) → second e f ≡ lowest (second_of e) f
second_is Shannon f = refl
second_is Positive f = refl
second_is Negative f = refl

-- ---- a half by the lowest variable and one by the highest, in either order

four : (x y z w : ℕ) → ((x + y) % 2 + (z + w) % 2) % 2 ≡ ((x + z) % 2 + (y + w) % 2) % 2
four x y z w = two (x + y) (z + w) ∙ ap (λ (t : ℕ). t % 2) (regroup x y z w) ∙ sym (two (x + z) (y + w))
  where
    two : (a b : ℕ) → (a % 2 + b % 2) % 2 ≡ (a + b) % 2
    two a b = omega arith

    regroup : (x y z w : ℕ) → x + y + (z + w) ≡ x + z + (y + w)
    regroup x y z w = omega arith

swap : (g h : Half) (x y z w : ℕ) → half_of h (half_of g x y) (half_of g z w) ≡ half_of g (half_of h x z) (half_of h y w)
swap low_half low_half x y z w = refl
swap low_half high_half x y z w = refl
swap low_half sum_half x y z w = refl
swap high_half low_half x y z w = refl
swap high_half high_half x y z w = refl
swap high_half sum_half x y z w = refl
swap sum_half low_half x y z w = refl
swap sum_half high_half x y z w = refl
swap sum_half sum_half x y z w = four x y z w

commute : (n : ℕ) (g h : Half) (f : ℕ → ℕ) → highest n h (lowest g f) ≡ lowest g (highest (suc n) h f)
commute n g h f = fun_ext (λ a.
    let even : 2 * (2 ^ n + a) ≡ 2 ^ suc n + 2 * a = omega (arith, pow-suc 2 n) in
    let odd : 2 * (2 ^ n + a) + 1 ≡ 2 ^ suc n + (2 * a + 1) = omega (arith, pow-suc 2 n) in
    ap₂ (λ (x y : ℕ). half_of h (half_of g (f (2 * a)) (f (2 * a + 1))) (half_of g (f x) (f y))) even odd
    ∙ swap g h (f (2 * a)) (f (2 * a + 1)) (f (2 ^ suc n + 2 * a)) (f (2 ^ suc n + (2 * a + 1))))

-- ---- what a choice costs by its lowest digit, and by its highest

by_lowest : (n x : ℕ) (e : Expansion) (y : ℕ) (free : Bool) (f : ℕ → ℕ) → expansion_of (x % 3) ≡ e → x / 3 ≡ y
    → tree_cost (choice_tree (suc n) x) free f
    ≡ tree_cost (choice_tree n y) (free && unmarked e) (lowest (first_of e) f) + tree_cost (choice_tree n y) false (lowest (second_of e) f)
unfolding choice_tree tree_cost
by_lowest n x e y free f ee ey =
    let d : Expansion = expansion_of (x % 3) in
    ap₂ ◌+◌ (ap (tree_cost (choice_tree n (x / 3)) (free && unmarked d)) (first_is d f)) (ap (tree_cost (choice_tree n (x / 3)) false) (second_is d f))
    ∙ ap₂ (λ (c : Expansion) (z : ℕ). tree_cost (choice_tree n z) (free && unmarked c) (lowest (first_of c) f) + tree_cost (choice_tree n z) false (lowest (second_of c) f)) ee ey

-- the other digits of a choice that has the digit d on top
digits : (n d x : ℕ) → ((d * 3 ^ suc n + x) % 3 ≡ x % 3) × ((d * 3 ^ suc n + x) / 3 ≡ d * 3 ^ n + x / 3)
digits n d x =
    let e : d * 3 ^ suc n ≡ d * 3 ^ n * 3 = ap (λ (p : ℕ). d * p) (pow-suc 3 n) ∙ sym (mul_assoc d (3 ^ n) 3) in
    omega (arith, e)

and_swap : (a b c : Bool) → (a && b) && c ≡ (a && c) && b
and_swap true true true = refl
and_swap true true false = refl
and_swap true false true = refl
and_swap true false false = refl
and_swap false b c = refl

-- with one variable it is both
alike : (y z : ℕ) (b : Bool) (h : Half) (f : ℕ → ℕ) → tree_cost (choice_tree 0 y) b (lowest h f) ≡ tree_cost (choice_tree 0 z) b (highest 0 h f)
unfolding choice_tree tree_cost
alike y z b h f = refl

by_highest : (n d x : ℕ) (free : Bool) (f : ℕ → ℕ) → d < 3 → x < 3 ^ n
    → tree_cost (choice_tree (suc n) (d * 3 ^ n + x)) free f
    ≡ tree_cost (choice_tree n x) (free && unmarked (expansion_of d)) (highest n (first_of (expansion_of d)) f)
    + tree_cost (choice_tree n x) false (highest n (second_of (expansion_of d)) f)
by_highest zero d x free f hd hx =
    let low : (d * 3 ^ 0 + x) % 3 ≡ d = omega arith in
    by_lowest 0 (d * 3 ^ 0 + x) (expansion_of d) _ free f (ap expansion_of low) refl
    ∙ ap₂ ◌+◌ (alike _ x (free && unmarked (expansion_of d)) (first_of (expansion_of d)) f) (alike _ x false (second_of (expansion_of d)) f)
by_highest (suc n) d x free f hd hx =
    let t : Expansion = expansion_of d in
    let e : Expansion = expansion_of (x % 3) in
    let u : Tree n = choice_tree n (x / 3) in
    let less : x / 3 < 3 ^ n = omega (arith, pow-suc 3 n) in
    let whole = by_lowest (suc n) (d * 3 ^ suc n + x) e (d * 3 ^ n + x / 3) free f (ap expansion_of (digits n d x).0) (digits n d x).1 in
    let one = by_highest n d (x / 3) (free && unmarked e) (lowest (first_of e) f) hd less in
    let two = by_highest n d (x / 3) false (lowest (second_of e) f) hd less in
    let left = by_lowest n x e (x / 3) (free && unmarked t) (highest (suc n) (first_of t) f) refl refl in
    let right = by_lowest n x e (x / 3) false (highest (suc n) (second_of t) f) refl refl in
    let ll = ap₂ (tree_cost u) (and_swap free (unmarked e) (unmarked t)) (commute n (first_of e) (first_of t) f) in
    let lr = ap (tree_cost u false) (commute n (first_of e) (second_of t) f) in
    let rl = ap (tree_cost u false) (commute n (second_of e) (first_of t) f) in
    let rr = ap (tree_cost u false) (commute n (second_of e) (second_of t) f) in
    omega (arith, whole, one, two, left, right, ll, lr, rl, rr)

-- ---- with no variable left

-- a word's function has one product where its lowest bit is 1, and it is free
pub lowest_products : (w x : ℕ) → products_of 0 (bit w) x ≡ w % 2
unfolding choice_tree tree_cost
lowest_products w x = bit_one (bit w 0) (bit_lt w 0) ∙ bit_zero w

pub lowest_free : (f : ℕ → ℕ) (x : ℕ) → cost_of 0 f x ≡ 0
unfolding choice_tree tree_cost
lowest_free f x = refl

-- ---- the three digits of the highest variable

stays : (b : Bool) → (b && true) ≡ b
stays true = refl
stays false = refl

module _ (n x : ℕ) (h : x < 3 ^ n) (free : Bool) (f : ℕ → ℕ) where
  -- Shannon: a literal leads to both branches
  pub shannon_digit : tree_cost (choice_tree (suc n) x) free f ≡ products_of n f x + products_of n (highest n high_half f) x
  shannon_digit =
      let e : 0 * 3 ^ n + x ≡ x = omega arith in
      ap (λ (y : ℕ). tree_cost (choice_tree (suc n) y) free f) (sym e) ∙ by_highest n 0 x free f (omega arith) h ∙ paid free
    where
      paid : (b : Bool) → tree_cost (choice_tree n x) (b && false) f + products_of n (highest n high_half f) x ≡ products_of n f x + products_of n (highest n high_half f) x
      paid true = refl
      paid false = refl

  -- positive and negative Davio: none leads to the first
  pub positive_digit : tree_cost (choice_tree (suc n) (3 ^ n + x)) free f ≡ tree_cost (choice_tree n x) free f + products_of n (highest n sum_half f) x
  positive_digit =
      let e : 1 * 3 ^ n + x ≡ 3 ^ n + x = omega arith in
      ap (λ (y : ℕ). tree_cost (choice_tree (suc n) y) free f) (sym e) ∙ by_highest n 1 x free f (omega arith) h ∙ ap (λ (b : Bool). tree_cost (choice_tree n x) b f + products_of n (highest n sum_half f) x) (stays free)

  pub negative_digit : tree_cost (choice_tree (suc n) (3 ^ n + 3 ^ n + x)) free f ≡ tree_cost (choice_tree n x) free (highest n high_half f) + products_of n (highest n sum_half f) x
  negative_digit =
      let e : 2 * 3 ^ n + x ≡ 3 ^ n + 3 ^ n + x = omega arith in
      ap (λ (y : ℕ). tree_cost (choice_tree (suc n) y) free f) (sym e) ∙ by_highest n 2 x free f (omega arith) h ∙ ap (λ (b : Bool). tree_cost (choice_tree n x) b (highest n high_half f) + products_of n (highest n sum_half f) x) (stays free)

-- ---- the halves of a word's function

module _ (n w u : ℕ) (is : u ≡ w / 2 ^ 2 ^ n) where
  pub upper_word : highest n high_half (bit w) ≡ bit u
  upper_word = fun_ext (λ a. sym (ap (λ (x : ℕ). bit x a) is ∙ bit_shr w (2 ^ n) a ∙ ap (bit w) (add_comm a (2 ^ n))))

  pub change_word : highest n sum_half (bit w) ≡ bit (bit_xor w u)
  change_word = fun_ext (λ a.
      ap (λ (x : ℕ). (bit w a + x) % 2) (λ i. upper_word i a)
      ∙ sym (bit_xor_bits w u a ∙ xor_parity (bit w a) (bit u a) (bit_lt w a) (bit_lt u a)))

-- The list of any tree of a function has the function's value at each assignment, and its cubes are good.
-- Assumes nothing.
use mathlib.Core.Path.{◌≡◌, refl, sym, ap, ap₂, ◌∙◌}
use mathlib.Core.Bool.{Bool, true, false, ◌&&◌, cond}
use mathlib.Core.List.{[], ◌∷◌, ◌++◌}
use Prim.Native.Nat.{ℕ, zero, suc, ◌+◌, ◌*◌, ◌/◌, ◌%◌, ◌^◌, ◌≤◌, ◌<◌}
use native.Mathlib.Nat.{pow-suc, add-zero, mul-zero, one-mul, add-mod, div-one, div-eq_of_lt}
use native.Mathlib.Numerals.{add-one}
use native.Mathlib.Omega.{arith}
use lib.Dec.{eqb}
use lib.Pow.{shr-shr}
use Rattle.bits.specs.Bits.{bit}
use Rattle.bits.specs.Sums.{one_if, tally, All}
use Rattle.bits.proofs.Bits.{bit_lt}
use Rattle.bits.proofs.Bools.{all_ext}
use Rattle.bits.proofs.Sums.{tally_append, all_append}
use Rattle.cube.specs.declared.Cube.{Cube}
use Rattle.cube.specs.Cubes.{with_code, one, met, holds, Good}
use Rattle.cube.specs.Lists.{trues, list_value}
use Rattle.cube.proofs.Codes.{code_same, code_other, with_put, good_more, one_good}
use Rattle.trees.specs.declared.Expansion.{Expansion}
use Rattle.trees.specs.declared.Expansion.TheVariants.{Shannon, Positive, Negative}
use Rattle.trees.specs.Trees.{first, second, first_code, second_code, Tree, leaf, node, leaf_list, products, list_of}
use Rattle.trees.proofs.Prices.{first_code_lem, second_code_lem, with_good}

-- ---- a node

-- the values of the two branches are 0 or 1 where those of the function are
module _ (f : ℕ → ℕ) (bits : (x : ℕ) → f x < 2) where
  pub first_bits : (e : Expansion) (x : ℕ) → first e f x < 2
  first_bits Shannon x = bits (2 * x)
  first_bits Positive x = bits (2 * x)
  first_bits Negative x = bits (2 * x + 1)

  pub second_bits : (e : Expansion) (x : ℕ) → second e f x < 2
  second_bits Shannon x = bits (2 * x + 1)
  second_bits Positive x = omega arith
  second_bits Negative x = omega arith

  -- equations 2.1 to 2.3 of 002: where the variable is b, and h says whether the product that leads to the node is true
  expansion : (e : Expansion) (h : Bool) (b q : ℕ) → b < 2
      → (one_if (h && met (first_code e) b) * first e f q + one_if (h && met (second_code e) b) * second e f q) % 2 ≡ one_if h * f (2 * q + b)
  expansion e false b q l = omega arith
  expansion Shannon true zero q l = rw (add-zero (2 * q)) (omega (arith, bits (2 * q)))
  expansion Shannon true (suc zero) q l = omega (arith, bits (2 * q + 1))
  expansion Positive true zero q l = rw (add-zero (2 * q)) (omega (arith, bits (2 * q)))
  expansion Positive true (suc zero) q l = omega (arith, bits (2 * q), bits (2 * q + 1))
  expansion Negative true zero q l = rw (add-zero (2 * q)) (omega (arith, bits (2 * q), bits (2 * q + 1)))
  expansion Negative true (suc zero) q l = omega (arith, bits (2 * q + 1))
  expansion e true (suc (suc b)) q l = omega arith

-- the product that leads to a branch: true where the one before it is, and its literal
holds_next : (k x : ℕ) (c : Cube) (a : ℕ) → k < 32 → x < 3 → holds (suc k) (with_code c k x) a ≡ (holds k c a && met x (bit a k))
unfolding holds
holds_next k x c a few h =
    ap (λ (d : Cube). holds (suc k) d a) (with_put c k x few)
    ∙ ap₂ ◌&&◌ (all_ext k _ _ (λ i l. ap (λ (y : ℕ). met y (bit a i)) (code_other c k x i (λ e. omega (arith, e)))))
    (ap (λ (y : ℕ). met y (bit a k)) (code_same c k x h))

-- ---- the value of a tree's products

-- with no variable left: c where the function is 1
leaf_value : (n x : ℕ) (c : Cube) (a : ℕ) → x < 2 → trues n (cond (eqb x 0) [] (c ∷ [])) a % 2 ≡ one_if (holds n c a) * x
unfolding trues tally
leaf_value n zero c a h = sym (mul-zero (one_if (holds n c a)))
leaf_value n (suc zero) c a h = go (holds n c a)
  where
    go : (b : Bool) → (one_if b + 0) % 2 ≡ one_if b * 1
    go true = refl
    go false = refl
leaf_value n (suc (suc x)) c a h = omega arith

-- an assignment of the variables from k on, by the lowest of them
halved : (a k : ℕ) → a / 2 ^ k ≡ 2 * (a / 2 ^ suc k) + bit a k
halved a k = rw (← add-one k) (omega (arith, sym (shr-shr a k 1)))

-- the product c leads to the tree and k is its first variable: where c is true the value is that of f
tree_value : {j : ℕ} (t : Tree j) (n k : ℕ) (c : Cube) (f : ℕ → ℕ) (a : ℕ) → k + j ≡ n → n ≤ 32 → a < 2 ^ n → ((x : ℕ) → f x < 2)
    → trues n (products t k c f) a % 2 ≡ one_if (holds k c a) * f (a / 2 ^ k)
unfolding products leaf_list trues
tree_value leaf n k c f a e few l bits =
    let same : n ≡ k = omega arith in
    let z : a / 2 ^ k ≡ 0 = div-eq_of_lt (rw same at l) in
    rw (same, z) (leaf_value k (f 0) c a (bits 0))
tree_value (node e t u) n k c f a p few l bits =
    let lo = tree_value t n (suc k) (with_code c k (first_code e)) (first e f) a (omega arith) few l (first_bits f bits e) in
    let hi = tree_value u n (suc k) (with_code c k (second_code e)) (second e f) a (omega arith) few l (second_bits f bits e) in
    rw (tally_append, add-mod, lo, hi, holds_next k (first_code e) c a (omega arith) (first_code_lem e), holds_next k (second_code e) c a (omega arith) (omega (arith, second_code_lem e)))
    (expansion f bits e (holds k c a) (bit a k) (a / 2 ^ suc k) (bit_lt a k))
    ∙ ap (λ (y : ℕ). one_if (holds k c a) * f y) (sym (halved a k))

-- whatever the expansions are, the list has the function's value
pub list_value_lem : {n : ℕ} (t : Tree n) (f : ℕ → ℕ) → n ≤ 32 → ((x : ℕ) → f x < 2) → (a : ℕ) → a < 2 ^ n → list_value n (list_of t f) a ≡ f a
unfolding list_value holds
list_value_lem {n} t f few bits a l = tree_value t n 0 one f a (omega arith) few l bits ∙ rw (div-one, one-mul)

-- only the values at the assignments of its variables count
pub products_cong : {j : ℕ} (t : Tree j) (k : ℕ) (c : Cube) (f g : ℕ → ℕ) → ((a : ℕ) → a < 2 ^ j → f a ≡ g a) → products t k c f ≡ products t k c g
unfolding products leaf_list
products_cong leaf k c f g same = ap (λ (x : ℕ). cond (eqb x 0) [] (c ∷ [])) (same 0 (omega arith))
products_cong (node {n} e t u) k c f g same =
    ap₂ ◌++◌
    (products_cong t (suc k) (with_code c k (first_code e)) (first e f) (first e g) (λ a h. first_same e a (even a h) (odd a h)))
    (products_cong u (suc k) (with_code c k (second_code e)) (second e f) (second e g) (λ a h. second_same e a (even a h) (odd a h)))
  where
    even : (a : ℕ) → a < 2 ^ n → f (2 * a) ≡ g (2 * a)
    even a h = same (2 * a) (omega (arith, pow-suc 2 n))

    odd : (a : ℕ) → a < 2 ^ n → f (2 * a + 1) ≡ g (2 * a + 1)
    odd a h = same (2 * a + 1) (omega (arith, pow-suc 2 n))

    first_same : (e : Expansion) (a : ℕ) → f (2 * a) ≡ g (2 * a) → f (2 * a + 1) ≡ g (2 * a + 1) → first e f a ≡ first e g a
    first_same Shannon a p q = p
    first_same Positive a p q = p
    first_same Negative a p q = q

    second_same : (e : Expansion) (a : ℕ) → f (2 * a) ≡ g (2 * a) → f (2 * a + 1) ≡ g (2 * a + 1) → second e f a ≡ second e g a
    second_same Shannon a p q = q
    second_same Positive a p q = ap₂ (λ (x y : ℕ). (x + y) % 2) p q
    second_same Negative a p q = ap₂ (λ (x y : ℕ). (x + y) % 2) p q

-- ---- its cubes

products_good : {j : ℕ} (t : Tree j) (n k : ℕ) (c : Cube) (f : ℕ → ℕ) → k + j ≡ n → n ≤ 32 → Good k c → All (Good n) (products t k c f)
unfolding products leaf_list
products_good leaf n k c f e few g = go (eqb (f 0) 0)
  where
    go : (b : Bool) → All (Good n) (cond b [] (c ∷ []))
    go true = tt
    go false = (good_more k n c (omega arith) g, tt)
products_good (node e t u) n k c f p few g =
    all_append (Good n) (products t (suc k) (with_code c k (first_code e)) (first e f)) (products u (suc k) (with_code c k (second_code e)) (second e f))
    (products_good t n (suc k) _ (first e f) (omega arith) few (with_good k c (first_code e) (omega arith) (first_code_lem e) g))
    (products_good u n (suc k) _ (second e f) (omega arith) few (with_good k c (second_code e) (omega arith) (omega (arith, second_code_lem e)) g))

pub list_good : {n : ℕ} (t : Tree n) (f : ℕ → ℕ) → n ≤ 32 → All (Good n) (list_of t f)
list_good {n} t f few = products_good t n 0 one f (omega arith) few (one_good 0)

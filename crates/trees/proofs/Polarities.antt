-- Every polarity's form is a tree: the tree of the polarity has the form's products, each as often, in another order.
-- Both are made a sum over the sets of variables. The tree takes the lowest variable first, so its sum is taken apart there, and with it the coefficients.
-- Assumes nothing.
use mathlib.Core.Path.{◌≡◌, refl, sym, ap, ap₂, ◌∙◌}
use mathlib.Core.Bool.{Bool, true, false, ◌&&◌, not, cond}
use mathlib.Core.List.{[], ◌∷◌}
use Prim.Native.Nat.{ℕ, zero, suc, ◌+◌, ◌-◌, ◌*◌, ◌/◌, ◌%◌, ◌^◌, ◌≤◌, ◌<◌, min}
use native.Mathlib.Nat.{add-zero, zero-add, mul_comm, pow-suc, mod-eq_of_lt, le_refl}
use native.Mathlib.Omega.{arith}
use borrow.Author.Tests.{eqb-true, eq-eqb}
use lib.Arith.{lt-one}
use lib.Bits.{bit_and, bit_xor, differ, and_step, xor_step, xor_zero_l}
use lib.Dec.{eqb, ltb}
use Rattle.bits.specs.Below.{sum_below}
use Rattle.bits.specs.Bits.{bit, within}
use Rattle.bits.specs.Sums.{one_if, tally}
use Rattle.bits.proofs.Below.{sum_cong, sum_plus, sum_parity, tally_those}
use Rattle.bits.proofs.Bits.{bit_zero, bit_suc, half_lt}
use Rattle.bits.proofs.Bools.{both_true, true_both, same_bool}
use Rattle.bits.proofs.Sums.{tally_all, tally_append}
use Rattle.cube.specs.declared.Cube.{Cube}
use Rattle.cube.specs.Cubes.{code_of, code, with_code, one, bare, Good}
use Rattle.cube.proofs.Codes.{code_same, code_other, with_put, one_good, cube_ext}
use Rattle.polarity.specs.Cost.{cost}
use Rattle.polarity.specs.Forms.{parity_within, coefficient, product, form_from, form_list}
use Rattle.polarity.specs.Words.{nonzero}
use Rattle.polarity.proofs.Forms.{product_code, product_good}
use Rattle.polarity.proofs.Parities.{parity_zero}
use Rattle.trees.specs.declared.Expansion.{Expansion}
use Rattle.trees.specs.Trees.{first, second, first_code, second_code, leaf_list, products, list_of, davio, polarity_tree}
use Rattle.trees.proofs.Prices.{with_good}
use Rattle.trees.proofs.Values.{first_bits, second_bits}

-- ---- the lowest variable

-- a sum over sets, where f goes by the lowest variable and the others: those without it, and those with it. For the coefficients and for the tree
sum_lowest : (n : ℕ) (f : ℕ → ℕ) (g : ℕ → ℕ → ℕ) → ((s : ℕ) → f s ≡ g (s % 2) (s / 2)) → sum_below (2 ^ suc n) f ≡ sum_below (2 ^ n) (g 0) + sum_below (2 ^ n) (g 1)
unfolding sum_below
sum_lowest n f g same = ap (λ (m : ℕ). sum_below m f) (pow-suc 2 n) ∙ go (2 ^ n)
  where
    go : (m : ℕ) → sum_below (m * 2) f ≡ sum_below m (g 0) + sum_below m (g 1)
    go zero = refl
    go (suc m) =
        let e : suc m * 2 ≡ suc (suc (m * 2)) = omega arith in
        let even : (m * 2 % 2 ≡ 0) × (m * 2 / 2 ≡ m) = omega arith in
        let odd : (suc (m * 2) % 2 ≡ 1) × (suc (m * 2) / 2 ≡ m) = omega arith in
        rw e
        (omega (arith, go m, same (m * 2) ∙ ap₂ g even.0 even.1, same (suc (m * 2)) ∙ ap₂ g odd.0 odd.1))

-- every bit of t is one of s: the lowest, and the others. For the coefficients, which are parities over the t within s
within_lowest : (t s : ℕ) → within t s ≡ (within (t / 2) (s / 2) && eqb (min (t % 2) (s % 2)) (t % 2))
within_lowest t s =
    let a : ℕ = bit_and (t / 2) (s / 2) in
    let b : ℕ = min (t % 2) (s % 2) in
    let b_lt : b < 2 = omega arith in
    same_bool (within t s) (within (t / 2) (s / 2) && eqb b (t % 2))
    (λ e.
    let d : a * 2 + b ≡ t = sym (and_step t s) ∙ eqb-true (bit_and t s) t e in
    true_both (eq-eqb a (t / 2) (omega arith)) (eq-eqb b (t % 2) (omega arith)))
    (λ e.
    let p = both_true (within (t / 2) (s / 2)) (eqb b (t % 2)) e in
    eq-eqb (bit_and t s) t (and_step t s ∙ omega (arith, eqb-true a (t / 2) p.0, eqb-true b (t % 2) p.1)))

-- the branch that sets without the node's variable belong to, and the one of those with it
abbrev branch : ℕ → Expansion → (ℕ → ℕ) → ℕ → ℕ
branch zero e f = first e f
branch (suc b) e f = second e f

-- the coefficients of a function under p are those of its two branches, under the rest of p: what the form does at the node that the tree begins with
coefficient_lowest : (n p : ℕ) (f : ℕ → ℕ) (s : ℕ) → coefficient (suc n) p f s ≡ coefficient n (p / 2) (branch (s % 2) (davio (p % 2)) f) (s / 2)
unfolding parity_within
coefficient_lowest n p f s =
    let g : ℕ → ℕ → ℕ = λ a u. cond (within u (s / 2) && eqb (min a (s % 2)) a) (f (bit_xor u (p / 2) * 2 + differ a (p % 2))) 0 in
    ap (λ (x : ℕ). x % 2)
    (sum_lowest n (λ t. cond (within t s) (f (bit_xor t p)) 0) g (λ t. ap₂ (λ (b : Bool) (x : ℕ). cond b (f x) 0) (within_lowest t s) (xor_step t p))
    ∙ sym (sum_plus (2 ^ n) (g 0) (g 1)))
    ∙ sum_parity (2 ^ n) (λ u. g 0 u + g 1 u) _ (λ u. go (within u (s / 2)) (s % 2) (p % 2) (bit_xor u (p / 2)) (omega arith) (omega arith))
  where
    go : (w : Bool) (b r q : ℕ) → b < 2 → r < 2
        → (cond (w && eqb (min 0 b) 0) (f (q * 2 + differ 0 r)) 0 + cond (w && eqb (min 1 b) 1) (f (q * 2 + differ 1 r)) 0) % 2
        ≡ cond w (branch b (davio r) f q) 0 % 2
    go false b r q hb hr = refl
    go true zero zero q hb hr = rw (mul_comm q 2, add-zero (2 * q)) (omega arith)
    go true zero (suc zero) q hb hr = rw (mul_comm q 2) (omega arith)
    go true (suc zero) zero q hb hr = rw (mul_comm q 2, add-zero (2 * q)) (omega arith)
    go true (suc zero) (suc zero) q hb hr = rw (mul_comm q 2, add-zero (2 * q)) (omega arith)
    go true zero (suc (suc r)) q hb hr = absurd (omega arith)
    go true (suc zero) (suc (suc r)) q hb hr = absurd (omega arith)
    go true (suc (suc b)) r q hb hr = absurd (omega arith)

-- ---- the cube that a tree makes of a set

-- what leads to a leaf from c on, where j variables are left and k is the next: c with p's literal at each variable of s
unfoldable grown : ℕ → ℕ → ℕ → ℕ → Cube → Cube
grown zero k p s c = c
grown (suc j) k p s c = grown j (suc k) (p / 2) (s / 2) (with_code c k (code_of (s % 2) (1 - p % 2)))

-- each of them is a code
literal : (s p : ℕ) → code_of s (1 - p) < 3
literal zero p = omega arith
literal (suc s) p = omega arith

-- its codes below k are those of c ..
grown_below : (j k p s : ℕ) (c : Cube) → k + j ≤ 32 → (i : ℕ) → i < k → code (grown j k p s c) i ≡ code c i
unfolding grown
grown_below zero k p s c few i l = refl
grown_below (suc j) k p s c few i l =
    grown_below j (suc k) (p / 2) (s / 2) (with_code c k (code_of (s % 2) (1 - p % 2))) (omega arith) i (omega arith)
    ∙ ap (λ (d : Cube). code d i) (with_put c k _ (omega arith)) ∙ code_other c k _ i (λ e. omega (arith, e))

-- .. and from k on those that the product of s has
grown_code : (j k p s : ℕ) (c : Cube) → k + j ≤ 32 → (i : ℕ) → i < j → code (grown j k p s c) (k + i) ≡ code_of (bit s i) (1 - bit p i)
unfolding grown
grown_code zero k p s c few i l = absurd (omega arith)
grown_code (suc j) k p s c few zero l =
    let x : ℕ = code_of (s % 2) (1 - p % 2) in
    rw (add-zero k, bit_zero s, bit_zero p)
    (grown_below j (suc k) (p / 2) (s / 2) (with_code c k x) (omega arith) k (le_refl (suc k))
    ∙ ap (λ (d : Cube). code d k) (with_put c k x (omega arith)) ∙ code_same c k x (literal (s % 2) (p % 2)))
grown_code (suc j) k p s c few (suc i) l =
    let e : k + suc i ≡ suc k + i = omega arith in
    rw (e, bit_suc s i, bit_suc p i) (grown_code j (suc k) (p / 2) (s / 2) (with_code c k (code_of (s % 2) (1 - p % 2))) (omega arith) i (omega arith))

-- it is good for the variables that it has got
grown_good : (j k p s n : ℕ) (c : Cube) → k + j ≡ n → n ≤ 32 → Good k c → Good n (grown j k p s c)
unfolding grown
grown_good zero k p s n c e few g = rw (← e, add-zero k) g
grown_good (suc j) k p s n c e few g =
    grown_good j (suc k) (p / 2) (s / 2) n _ (omega arith) few (with_good k c _ (omega arith) (literal (s % 2) (p % 2)) g)

-- so from the product that has no literal on it is the form's product of s
grown_product : (n p s : ℕ) → n ≤ 32 → s < 2 ^ n → grown n 0 p s one ≡ product p s
grown_product n p s few l =
    cube_ext n (grown n 0 p s one) (product p s) (grown_good n 0 p s n one (zero-add n) few (one_good 0)) (product_good p s n l)
    (λ i h. ap (code (grown n 0 p s one)) (sym (zero-add i)) ∙ grown_code n 0 p s one (omega arith) i h ∙ sym (product_code p s i))

-- ---- the tree's products

-- no literal leads to the first branch, and p's to the second
davio_codes : (b : ℕ) → b < 2 → (first_code (davio b) ≡ 2) × (second_code (davio b) ≡ 1 - b)
davio_codes zero h = (refl, refl)
davio_codes (suc zero) h = (refl, refl)
davio_codes (suc (suc b)) h = absurd (omega arith)

-- 1 for a coefficient that is not 0 where its product passes the test
abbrev once : ℕ → Bool → ℕ
once x b = cond (nonzero x) (one_if b) 0

-- the tree has one product for each nonzero coefficient: by the lowest variable, the sets without it in the first branch and those with it in the second
tree_tally : (g : Cube → Bool) (j k p : ℕ) (c : Cube) (f : ℕ → ℕ) → p < 2 ^ j → ((x : ℕ) → f x < 2)
    → tally g (products (polarity_tree j p) k c f) ≡ sum_below (2 ^ j) (λ s. once (coefficient j p f s) (g (grown j k p s c)))
unfolding products leaf_list polarity_tree grown sum_below tally
tree_tally g zero k p c f h bits = rw (parity_zero (λ t. f (bit_xor t p)) 0, xor_zero_l p, lt-one h, mod-eq_of_lt (bits 0)) (go (eqb (f 0) 0))
  where
    go : (b : Bool) → tally g (cond b [] (c ∷ [])) ≡ 0 + cond (not b) (one_if (g c)) 0
    go true = refl
    go false = omega arith
tree_tally g (suc j) k p c f h bits =
    let e : Expansion = davio (p % 2) in
    let term : ℕ → ℕ → ℕ = λ b u. once (coefficient j (p / 2) (branch b e f) u) (g (grown j (suc k) (p / 2) u (with_code c k (code_of b (1 - p % 2))))) in
    let codes = davio_codes (p % 2) (omega arith) in
    rw (tally_append, codes.0, codes.1)
    (ap₂ ◌+◌
    (tree_tally g j (suc k) (p / 2) (with_code c k 2) (first e f) (half_lt j p h) (first_bits f bits e))
    (tree_tally g j (suc k) (p / 2) (with_code c k (1 - p % 2)) (second e f) (half_lt j p h) (second_bits f bits e)))
    ∙ sym (sum_lowest j _ term (λ s. ap (λ (x : ℕ). once x (g (grown (suc j) k p s c))) (coefficient_lowest j p f s)))

-- ---- the form

module _ (n p : ℕ) (f : ℕ → ℕ) (few : n ≤ 32) (h : p < 2 ^ n) (bits : (x : ℕ) → f x < 2) where
  -- the tree has the form's products, each as often: of both as many pass any test
  pub form_is_tree : (g : Cube → Bool) → tally g (list_of (polarity_tree n p) f) ≡ tally g (form_list n p f)
  unfolding form_from
  form_is_tree g =
      tree_tally g n 0 p one f h bits
      ∙ sum_cong (2 ^ n) _ _ (λ s l.
      ap (λ (c : Cube). once (coefficient n p f s) (g c)) (grown_product n p s few l)
      ∙ ap (λ (t : ℕ). once (coefficient n p f t) (g (product p t))) (sym (zero-add s)))
      ∙ sym (tally_those g (product p) (λ s. nonzero (coefficient n p f s)) (2 ^ n) 0)

  -- so it costs as much
  pub form_tree_cost : cost (list_of (polarity_tree n p) f) ≡ cost (form_list n p f)
  unfolding cost
  form_tree_cost =
      ap₂ (λ (x y : ℕ). x - one_if (ltb 0 y))
      (sym (tally_all (list_of (polarity_tree n p) f)) ∙ form_is_tree (λ c. true) ∙ tally_all (form_list n p f))
      (form_is_tree bare)

-- A list of products without the literals that a polarity forbids, in any order and with any repeats, is no shorter than the form of its function, and
-- costs no less.
-- Assumes nothing.
use mathlib.Core.Path.{◌≡◌, refl, sym, ap, ap₂, ◌∙◌, subst}
use mathlib.Core.Logic.{◌≢◌}
use mathlib.Core.Bool.{Bool, true, false, not, cond}
use mathlib.Core.List.{List, [], ◌∷◌, map}
use Prim.Native.Nat.{ℕ, zero, suc, ◌+◌, ◌-◌, ◌%◌, ◌^◌, ◌≤◌, ◌<◌, zero-le}
use native.Mathlib.Nat.{mod-lt, mod-le, zero-lt-suc, zero-add}
use native.Mathlib.Decide.{ℕ_discrete}
use native.Mathlib.Omega.{arith}
use borrow.Author.Tests.{eq-eqb, ne_eqb, eqb-true, ltb-true, ltb-false}
use lib.Bits.{bit_xor}
use lib.Dec.{eqb, ltb}
use lib.ListN.{length}
use lib.Pow.{pow_pos}
use Rattle.bits.specs.Bits.{bit, within}
use Rattle.bits.specs.Below.{sum_below, those}
use Rattle.bits.specs.Sums.{tally, one_if, All}
use Rattle.bits.proofs.Below.{sum_cong, sum_plus, sum_parity, sum_none, sum_parts, sum_each}
use Rattle.bits.proofs.Sums.{tally_all, tally_ext, all_each}
use Rattle.cube.specs.declared.Cube.{Cube}
use Rattle.cube.specs.Cubes.{code, Good, holds}
use Rattle.cube.specs.Lists.{trues, list_value}
use Rattle.cube.proofs.Codes.{good_seen}
use Rattle.polarity.specs.declared.Counts.{Counts}
use Rattle.polarity.specs.Cost.{some_bare, cost}
use Rattle.polarity.specs.Ranks.{counts_of}
use Rattle.polarity.specs.Forms.{parity_within, coefficient, product, form_from, form_list}
use Rattle.polarity.proofs.Forms.{form_counts, product_holds, form_value}
use Rattle.polarity.proofs.Theorems.{form_unique}
use Rattle.polarity.proofs.Uniqueness.{form_is_only}

-- ---- sums over the numbers below m

-- of a test at one number
one_sum : (m : ℕ) (w : ℕ → Bool) (k : ℕ) → k < m → sum_below m (λ s. cond (w s) (one_if (eqb k s)) 0) ≡ one_if (w k)
unfolding sum_below
one_sum zero w k h = absurd (omega arith)
one_sum (suc m) w k h = go (ℕ_discrete k m) (λ l. one_sum m w k l)
  where
    other : (b : Bool) (s : ℕ) → (k ≡ s → ⊥) → cond b (one_if (eqb k s)) 0 ≡ 0
    other true s d = ap one_if (ne_eqb k s d)
    other false s d = refl

    here : (b : Bool) → cond b (one_if (eqb k k)) 0 ≡ one_if b
    here true = ap one_if (eq-eqb k k refl)
    here false = refl

    go : Dec (k ≡ m) → (k < m → sum_below m (λ s. cond (w s) (one_if (eqb k s)) 0) ≡ one_if (w k))
        → sum_below m (λ s. cond (w s) (one_if (eqb k s)) 0) + cond (w m) (one_if (eqb k m)) 0 ≡ one_if (w k)
    go (yes e) ih =
        let none : sum_below m (λ s. cond (w s) (one_if (eqb k s)) 0) ≡ 0 = sum_none m _ (λ s b. other (w s) s (λ q. omega (arith, e, q))) in
        ap₂ ◌+◌ none (ap (λ (s : ℕ). cond (w s) (one_if (eqb k s)) 0) (sym e) ∙ here (w k)) ∙ zero-add (one_if (w k))
    go (no d) ih =
        let rest : sum_below m (λ s. cond (w s) (one_if (eqb k s)) 0) ≡ one_if (w k) = ih (omega (arith, d)) in
        omega (arith, rest, other (w m) m d)

-- how many of a list's products have the set s
abbrev with_set : List Cube → ℕ → ℕ
with_set l s = tally (λ c. eqb c.seen s) l

-- summed over the sets that pass a test, that is how many products have such a set
by_sets : (m : ℕ) (w : ℕ → Bool) (l : List Cube) → All (λ c. c.seen < m) l → sum_below m (λ s. cond (w s) (with_set l s) 0) ≡ tally (λ c. w c.seen) l
unfolding tally
by_sets m w [] h = sum_none m _ (λ s b. none (w s))
  where
    none : (b : Bool) → ◌≡◌ {A = ℕ} (cond b 0 0) 0
    none true = refl
    none false = refl
by_sets m w (c ∷ l) h =
    sum_cong m _ (λ s. cond (w s) (one_if (eqb c.seen s)) 0 + cond (w s) (with_set l s) 0) (λ s b. apart (w s) (one_if (eqb c.seen s)) (with_set l s))
    ∙ sum_plus m (λ s. cond (w s) (one_if (eqb c.seen s)) 0) (λ s. cond (w s) (with_set l s) 0)
    ∙ ap₂ ◌+◌ (one_sum m w c.seen h.0) (by_sets m w l h.1)
  where
    apart : (b : Bool) (x y : ℕ) → cond b (x + y) 0 ≡ cond b x 0 + cond b y 0
    apart true x y = refl
    apart false x y = refl

-- Of x products without literals one is free. Of the form they leave one where x is odd and none where it is even; a others are left of b.
free_apart : (x a b k m : ℕ) → a ≤ b → x % 2 + a ≡ k → x + b ≡ m → k - one_if (not (eqb (x % 2) 0)) ≤ m - one_if (ltb 0 x)
free_apart x a b k m h ek em = go (eqb (x % 2) 0) (ltb 0 x) refl refl
  where
    go : (t s : Bool) → eqb (x % 2) 0 ≡ t → ltb 0 x ≡ s → k - one_if (not t) ≤ m - one_if s
    go true true e f = omega (arith, eqb-true (x % 2) 0 e, ltb-true 0 x f)
    go true false e f = omega arith
    go false true e f = omega (arith, mod-lt x (zero-lt-suc 1), ltb-true 0 x f)
    go false false e f = omega (arith, mod-lt x (zero-lt-suc 1), ltb-false 0 x f)

-- ---- a list without the forbidden literals

module _ (n p : ℕ) (low : p < 2 ^ n) where
  first_apart : (f : ℕ → ℕ) → f 0 + sum_below (2 ^ n - 1) (λ s. f (1 + s)) ≡ sum_below (2 ^ n) f
  unfolding sum_below
  first_apart f =
      let all : 1 + (2 ^ n - 1) ≡ 2 ^ n = omega (arith, pow_pos n) in
      sym (ap (λ (m : ℕ). sum_below m f) (sym all) ∙ sum_parts 1 (2 ^ n - 1) f ∙ ap (λ (x : ℕ). x + sum_below (2 ^ n - 1) (λ s. f (1 + s))) (zero-add (f 0)))

  -- a product without them is that of its set of variables
  is_product : (c : Cube) → Good n c → ((k : ℕ) → code c k ≢ bit p k) → c ≡ product p c.seen
  unfolding form_from
  is_product c g d =
      go (those (λ s. not (eqb (coefficient n p (list_value n (c ∷ [])) s) 0)) (2 ^ n) 0)
      (form_is_only n p (c ∷ []) (record { good = (g, tt); literals = (d, tt); ascending = (zero-le, tt) }) low (list_value n (c ∷ [])) (λ a h. refl))
    where
      go : (sets : List ℕ) → c ∷ [] ≡ map (product p) sets → c ≡ product p c.seen
      go [] e = let z : ◌≡◌ {A = ℕ} 0 1 = cc in absurd (omega arith)
      go (s ∷ sets) e = let h : c ≡ product p s = cc in h ∙ ap (product p) (sym (ap (λ (d : Cube). d.seen) h))

  module _ (l : List Cube) (goods : All (Good n) l) (literals : All (λ c. (k : ℕ) → code c k ≢ bit p k) l) where
    -- the coefficients: 1 where an odd number of the products has the set
    abbrev odd : ℕ → ℕ
    odd s = with_set l s % 2

    odd_lt : (s : ℕ) → odd s < 2
    odd_lt s = mod-lt (with_set l s) (zero-lt-suc 1)

    below : All (λ c. c.seen < 2 ^ n) l
    below = all_each (Good n) (λ c. c.seen < 2 ^ n) (good_seen n) l goods

    products : (m : List Cube) → All (Good n) m → All (λ c. (k : ℕ) → code c k ≢ bit p k) m → All (λ c. (c ≡ product p c.seen) × (c.seen < 2 ^ n)) m
    products [] g d = tt
    products (c ∷ m) g d = ((is_product c g.0 d.0, good_seen n c g.0), products m g.1 d.1)

    true_where : (a : ℕ) (c : Cube) → (c ≡ product p c.seen) × (c.seen < 2 ^ n) → within c.seen (bit_xor a p) ≡ holds n c a
    true_where a c h = sym (ap (λ (d : Cube). holds n d a) h.0 ∙ product_holds p c.seen n a h.1)

    same_values : (a : ℕ) → list_value n (form_from n p odd) a ≡ list_value n l a
    unfolding parity_within list_value trues
    same_values a =
        form_value n p odd odd_lt a
        ∙ sum_parity (2 ^ n) _ (λ s. cond (within s (bit_xor a p)) (with_set l s) 0) (λ s. mods (within s (bit_xor a p)) (with_set l s))
        ∙ ap (λ (x : ℕ). x % 2) (by_sets (2 ^ n) (λ s. within s (bit_xor a p)) l below
        ∙ tally_ext (λ c. within c.seen (bit_xor a p)) (λ c. holds n c a) (λ c. (c ≡ product p c.seen) × (c.seen < 2 ^ n)) (true_where a) l (products l goods literals))
      where
        mods : (b : Bool) (x : ℕ) → cond b (x % 2) 0 % 2 ≡ cond b x 0 % 2
        mods true x = omega arith
        mods false x = refl

    -- how many products the list has, and how many the form, apart from those of the empty set, which are those without literals
    whole : with_set l 0 + sum_below (2 ^ n - 1) (λ s. with_set l (1 + s)) ≡ length l
    whole = first_apart (with_set l) ∙ by_sets (2 ^ n) (λ s. true) l below ∙ tally_all l

    form_whole : odd 0 + sum_below (2 ^ n - 1) (λ s. odd (1 + s)) ≡ length (form_from n p odd)
    unfolding counts_of
    form_whole = first_apart odd ∙ sym (ap (λ (c : Counts). c.products) (form_counts n p odd odd_lt))

    form_bare : some_bare (form_from n p odd) ≡ not (eqb (odd 0) 0)
    unfolding counts_of
    form_bare = ap (λ (c : Counts). c.constant) (form_counts n p odd odd_lt)

    others : sum_below (2 ^ n - 1) (λ s. odd (1 + s)) ≤ sum_below (2 ^ n - 1) (λ s. with_set l (1 + s))
    others = sum_each (2 ^ n - 1) _ _ (λ s h. mod-le (with_set l (1 + s)) 2)

    no_longer : length (form_from n p odd) ≤ length l
    no_longer = omega (arith, whole, form_whole, others, mod-le (with_set l 0) 2)

    -- the free product of the form is one of the list's; where it has none, the list has none, or two of which one is not free
    no_dearer : cost (form_from n p odd) ≤ cost l
    unfolding cost
    no_dearer =
        subst (λ (b : Bool). length (form_from n p odd) - one_if b ≤ length l - one_if (some_bare l)) (sym form_bare)
        (free_apart (with_set l 0) _ _ (length (form_from n p odd)) (length l) others form_whole whole)

    module _ (f : ℕ → ℕ) (same : (a : ℕ) → a < 2 ^ n → list_value n l a ≡ f a) where
      is_form : form_from n p odd ≡ form_list n p f
      is_form = form_unique n p low f odd odd_lt (λ a h. same_values a ∙ same a h)

      -- The form of the list's function has no more products than the list ..
      pub form_shortest : length (form_list n p f) ≤ length l
      form_shortest = subst (λ (m : List Cube). length m ≤ length l) is_form no_longer

      -- .. and costs no more.
      pub form_cheapest : cost (form_list n p f) ≤ cost l
      form_cheapest = subst (λ (m : List Cube). cost m ≤ cost l) is_form no_dearer

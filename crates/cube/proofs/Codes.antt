-- A cube is its codes: what `put` changes, that good cubes with the same codes are equal, and when a record is good. Over n, for masks of any width.
-- Assumes nothing.
use mathlib.Core.Path.{◌≡◌, refl, sym, ap, ap₂, ◌∙◌, subst}
use mathlib.Core.Logic.{◌≢◌, ⊎_elim}
use mathlib.Core.Bool.{Bool, true, cond, ◌&&◌}
use Prim.Native.Nat.{ℕ, zero, suc, ◌-◌, ◌*◌, ◌%◌, ◌^◌, ◌≤◌, ◌<◌, min, zero-le}
use native.Mathlib.Nat.{one-mul, mul-le-mul_right, le_refl, le_trans, le_of_lt, lt_of_lt_of_le, mod-lt, mod-eq_of_lt, min-le_left, min-eq_left, min-eq_right}
use native.Mathlib.Decide.{ℕ_discrete, dec_lt}
use native.Mathlib.Omega.{arith}
use borrow.Author.Tests.{eqb-true, eq-eqb, ltb-true, lt-ltb, le-ltb, leb-true, le-leb}
use lib.Bits.{bit_and, bit_or, and_le_l, and_mask}
use lib.Dec.{eqb, ltb, leb}
use lib.Pow.{pow_mono, pow_pos}
use Rattle.bits.specs.Bits.{bit, with_bit, within}
use Rattle.bits.proofs.Bools.{both_true, true_both, same_bool, below_or, all_at, all_at₂, one_lt}
use Rattle.bits.proofs.Bits.{bit_lt, bit_ext, bit_high, below_pow, with_same, with_other, with_with, with_comm, within_bit, bit_within, or_none}
use Rattle.cube.specs.declared.Cube.{Cube}
use Rattle.cube.specs.Cubes.{code_of, code, seen_bit, value_bit, put, with_code, mask_bits, one, good, variables_below, Good}

-- ---- a code and its two bits, computed over all of them

code_bits : (x : ℕ) → x < 3 → code_of (seen_bit x) (value_bit x) ≡ x
code_bits x h = eqb-true _ _ (all_at 3 (λ x. eqb (code_of (seen_bit x) (value_bit x)) x) refl x h)

value_le_seen : (x : ℕ) → x < 3 → value_bit x ≤ seen_bit x
value_le_seen x h = leb-true _ _ (all_at 3 (λ x. leb (value_bit x) (seen_bit x)) refl x h)

-- a seen bit, and a value bit below it, are those of their code
module _ (s b : ℕ) (hs : s < 2) (l : b ≤ s) where
  bits_code : (s ≡ seen_bit (code_of s b)) × (b ≡ value_bit (code_of s b))
  bits_code =
      let t : cond (leb b s) (eqb s (seen_bit (code_of s b)) && eqb b (value_bit (code_of s b))) true ≡ true
      = all_at₂ 2 2 (λ s b. cond (leb b s) (eqb s (seen_bit (code_of s b)) && eqb b (value_bit (code_of s b))) true) refl s b hs (omega arith) in
      let u = both_true _ _ (rw (le-leb b s l) at t) in
      (eqb-true _ _ u.0, eqb-true _ _ u.1)

-- ---- the code at a variable

-- by its two bits, with no branch
pub code_part : (s b : ℕ) → s < 2 → s * (2 - b) ≤ 2
code_part s b h = let l : s ≤ 1 = omega arith in le_trans (mul-le-mul_right (2 - b) l) (omega (arith, one-mul (2 - b)))

pub code_made : (c : Cube) (k s b : ℕ) → s ≡ bit c.seen k → b ≡ bit c.value k → 2 - s * (2 - b) ≡ code c k
unfolding code
code_made c k s b es eb =
    let hs : s < 2 = omega (arith, es, bit_lt c.seen k) in
    let hb : b < 2 = omega (arith, eb, bit_lt c.value k) in
    eqb-true _ _ (all_at₂ 2 2 (λ s b. eqb (2 - s * (2 - b)) (code_of s b)) refl s b hs hb) ∙ ap₂ code_of es eb

pub code_lt : (c : Cube) (k : ℕ) → code c k < 3
unfolding code
code_lt c k = go (bit c.seen k)
  where
    go : (s : ℕ) → code_of s (bit c.value k) < 3
    go zero = omega arith
    go (suc s) = omega (arith, bit_lt c.value k)

pub code_absent : (c : Cube) (v : ℕ) → bit c.seen v ≡ 0 → code c v ≡ 2
unfolding code
code_absent c v e = rw e

pub code_present : (c : Cube) (v : ℕ) → bit c.seen v ≢ 0 → code c v ≡ bit c.value v
unfolding code
code_present c v ne = go (bit c.seen v) ne
  where
    go : (s : ℕ) → s ≢ 0 → code_of s (bit c.value v) ≡ bit c.value v
    go zero h = absurd (h refl)
    go (suc s) h = refl

-- above n there are no literals
pub code_above : (n : ℕ) (c : Cube) → Good n c → (k : ℕ) → n ≤ k → code c k ≡ 2
code_above n c g k h = code_absent c k (g.below k h)

-- ---- the cube with another code at a variable

pub code_same : (c : Cube) (v x : ℕ) → x < 3 → code (put c v x) v ≡ x
unfolding code put
code_same c v x h =
    ap₂ code_of (with_same c.seen v (seen_bit x) (one_lt (ltb x 2))) (with_same c.value v (value_bit x) (one_lt (eqb x 1))) ∙ code_bits x h

pub code_other : (c : Cube) (v x k : ℕ) → k ≢ v → code (put c v x) k ≡ code c k
unfolding code put
code_other c v x k d =
    ap₂ code_of (with_other c.seen v (seen_bit x) k (one_lt (ltb x 2)) d) (with_other c.value v (value_bit x) k (one_lt (eqb x 1)) d)

pub put_put : (c : Cube) (v x y : ℕ) → put (put c v x) v y ≡ put c v y
unfolding put
put_put c v x y = λ i. record {
  seen = with_with c.seen v (seen_bit x) (seen_bit y) (one_lt (ltb x 2)) (one_lt (ltb y 2)) i;
  value = with_with c.value v (value_bit x) (value_bit y) (one_lt (eqb x 1)) (one_lt (eqb y 1)) i;
}

pub put_comm : (c : Cube) (u v x y : ℕ) → u ≢ v → put (put c u x) v y ≡ put (put c v y) u x
unfolding put
put_comm c u v x y d = λ i. record {
  seen = with_comm c.seen u v (seen_bit x) (seen_bit y) (one_lt (ltb x 2)) (one_lt (ltb y 2)) d i;
  value = with_comm c.value u v (value_bit x) (value_bit y) (one_lt (eqb x 1)) (one_lt (eqb y 1)) d i;
}

pub with_put : (c : Cube) (v x : ℕ) → v < mask_bits → with_code c v x ≡ put c v x
unfolding with_code
with_put c v x l = simp (lt-ltb v 32 l)

pub with_kept : (c : Cube) (v x : ℕ) → mask_bits ≤ v → with_code c v x ≡ c
unfolding with_code
with_kept c v x l = simp (le-ltb v 32 l)

-- ---- good cubes

-- the two tests say that the cube is good, bit by bit
pub good_parts : (n : ℕ) (c : Cube) → good n c ≡ true → Good n c
unfolding good
good_parts n c e =
    let p = both_true (within c.value c.seen) _ e in
    record {
      inside = within_bit c.value c.seen p.0;
      below = λ k l. bit_high n c.seen k (ltb-true c.seen (2 ^ n) p.1) l;
    }

module _ (n : ℕ) (c : Cube) (g : Good n c) where
  pub good_within : within c.value c.seen ≡ true
  good_within = bit_within c.value c.seen g.inside

  pub good_seen : c.seen < 2 ^ n
  good_seen = below_pow n c.seen g.below

  pub good_value : c.value < 2 ^ n
  good_value = below_pow n c.value (λ k l. omega (arith, g.inside k, g.below k l))

  pub parts_good : good n c ≡ true
  unfolding good
  parts_good = true_both good_within (lt-ltb c.seen (2 ^ n) good_seen)

-- ---- a good record by the bits that it must not have

-- the set of the variables below n, by how it is made
pub all_below_lem : (n : ℕ) → mask_bits ≤ n → 4294967295 ≡ variables_below n
unfolding variables_below
all_below_lem n l = ap (λ (m : ℕ). 2 ^ m - 1) (sym (min-eq_right l))

pub few_below : (n x : ℕ) → n < mask_bits → x ≡ 2 ^ n → x - 1 ≡ variables_below n
unfolding variables_below
few_below n x l e = ap (λ (m : ℕ). m - 1) e ∙ ap (λ (m : ℕ). 2 ^ m - 1) (sym (min-eq_left (le_of_lt l)))

none_outside : (x y : ℕ) → eqb (x - bit_and x y) 0 ≡ within x y
none_outside x y =
    let m : ℕ = bit_and x y in
    same_bool (eqb (x - m) 0) (eqb m x) (λ t. eq-eqb m x (omega (arith, eqb-true (x - m) 0 t, and_le_l x y))) (λ t. eq-eqb (x - m) 0 (omega (arith, eqb-true m x t)))

pub both_within : (c : Cube) (b : ℕ) → eqb (bit_or (c.value - bit_and c.value c.seen) (c.seen - bit_and c.seen b)) 0 ≡ (within c.value c.seen && within c.seen b)
both_within c b =
    or_none (c.value - bit_and c.value c.seen) (c.seen - bit_and c.seen b) ∙ ap₂ ◌&&◌ (none_outside c.value c.seen) (none_outside c.seen b)

-- a number that fits a mask is within the variables below n where it is below 2 ^ n
below_within : (n x : ℕ) → x < 2 ^ mask_bits → within x (variables_below n) ≡ ltb x (2 ^ n)
unfolding variables_below
below_within n x h =
    let m : ℕ = min n mask_bits in
    ap (λ (y : ℕ). eqb y x) (and_mask x m)
    ∙ same_bool (eqb (x % 2 ^ m) x) (ltb x (2 ^ n))
    (λ t.
    let few : x < 2 ^ m = subst (λ (y : ℕ). y < 2 ^ m) (eqb-true (x % 2 ^ m) x t) (mod-lt x (pow_pos m)) in
    lt-ltb x (2 ^ n) (lt_of_lt_of_le few (pow_mono (min-le_left n mask_bits))))
    (λ t. eq-eqb (x % 2 ^ m) x (mod-eq_of_lt (few (ltb-true x (2 ^ n) t))))
  where
    few : x < 2 ^ n → x < 2 ^ min n mask_bits
    few l =
        ⊎_elim
        (λ k. subst (λ (m : ℕ). x < 2 ^ m) (sym (min-eq_left (le_of_lt k))) l)
        (λ k. subst (λ (m : ℕ). x < 2 ^ m) (sym (min-eq_right k)) h)
        (below_or n mask_bits)

pub good_within_below : (n : ℕ) (c : Cube) → c.seen < 2 ^ mask_bits → (b : ℕ) → b ≡ variables_below n → (within c.value c.seen && within c.seen b) ≡ good n c
unfolding good
good_within_below n c h b e = ap (λ (t : Bool). within c.value c.seen && t) (ap (within c.seen) e ∙ below_within n c.seen h)

-- more variables keep a cube good
pub good_more : (m n : ℕ) (c : Cube) → m ≤ n → Good m c → Good n c
good_more m n c l g = record { inside = g.inside; below = λ k h. g.below k (le_trans l h) }

pub one_good : (n : ℕ) → Good n one
one_good n = record { inside = λ k. le_refl (bit 0 k); below = λ k l. bit_high 0 0 k (omega arith) zero-le }

pub put_good : (n : ℕ) (c : Cube) (v x : ℕ) → Good n c → v < n → x < 3 → Good n (put c v x)
unfolding put
put_good n c v x g l h = record { inside = λ k. inside k (ℕ_discrete k v); below = below }
  where
    inside : (k : ℕ) → Dec (k ≡ v) → bit (with_bit c.value v (value_bit x)) k ≤ bit (with_bit c.seen v (seen_bit x)) k
    inside k (yes e) =
        subst (λ (j : ℕ). bit (with_bit c.value v (value_bit x)) j ≤ bit (with_bit c.seen v (seen_bit x)) j) (sym e)
        (rw (with_same c.value v (value_bit x) (one_lt (eqb x 1)), with_same c.seen v (seen_bit x) (one_lt (ltb x 2))) (value_le_seen x h))
    inside k (no d) =
        rw (with_other c.value v (value_bit x) k (one_lt (eqb x 1)) d, with_other c.seen v (seen_bit x) k (one_lt (ltb x 2)) d) (g.inside k)

    below : (k : ℕ) → n ≤ k → bit (with_bit c.seen v (seen_bit x)) k ≡ 0
    below k m = with_other c.seen v (seen_bit x) k (one_lt (ltb x 2)) (λ e. omega (arith, e)) ∙ g.below k m

-- two good cubes with the same codes at the n variables are equal
pub cube_ext : (n : ℕ) (c d : Cube) → Good n c → Good n d → ((k : ℕ) → k < n → code c k ≡ code d k) → c ≡ d
unfolding code
cube_ext n c d g h e = λ i. record { seen = seen_eq i; value = value_eq i }
  where
    all : (k : ℕ) → code c k ≡ code d k
    all k = elim (dec_lt k n) [ yes l ↦ e k l | no l ↦ code_above n c g k (omega arith) ∙ sym (code_above n d h k (omega arith)) ]

    of : (x : Cube) → Good n x → (k : ℕ) → (bit x.seen k ≡ seen_bit (code x k)) × (bit x.value k ≡ value_bit (code x k))
    of x w k = bits_code (bit x.seen k) (bit x.value k) (bit_lt x.seen k) (w.inside k)

    seen_eq : c.seen ≡ d.seen
    seen_eq = bit_ext c.seen d.seen (λ k. (of c g k).0 ∙ ap seen_bit (all k) ∙ sym (of d h k).0)

    value_eq : c.value ≡ d.value
    value_eq = bit_ext c.value d.value (λ k. (of c g k).1 ∙ ap value_bit (all k) ∙ sym (of d h k).1)

-- the code that a variable has, put there again, changes nothing
pub put_self : (n : ℕ) (c : Cube) (v : ℕ) → Good n c → v < n → put c v (code c v) ≡ c
put_self n c v g l = cube_ext n (put c v (code c v)) c (put_good n c v (code c v) g l (code_lt c v)) g (λ k h. at k (ℕ_discrete k v))
  where
    at : (k : ℕ) → Dec (k ≡ v) → code (put c v (code c v)) k ≡ code c k
    at k (yes e) = subst (λ (j : ℕ). code (put c v (code c v)) j ≡ code c j) (sym e) (code_same c v (code c v) (code_lt c v))
    at k (no d) = code_other c v (code c v) k d

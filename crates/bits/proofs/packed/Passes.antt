-- The bits of four words after a pass of one variable.
-- Assumes nothing.
use mathlib.Core.Path.{◌≡◌, refl, sym, ap, ap₂, ◌∙◌, subst}
use mathlib.Core.Logic.{⊎_elim}
use mathlib.Core.Bool.{Bool, true, false, cond}
use Prim.Native.Nat.{ℕ, zero, suc, ◌+◌, ◌-◌, ◌*◌, ◌/◌, ◌%◌, ◌^◌, ◌≤◌, ◌<◌}
use native.Mathlib.Omega.{arith}
use borrow.Author.Tests.{eqb-true, ne_eqb, lt-ltb, le-ltb}
use lib.Bits.{bit_xor}
use lib.Dec.{eqb}
use lib.Pow.{pow-add}
use Rattle.bits.specs.Bits.{bit}
use Rattle.bits.specs.Packed.{word_at, bit_at, plus_upper, plus_lower, lowered_word, raised_word, each_word, lowered, raised}
use Rattle.bits.specs.declared.packed.Packed.{Packed}
use Rattle.bits.proofs.Bools.{below_or}
use Rattle.bits.proofs.Bits.{bit_xor_bits, plus_lt, has_le, bit_shr, bit_cut}
use Rattle.bits.proofs.word.Masks.{lower_bit, raise_bit}

-- ---- the code's numbers

module _ (k : ℕ) (w : Packed) where
  module _ (h : k < 6) (a b c d : ℕ) where
    pub lowered_each : a ≡ lowered_word k w.a → b ≡ lowered_word k w.b → c ≡ lowered_word k w.c → d ≡ lowered_word k w.d
        → record { a = a; b = b; c = c; d = d } ≡ lowered k w
    unfolding lowered
    lowered_each ea eb ec ed = rw (lt-ltb k 6 h) (λ i. record { a = ea i; b = eb i; c = ec i; d = ed i })

    pub raised_each : a ≡ raised_word k w.a → b ≡ raised_word k w.b → c ≡ raised_word k w.c → d ≡ raised_word k w.d
        → record { a = a; b = b; c = c; d = d } ≡ raised k w
    unfolding raised
    raised_each ea eb ec ed = rw (lt-ltb k 6 h) (λ i. record { a = ea i; b = eb i; c = ec i; d = ed i })

  pub lowered_six : k ≡ 6 → record { a = bit_xor w.a w.b; b = w.b; c = bit_xor w.c w.d; d = w.d } ≡ lowered k w
  unfolding lowered
  lowered_six e = sym (ap (λ (x : ℕ). lowered x w) e)

  pub raised_six : k ≡ 6 → record { a = w.a; b = bit_xor w.b w.a; c = w.c; d = bit_xor w.d w.c } ≡ raised k w
  unfolding raised
  raised_six e = sym (ap (λ (x : ℕ). raised x w) e)

  module _ (l : 6 ≤ k) (d : k ≡ 6 → ⊥) where
    pub lowered_above : record { a = bit_xor w.a w.c; b = bit_xor w.b w.d; c = w.c; d = w.d } ≡ lowered k w
    unfolding lowered
    lowered_above = rw (le-ltb k 6 l, ne_eqb k 6 d)

    pub raised_above : record { a = w.a; b = w.b; c = bit_xor w.c w.a; d = bit_xor w.d w.b } ≡ raised k w
    unfolding raised
    raised_above = rw (le-ltb k 6 l, ne_eqb k 6 d)

-- ---- a sum where a variable is b

sum_where : (b v v' x x' y y' : ℕ) → v ≡ v' → x ≡ x' → (v ≡ b → y ≡ y') → cond (eqb v b) (bit_xor x y) x ≡ cond (eqb v' b) (bit_xor x' y') x'
sum_where b v v' x x' y y' e p q = go (eqb v b) refl ∙ ap (λ (u : ℕ). cond (eqb u b) (bit_xor x' y') x') e
  where
    go : (t : Bool) → eqb v b ≡ t → cond t (bit_xor x y) x ≡ cond t (bit_xor x' y') x'
    go true h = ap₂ bit_xor p (q (eqb-true v b h))
    go false h = p

bit_where : (t : Bool) (x y j : ℕ) → bit (cond t (bit_xor x y) x) j ≡ cond t (bit_xor (bit x j) (bit y j)) (bit x j)
bit_where true x y j = bit_xor_bits x y j
bit_where false x y j = refl

pub plus_upper_cong : (k : ℕ) (f g : ℕ → ℕ) (t u : ℕ) → bit t k ≡ bit u k → f t ≡ g u → (bit t k ≡ 0 → f (t + 2 ^ k) ≡ g (u + 2 ^ k)) → plus_upper k f t ≡ plus_upper k g u
unfolding plus_upper
plus_upper_cong k f g t u = sum_where 0 (bit t k) (bit u k) (f t) (g u) (f (t + 2 ^ k)) (g (u + 2 ^ k))

pub plus_lower_cong : (k : ℕ) (f g : ℕ → ℕ) (t u : ℕ) → bit t k ≡ bit u k → f t ≡ g u → (bit t k ≡ 1 → f (t - 2 ^ k) ≡ g (u - 2 ^ k)) → plus_lower k f t ≡ plus_lower k g u
unfolding plus_lower
plus_lower_cong k f g t u = sum_where 1 (bit t k) (bit u k) (f t) (g u) (f (t - 2 ^ k)) (g (u - 2 ^ k))

-- ---- a variable below 6 is one of the index in the word

pub each_word_lem : (f : ℕ → ℕ) (w : Packed) (i : ℕ) → word_at (each_word f w) i ≡ f (word_at w i)
each_word_lem f w zero = refl
each_word_lem f w (suc zero) = refl
each_word_lem f w (suc (suc zero)) = refl
each_word_lem f w (suc (suc (suc i))) = refl

pub low_bit : (k t : ℕ) → k < 6 → bit t k ≡ bit (t % 64) k
low_bit k t h = sym (bit_cut 6 t k h)

module _ (w : Packed) (k t : ℕ) (hk : k < 6) where
  low_lowered : bit_at (lowered k w) t ≡ plus_upper k (bit_at w) t
  unfolding bit_at
  low_lowered =
      ap (λ (v : Packed). bit (word_at v (t / 64)) (t % 64)) (sym (lowered_each k w hk _ _ _ _ refl refl refl refl))
      ∙ ap (λ (x : ℕ). bit x (t % 64)) (each_word_lem (lowered_word k) w (t / 64))
      ∙ lower_bit k (t % 64) hk (omega arith) (word_at w (t / 64))
      ∙ sym (plus_upper_cong k (bit_at w) (bit (word_at w (t / 64))) t (t % 64) (low_bit k t hk) refl (λ z.
      let inside : t % 64 + 2 ^ k < 64 = plus_lt 6 k (t % 64) hk (omega arith) (sym (low_bit k t hk) ∙ z) in
      let e : (t + 2 ^ k) / 64 ≡ t / 64 = omega arith in
      let f : (t + 2 ^ k) % 64 ≡ t % 64 + 2 ^ k = omega arith in
      ap₂ (λ (i j : ℕ). bit (word_at w i) j) e f))

  low_raised : bit_at (raised k w) t ≡ plus_lower k (bit_at w) t
  unfolding bit_at
  low_raised =
      ap (λ (v : Packed). bit (word_at v (t / 64)) (t % 64)) (sym (raised_each k w hk _ _ _ _ refl refl refl refl))
      ∙ ap (λ (x : ℕ). bit x (t % 64)) (each_word_lem (raised_word k) w (t / 64))
      ∙ raise_bit k (t % 64) hk (omega arith) (word_at w (t / 64))
      ∙ sym (plus_lower_cong k (bit_at w) (bit (word_at w (t / 64))) t (t % 64) (low_bit k t hk) refl (λ z.
      let inside : 2 ^ k ≤ t % 64 = has_le (t % 64) k (sym (low_bit k t hk) ∙ z) in
      let e : (t - 2 ^ k) / 64 ≡ t / 64 = omega arith in
      let f : (t - 2 ^ k) % 64 ≡ t % 64 - 2 ^ k = omega arith in
      ap₂ (λ (i j : ℕ). bit (word_at w i) j) e f))

-- ---- variables 6 and 7 are variables 0 and 1 of the word's number

pub high_bit : (j t : ℕ) → bit (t / 64) j ≡ bit t (j + 6)
high_bit j t = bit_shr t 6 j

pub high_variable : (P : ℕ → Type 0) (k : ℕ) → k < 8 → 6 ≤ k → ((j : ℕ) → j < 2 → P (j + 6)) → P k
high_variable P k h l p = let e : k - 6 + 6 ≡ k = omega arith in subst P e (p (k - 6) (omega arith))

module _ (w : Packed) where
  lowered_word_lem : (j i : ℕ) → j < 2 → i < 4 → word_at (lowered (j + 6) w) i ≡ plus_upper j (word_at w) i
  unfolding lowered plus_upper
  lowered_word_lem zero zero hj hi = refl
  lowered_word_lem zero (suc zero) hj hi = refl
  lowered_word_lem zero (suc (suc zero)) hj hi = refl
  lowered_word_lem zero (suc (suc (suc zero))) hj hi = refl
  lowered_word_lem (suc zero) zero hj hi = refl
  lowered_word_lem (suc zero) (suc zero) hj hi = refl
  lowered_word_lem (suc zero) (suc (suc zero)) hj hi = refl
  lowered_word_lem (suc zero) (suc (suc (suc zero))) hj hi = refl
  lowered_word_lem zero (suc (suc (suc (suc i)))) hj hi = absurd (omega arith)
  lowered_word_lem (suc zero) (suc (suc (suc (suc i)))) hj hi = absurd (omega arith)
  lowered_word_lem (suc (suc j)) i hj hi = absurd (omega arith)

  raised_word_lem : (j i : ℕ) → j < 2 → i < 4 → word_at (raised (j + 6) w) i ≡ plus_lower j (word_at w) i
  unfolding raised plus_lower
  raised_word_lem zero zero hj hi = refl
  raised_word_lem zero (suc zero) hj hi = refl
  raised_word_lem zero (suc (suc zero)) hj hi = refl
  raised_word_lem zero (suc (suc (suc zero))) hj hi = refl
  raised_word_lem (suc zero) zero hj hi = refl
  raised_word_lem (suc zero) (suc zero) hj hi = refl
  raised_word_lem (suc zero) (suc (suc zero)) hj hi = refl
  raised_word_lem (suc zero) (suc (suc (suc zero))) hj hi = refl
  raised_word_lem zero (suc (suc (suc (suc i)))) hj hi = absurd (omega arith)
  raised_word_lem (suc zero) (suc (suc (suc (suc i)))) hj hi = absurd (omega arith)
  raised_word_lem (suc (suc j)) i hj hi = absurd (omega arith)

  module _ (t : ℕ) (ht : t < 256) (j : ℕ) (hj : j < 2) where
    abbrev here : ℕ
    here = bit (word_at w (t / 64)) (t % 64)

    weight : 2 ^ (j + 6) ≡ 2 ^ j * 64
    weight = pow-add 2 j 6

    high_lowered : bit_at (lowered (j + 6) w) t ≡ plus_upper (j + 6) (bit_at w) t
    unfolding bit_at plus_upper
    high_lowered =
        ap (λ (x : ℕ). bit x (t % 64)) (lowered_word_lem j (t / 64) hj (omega arith))
        ∙ bit_where (eqb (bit (t / 64) j) 0) (word_at w (t / 64)) (word_at w (t / 64 + 2 ^ j)) (t % 64)
        ∙ sum_where 0 (bit (t / 64) j) (bit t (j + 6)) here here _ _ (high_bit j t) refl (λ z.
        let e : t / 64 + 2 ^ j ≡ (t + 2 ^ (j + 6)) / 64 = omega (arith, weight) in
        let f : t % 64 ≡ (t + 2 ^ (j + 6)) % 64 = omega (arith, weight) in
        ap₂ (λ (i j : ℕ). bit (word_at w i) j) e f)

    high_raised : bit_at (raised (j + 6) w) t ≡ plus_lower (j + 6) (bit_at w) t
    unfolding bit_at plus_lower
    high_raised =
        ap (λ (x : ℕ). bit x (t % 64)) (raised_word_lem j (t / 64) hj (omega arith))
        ∙ bit_where (eqb (bit (t / 64) j) 1) (word_at w (t / 64)) (word_at w (t / 64 - 2 ^ j)) (t % 64)
        ∙ sum_where 1 (bit (t / 64) j) (bit t (j + 6)) here here _ _ (high_bit j t) refl (λ z.
        let inside : 2 ^ j ≤ t / 64 = has_le (t / 64) j z in
        let e : t / 64 - 2 ^ j ≡ (t - 2 ^ (j + 6)) / 64 = omega (arith, weight) in
        let f : t % 64 ≡ (t - 2 ^ (j + 6)) % 64 = omega (arith, weight) in
        ap₂ (λ (i j : ℕ). bit (word_at w i) j) e f)

-- ---- every variable

pub lowered_bit : (k : ℕ) (w : Packed) (t : ℕ) → k < 8 → t < 256 → bit_at (lowered k w) t ≡ plus_upper k (bit_at w) t
lowered_bit k w t hk ht =
    ⊎_elim (low_lowered w k t) (λ l. high_variable (λ k. bit_at (lowered k w) t ≡ plus_upper k (bit_at w) t) k hk l (high_lowered w t ht)) (below_or k 6)

pub raised_bit : (k : ℕ) (w : Packed) (t : ℕ) → k < 8 → t < 256 → bit_at (raised k w) t ≡ plus_lower k (bit_at w) t
raised_bit k w t hk ht =
    ⊎_elim (low_raised w k t) (λ l. high_variable (λ k. bit_at (raised k w) t ≡ plus_lower k (bit_at w) t) k hk l (high_raised w t ht)) (below_or k 6)

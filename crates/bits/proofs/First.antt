-- Laws of the lowest number that passes a test: that there is one such number only, and how a loop that looks for it goes on.
-- Assumes nothing.
use mathlib.Core.Path.{◌≡◌, refl, sym, ap, ◌∙◌, subst}
use mathlib.Core.Bool.{Bool, true, false, not, cond, true≢false}
use Prim.Native.Nat.{ℕ, zero, suc, ◌+◌, ◌≤◌, ◌<◌}
use native.Mathlib.Nat.{le_refl, le_antisymm, add-zero, add-suc}
use native.Mathlib.Numerals.{add-one}
use native.Mathlib.Decide.{ℕ_discrete}
use native.Mathlib.Omega.{arith}
use borrow.Author.Tests.{not-true}
use mathlib.Core.Logic.{⊎_elim}
use Rattle.bits.specs.Below.{all_below, first_from, NoneTo, FirstIn}
use Rattle.bits.proofs.Bools.{both_true, below_or}

module _ (f : ℕ → Bool) where
  -- ---- a loop

  pub none_start : (k end : ℕ) → k ≤ end → NoneTo f k end k
  none_start k end h = record { low = le_refl k; most = h; none = λ s a b. absurd (omega arith) }

  module _ (k end x : ℕ) (r : NoneTo f k end x) where
    pub none_next : x < end → f x ≡ false → NoneTo f k end (x + 1)
    none_next h e = record {
      low = omega (arith, r.low);
      most = omega arith;
      none = λ s a b. elim (ℕ_discrete s x) [ yes q ↦ ap f q ∙ e | no d ↦ r.none s a (omega (arith, d)) ];
    }

    pub first_end : end ≤ x → FirstIn f k end end
    first_end h = record { before = subst (NoneTo f k end) (le_antisymm r.most h) r; passes = λ g. absurd (omega arith) }

    pub first_here : f x ≡ true → FirstIn f k end x
    first_here e = record { before = r; passes = λ h. e }

  -- by several at once
  pub none_more : (k end x m : ℕ) → NoneTo f k end x → x + m ≤ end → all_below m (λ t. not (f (x + t))) ≡ true → NoneTo f k end (x + m)
  none_more k end x zero r h e = subst (NoneTo f k end) (sym (add-zero x)) r
  none_more k end x (suc m) r h e =
      let p = both_true (all_below m (λ t. not (f (x + t)))) (not (f (x + m))) e in
      subst (NoneTo f k end) (add-one (x + m) ∙ sym (add-suc x m))
      (none_next k end (x + m) (none_more k end x m r (omega arith) p.0) (omega arith) (not-true (f (x + m)) p.1))

  -- ---- there is one only

  at_most : (k end x y : ℕ) → FirstIn f k end x → FirstIn f k end y → x ≤ y
  at_most k end x y p q =
      ⊎_elim
      (λ l. absurd (true≢false (sym (q.passes (omega (arith, p.before.most))) ∙ p.before.none y q.before.low l)))
      (λ h. h) (below_or y x)

  pub first_same : (k end x y : ℕ) → FirstIn f k end x → FirstIn f k end y → x ≡ y
  first_same k end x y p q = le_antisymm (at_most k end x y p q) (at_most k end y x q p)

  pub first_from_lem : (m k : ℕ) → FirstIn f k (k + m) (first_from f m k)
  unfolding first_from
  first_from_lem zero k = record { before = none_start k (k + 0) (omega arith); passes = λ h. absurd (omega arith) }
  first_from_lem (suc m) k =
      let e : suc k + m ≡ k + suc m = omega arith in
      go (f k) refl (subst (λ (end : ℕ). FirstIn f (suc k) end (first_from f m (suc k))) e (first_from_lem m (suc k)))
    where
      go : (t : Bool) → f k ≡ t → FirstIn f (suc k) (k + suc m) (first_from f m (suc k)) → FirstIn f k (k + suc m) (cond t k (first_from f m (suc k)))
      go true e ih = first_here k (k + suc m) k (none_start k (k + suc m) (omega arith)) e
      go false e ih = record {
        before = record {
          low = omega (arith, ih.before.low);
          most = ih.before.most;
          none = λ s a b. elim (ℕ_discrete s k) [ yes q ↦ ap f q ∙ e | no d ↦ ih.before.none s (omega (arith, d)) b ];
        };
        passes = ih.passes;
      }

-- two tests that agree where they are made
pub first_agree : (f g : ℕ → Bool) (k end x : ℕ) → ((s : ℕ) → k ≤ s → s < end → f s ≡ g s) → FirstIn f k end x → FirstIn g k end x
first_agree f g k end x h p = record {
  before = record {
    low = p.before.low;
    most = p.before.most;
    none = λ s a b. sym (h s a (omega (arith, p.before.most))) ∙ p.before.none s a b;
  };
  passes = λ l. sym (h x p.before.low l) ∙ p.passes l;
}

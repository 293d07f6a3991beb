-- The search for the best polarity: the best of a range from the bests of its halves, and the call by its tests.
-- Assumes nothing.
use mathlib.Core.Path.{◌≡◌, refl, sym, ap, ap₂, ◌∙◌, subst}
use mathlib.Core.Bool.{Bool, true, false, cond}
use mathlib.Core.List.{List, [], ◌∷◌}
use Prim.Native.Nat.{ℕ, zero, suc, ◌+◌, ◌-◌, ◌*◌, ◌/◌, ◌%◌, ◌^◌, ◌<◌, ◌≤◌, min, zero-le}
use native.Mathlib.Nat.{le_refl, zero-add}
use native.Mathlib.Omega.{arith}
use lib.Bits.{bit_xor}
use lib.Dec.{ltb, lit<}
use borrow.Author.Tests.{ltb-true, ltb-false, lt-ltb, le-ltb}
use Rattle.bits.specs.Bits.{bit}
use Rattle.bits.specs.Packed.{packed, lowered, raised}
use Rattle.bits.specs.declared.packed.Packed.{Packed}
use Rattle.bits.proofs.Bits.{bit_high, with_other, plus_with, shl_one}
use Rattle.bits.proofs.Least.{LeastIn, in_one, in_upper, in_lower, in_unique}
use Rattle.records.specs.declared.Refusal.{Refusal}
use Rattle.records.specs.Answers.{accepted, refused}
use Rattle.records.proofs.Answers.{and_then_lem, and_not}
use Rattle.polarity.specs.declared.Counts.{Counts}
use Rattle.polarity.specs.declared.choose.Chosen.{Chosen}
use Rattle.polarity.specs.Forms.{coefficient, form_list, size, best_polarity}
use Rattle.polarity.specs.Ranks.{rank_of, rank}
use Rattle.polarity.specs.Vectors.{byte_at, Vector, check_vector}
use Rattle.polarity.specs.Calls.{best_outcome}
use Rattle.polarity.specs.Words.{Shows, passed, counts_in, best_of_one, lesser_of, best_from, ChosenIs}
use Rattle.polarity.proofs.Parities.{pow_double, parity_lt}
use Rattle.polarity.proofs.Passes.{xor_with}
use Rattle.polarity.proofs.Ranks.{half_rank}
use Rattle.polarity.proofs.Theorems.{best_has_least_rank}
use Rattle.polarity.proofs.Shown.{shows_vector, shows_positive, shows_turn, shown_counts}

-- w shows the coefficients under p, which has no variable below k
record Trying (n : ℕ) (f : ℕ → ℕ) (k : ℕ) (w : Packed) (p : ℕ) : Type 0 where
  few : n ≤ 8
  upto : k ≤ n
  none : (j : ℕ) → j < k → bit p j ≡ 0
  shows : Shows n (coefficient n p f) w

-- of the polarities from a to b this one has the least rank, and of several such it is the smallest
record BestIn (n : ℕ) (f : ℕ → ℕ) (a b : ℕ) (c : Chosen) : Type 0 where
  best : LeastIn (λ q. rank (form_list n q f)) a b c.polarity
  ranked : c.rank ≡ rank (form_list n c.polarity f)

module _ (n : ℕ) (f : ℕ → ℕ) where
  abbrev ranks : ℕ → ℕ
  ranks q = rank (form_list n q f)

  best_one : (w : Packed) (p : ℕ) → Trying n f 0 w p → BestIn n f p (p + 1) (best_of_one w p)
  unfolding best_of_one
  best_one w p T = record {
    best = in_one ranks p (p + 1) refl;
    ranked = ap rank_of (shown_counts n p T.few (coefficient n p f) (parity_lt n (λ t. f (bit_xor t p))) w T.shows);
  }

  -- of two ranges side by side
  best_both : (a b c : ℕ) (x y : Chosen) → BestIn n f a b x → BestIn n f b c y → BestIn n f a c (lesser_of x y)
  unfolding lesser_of
  best_both a b c x y P Q = go (ltb y.rank x.rank) refl
    where
      go : (t : Bool) → ltb y.rank x.rank ≡ t → BestIn n f a c (cond t y x)
      go true e = record {
        best = in_upper ranks a b c x.polarity y.polarity P.best Q.best (omega (arith, P.ranked, Q.ranked, ltb-true y.rank x.rank e));
        ranked = Q.ranked;
      }
      go false e = record {
        best = in_lower ranks a b c x.polarity y.polarity P.best Q.best (omega (arith, P.ranked, Q.ranked, ltb-false y.rank x.rank e));
        ranked = P.ranked;
      }

  module _ (k : ℕ) (w : Packed) (p : ℕ) (T : Trying n f (suc k) w p) where
    clear : bit p k ≡ 0
    clear = T.none k (le_refl (suc k))

    trying_lower : Trying n f k w p
    trying_lower = record { few = T.few; upto = omega (arith, T.upto); none = λ i h. T.none i (omega arith); shows = T.shows }

    trying_upper : Trying n f k (lowered k w) (p + 2 ^ k)
    trying_upper = record {
      few = T.few;
      upto = omega (arith, T.upto);
      none = λ i h. ap (λ (x : ℕ). bit x i) (plus_with p k clear) ∙ with_other p k 1 i (lit< tt) (λ q. omega arith) ∙ T.none i (omega arith);
      shows = subst (λ (x : ℕ). Shows n (coefficient n x f) (lowered k w)) (xor_with p k clear) (shows_turn n T.few k T.upto p f w T.shows);
    }

  best_range : (k : ℕ) (w : Packed) (p : ℕ) → Trying n f k w p → BestIn n f p (p + 2 ^ k) (best_from k w p)
  unfolding best_from
  best_range zero w p T = best_one w p T
  best_range (suc k) w p T =
      let end : p + 2 ^ k + 2 ^ k ≡ p + 2 ^ suc k = omega (arith, pow_double k) in
      subst (λ (b : ℕ). BestIn n f p b (lesser_of (best_from k w p) (best_from k (lowered k w) (p + 2 ^ k)))) end
      (best_both p (p + 2 ^ k) (p + 2 ^ k + 2 ^ k) (best_from k w p) (best_from k (lowered k w) (p + 2 ^ k))
      (best_range k w p (trying_lower k w p T)) (best_range k (lowered k w) (p + 2 ^ k) (trying_upper k w p T)))

-- over all polarities
pub best_all : (n : ℕ) (l : List ℕ) → Vector n l → (w w' : Packed) (c : Chosen) → w ≡ packed l → w' ≡ passed raised n w → c ≡ best_from n w' 0
    → ChosenIs n (byte_at l) c
best_all n l v w w' c ew ew' ec =
    let T : Trying n (byte_at l) n (passed raised n w) 0 = record {
      few = v.few;
      upto = le_refl n;
      none = λ j h. bit_high 0 0 j (lit< tt) zero-le;
      shows = shows_positive n v.few (byte_at l) w (shows_vector n l v w ew) v.bits;
    } in
    let at : c ≡ best_from n (passed raised n w) 0 = ec ∙ ap (λ (x : Packed). best_from n x 0) ew' in
    let B : BestIn n (byte_at l) 0 (0 + 2 ^ n) c = subst (BestIn n (byte_at l) 0 (0 + 2 ^ n)) (sym at) (best_range n (byte_at l) n (passed raised n w) 0 T) in
    record {
      polarity_is =
          in_unique (ranks n (byte_at l)) 0 (2 ^ n) c.polarity (best_polarity n (byte_at l))
          (subst (λ (x : ℕ). LeastIn (ranks n (byte_at l)) 0 x c.polarity) (zero-add (2 ^ n)) B.best) (best_has_least_rank n (byte_at l));
      rank_is = B.ranked;
    }

-- ---- as the code goes

-- chosen field by field
module _ (x y : Chosen) (p r : ℕ) (er : r ≡ min y.rank x.rank) where
  pub lesser_upper : y.rank < x.rank → p ≡ y.polarity → record { polarity = p; rank = r } ≡ lesser_of x y
  unfolding lesser_of
  lesser_upper h ep =
      let least : r ≡ y.rank = omega (arith, er) in
      (λ i. record { polarity = ep i; rank = least i }) ∙ sym (ap (λ (t : Bool). cond t y x) (lt-ltb y.rank x.rank h))

  pub lesser_lower : x.rank ≤ y.rank → p ≡ x.polarity → record { polarity = p; rank = r } ≡ lesser_of x y
  unfolding lesser_of
  lesser_lower h ep =
      let least : r ≡ x.rank = omega (arith, er) in
      (λ i. record { polarity = ep i; rank = least i }) ∙ sym (ap (λ (t : Bool). cond t y x) (le-ltb y.rank x.rank h))

pub one_is : (w : Packed) (p : ℕ) (c : Counts) (r : ℕ) → c ≡ counts_in w → r ≡ rank_of c → record { polarity = p; rank = r } ≡ best_from 0 w p
unfolding best_from best_of_one
one_is w p c r ec er = λ i. record { polarity = p; rank = (er ∙ ap rank_of ec) i }

-- the best of 2 ^ (j + 1) polarities, from those of each half; h is 2 ^ j
pub halves_are : (j h p : ℕ) → h ≡ 2 ^ j → (w w' : Packed) → w' ≡ lowered j w → (x y r : Chosen) → x ≡ best_from j w p → y ≡ best_from j w' (p + h) → r ≡ lesser_of x y
    → r ≡ best_from (suc j) w p
unfolding best_from
halves_are j h p eh w w' ew x y r ex ey er = er ∙ ap₂ lesser_of ex (ey ∙ ap₂ (λ (v : Packed) (q : ℕ). best_from j v (p + q)) ew eh)

-- a function for one number of variables, j, in place of the one for any, k
module _ (j k p : ℕ) (e : k ≡ j) where
  pub best_at : (w : Packed) (r : Chosen) → r ≡ best_from j w p → r ≡ best_from k w p
  best_at w r = subst (λ (i : ℕ). r ≡ best_from i w p) (sym e)

-- the halves of 2 ^ k polarities
module _ (k : ℕ) (hk : k ≤ 8) (d : k ≡ 0 → ⊥) where
  pub half_is : (1 * 2 ^ (k - 1)) % 2 ^ 64 ≡ 2 ^ (k - 1)
  half_is = shl_one (k - 1) 64 (omega arith)

  pub half_next : k ≡ suc (k - 1)
  half_next = omega arith

-- ---- the call, by its tests

module _ (n : ℕ) (l : List ℕ) where
  pub best_refused : (r : Refusal) → check_vector n l ≡ refused r → refused r ≡ best_outcome n l
  unfolding best_outcome
  best_refused r e = sym (and_not _ _ r e)

  pub best_found : (m : ℕ) → check_vector n l ≡ accepted (m ∷ []) → (c : Chosen) → ChosenIs n (byte_at l) c → accepted (c.polarity ∷ c.rank / 2 ∷ []) ≡ best_outcome n l
  unfolding best_outcome
  best_found m e c is =
      ap₂ (λ (x y : ℕ). accepted (x ∷ y ∷ [])) is.polarity_is
      (ap (λ (r : ℕ). r / 2) is.rank_is ∙ half_rank (form_list n c.polarity (byte_at l)) ∙ ap (λ (q : ℕ). size n q (byte_at l)) is.polarity_is)
      ∙ sym (and_then_lem _ _ _ e)

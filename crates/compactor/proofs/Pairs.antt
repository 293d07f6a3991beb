-- The pairs of steps: what they are, by their kinds; that a pair leaves the count as it was; and the count along, by the operation.
-- Assumes nothing.
use mathlib.Core.Path.{◌≡◌, refl, sym, ap, ◌∙◌, subst}
use mathlib.Core.Bool.{true, false≢true}
use Prim.Native.Nat.{ℕ, zero, suc, ◌+◌, ◌-◌, ◌≤◌, ◌<◌}
use native.Mathlib.Omega.{arith}
use borrow.Author.Tests.{eqb-true, eq-eqb}
use Rattle.bits.proofs.Bools.{both_true, true_both}
use Rattle.steps.specs.declared.StepRecord.{StepRecord}
use Rattle.steps.specs.Steps.{Step, drop, join, split, turn, L, meaning, meaning_by}
use Rattle.script.specs.Scripts.{step_records, record_of}
use Rattle.script.proofs.Scripts.{meaning_record, same_record}
use Rattle.compactor.specs.Compact.{Pair, two_l, two_turns, split_and_join, equal_records, equal_steps, step_pair, count_after}
use Rattle.compactor.specs.Keeping.{count_by}

-- ---- equal in every field

pub equal_same : (r s : StepRecord) → equal_records r s ≡ true → r ≡ s
unfolding equal_records
equal_same r s e =
    let a = both_true _ _ e in
    let b = both_true _ _ a.1 in
    let c = both_true _ _ b.1 in
    let d = both_true _ _ c.1 in
    let f = both_true _ _ d.1 in
    same_record r s (eqb-true _ _ a.0) (eqb-true _ _ b.0) (eqb-true _ _ c.0) (eqb-true _ _ d.0) (eqb-true _ _ f.0) (eqb-true _ _ f.1)

pub equal_self : (r : StepRecord) → equal_records r r ≡ true
unfolding equal_records
equal_self r =
    true_both (eq-eqb r.op r.op refl)
    (true_both (eq-eqb r.v r.v refl)
    (true_both (eq-eqb r.i r.i refl)
    (true_both (eq-eqb r.j r.j refl) (true_both (eq-eqb r.literal r.literal refl) (eq-eqb r.zero r.zero refl)))))

same_step : (x y : Step) → equal_steps x y ≡ true → x ≡ y
same_step x y e = sym (meaning_record x) ∙ ap meaning (equal_same (record_of x) (record_of y) e) ∙ meaning_record y

-- ---- the three kinds

pub pair_kind : (count : ℕ) (x y : Step) → step_pair count x y ≡ true → Pair count x y
unfolding step_pair
pair_kind count (drop i j) y e = absurd (false≢true e)
pair_kind count (join i j) y e = absurd (false≢true e)
pair_kind count (split v i) y e = subst (Pair count (split v i)) (same_step (join i count) y e) split_and_join
pair_kind count (turn v i j) y e = subst (Pair count (turn v i j)) (same_step (turn v i j) y e) two_turns
pair_kind count (L v b) y e = subst (Pair count (L v b)) (same_step (L v b) y e) two_l

pub kind_pair : (count : ℕ) {x y : Step} → Pair count x y → step_pair count x y ≡ true
unfolding step_pair
kind_pair count two_l = equal_self _
kind_pair count two_turns = equal_self _
kind_pair count split_and_join = equal_self _

-- a pair leaves the count as it was
pub pair_count : (count : ℕ) (x y : Step) → step_pair count x y ≡ true → count_after (count_after count x) y ≡ count
unfolding count_after
pair_count count x y e = go (pair_kind count x y e)
  where
    go : {x y : Step} → Pair count x y → count_after (count_after count x) y ≡ count
    go two_l = omega arith
    go two_turns = omega arith
    go split_and_join = omega arith

-- ---- the count along, by the operation

-- it goes by the operation alone
pub count_of : (count : ℕ) (x : StepRecord) → count_by count x.op ≡ count_after count (meaning x)
unfolding count_by count_after meaning
count_of count x = go x.op
  where
    go : (op : ℕ) → count_after count (meaning_by op step_records.none) ≡ count_after count (meaning_by op x)
    go zero = refl
    go (suc zero) = refl
    go (suc (suc zero)) = refl
    go (suc (suc (suc zero))) = refl
    go (suc (suc (suc (suc zero)))) = refl
    go (suc (suc (suc (suc (suc op))))) = refl

module _ (count op o : ℕ) (is : o ≡ op) where
  pub count_drop : o < 2 → (r : ℕ) → r ≡ count - 2 → r ≡ count_by count op
  unfolding count_by count_after
  count_drop h r e = go op (omega (arith, is))
    where
      go : (op : ℕ) → op < 2 → r ≡ count_by count op
      go zero g = omega (arith, e)
      go (suc zero) g = omega (arith, e)
      go (suc (suc op)) g = absurd (omega arith)

  pub count_join : o ≡ 2 → (r : ℕ) → r ≡ count - 1 → r ≡ count_by count op
  unfolding count_by count_after
  count_join h r e = subst (λ (k : ℕ). r ≡ count_by count k) (sym h ∙ is) (omega (arith, e))

  pub count_split : o ≡ 3 → count + 1 ≡ count_by count op
  unfolding count_by count_after
  count_split h = subst (λ (k : ℕ). count + 1 ≡ count_by count k) (sym h ∙ is) (omega arith)

  pub count_same : 2 ≤ o → (o ≡ 2 → ⊥) → (o ≡ 3 → ⊥) → count ≡ count_by count op
  unfolding count_by count_after
  count_same g a b = go op (omega (arith, is)) (λ e. a (is ∙ e)) (λ e. b (is ∙ e))
    where
      go : (op : ℕ) → 2 ≤ op → (op ≡ 2 → ⊥) → (op ≡ 3 → ⊥) → count ≡ count_by count op
      go zero g a b = absurd (omega arith)
      go (suc zero) g a b = absurd (omega arith)
      go (suc (suc zero)) g a b = absurd (a refl)
      go (suc (suc (suc zero))) g a b = absurd (b refl)
      go (suc (suc (suc (suc zero)))) g a b = omega arith
      go (suc (suc (suc (suc (suc op))))) g a b = omega arith

-- a step adds one at most
pub count_most : (count : ℕ) (x : Step) → count_after count x ≤ count + 1
unfolding count_after
count_most count (drop i j) = omega arith
count_most count (join i j) = omega arith
count_most count (split v i) = omega arith
count_most count (turn v i j) = omega arith
count_most count (L v b) = omega arith

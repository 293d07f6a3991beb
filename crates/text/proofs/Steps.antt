-- A step laid: its word, and its fields one after another.
-- Assumes nothing.
use mathlib.Core.Path.{◌≡◌, refl, sym, ap}
use mathlib.Core.Bool.{Bool, true, false, not}
use mathlib.Core.List.{List, [], ◌∷◌, ◌++◌, append-nil}
use Prim.Native.Nat.{ℕ, zero, suc, ◌≤◌, ◌<◌}
use native.Mathlib.Omega.{arith}
use lib.Dec.{leb}
use borrow.Author.Tests.{not-true, not-false, lt-ltb, le-ltb, le-leb, lt-leb, eq-eqb, ne_eqb}
use Rattle.steps.specs.declared.StepRecord.{StepRecord}
use Rattle.steps.specs.Steps.{meaning, meaning_by}
use Rattle.script.specs.Scripts.{uses_j}
use Rattle.text.specs.Places.{Laid}
use Rattle.text.specs.Numbers.{decimal}
use Rattle.text.specs.Steps.{drop_word, join_word, split_word, turn_word, l_word, variable_lead, field_text, step_text}
use Rattle.text.specs.Printing.{word_of, field_if}
use Rattle.text.proofs.Laying.{none, after}

-- ---- the word of an operation

module _ {b b' : List ℕ} {at p : ℕ} (op : ℕ) where
  pub drop_laid : op < 2 → Laid b at drop_word p b' → Laid b at (word_of op) p b'
  unfolding word_of
  drop_laid h l = rw (lt-ltb op 2 h) l

  module _ (h1 : 2 ≤ op) where
    pub join_laid : op ≡ 2 → Laid b at join_word p b' → Laid b at (word_of op) p b'
    unfolding word_of
    join_laid h l = rw (le-ltb op 2 h1, eq-eqb op 2 h) l

    module _ (h2 : op ≡ 2 → ⊥) where
      pub split_laid : op ≡ 3 → Laid b at split_word p b' → Laid b at (word_of op) p b'
      unfolding word_of
      split_laid h l = rw (le-ltb op 2 h1, ne_eqb op 2 h2, eq-eqb op 3 h) l

      module _ (h3 : op ≡ 3 → ⊥) where
        pub turn_laid : op ≡ 4 → Laid b at turn_word p b' → Laid b at (word_of op) p b'
        unfolding word_of
        turn_laid h l = rw (le-ltb op 2 h1, ne_eqb op 2 h2, ne_eqb op 3 h3, eq-eqb op 4 h) l

        pub l_laid : (op ≡ 4 → ⊥) → Laid b at l_word p b' → Laid b at (word_of op) p b'
        unfolding word_of
        l_laid h l = rw (le-ltb op 2 h1, ne_eqb op 2 h2, ne_eqb op 3 h3, ne_eqb op 4 h) l

-- ---- a field

pub unused_laid : {b : List ℕ} {at : ℕ} (used : Bool) (lead : List ℕ) (x : ℕ) → not used ≡ true → Laid b at (field_if used lead x) at b
unfolding field_if
unused_laid used lead x h = rw (not-true used h) none

pub field_laid : {b b' b'' b''' : List ℕ} {at p q r : ℕ} (used : Bool) (lead : List ℕ) (x : ℕ) → not used ≡ false → Laid b at (32 ∷ []) p b' → Laid b' p lead q b''
    → Laid b'' q (decimal x) r b''' → Laid b at (field_if used lead x) r b'''
unfolding field_if
field_laid used lead x h f g k = rw (not-false used h) (after f (after g k))

-- ---- the text of a record's step is its word and the fields that it uses

module _ (x : StepRecord) where
  parts : ℕ → List ℕ
  parts op = word_of op ++ (field_if (leb 3 op) variable_lead x.v ++ (field_if (leb op 4) [] x.i ++ (field_if (uses_j op) [] x.j ++ field_if (leb 5 op) [] x.literal)))

  l_parts : (op : ℕ) → 5 ≤ op → parts op ≡ l_word ++ (field_text variable_lead x.v ++ field_text [] x.literal)
  unfolding parts word_of field_if
  l_parts op h =
      simp (
        le-ltb op 2 (omega arith),
        ne_eqb op 2 (λ e. omega arith),
        ne_eqb op 3 (λ e. omega arith),
        ne_eqb op 4 (λ e. omega arith),
        le-leb 3 op (omega arith),
        lt-leb op 4 (omega arith),
        lt-leb op 2 (omega arith),
        le-leb 5 op h,
      )

  step_text_lem : (op : ℕ) → step_text (meaning_by op x) ≡ parts op
  unfolding parts step_text word_of field_if
  step_text_lem zero = simp append-nil
  step_text_lem (suc zero) = simp append-nil
  step_text_lem (suc (suc zero)) = simp append-nil
  step_text_lem (suc (suc (suc zero))) = ap (λ (s : List ℕ). split_word ++ (field_text variable_lead x.v ++ s)) (sym (append-nil (field_text [] x.i)))
  step_text_lem (suc (suc (suc (suc zero)))) = simp append-nil
  step_text_lem (suc (suc (suc (suc (suc op))))) = sym (l_parts (suc (suc (suc (suc (suc op))))) (omega arith))

  pub step_laid : {b b1 b2 b3 b4 b5 : List ℕ} {at p q r s z : ℕ} {u : Bool}
      → Laid b at (word_of x.op) p b1
      → Laid b1 p (field_if (leb 3 x.op) variable_lead x.v) q b2
      → Laid b2 q (field_if (leb x.op 4) [] x.i) r b3
      → u ≡ uses_j x.op
      → Laid b3 r (field_if u [] x.j) s b4
      → Laid b4 s (field_if (leb 5 x.op) [] x.literal) z b5
      → Laid b at (step_text (meaning x)) z b5
  unfolding meaning parts
  step_laid w v i e j l = rw (step_text_lem x.op) (after w (after v (after i (after (rw e at j) l))))

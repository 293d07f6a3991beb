-- The loop that adds the outputs of the true products: what it has added of each output. The invariant is one record.
-- Assumes nothing.
use mathlib.Core.Path.{◌≡◌, refl, sym, ap, ◌∙◌, subst}
use mathlib.Core.Bool.{Bool, true, false, cond, ◌&&◌}
use mathlib.Core.List.{List}
use Prim.Native.Nat.{ℕ, ◌+◌, ◌/◌, ◌^◌, ◌≤◌, ◌<◌, zero-le}
use native.Mathlib.Omega.{arith}
use borrow.Author.Tests.{eqb-true}
use lib.Bits.{bit_xor, xor_lt}
use lib.Dec.{eqb, lit<}
use lib.ListN.{length, get_or, drop}
use Rattle.bits.specs.Bits.{bit}
use Rattle.bits.specs.Sums.{◌⊕◌, one_if, sum, All}
use Rattle.bits.proofs.Bools.{xor_assoc, xor_false, and_true, all_at}
use Rattle.bits.proofs.Bits.{bit_lt, bit_high, bit_ext_below}
use Rattle.bits.proofs.Sums.{sum_on, sum_end, all_get}
use Rattle.records.proofs.Records.{length_list}
use Rattle.cube.specs.Cubes.{holds, HoldsAt}
use Rattle.shared.specs.declared.Shared.{Shared}
use Rattle.shared.specs.SharedRecord.{no_shared, shares, shares_of, shared_width, Fine}
use Rattle.shared.specs.Outputs.{carries, output_count, value_word}
use Rattle.shared.proofs.Outputs.{output_sum, word_lt, word_bit, carries_xor}

-- ---- the loop

-- whether a product counts for output k at a
abbrev weight : ℕ → ℕ → ℕ → Shared → Bool
weight n a k r = carries k r && holds n r.cube a

-- bit k of w is the sum at output k of the first i products
pub record Wording (n : ℕ) (b : List ℕ) (a w i : ℕ) : Type 0 where
  pub within : i ≤ length b / shared_width
  pub few : w < 2 ^ output_count
  pub so_far : (k : ℕ) → eqb (bit w k) 1 ⊕ sum (weight n a k) (drop i (shares_of b)) ≡ sum (weight n a k) (shares_of b)

module _ (n : ℕ) (b : List ℕ) (a : ℕ) where
  pub wording_none : Wording n b a 0 0
  wording_none = record {
    within = zero-le;
    few = lit< tt;
    so_far = λ k. ap (λ (x : ℕ). eqb x 1 ⊕ sum (weight n a k) (shares_of b)) (bit_high 0 0 k (lit< tt) zero-le);
  }

  module _ (w i : ℕ) (W : Wording n b a w i) where
    module _ (h : i < length b / shared_width) (r : Shared) (er : r ≡ get_or (shares_of b) i no_shared) where
      on : (k : ℕ) → sum (weight n a k) (drop i (shares_of b)) ≡ weight n a k r ⊕ sum (weight n a k) (drop (i + 1) (shares_of b))
      on k =
          sum_on (weight n a k) no_shared (shares_of b) i (omega (arith, length_list shares b))
          ∙ ap (λ (s : Shared). weight n a k s ⊕ sum (weight n a k) (drop (i + 1) (shares_of b))) (sym er)

      -- a true product's outputs are added
      pub wording_true : holds n r.cube a ≡ true → r.outputs < 2 ^ output_count → (w' : ℕ) → w' ≡ bit_xor w r.outputs → Wording n b a w' (i + 1)
      wording_true t small w' e = subst (λ (x : ℕ). Wording n b a x (i + 1)) (sym e) (record {
        within = omega arith;
        few = xor_lt output_count w r.outputs W.few small;
        so_far = λ k.
            let rest : Bool = sum (weight n a k) (drop (i + 1) (shares_of b)) in
            let here : weight n a k r ≡ carries k r = ap (λ (x : Bool). carries k r && x) t ∙ and_true (carries k r) in
            ap (λ (x : Bool). x ⊕ rest) (carries_xor w r.outputs k) ∙ xor_assoc (eqb (bit w k) 1) (carries k r) rest
            ∙ ap (λ (x : Bool). eqb (bit w k) 1 ⊕ x) (sym (on k ∙ ap (λ (x : Bool). x ⊕ rest) here)) ∙ W.so_far k;
      })

      -- and another's not
      pub wording_false : holds n r.cube a ≡ false → (w' : ℕ) → w' ≡ w → Wording n b a w' (i + 1)
      wording_false f w' e = subst (λ (x : ℕ). Wording n b a x (i + 1)) (sym e) (record {
        within = omega arith;
        few = W.few;
        so_far = λ k.
            let rest : Bool = sum (weight n a k) (drop (i + 1) (shares_of b)) in
            let here : weight n a k r ≡ false = ap (λ (x : Bool). carries k r && x) f ∙ and_false (carries k r) in
            ap (λ (x : Bool). eqb (bit w k) 1 ⊕ x) (sym (on k ∙ ap (λ (x : Bool). x ⊕ rest) here)) ∙ W.so_far k;
      })
        where
          and_false : (t : Bool) → (t && false) ≡ false
          and_false true = refl
          and_false false = refl

      -- either of them
      pub wording_step : (t : Bool) → t ≡ holds n r.cube a → r.outputs < 2 ^ output_count → (w' : ℕ) → w' ≡ cond t (bit_xor w r.outputs) w → Wording n b a w' (i + 1)
      wording_step true e small w' ew = wording_true (sym e) small w' ew
      wording_step false e small w' ew = wording_false (sym e) w' ew

    pub wording_all : length b / shared_width ≤ i → w ≡ value_word n (shares_of b) a
    wording_all h = bit_ext_below output_count w (value_word n (shares_of b) a) W.few (word_lt n (shares_of b) a) (λ k l.
        let end : sum (weight n a k) (drop i (shares_of b)) ≡ false = sum_end (weight n a k) no_shared (shares_of b) i (omega (arith, length_list shares b)) in
        let all : eqb (bit w k) 1 ≡ sum (weight n a k) (shares_of b) =
        sym (xor_false (eqb (bit w k) 1)) ∙ ap (λ (x : Bool). eqb (bit w k) 1 ⊕ x) (sym end) ∙ W.so_far k in
        sym (one_is (bit w k) (bit_lt w k)) ∙ ap one_if all ∙ sym (output_sum n k (shares_of b) a) ∙ sym (word_bit n (shares_of b) a k l))
      where
        one_is : (x : ℕ) → x < 2 → one_if (eqb x 1) ≡ x
        one_is x h = eqb-true _ _ (all_at 2 (λ x. eqb (one_if (eqb x 1)) x) refl x h)

-- the truth of the product at a place of a list of fine products
pub holds_here : (n : ℕ) (b : List ℕ) (a i : ℕ) → All (Fine n) (shares_of b) → a < 2 ^ n → i < length b / shared_width
    → (r : Shared) → r ≡ get_or (shares_of b) i no_shared → (t : Bool) → HoldsAt r.cube a t → t ≡ holds n r.cube a
holds_here n b a i f ha h r er t ht =
    let there : Fine n (get_or (shares_of b) i no_shared) = all_get (Fine n) (shares_of b) i no_shared f (omega (arith, length_list shares b)) in
    ht.means n (subst (Fine n) (sym er) there).good ha

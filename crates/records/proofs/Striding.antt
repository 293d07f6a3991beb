-- A loop over the records of a buffer, of any kind, that looks for the lowest one that fails a test and passes any number of them at once.
-- The laws of one stride, and how `Looking` goes on by it.
-- Assumes nothing.
use mathlib.Core.Path.{◌≡◌, refl, sym, ap, ◌∙◌, subst}
use mathlib.Core.Bool.{Bool, true, false, not, cond, ◌&&◌}
use mathlib.Core.List.{List}
use Prim.Native.Nat.{ℕ, zero, suc, ◌+◌, ◌-◌, ◌/◌, ◌≤◌, ◌<◌, zero-le}
use native.Mathlib.Nat.{add-zero, add-suc}
use native.Mathlib.Numerals.{add-one}
use native.Mathlib.Omega.{arith}
use lib.Dec.{leb}
use lib.ListN.{length, get_or}
use borrow.Author.Tests.{leb-true, le-leb, lt-leb}
use Rattle.bits.specs.Below.{all_below}
use Rattle.bits.specs.Sums.{one_if, first_bad}
use Rattle.bits.proofs.Bools.{both_true}
use Rattle.records.specs.Records.{Codec, list_of}
use Rattle.records.specs.Strides.{pass_from, stride_from}
use Rattle.records.proofs.Records.{length_list}
use Rattle.records.proofs.Looking.{Looking, looking_next, found_bad}

-- ---- a stride, record by record

-- `all` says whether the first k of the m records from place i on pass
pub record InStride {A : Type 0} (C : Codec A) (test : A → Bool) (b : List ℕ) (m i : ℕ) (all : Bool) (k : ℕ) : Type 0 where
  pub left : m ≤ length b / C.width - i
  pub within : k ≤ m
  pub so_far : all ≡ all_below k (λ j. test (get_or (list_of C b) (i + j) C.none))

module _ {A : Type 0} (C : Codec A) (test : A → Bool) (b : List ℕ) (m i : ℕ) where
  pub stride_short : length b / C.width - i < m → false ≡ pass_from test C.none m (list_of C b) i
  unfolding pass_from
  stride_short h = sym (simp (length_list C b, lt-leb _ _ h))

  pub stride_none : m ≤ length b / C.width - i → InStride C test b m i true 0
  stride_none h = record { left = h; within = zero-le; so_far = refl }

  module _ (all : Bool) (k : ℕ) (r : InStride C test b m i all k) where
    pub stride_more : k < m → (c : A) → c ≡ get_or (list_of C b) (i + k) C.none → (t : Bool) → t ≡ test c → InStride C test b m i (all && t) (k + 1)
    stride_more h c ec t et = record {
      left = r.left;
      within = omega arith;
      so_far =
          (λ j. r.so_far j && (et ∙ ap test ec) j)
          ∙ ap (λ (n : ℕ). all_below n (λ j. test (get_or (list_of C b) (i + j) C.none))) (sym (add-one k));
    }

    pub stride_end : m ≤ k → all ≡ pass_from test C.none m (list_of C b) i
    unfolding pass_from
    stride_end h =
        let e : k ≡ m = omega (arith, r.within) in
        r.so_far ∙ ap (λ (n : ℕ). all_below n (λ j. test (get_or (list_of C b) (i + j) C.none))) e
        ∙ sym (simp (length_list C b, le-leb _ _ r.left))

  -- by a stride where it passes, else by what one record says
  pub stride_all : pass_from test C.none m (list_of C b) i ≡ true → m ≡ stride_from test C.none m (list_of C b) i
  unfolding stride_from
  stride_all e = sym (simp e)

  pub stride_one : pass_from test C.none m (list_of C b) i ≡ false → (c : A) → c ≡ get_or (list_of C b) i C.none → (t : Bool) → t ≡ test c
      → one_if t ≡ stride_from test C.none m (list_of C b) i
  unfolding stride_from
  stride_one e c ec t et = ap one_if (et ∙ ap test ec) ∙ sym (simp e)

-- ---- the loop goes on

module _ {A : Type 0} (C : Codec A) (test : A → Bool) (b : List ℕ) (i : ℕ) (r : Looking C test b i) where
  looking_all : (m : ℕ) → m ≤ length b / C.width - i → all_below m (λ j. test (get_or (list_of C b) (i + j) C.none)) ≡ true → Looking C test b (i + m)
  looking_all zero h e = subst (Looking C test b) (sym (add-zero i)) r
  looking_all (suc m) h e =
      let p = both_true (all_below m (λ j. test (get_or (list_of C b) (i + j) C.none))) (test (get_or (list_of C b) (i + m) C.none)) e in
      subst (Looking C test b) (add-one (i + m) ∙ sym (add-suc i m))
      (looking_next C test b (i + m) (looking_all m (omega arith) p.0) (omega (arith, r.within)) _ refl _ refl (ap not p.1))

  module _ (h : i < length b / C.width) (m : ℕ) (some : 0 < m) (g : ℕ) (eg : g ≡ stride_from test C.none m (list_of C b) i) where
    abbrev l : List A
    l = list_of C b

    -- none is passed: the record here fails
    pub stride_found : g ≡ 0 → i ≡ first_bad test (list_of C b)
    unfolding stride_from
    stride_found z = go (pass_from test C.none m l i) (test (get_or l i C.none)) refl (sym z ∙ eg)
      where
        go : (p t : Bool) → t ≡ test (get_or l i C.none) → 0 ≡ cond p m (one_if t) → i ≡ first_bad test l
        go true t et q = absurd (omega arith)
        go false true et q = absurd (omega arith)
        go false false et q = found_bad C test b i r h _ refl false et refl

    -- or all that are passed pass
    pub stride_next : (g ≡ 0 → ⊥) → Looking C test b (i + g)
    unfolding stride_from pass_from
    stride_next z =
        subst (λ (n : ℕ). Looking C test b (i + n)) (sym eg)
        (go (pass_from test C.none m l i) refl (test (get_or l i C.none)) refl (λ q. z (eg ∙ q)))
      where
        go : (p : Bool) → pass_from test C.none m l i ≡ p → (t : Bool) → t ≡ test (get_or l i C.none) → (cond p m (one_if t) ≡ 0 → ⊥)
            → Looking C test b (i + cond p m (one_if t))
        go true e t et z =
            let p = both_true (leb m (length l - i)) (all_below m (λ j. test (get_or l (i + j) C.none))) e in
            looking_all m (omega (arith, leb-true m (length l - i) p.0, length_list C b)) p.1
        go false e true et z = looking_next C test b i r h _ refl true et refl
        go false e false et z = absurd (z refl)

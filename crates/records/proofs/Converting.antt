-- A loop over the records of a buffer, of one kind, that stores each at its place of another buffer as a record of another kind. The invariant is one record.
-- Assumes nothing.
use mathlib.Core.Path.{◌≡◌, refl, sym, ap, ap₂, ◌∙◌}
use mathlib.Core.List.{List}
use Prim.Native.Nat.{ℕ, ◌+◌, ◌/◌, ◌≤◌, ◌<◌, zero-le}
use native.Mathlib.Numerals.{add-one}
use native.Mathlib.Omega.{arith}
use lib.ListN.{length, get_or, drop, drop_of_length-le}
use lib.Seq.{drop-cons}
use Rattle.records.specs.Records.{Codec, list_of, stored, written}
use Rattle.records.proofs.Records.{length_list, length_stored}

-- what is left of the list, stored from place i on, makes the whole
pub record Converting {A : Type 0} (D C : Codec A) (b out₀ out : List ℕ) (i : ℕ) : Type 0 where
  pub long : length out ≡ length out₀
  pub within : i ≤ length b / D.width
  pub left : written C i (drop i (list_of D b)) out ≡ written C 0 (list_of D b) out₀

module _ {A : Type 0} (D C : Codec A) (b out₀ : List ℕ) where
  pub converting_none : Converting D C b out₀ out₀ 0
  converting_none = record { long = refl; within = zero-le; left = refl }

  module _ (out : List ℕ) (i : ℕ) (T : Converting D C b out₀ out i) where
    pub converting_more : i < length b / D.width → (a : A) → a ≡ get_or (list_of D b) i D.none → (out' : List ℕ) → out' ≡ stored C out i a
        → Converting D C b out₀ out' (i + 1)
    unfolding written
    converting_more h a ea out' eo =
        let put : out' ≡ stored C out i (get_or (list_of D b) i D.none) = eo ∙ ap (stored C out i) ea in
        let here : i < length (list_of D b) = omega (arith, length_list D b) in
        record {
          long = ap length eo ∙ length_stored C out i a ∙ T.long;
          within = omega arith;
          left = ap₂ (λ (k : ℕ) (o : List ℕ). written C k (drop k (list_of D b)) o) (add-one i) put
              ∙ ap (λ (l : List A). written C i l out) (sym (drop-cons (list_of D b) i D.none here)) ∙ T.left;
        }

    pub converting_all : length b / D.width ≤ i → out ≡ written C 0 (list_of D b) out₀
    unfolding written
    converting_all h = ap (λ (l : List A). written C i l out) (sym (drop_of_length-le (list_of D b) {i = i} (omega (arith, length_list D b)))) ∙ T.left

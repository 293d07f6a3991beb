-- The test of a buffer of records of one kind: it is whole, it has at most so many, and each record passes. By the first test that fails, and what is accepted.
-- Assumes nothing.
use mathlib.Core.Path.{◌≡◌, sym, ap, ◌∙◌}
use mathlib.Core.Bool.{Bool, true}
use mathlib.Core.List.{List, [], ◌∷◌}
use Prim.Native.Nat.{ℕ, ◌/◌, ◌%◌, ◌≤◌, ◌<◌}
use lib.Dec.{eqb, leb}
use lib.ListN.{length}
use borrow.Author.Tests.{le-leb, lt-leb, eq-eqb, ne_eqb, leb-true, eqb-true}
use Rattle.bits.specs.Sums.{All, first_bad}
use Rattle.records.specs.declared.Refusal.{Refusal}
use Rattle.records.specs.Records.{Codec, list_of}
use Rattle.records.specs.Answers.{Outcome, accepted, refused, refusal, unless_at}
pub use Rattle.records.specs.Kinds.{checked}
use Rattle.records.proofs.Records.{length_list}
use Rattle.records.proofs.Answers.{unless_passes, unless_at_passes, unless_accepted, unless_at_accepted, unless_at_refused, unless_at_passed}

-- what passes: whole records, at most so many, each of which passes its test
pub record AcceptedRecords {A : Type 0} (C : Codec A) (test : A → Bool) (most : ℕ) (b : List ℕ) : Type 0 where
  pub whole : length b % C.width ≡ 0
  pub short : length b / C.width ≤ most
  pub each : All (λ x. test x ≡ true) (list_of C b)

-- the chain of tests, refused by three numbers
module _ {A : Type 0} (C : Codec A) (test : A → Bool) (cut many bad most : ℕ) (b : List ℕ) where
  -- an outcome that is this chain's
  module _ (o : Outcome) (chain : checked C test cut many bad most b ≡ o) where
    pub records_cut : (r : Refusal) → r ≡ refusal cut 0 → (length b % C.width ≡ 0 → ⊥) → refused r ≡ o
    records_cut r e h = ap refused e ∙ sym (simp (ne_eqb _ _ h)) ∙ chain

    module _ (whole : length b % C.width ≡ 0) where
      pub records_many : (r : Refusal) → r ≡ refusal many 0 → most < length b / C.width → refused r ≡ o
      records_many r e h = ap refused e ∙ sym (simp (eq-eqb _ _ whole, lt-leb _ _ h)) ∙ chain

      -- the place that a search found: a record that fails, or the count
      module _ (short : length b / C.width ≤ most) (place : ℕ) (is : place ≡ first_bad test (list_of C b)) where
        to_records : unless_at test bad (list_of C b) (accepted (length (list_of C b) ∷ [])) ≡ o
        to_records = sym (simp (eq-eqb _ _ whole, le-leb _ _ short)) ∙ chain

        pub records_bad : (r : Refusal) → r ≡ refusal bad place → (place ≡ length b / C.width → ⊥) → refused r ≡ o
        records_bad r e h =
            ap refused e ∙ unless_at_refused test bad (list_of C b) (accepted (length (list_of C b) ∷ [])) place is (λ q. h (q ∙ length_list C b)) ∙ to_records

        pub records_good : place ≡ length b / C.width → accepted (length b / C.width ∷ []) ≡ o
        records_good h =
            ap (λ (k : ℕ). accepted (k ∷ [])) (sym (length_list C b))
            ∙ unless_at_passed test bad (list_of C b) (accepted (length (list_of C b) ∷ [])) place is (h ∙ sym (length_list C b)) ∙ to_records

  pub records_accepted : (v : List ℕ) → checked C test cut many bad most b ≡ accepted v → AcceptedRecords C test most b
  records_accepted v e =
      let p = unless_accepted (eqb (length b % C.width) 0) cut 0 _ v e in
      let q = unless_accepted (leb (length b / C.width) most) many 0 _ v p.1 in
      record {
        whole = eqb-true (length b % C.width) 0 p.0;
        short = leb-true (length b / C.width) most q.0;
        each = (unless_at_accepted test bad (list_of C b) _ v q.1).0;
      }

  -- and what passes is accepted
  pub accepted_records : AcceptedRecords C test most b → checked C test cut many bad most b ≡ accepted (length b / C.width ∷ [])
  accepted_records a =
      unless_passes _ cut 0 _ (eq-eqb _ _ a.whole)
      ∙ unless_passes _ many 0 _ (le-leb _ _ a.short)
      ∙ unless_at_passes test bad (list_of C b) _ a.each
      ∙ ap (λ (k : ℕ). accepted (k ∷ [])) (length_list C b)

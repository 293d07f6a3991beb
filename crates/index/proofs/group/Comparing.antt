-- The loop that looks for each place at its entry: its invariant is one record.
-- Assumes nothing.
use mathlib.Core.Path.{◌≡◌, refl, sym, ap, ◌∙◌, subst}
use mathlib.Core.Logic.{◌≢◌}
use mathlib.Core.Bool.{Bool, true, false, cond}
use mathlib.Core.List.{List}
use Prim.Native.Nat.{ℕ, ◌+◌, ◌*◌, ◌/◌, ◌≤◌, ◌<◌, min, zero-le}
use native.Mathlib.Nat.{le_refl}
use native.Mathlib.Numerals.{add-one}
use native.Mathlib.Decide.{dec_lt}
use native.Mathlib.Omega.{arith}
use lib.Dec.{eqb}
use lib.ListN.{length, get_or, set}
use borrow.Author.Tests.{eqb-true, eqb-false}
use Rattle.bits.specs.Below.{list_below}
use Rattle.records.specs.Records.{records}
use Rattle.records.specs.Places.{place_width, places}
use Rattle.records.proofs.Records.{get_or_records}
use Rattle.index.specs.Index.{group_count, index_of}
use Rattle.index.specs.Counting.{entry, Grouped, Started}
use Rattle.index.specs.Calls.{first_apart}
use Rattle.index.proofs.Order.{At}
use Rattle.index.proofs.Entries.{entry_lt, index_entry, index_at}
use Rattle.index.proofs.Tables.{nexts, nexts_none, nexts_at, nexts_more}
use Rattle.index.proofs.Apart.{apart_same, apart_other, first_found}

-- of the entries of the places below p, `bad` is the lowest that is wrong
pub record Comparing (f : ℕ → ℕ) (k : ℕ) (index next : List ℕ) (bad p : ℕ) : Type 0 where
  pub grouped : Grouped f k
  pub within : p ≤ k
  pub table : next ≡ list_below group_count (nexts f k p)
  pub most : bad ≤ k
  pub right : (q : ℕ) → q < p → entry f k q < bad → places.read index (entry f k q) ≡ q
  pub wrong : bad < k → places.read index bad ≢ get_or (index_of f k) bad 0

pub comparing_none : (f : ℕ → ℕ) (k : ℕ) (s index : List ℕ) → Started f k s → Comparing f k index s k 0
comparing_none f k s index r = record {
  grouped = r.grouped;
  within = zero-le;
  table = nexts_none f k s r.is;
  most = le_refl k;
  right = λ q h. absurd (omega arith);
  wrong = λ h. absurd (omega arith);
}

module _ (f : ℕ → ℕ) (k : ℕ) (index next : List ℕ) (bad p : ℕ) (S : Comparing f k index next bad p) where
  module _ (h : p < k) (m : ℕ) (em : m ≡ f p) (hm : m < group_count) where
    abbrev e : ℕ
    e = get_or next m 0

    here : e ≡ entry f k p
    here = nexts_at f k next p m S.table em hm

    pub comparing_lt : e < k
    comparing_lt = omega (arith, here, entry_lt f k S.grouped p h)

    pub comparing_room : place_width * k ≤ length index → e < length index / place_width
    comparing_room r = omega (arith, comparing_lt)

    -- with one more place, whose entry is right or wrong
    more : (b : ℕ) → b ≤ bad → (entry f k p < b → places.read index (entry f k p) ≡ p) → (b < k → places.read index b ≢ get_or (index_of f k) b 0)
        → Comparing f k index (set next m (e + 1)) b (p + 1)
    more b le last wrong = record {
      grouped = S.grouped;
      within = omega arith;
      table = nexts_more f k next p m S.table em hm ∙ ap (λ (q : ℕ). list_below group_count (nexts f k q)) (sym (add-one p));
      most = omega (arith, S.most);
      right = λ q hq l. elim (dec_lt q p) [
        | yes lt ↦ S.right q lt (omega arith)
        | no ge ↦ let same : q ≡ p = omega arith in
            subst (λ (x : ℕ). places.read index (entry f k x) ≡ x) (sym same) (last (subst (λ (x : ℕ). entry f k x < b) same l))
      ];
      wrong = wrong;
    }

    pub comparing_more : (x : ℕ) → x ≡ places.read index e → (b : ℕ) → b ≡ cond (eqb x p) bad (min bad e) → Comparing f k index (set next m (e + 1)) b (p + 1)
    comparing_more x ex b eb = go (eqb x p) refl eb
      where
        there : get_or (index_of f k) e 0 ≡ p
        there = ap (λ (y : ℕ). get_or (index_of f k) y 0) here ∙ index_entry f k S.grouped p h

        go : (t : Bool) → eqb x p ≡ t → b ≡ cond t bad (min bad e) → Comparing f k index (set next m (e + 1)) b (p + 1)
        go true et ebt =
            more b (omega (arith, ebt)) (λ l. ap (places.read index) (sym here) ∙ sym ex ∙ eqb-true x p et)
            (λ l. subst (λ (y : ℕ). places.read index y ≢ get_or (index_of f k) y 0) (sym ebt) (S.wrong (omega (arith, ebt))))
        go false et ebt = elim (dec_lt bad e) [
          | yes lt ↦ let same : b ≡ bad = omega (arith, ebt) in
              more b (omega (arith, same)) (λ l. absurd (omega (arith, same, here)))
              (λ l. subst (λ (y : ℕ). places.read index y ≢ get_or (index_of f k) y 0) (sym same) (S.wrong (omega (arith, same))))
          | no ge ↦ let same : b ≡ e = omega (arith, ebt) in
              more b (omega (arith, same)) (λ l. absurd (omega (arith, same, here)))
              (λ l. subst (λ (y : ℕ). places.read index y ≢ get_or (index_of f k) y 0) (sym same) (λ z. eqb-false x p et (ex ∙ z ∙ there)))
        ]

  pub comparing_end : k ≤ p → bad ≡ first_apart k (records places k index) (index_of f k)
  comparing_end h =
      let read : (i : ℕ) → i < k → get_or (records places k index) i 0 ≡ places.read index i = λ i l. get_or_records places k index i 0 l in
      first_found k (records places k index) (index_of f k) bad (record {
        before = record {
          low = zero-le;
          most = S.most;
          none = λ i a l.
              let lt : i < k = omega (arith, S.most) in
              let at : At f k group_count i (get_or (index_of f k) i 0) = index_at f k S.grouped i lt in
              apart_same k (records places k index) (index_of f k) i (read i lt ∙ ap (places.read index) (sym at.is)
              ∙ S.right (get_or (index_of f k) i 0) (omega (arith, at.below)) (subst (λ (x : ℕ). x < bad) (sym at.is) l));
        };
        passes = λ l. apart_other k (records places k index) (index_of f k) bad (λ z. S.wrong l (sym (read bad l) ∙ z));
      })

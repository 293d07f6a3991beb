-- What is written of the steps that are kept, and the call by its tests: what each return answers and leaves, and what an accepted call is.
-- Assumes nothing.
use mathlib.Core.Path.{◌≡◌, refl, sym, ap, ◌∙◌}
use mathlib.Core.Bool.{true}
use mathlib.Core.List.{List, [], ◌∷◌, map, map-append}
use Prim.Native.Nat.{ℕ, ◌+◌, ◌/◌, ◌≤◌, ◌<◌, zero-le}
use native.Mathlib.Nat.{zero-add}
use native.Mathlib.Numerals.{add-one}
use native.Mathlib.Omega.{arith}
use lib.Dec.{leb}
use lib.ListN.{length, get_or, take, length-map, length-take}
use lib.Seq.{get_or-take, take-suc}
use borrow.Author.Tests.{le-leb, lt-leb, leb-true}
use Rattle.bits.specs.Sums.{All}
use Rattle.bits.proofs.Subsequences.{length_subsequence}
use Rattle.bits.proofs.Sums.{all_get, all_each, map_each, map_map}
use Rattle.records.specs.declared.Refusal.{Refusal}
use Rattle.records.specs.Records.{list_of, stored, written}
use Rattle.records.specs.Answers.{Outcome, accepted, refused, refusal, Accepts}
use Rattle.records.proofs.Answers.{accepted_values, and_then_lem, and_not, unless_passes, unless_fails, unless_accepted, both_accepted, call_refused, call_accepted}
use Rattle.records.proofs.Records.{length_written, written_snoc}
use Rattle.cube.specs.Lists.{most_variables, most_records}
use Rattle.steps.specs.declared.StepRecord.{StepRecord}
use Rattle.script.specs.Scripts.{step_records, step_width, most_steps, record_of, steps_of}
use Rattle.script.specs.Calls.{check_script}
use Rattle.script.proofs.Scripts.{AcceptedScript, script_accepts, record_meaning, length_script, meaning_at}
use Rattle.compactor.specs.Compact.{compacted}
use Rattle.compactor.specs.Calls.{compact_outcome, compact_after}
use Rattle.compactor.specs.declared.Halves.{Halves}
use Rattle.compactor.specs.StepBytes.{half_records, record_at, halves_at}
use Rattle.compactor.specs.Keeping.{Faithful, step_at, StepsKept, Compacting}
use Rattle.compactor.proofs.Removing.{compacted_subsequence}
use Rattle.compactor.proofs.Stack.{faithful_at}
use Rattle.compactor.proofs.StepBytes.{halves_copied}

-- ---- the loop over the steps that are kept

-- t of them are written
pub record Putting (b kept : List ℕ) (top : ℕ) (out₀ out : List ℕ) (t : ℕ) : Type 0 where
  pub few : t ≤ top
  pub long : length out ≡ length out₀
  pub bytes : out ≡ written step_records 0 (map (record_at b) (take t kept)) out₀

module _ (b kept : List ℕ) (top : ℕ) (out₀ : List ℕ) where
  pub putting_none : Putting b kept top out₀ out₀ 0
  unfolding written
  putting_none = record { few = zero-le; long = refl; bytes = refl }

  module _ (out : List ℕ) (t : ℕ) (p : Putting b kept top out₀ out t) where
    pub putting_end : top ≤ t → out ≡ written step_records 0 (map (record_at b) (take top kept)) out₀
    putting_end h = let z : t ≡ top = omega (arith, p.few) in p.bytes ∙ ap (λ (i : ℕ). written step_records 0 (map (record_at b) (take i kept)) out₀) z

    module _ (fits : (top ≤ length kept) × (top ≤ length out₀ / step_width)) (inside : All (λ k. k < length b / step_width) (take top kept)) (h : t < top) where
      pub putting_room : t < length out / step_width
      putting_room = omega (arith, p.long, fits.1)

      pub putting_inside : get_or kept t 0 < length b / step_width
      putting_inside =
          let taken : length (take top kept) ≡ top = omega (arith, length-take top kept, fits.0) in
          omega (arith, all_get (λ k. k < length b / step_width) (take top kept) t 0 inside (omega arith), get_or-take top kept t 0 h)

      pub putting_more : ((i : ℕ) → get_or b i 0 < 256) → (x : Halves) → x ≡ halves_at b (get_or kept t 0) → (out' : List ℕ) → out' ≡ stored half_records out t x
          → Putting b kept top out₀ out' (t + 1)
      putting_more small x ex out' eo =
          let k : ℕ = get_or kept t 0 in
          let xs : List StepRecord = map (record_at b) (take t kept) in
          let many : length xs ≡ t = length-map (take t kept) (record_at b) ∙ omega (arith, length-take t kept, fits.0) in
          let bytes : out' ≡ written step_records 0 (map (record_at b) (take (t + 1) kept)) out₀
          = eo ∙ ap (stored half_records out t) ex ∙ halves_copied b k putting_inside small out t
          ∙ ap (λ (c : List ℕ). stored step_records c t (record_at b k)) p.bytes
          ∙ ap (λ (i : ℕ). stored step_records (written step_records 0 xs out₀) i (record_at b k)) (sym many ∙ sym (zero-add (length xs)))
          ∙ sym (written_snoc step_records 0 xs (record_at b k) out₀)
          ∙ ap (λ (l : List StepRecord). written step_records 0 l out₀) (sym (map-append (record_at b) (take t kept) (k ∷ [])))
          ∙ ap (λ (l : List ℕ). written step_records 0 (map (record_at b) l) out₀) (sym (ap (λ (i : ℕ). take i kept) (add-one t) ∙ take-suc kept t 0 (omega (arith, fits.0)))) in
          record { few = omega arith; long = ap length bytes ∙ length_written step_records 0 (map (record_at b) (take (t + 1) kept)) out₀; bytes = bytes }

-- ---- what a checked script is

module _ (n : ℕ) (b : List ℕ) (ok : Accepts (check_script n b)) where
  is : AcceptedScript n b
  is = script_accepts n b ok.values ok.is

  pub checked_faithful : Faithful b
  unfolding Faithful
  checked_faithful = all_each _ _ (record_meaning n) (list_of step_records b) is.each

  pub checked_few : length (steps_of b) ≤ most_steps
  checked_few = omega (arith, is.short, length_script b)

-- ---- the steps that are kept, written

module _ (b : List ℕ) (faithful : Faithful b) (count : ℕ) (kept : List ℕ) (top : ℕ) (p : StepsKept count (steps_of b) kept top) where
  pub kept_inside : All (λ k. k < length b / step_width) (take top kept)
  kept_inside = all_each (λ k. k < length (steps_of b)) (λ k. k < length b / step_width) (λ k h. omega (arith, length_script b)) (take top kept) p.inside

  many : top ≡ length (compacted count (steps_of b))
  many = sym (sym (ap length p.left) ∙ length-map (take top kept) (step_at (steps_of b)) ∙ omega (arith, length-take top kept, p.room))

  pub kept_room : (out : List ℕ) → length b ≤ length out → top ≤ length out / step_width
  kept_room out h = omega (arith, many, length_subsequence (compacted_subsequence count (steps_of b)), length_script b)

  pub kept_written : (out out' : List ℕ) → out' ≡ written step_records 0 (map (record_at b) (take top kept)) out → Compacting count b out out' top
  kept_written out out' e = record {
    many = many;
    bytes =
        e
        ∙ ap (λ (l : List StepRecord). written step_records 0 l out)
        (map_each (λ k. k < length (steps_of b)) (record_at b) (λ k. record_of (step_at (steps_of b) k))
        (λ k h. sym (faithful_at b k faithful h) ∙ ap record_of (meaning_at b k)) (take top kept) p.inside
        ∙ sym (map_map record_of (step_at (steps_of b)) (take top kept)) ∙ ap (map record_of) p.left);
  }

-- ---- each return

-- what is answered and left in the output
abbrev pub Compacts : ℕ → ℕ → List ℕ → List ℕ → Outcome → List ℕ → Type 0
Compacts n count script out o out' = (o ≡ compact_outcome n count script (length out)) × (out' ≡ compact_after n count script out)

module _ (n count : ℕ) (script out : List ℕ) where
  -- refused, and nothing written
  refuses : (r : Refusal) → compact_outcome n count script (length out) ≡ refused r → Compacts n count script out (refused r) out
  unfolding compact_after
  refuses r e = call_refused _ _ out r e

  pub many_variables : most_variables < n → (r : Refusal) → r ≡ refusal 1 0 → Compacts n count script out (refused r) out
  unfolding compact_outcome
  many_variables h r er = refuses r (unless_fails _ 1 0 _ (lt-leb n most_variables h) ∙ ap refused (sym er))

  module _ (few : n ≤ most_variables) where
    passes_1 : leb n most_variables ≡ true
    passes_1 = le-leb n most_variables few

    pub many_products : most_records < count → (r : Refusal) → r ≡ refusal 3 0 → Compacts n count script out (refused r) out
    unfolding compact_outcome
    many_products h r er = refuses r (unless_passes _ 1 0 _ passes_1 ∙ unless_fails _ 3 0 _ (lt-leb count most_records h) ∙ ap refused (sym er))

    module _ (short : count ≤ most_records) where
      passes_3 : leb count most_records ≡ true
      passes_3 = le-leb count most_records short

      pub script_refused : (r : Refusal) → check_script n script ≡ refused r → Compacts n count script out (refused r) out
      unfolding compact_outcome
      script_refused r e = refuses r (unless_passes _ 1 0 _ passes_1 ∙ unless_passes _ 3 0 _ passes_3 ∙ and_not _ _ r e)

      module _ (ok : Accepts (check_script n script)) where
        pub output_short : length out < length script → (r : Refusal) → r ≡ refusal 5 0 → Compacts n count script out (refused r) out
        unfolding compact_outcome
        output_short h r er =
            refuses r
            (unless_passes _ 1 0 _ passes_1 ∙ unless_passes _ 3 0 _ passes_3 ∙ and_then_lem _ _ _ ok.is ∙ unless_fails _ 5 0 _ (lt-leb (length script) (length out) h) ∙ ap refused (sym er))

        pub all_compacted : length script ≤ length out → (r : ℕ) (out' : List ℕ) → Compacting count script out out' r → Compacts n count script out (accepted (r ∷ [])) out'
        unfolding compact_outcome compact_after
        all_compacted h r out' t =
            call_accepted _ _ out (r ∷ []) out'
            (unless_passes _ 1 0 _ passes_1 ∙ unless_passes _ 3 0 _ passes_3 ∙ and_then_lem _ _ _ ok.is ∙ unless_passes _ 5 0 _ (le-leb (length script) (length out) h)
            ∙ ap (λ (k : ℕ). accepted (k ∷ [])) (sym t.many))
            t.bytes

-- ---- an accepted call

-- few variables, few products, a script that passes and room for it; the answer is the number of steps left
pub record AcceptedCompact (n count : ℕ) (script : List ℕ) (room : ℕ) (v : List ℕ) : Type 0 where
  pub few : n ≤ most_variables
  pub short : count ≤ most_records
  pub passes : Accepts (check_script n script)
  pub fits : length script ≤ room
  pub value : v ≡ length (compacted count (steps_of script)) ∷ []

pub compact_accepts : (n count : ℕ) (script : List ℕ) (room : ℕ) (v : List ℕ) → compact_outcome n count script room ≡ accepted v → AcceptedCompact n count script room v
unfolding compact_outcome
compact_accepts n count script room v e =
    let a = unless_accepted (leb n most_variables) 1 0 _ v e in
    let b = unless_accepted (leb count most_records) 3 0 _ v a.1 in
    let c = both_accepted (check_script n script) _ v b.1 in
    let d = unless_accepted (leb (length script) room) 5 0 _ v c.second in
    record {
      few = leb-true n most_variables a.0;
      short = leb-true count most_records b.0;
      passes = record { values = c.values; is = c.first };
      fits = leb-true (length script) room d.0;
      value = sym (accepted_values d.1);
    }

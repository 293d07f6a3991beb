-- Every call by its faults: the first that is wrong is what it refuses, and then it leaves its buffers as they were; where none is, how it goes on.
-- Assumes nothing.
use mathlib.Core.Path.{◌≡◌, refl, sym, ap, ap₂, ◌∙◌, subst}
use mathlib.Core.Logic.{inl, inr}
use mathlib.Core.Bool.{Bool, true, false, true≢false}
use mathlib.Core.List.{List, [], ◌∷◌, ◌++◌, append_assoc}
use Prim.Native.Nat.{ℕ, ◌*◌, ◌/◌, ◌%◌, ◌^◌, ◌≤◌, ◌<◌, min, zero-le}
use native.Mathlib.Omega.{arith}
use borrow.Author.Tests.{leb-false, leb-true, ltb-true, ltb-false, eqb-false, eqb-true, not-true, not-false}
use lib.Dec.{leb, ltb, eqb}
use lib.ListN.{length, get_or}
use Rattle.bits.specs.Below.{list_below}
use Rattle.bits.proofs.Below.{length_list_below, get_or_list_below}
use Rattle.records.specs.declared.Refusal.{Refusal}
use Rattle.records.specs.Records.{Codec, records, list_of}
use Rattle.records.specs.Places.{place_width, places}
use Rattle.records.specs.Answers.{Outcome, accepted, refused, refusal, unless, and_then}
use Rattle.records.proofs.Answers.{and_then_lem, and_not, after_refused, after_accepted}
use Rattle.records.proofs.Checks.{checked}
use Rattle.cube.specs.declared.Cube.{Cube}
use Rattle.cube.specs.Cubes.{good, one}
use Rattle.cube.specs.Lists.{most_variables, vector_variables, most_records, record_width, cubes, cubes_of, cube_capacity}
use Rattle.cube.specs.Calls.{check_records, check_list_of, check_list, check_at, value_outcome, vector_outcome, vector_after}
use Rattle.reasons.specs.Calls.{reasons_outcome, reasons_after}
use Rattle.converters.specs.NarrowRecord.{narrow_width, narrow_cubes, narrow_cubes_of, narrow_variables}
use Rattle.converters.specs.Calls.{wide_outcome, wide_after, narrow_outcome, narrow_after}
use Rattle.polarity.specs.Forms.{form_from}
use Rattle.polarity.specs.Vectors.{byte_at, is_bit, check_vector}
use Rattle.polarity.specs.Calls.{coefficients_outcome, coefficients_after, back_after, form_outcome, form_after, best_outcome}
use Rattle.trees.specs.Least.{tree_list}
use Rattle.trees.specs.Calls.{tree_outcome, tree_after}
use Rattle.kronecker.specs.Choices.{kronecker_list}
use Rattle.kronecker.specs.Calls.{kronecker_variables, kronecker_outcome, kronecker_after}
use Rattle.script.specs.Scripts.{step_records, step_width, most_steps, fits}
use Rattle.script.specs.Calls.{check_script, check_run, run_of, run_outcome, work_after_by, work_after, run_after}
use Rattle.index.specs.Index.{group_count, list_index, list_starts, list_group}
use Rattle.index.specs.Calls.{first_apart, unless_right, own_outcome, build_outcome, build_after, group_outcome}
use Rattle.index.proofs.Apart.{is_first}
use Rattle.indexed.specs.Calls.{check_indexed, indexed_outcome, indexed_work, indexed_index, indexed_starts, index_after, starts_after, accepts, begun}
use Rattle.writer.specs.Calls.{write_outcome, write_work, write_steps}
use Rattle.compactor.specs.Calls.{compact_outcome, compact_after}
use Rattle.druthmoy.specs.Faces.{starts_if}
use Rattle.settling.specs.Calls.{check_settle, settle_outcome, settle_work_by, settle_work, settle_out_by, settle_out}
use Rattle.shared.specs.SharedRecord.{no_shared, shares, shares_of, shared_capacity, fine}
use Rattle.shared.specs.Calls.{check_shared, check_shared_at, word_outcome}
use Rattle.shared_run.specs.SharedScripts.{shared_fits, check_shared_script}
use Rattle.shared_run.specs.Calls.{check_shared_run, shared_run_of, shared_run_outcome, shared_run_after, check_shared_settle, shared_settle_outcome, shared_settle_work, shared_settle_out}
use Rattle.promises.specs.Calls.{Call, check, value, reasons, truth_vector, coefficients, vector_back, write_form, best_polarity, write_tree, write_kronecker, run, build_index, group, run_indexed, write_script, compact, settle, wide_from_narrow, narrow_from_wide, shared_check, shared_value, shared_run, shared_settle, answers, lent, leaves}
use Rattle.promises.specs.Refusals.{Fault, at, lowest, Lowest, NoneWrong, FirstWrong, record_faults, list_faults, at_faults, script_faults, vector_faults, index_faults, not_right, shared_faults, shared_script_faults, faults}
use Rattle.promises.specs.Accepted.{goes_on, goes_on_leaving}
use Rattle.promises.proofs.Chains.{Judged, judge_end, judge_unless, judge_lowest, judge_and}
use Rattle.promises.proofs.Chains as chains

-- ---- the tests by number

module _ {xs : List Fault} {o rest : Outcome} (j : Judged xs o rest) where
  pub unless_le : (a b number place : ℕ) → Judged (at number place (b < a) ∷ xs) (unless (leb a b) number place o) rest
  unless_le a b number place = judge_unless (leb a b) number place (b < a) (leb-false a b) (λ t h. let l = leb-true a b t in omega arith) j

  unless_lt : (a b number place : ℕ) → Judged (at number place (b ≤ a) ∷ xs) (unless (ltb a b) number place o) rest
  unless_lt a b number place = judge_unless (ltb a b) number place (b ≤ a) (ltb-false a b) (λ t h. let l = ltb-true a b t in omega arith) j

  pub unless_eq : (a b number place : ℕ) → Judged (at number place (a ≡ b → ⊥) ∷ xs) (unless (eqb a b) number place o) rest
  unless_eq a b number place = judge_unless (eqb a b) number place (a ≡ b → ⊥) (eqb-false a b) (λ t h. h (eqb-true a b t)) j

-- ---- the chains

-- the test of a buffer of any kind of record, by its three numbers
by_checked : {A : Type 0} (C : Codec A) (test : A → Bool) (d : A) (cut many bad most : ℕ) (b : List ℕ)
    → Judged (at cut 0 (length b % C.width ≡ 0 → ⊥) ∷ at many 0 (most < length b / C.width) ∷ lowest bad test d (list_of C b) ∷ [])
    (checked C test cut many bad most b) (accepted (length (list_of C b) ∷ []))
by_checked C test d cut many bad most b =
    unless_eq
    (unless_le
    (judge_lowest test d bad (list_of C b) (judge_end (accepted (length (list_of C b) ∷ []))))
    (length b / C.width) most many 0)
    (length b % C.width) 0 cut 0

-- 2 to 4, and 1 to 4, of a list of any kind of cube record
by_records : (C : Codec Cube) (n : ℕ) (list : List ℕ) → Judged (record_faults C n list) (check_records C n list) (accepted (length (list_of C list) ∷ []))
unfolding record_faults
by_records C n list = by_checked C (good n) one 2 3 4 most_records list

pub by_list : (C : Codec Cube) (limit n : ℕ) (list : List ℕ) → Judged (list_faults C limit n list) (check_list_of C limit n list) (accepted (length (list_of C list) ∷ []))
unfolding check_list_of list_faults
by_list C limit n list = unless_le (by_records C n list) n limit 1 0

pub by_script : (n : ℕ) (script : List ℕ) → Judged (script_faults n script) (check_script n script) (accepted (length (list_of step_records script) ∷ []))
unfolding check_script script_faults
by_script n script = by_checked step_records (fits n) step_records.none 7 8 9 most_steps script

-- the same of shared products, and of a script on them
pub by_shared_lem : (n : ℕ) (list : List ℕ) → Judged (shared_faults n list) (check_shared n list) (accepted (length (shares_of list) ∷ []))
unfolding check_shared shared_faults
by_shared_lem n list = unless_le (by_checked shares (fine n) no_shared 2 3 4 most_records list) n most_variables 1 0

pub by_shared_script : (n : ℕ) (script : List ℕ) → Judged (shared_script_faults n script) (check_shared_script n script) (accepted (length (list_of step_records script) ∷ []))
unfolding check_shared_script shared_script_faults
by_shared_script n script = by_checked step_records (shared_fits n) step_records.none 7 8 9 most_steps script

pub by_vector : (n : ℕ) (l : List ℕ) → Judged (vector_faults n l) (check_vector n l) (accepted (2 ^ n ∷ []))
unfolding check_vector vector_faults
by_vector n l =
    unless_le
    (unless_eq
    (judge_lowest is_bit 0 14 l (judge_end (accepted (2 ^ n ∷ []))))
    (length l) (2 ^ n) 14 (2 ^ n))
    n vector_variables 1 0

-- what is tested of a list, and then `ys`
after_list : (C : Codec Cube) (limit n : ℕ) (list : List ℕ) (ys : List Fault) (o rest : Outcome)
    → Judged ys o rest → Judged (list_faults C limit n list ++ ys) (and_then (check_list_of C limit n list) o) rest
after_list C limit n list ys o rest j = judge_and (list_faults C limit n list) ys (check_list_of C limit n list) o rest _ (by_list C limit n list) j

after_shared : (n : ℕ) (list : List ℕ) (ys : List Fault) (o rest : Outcome)
    → Judged ys o rest → Judged (shared_faults n list ++ ys) (and_then (check_shared n list) o) rest
after_shared n list ys o rest j = judge_and (shared_faults n list) ys (check_shared n list) o rest _ (by_shared_lem n list) j

pub by_at : (n : ℕ) (list : List ℕ) (a : ℕ) → Judged (at_faults n list a) (check_at n list a) (accepted (length (cubes_of list) ∷ []))
unfolding check_at at_faults
by_at n list a = after_list cubes most_variables n list _ _ _ (unless_lt (judge_end _) a (2 ^ n) 6 0)

-- of m numbers, the first that is not the right one
module _ (m : ℕ) (l right : List ℕ) where
  abbrev is_right : ℕ → Bool
  is_right i = eqb (get_or l i 0) (get_or right i 0)

  abbrev up_to : List ℕ
  up_to = list_below m (λ i. i)

  at_place : (q : ℕ) → q < m → is_right (get_or up_to q 0) ≡ is_right q
  at_place q h = ap is_right (get_or_list_below m (λ i. i) q 0 h)

  passed_before : (q : ℕ) → q < first_apart m l right → is_right q ≡ true
  passed_before q h = not-false (is_right q) ((is_first m l right).before.none q zero-le h)

  none_apart : first_apart m l right ≡ m → (q : ℕ) → Lowest is_right 0 up_to q → ⊥
  none_apart e q low =
      let h : q < m = subst (λ (k : ℕ). q < k) (length_list_below m (λ i. i)) low.inside in
      true≢false (sym (passed_before q (subst (λ (k : ℕ). q < k) (sym e) h)) ∙ sym (at_place q h) ∙ low.fails)

  by_right : {xs : List Fault} {o rest : Outcome} → Judged xs o rest → Judged (not_right m l right ∷ xs) (unless_right m l right 25 o) rest
  by_right {xs = xs} {o = o} {rest = rest} j = go (eqb (first_apart m l right) m) refl j
    where
      go : (t : Bool) → eqb (first_apart m l right) m ≡ t → Judged xs o rest → Judged (not_right m l right ∷ xs) (unless t 25 (first_apart m l right) o) rest
      go true t (chains.wrong number q f e) = chains.wrong number q (inr (none_apart (eqb-true _ _ t), f)) e
      go true t (chains.right n e) = chains.right (none_apart (eqb-true _ _ t), n) e
      go false t k =
          let ne : first_apart m l right ≡ m → ⊥ = eqb-false (first_apart m l right) m t in
          let inside : first_apart m l right < m = omega (arith, (is_first m l right).before.most, ne) in
          chains.wrong 25 (first_apart m l right) (inl (
            refl,
            record {
              inside = subst (λ (k : ℕ). first_apart m l right < k) (sym (length_list_below m (λ i. i))) inside;
              fails = at_place (first_apart m l right) inside ∙ not-true (is_right (first_apart m l right)) ((is_first m l right).passes inside);
              passed = λ i h. at_place i (omega (arith, inside)) ∙ passed_before i h;
            },
          )) refl

by_group : (n : ℕ) (list index starts : List ℕ) (number : ℕ)
    → Judged (faults (group n list index starts number)) (group_outcome n list index starts number) (accepted (length (list_group (cubes_of list) number) ∷ []))
unfolding faults index_faults group_outcome own_outcome
by_group n list index starts number =
    subst (λ (xs : List Fault). Judged xs (group_outcome n list index starts number) (accepted (length (list_group (cubes_of list) number) ∷ [])))
    (sym (append_assoc (list_faults cubes most_variables n list) _ _))
    (after_list cubes most_variables n list _ _ _
    (unless_le
    (by_right (length (cubes_of list)) (records places (length (cubes_of list)) index) (list_index (cubes_of list))
    (by_right group_count starts (list_starts (cubes_of list)) (unless_lt (judge_end _) number group_count 21 0)))
    (place_width * length (cubes_of list)) (length index) 5 0))

after_vector : (n : ℕ) (l : List ℕ) (ys : List Fault) (o rest : Outcome)
    → Judged ys o rest → Judged (vector_faults n l ++ ys) (and_then (check_vector n l) o) rest
after_vector n l ys o rest j = judge_and (vector_faults n l) ys (check_vector n l) o rest _ (by_vector n l) j

-- ---- the calls

-- a call is refused before the first step and leaves its buffers as they were, or goes on
pub data Outcomes (c : Call) : Type 0 where
  wrong : (number place : ℕ) → FirstWrong (faults c) number place → answers c ≡ refused (refusal number place) → leaves c ≡ lent c → Outcomes c
  right : NoneWrong (faults c) → answers c ≡ goes_on c → leaves c ≡ goes_on_leaving c → Outcomes c

-- by what it tests before the first step
by_tests : (c : Call) (o : Outcome) (v : List ℕ) → Judged (faults c) o (accepted v)
    → ((r : Refusal) → o ≡ refused r → (answers c ≡ refused r) × (leaves c ≡ lent c))
    → (o ≡ accepted v → (answers c ≡ goes_on c) × (leaves c ≡ goes_on_leaving c))
    → Outcomes c
by_tests c o v (chains.wrong number place f e) no₁ yes₁ = let t = no₁ (refusal number place) e in wrong number place f t.0 t.1
by_tests c o v (chains.right none e) no₁ yes₁ = let t = yes₁ e in right none t.0 t.1

one_buffer : {b d : List ℕ} → b ≡ d → b ∷ [] ≡ d ∷ []
one_buffer e = ap (λ (x : List ℕ). x ∷ []) e

pub judged : (c : Call) → Outcomes c
unfolding answers lent leaves faults goes_on goes_on_leaving value_outcome reasons_outcome reasons_after vector_outcome vector_after coefficients_outcome coefficients_after back_after form_outcome form_after best_outcome tree_outcome tree_after kronecker_outcome kronecker_after run_outcome run_after check_run write_outcome write_work write_steps compact_outcome compact_after check_settle settle_outcome settle_work settle_out wide_outcome wide_after narrow_outcome narrow_after build_outcome build_after check_indexed indexed_outcome indexed_work indexed_index indexed_starts begun index_faults check_shared_at word_outcome check_shared_run shared_run_outcome shared_run_after check_shared_settle shared_settle_outcome shared_settle_work shared_settle_out
judged (check n list) = by_tests (check n list) (check_list most_variables n list) _ (by_list cubes most_variables n list) (λ r e. (e, refl)) (λ e. (e, refl))
judged (value n list a) =
    by_tests (value n list a) (check_at n list a) _ (by_at n list a) (λ r e. (and_not _ _ r e, refl)) (λ e. (and_then_lem _ _ _ e, refl))
judged (reasons n list a out) =
    by_tests (reasons n list a out) (reasons_outcome n list a (length out)) _
    (judge_and (at_faults n list a) _ (check_at n list a) _ _ _ (by_at n list a) (unless_le (judge_end _) (place_width * length (cubes_of list)) (length out) 5 0))
    (λ r e. (e, one_buffer (after_refused _ _ out r e))) (λ e. (e, one_buffer (after_accepted _ _ out _ e)))
judged (truth_vector n list out) =
    by_tests (truth_vector n list out) (vector_outcome n list (length out)) _
    (after_list cubes vector_variables n list _ _ _ (unless_le (judge_end _) (2 ^ n) (length out) 5 0))
    (λ r e. (e, one_buffer (after_refused _ _ out r e))) (λ e. (e, one_buffer (after_accepted _ _ out _ e)))
judged (coefficients n l p out) =
    by_tests (coefficients n l p out) (coefficients_outcome n l p (length out)) _
    (after_vector n l _ _ _ (unless_lt (unless_le (judge_end _) (2 ^ n) (length out) 5 0) p (2 ^ n) 15 0))
    (λ r e. (e, one_buffer (after_refused _ _ out r e))) (λ e. (e, one_buffer (after_accepted _ _ out _ e)))
judged (vector_back n l p out) =
    by_tests (vector_back n l p out) (coefficients_outcome n l p (length out)) _
    (after_vector n l _ _ _ (unless_lt (unless_le (judge_end _) (2 ^ n) (length out) 5 0) p (2 ^ n) 15 0))
    (λ r e. (e, one_buffer (after_refused _ _ out r e))) (λ e. (e, one_buffer (after_accepted _ _ out _ e)))
judged (write_form n l p out) =
    by_tests (write_form n l p out) (form_outcome n l p (length out)) _
    (after_vector n l _ _ _ (unless_lt (unless_le (judge_end _) (length (form_from n p (byte_at l))) (cube_capacity (length out)) 5 0) p (2 ^ n) 15 0))
    (λ r e. (e, one_buffer (after_refused _ _ out r e))) (λ e. (e, one_buffer (after_accepted _ _ out _ e)))
judged (best_polarity n l) =
    by_tests (best_polarity n l) (check_vector n l) _ (by_vector n l) (λ r e. (and_not _ _ r e, refl)) (λ e. (and_then_lem _ _ _ e, refl))
judged (write_tree n l out) =
    by_tests (write_tree n l out) (tree_outcome n l (length out)) _
    (after_vector n l _ _ _ (unless_le (judge_end _) (length (tree_list n (byte_at l))) (cube_capacity (length out)) 5 0))
    (λ r e. (e, one_buffer (after_refused _ _ out r e))) (λ e. (e, one_buffer (after_accepted _ _ out _ e)))
judged (write_kronecker n l out) =
    by_tests (write_kronecker n l out) (kronecker_outcome n l (length out)) _
    (unless_le
    (after_vector n l _ _ _ (unless_le (judge_end _) (length (kronecker_list n (byte_at l))) (cube_capacity (length out)) 5 0))
    n kronecker_variables 1 0)
    (λ r e. (e, one_buffer (after_refused _ _ out r e))) (λ e. (e, one_buffer (after_accepted _ _ out _ e)))
judged (run n list script work) =
    by_tests (run n list script work) (check_run n list script (length work)) _
    (after_list cubes most_variables n list _ _ _ (unless_le (by_script n script) (length (cubes_of list)) (cube_capacity (length work)) 5 0))
    (λ r e. (and_not _ _ r e, one_buffer (ap (λ (o : Outcome). work_after o work (run_of n list script (length work))) e)))
    (λ e. (and_then_lem _ _ _ e, one_buffer (ap (λ (o : Outcome). work_after o work (run_of n list script (length work))) e)))
judged (build_index n list index starts) =
    by_tests (build_index n list index starts) (build_outcome n list (length index)) _
    (after_list cubes most_variables n list _ _ _ (unless_le (judge_end _) (place_width * length (cubes_of list)) (length index) 5 0))
    (λ r e. (e, ap₂ (λ (b d : List ℕ). b ∷ d ∷ []) (after_refused _ _ index r e) (after_refused _ _ starts r e)))
    (λ e. (e, ap₂ (λ (b d : List ℕ). b ∷ d ∷ []) (after_accepted _ _ index _ e) (after_accepted _ _ starts _ e)))
judged (group n list index starts number) =
    by_tests (group n list index starts number) (group_outcome n list index starts number) _
    (by_group n list index starts number)
    (λ r e. (e, refl)) (λ e. (e, refl))
judged (run_indexed n list script work index starts) =
    by_tests (run_indexed n list script work index starts) (check_indexed n list script (length work) (length index)) _
    (after_list cubes most_variables n list _ _ _
    (unless_le (unless_le (by_script n script) (place_width * cube_capacity (length work)) (length index) 5 0) (length (cubes_of list)) (cube_capacity (length work)) 5 0))
    (λ r e. (and_not _ _ r e, three_buffers e)) (λ e. (and_then_lem _ _ _ e, three_buffers e))
  where
    three_buffers : {o : Outcome} → check_indexed n list script (length work) (length index) ≡ o
        → leaves (run_indexed n list script work index starts)
        ≡ work_after o work (run_of n list script (length work)) ∷ index_after o index (run_of n list script (length work))
        ∷ starts_if (accepts o) (starts_after o (run_of n list script (length work))) starts ∷ []
    three_buffers e =
        ap (λ (o : Outcome). work_after o work (run_of n list script (length work)) ∷ index_after o index (run_of n list script (length work))
        ∷ starts_if (accepts o) (starts_after o (run_of n list script (length work))) starts ∷ []) e
judged (write_script n list work script) =
    by_tests (write_script n list work script) (write_outcome n list (length work) (length script)) _
    (after_list cubes most_variables n list _ _ _
    (unless_le (unless_le (judge_end _) (step_width * min (length (cubes_of list)) most_steps) (length script) 5 0) (length (cubes_of list)) (cube_capacity (length work)) 5 0))
    (λ r e. (e, ap₂ (λ (b d : List ℕ). b ∷ d ∷ []) (after_refused _ _ work r e) (after_refused _ _ script r e)))
    (λ e. (e, ap₂ (λ (b d : List ℕ). b ∷ d ∷ []) (after_accepted _ _ work _ e) (after_accepted _ _ script _ e)))
judged (compact n count script out) =
    by_tests (compact n count script out) (compact_outcome n count script (length out)) _
    (unless_le
    (unless_le
    (judge_and (script_faults n script) _ (check_script n script) _ _ _ (by_script n script) (unless_le (judge_end _) (length script) (length out) 5 0))
    count most_records 3 0)
    n most_variables 1 0)
    (λ r e. (e, one_buffer (after_refused _ _ out r e))) (λ e. (e, one_buffer (after_accepted _ _ out _ e)))
judged (settle n list script work out) =
    by_tests (settle n list script work out) (check_settle n list script (length work) (length out)) _
    (after_list cubes most_variables n list _ _ _
    (unless_le (unless_le (by_script n script) (length (cubes_of list)) (cube_capacity (length out)) 5 0) (length (cubes_of list)) (cube_capacity (length work)) 5 0))
    (λ r e. (and_not _ _ r e, two_buffers e)) (λ e. (and_then_lem _ _ _ e, two_buffers e))
  where
    two_buffers : {o : Outcome} → check_settle n list script (length work) (length out) ≡ o
        → leaves (settle n list script work out) ≡ settle_work_by o work ∷ settle_out_by o n (cubes_of list) (run_of n list script (length work)) out ∷ []
    two_buffers e =
        ap (λ (o : Outcome). settle_work_by o work ∷ settle_out_by o n (cubes_of list) (run_of n list script (length work)) out ∷ []) e
judged (wide_from_narrow n list out) =
    by_tests (wide_from_narrow n list out) (wide_outcome n list (length out)) _
    (after_list narrow_cubes narrow_variables n list _ _ _ (unless_le (judge_end _) (record_width * length (narrow_cubes_of list)) (length out) 5 0))
    (λ r e. (e, one_buffer (after_refused _ _ out r e))) (λ e. (e, one_buffer (after_accepted _ _ out _ e)))
judged (narrow_from_wide n list out) =
    by_tests (narrow_from_wide n list out) (narrow_outcome n list (length out)) _
    (unless_le
    (unless_le
    (judge_and (record_faults cubes n list) _ (check_records cubes n list) _ _ _ (by_records cubes n list)
    (unless_le (judge_end _) (narrow_width * length (cubes_of list)) (length out) 5 0))
    n narrow_variables 20 0)
    n most_variables 1 0)
    (λ r e. (e, one_buffer (after_refused _ _ out r e))) (λ e. (e, one_buffer (after_accepted _ _ out _ e)))
judged (shared_check n list) = by_tests (shared_check n list) (check_shared n list) _ (by_shared_lem n list) (λ r e. (e, refl)) (λ e. (e, refl))
judged (shared_value n list a) =
    by_tests (shared_value n list a) (check_shared_at n list a) _
    (after_shared n list _ _ _ (unless_lt (judge_end _) a (2 ^ n) 6 0))
    (λ r e. (and_not _ _ r e, refl)) (λ e. (and_then_lem _ _ _ e, refl))
judged (shared_run n list script work) =
    by_tests (shared_run n list script work) (check_shared_run n list script (length work)) _
    (after_shared n list _ _ _ (unless_le (by_shared_script n script) (length (shares_of list)) (shared_capacity (length work)) 5 0))
    (λ r e. (and_not _ _ r e, one_buffer (ap (λ (o : Outcome). work_after_by shares o work (shared_run_of n list script (length work))) e)))
    (λ e. (and_then_lem _ _ _ e, one_buffer (ap (λ (o : Outcome). work_after_by shares o work (shared_run_of n list script (length work))) e)))
judged (shared_settle n list script work out) =
    by_tests (shared_settle n list script work out) (check_shared_settle n list script (length work) (length out)) _
    (after_shared n list _ _ _
    (unless_le (unless_le (by_shared_script n script) (length (shares_of list)) (shared_capacity (length out)) 5 0) (length (shares_of list)) (shared_capacity (length work)) 5 0))
    (λ r e. (and_not _ _ r e, ap₂ (λ (b d : List ℕ). b ∷ d ∷ []) (after_refused _ _ work r e) (after_refused _ _ out r e)))
    (λ e. (and_then_lem _ _ _ e, ap₂ (λ (b d : List ℕ). b ∷ d ∷ []) (after_accepted _ _ work _ e) (after_accepted _ _ out _ e)))

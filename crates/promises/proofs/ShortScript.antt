-- The short script, of a call of the compactor that was accepted: document 02, Eleven. "it removes the first pair from the front that is two equal L steps or two equal
-- turns in a row, or a split followed at once by the join of its place with the place just appended, named in that order; and it starts again at the front until none is
-- left. .. Where the given script is not refused, the short one is not refused either, and ends with the same list, with a peak no higher. Compacting twice is the same as
-- once. It answers the steps left." Which calls are accepted, and what the others are refused by, is demand 1. Of run and of settle, over their contracts and on their bytes.
-- Assumes nothing.
use mathlib.Core.Path.{◌≡◌, refl, sym, ap, ◌∙◌, subst}
use mathlib.Core.Bool.{true}
use mathlib.Core.List.{List, [], ◌∷◌, ◌++◌, map, Sublistᴰ}
use Prim.Native.Nat.{ℕ, ◌*◌, ◌≤◌, ◌<◌}
use native.Mathlib.Omega.{arith}
use borrow.Author.Tests.{le-leb}
use lib.ListN.{length, get_or, drop, replicate, length-take}
use Rattle.bits.specs.Bits.{with_bit}
use Rattle.bits.specs.Below.{those, list_below}
use Rattle.bits.specs.Sums.{All, first_bad}
use Rattle.bits.proofs.Subsequences.{all_subsequence, length_subsequence, map_subsequence}
use Rattle.bits.proofs.Sums.{map_back}
use Rattle.records.specs.Numbers.{bytes_of, number_at}
use Rattle.records.specs.Places.{remove_at}
use Rattle.records.specs.Records.{list_of, records, written, zeros, capacity_of, image, filled}
use Rattle.records.specs.Answers.{Outcome, accepted, refused, refusal}
use Rattle.records.proofs.Answers.{after_accepted, and_then_lem, unless_passes}
use Rattle.cube.specs.declared.Cube.{Cube}
use Rattle.cube.specs.Cubes.{code, put, apart, good}
use Rattle.cube.specs.Calls.{check_list_of}
use Rattle.cube.specs.Lists.{most_variables, most_records, cubes_of, cube_capacity}
use Rattle.orders.specs.Codes.{third}
use Rattle.steps.specs.Moves.{join_at, split_at, turn_at, applied}
use Rattle.steps.specs.Steps.{Step, Allowed, meaning, join_move, split_move, turn_move, step}
use Rattle.script.specs.Run.{ended, steps_from, undo_by}
use Rattle.script.specs.Run as running
use Rattle.script.specs.Scripts.{step_records, step_width, fits, record_of, steps_of}
use Rattle.script.specs.Calls.{check_script, check_run, run_of, run_outcome, run_after}
use Rattle.script.proofs.Scripts.{script_bytes, script_read, script_fits, script_written, AcceptedScript, script_accepts, record_meaning, records_of_bytes, length_script, steps_pass, steps_front, steps_rest}
use Rattle.compactor.specs.Compact.{Pair, equal_records, step_pair, count_along, without_first, NoPair, again, compacted}
use Rattle.compactor.specs.Calls.{compact_outcome, compact_after}
use Rattle.compactor.proofs.Pairs as pairs
use Rattle.compactor.proofs.Passing.{first_is}
use Rattle.compactor.proofs.Removing.{none_left, compacted_none, compacted_subsequence, compacted_twice}
use Rattle.compactor.proofs.Shorter.{EndsLower, compacted_run}
use Rattle.compactor.proofs.Calls.{AcceptedCompact, compact_accepts}
use Rattle.promises.specs.Calls.{Call, run, compact, answers, leaves, Called}
use Rattle.promises.specs.Refusals.{NoneWrong, script_faults, faults}
use Rattle.promises.specs.Accepted.{goes_on, goes_on_leaving}
use Rattle.promises.specs.OtherScript.{written_in, OtherScript, of_run}
use Rattle.promises.specs.PlainSteps.{no_literal, plain_literal}
use Rattle.promises.specs.ShortScript.{SameButPeak, two_turns, split_and_join}
use Rattle.promises.proofs.Calling.{only}
use Rattle.promises.proofs.Chains.{judged_none}
use Rattle.promises.proofs.DemandOne.{accepted_not_wrong, not_wrong_goes_on}
use Rattle.promises.proofs.Judging.{by_script}
use Rattle.promises.proofs.NotWrong.{good_list, fit_script}
use Rattle.promises.proofs.OtherScript.{fine_list, fine_script, fine_other}
use Rattle.promises.proofs.Shortening.{goes_lower}

-- ---- the meaning

module _ (count : ℕ) where
  -- The pairs are of the three kinds, and no others are.
  pub pair_is : (x y : Step) → step_pair count x y ≡ true → Pair count x y
  pair_is = pairs.pair_kind count

  pub is_pair : (x y : Step) → Pair count x y → step_pair count x y ≡ true
  is_pair x y = pairs.kind_pair count

  -- What is removed is the first from the front: a pair before which there is none, up to its first step.
  pub first_removed : (xs : List Step) (x y : Step) (rest : List Step) → NoPair count (xs ++ (x ∷ [])) → Pair (count_along count xs) x y
      → without_first count (xs ++ (x ∷ y ∷ rest)) ≡ xs ++ rest
  first_removed xs x y rest none p = first_is x y rest count xs none (pairs.kind_pair (count_along count xs) p)

-- ---- a call that was accepted

module _ (n count : ℕ) (script out : List ℕ) (left : ℕ) (out' : List ℕ) (called : Called (compact n count script out) (accepted (left ∷ [])) (out' ∷ [])) where
  abbrev short : List Step
  short = compacted count (steps_of script)

  taken : AcceptedCompact n count script (length out) (left ∷ [])
  unfolding answers
  taken = compact_accepts n count script (length out) (left ∷ []) (sym called.answer)

  is : AcceptedScript n script
  is = script_accepts n script taken.passes.values taken.passes.is

  all : left ≡ length (compacted count (steps_of script))
  all = ap (λ (v : List ℕ). get_or v 0 0) taken.value

  out_is : out' ≡ written step_records 0 (map record_of (compacted count (steps_of script))) out
  unfolding answers leaves compact_after
  out_is = only called.left ∙ after_accepted _ _ out _ (sym called.answer)

  fewer : length short ≤ length (steps_of script)
  fewer = length_subsequence (compacted_subsequence count (steps_of script))

  room : step_width * length (compacted count (steps_of script)) ≤ length out
  room = omega (arith, fewer, length_script script, taken.fits)

  bytes : written_in left out' ≡ script_bytes (compacted count (steps_of script))
  bytes = (λ i. written_in (all i) (out_is i)) ∙ steps_front short out room

  -- The steps left stand at the front of the output, ..
  pub short_steps : steps_of (written_in left out') ≡ compacted count (steps_of script)
  short_steps = ap steps_of bytes ∙ script_read short

  -- .. and every byte after them is as it was.
  pub output_no_more : drop (step_width * left) out' ≡ drop (step_width * left) out
  output_no_more = (λ i. drop (step_width * all i) (out_is i)) ∙ steps_rest short out room ∙ ap (λ (k : ℕ). drop (step_width * k) out) (sym all)

  -- No pair is left.
  pub no_pair_left : NoPair count (steps_of (written_in left out'))
  no_pair_left = subst (NoPair count) (sym short_steps) (none_left count (steps_of script))

  -- over any number of variables over which the given script passes
  passes : (m : ℕ) → All (Allowed m) (steps_of script) → check_script m (written_in left out') ≡ accepted (left ∷ [])
  passes m fit =
      ap (check_script m) bytes
      ∙ steps_pass short m (omega (arith, fewer, length_script script, is.short)) (all_subsequence (Allowed m) (compacted_subsequence count (steps_of script)) fit)
      ∙ ap (λ (k : ℕ). accepted (k ∷ [])) (sym all)

  -- The short script passes 7, 8 and 9, ..
  pub short_passes : check_script n (written_in left out') ≡ accepted (left ∷ [])
  short_passes = passes n (script_fits n script is.each)

  -- .. is no longer, in steps and in bytes, ..
  pub no_longer : (left ≤ length (steps_of script)) × (length (written_in left out') ≤ length script)
  no_longer =
      let few : left ≤ length (steps_of script) = omega (arith, all, fewer) in
      (few, omega (arith, length-take (step_width * left) out', length_script script))

  -- .. and is a subsequence of the given one: its records are some of the given script's, in their order.
  pub subsequence : Sublistᴰ (list_of step_records (written_in left out')) (list_of step_records script)
  unfolding steps_of
  subsequence =
      subst (λ (l : List _). Sublistᴰ l (list_of step_records script)) (sym (ap (list_of step_records) bytes ∙ records_of_bytes (map record_of short)))
      (subst (Sublistᴰ (map record_of short)) (map_back _ meaning record_of (record_meaning n) (list_of step_records script) is.each)
      (map_subsequence record_of (compacted_subsequence count (steps_of script))))

  -- A script in which there is no pair is written as it stands.
  pub no_pair_same : All (λ x. x < 256) script → NoPair count (steps_of script) → written_in left out' ≡ script
  no_pair_same small none = bytes ∙ ap script_bytes (compacted_none count (steps_of script) none) ∙ script_written n script small is.whole is.each

  -- Compacting twice is the same as once: a second call on what the first one wrote, in any output with room for it, is not refused; it answers the same number,
  -- and the same bytes stand at the front of its output.
  module _ (second : List ℕ) (enough : step_width * left ≤ length second) (o : Outcome) (second' : List ℕ)
      (repeated : Called (compact n count (written_in left out') second) o (second' ∷ [])) where
    same_left : compacted count (steps_of (written_in left out')) ≡ short
    same_left = ap (compacted count) short_steps ∙ compacted_twice count (steps_of script)

    pub twice_answers : o ≡ accepted (left ∷ [])
    unfolding answers compact_outcome
    twice_answers =
        repeated.answer
        ∙ unless_passes _ 1 0 _ (le-leb n most_variables taken.few) ∙ unless_passes _ 3 0 _ (le-leb count most_records taken.short) ∙ and_then_lem _ _ _ short_passes
        ∙ unless_passes _ 5 0 _ (le-leb (length (written_in left out')) (length second) (omega (arith, length-take (step_width * left) out')))
        ∙ ap (λ (xs : List Step). accepted (length xs ∷ [])) same_left ∙ ap (λ (k : ℕ). accepted (k ∷ [])) (sym all)

    pub twice_writes : written_in left second' ≡ written_in left out'
    unfolding answers leaves compact_after
    twice_writes =
        ap (written_in left) (only repeated.left ∙ after_accepted _ _ second _ (sym repeated.answer ∙ twice_answers)
        ∙ ap (λ (xs : List Step). written step_records 0 (map record_of xs) second) same_left)
        ∙ ap (λ (k : ℕ). written_in k (written step_records 0 (map record_of short) second)) all
        ∙ steps_front short second (omega (arith, all)) ∙ sym bytes

  -- For every list of that count, over any number of variables: a call of run or settle with the given script, and the same call with the short one, in a work buffer
  -- as long.
  module _ (m : ℕ) (list : List ℕ) (many : length (cubes_of list) ≡ count) (c c' : Call) (shorter : OtherScript m list script (written_in left out') c c')
      (o o' : Outcome) (buffers buffers' : List (List ℕ)) (given : Called c o buffers) (replaced : Called c' o' buffers')
      (v : List ℕ) (accepts : o ≡ accepted v) where
    fine : NoneWrong (faults c)
    fine = accepted_not_wrong c o buffers given v accepts

    fit : All (Allowed m) (steps_of script)
    fit = fit_script m script (fine_script shorter fine)

    ends : (room : ℕ) (l : List Cube) (p : ℕ) → run_of m list script room ≡ ended l p → EndsLower (run_of m list (written_in left out') room) l p
    unfolding run_of
    ends room l p e =
        subst (λ (xs : List Step). EndsLower (running.run m (cube_capacity room) xs (cubes_of list)) l p)
        (ap (λ (k : ℕ). compacted k (steps_of script)) many ∙ sym short_steps)
        (compacted_run m (cube_capacity room) (steps_of script) (cubes_of list) l p fit (good_list most_variables m list (fine_list shorter fine)) e)

    goes : SameButPeak v (goes_on c') × (goes_on_leaving c' ≡ goes_on_leaving c)
    goes = goes_lower ends shorter v (sym (not_wrong_goes_on c o buffers given fine).0 ∙ accepts)

    fine' : NoneWrong (faults c')
    fine' = fine_other shorter fine (judged_none (script_faults m (written_in left out')) _ _ _ (by_script m (written_in left out')) (passes m fit))

    -- Where the given script is not refused, the short one is not refused either: the answer is the same, but for a peak that is no higher, ..
    pub not_refused : SameButPeak v o'
    not_refused = subst (SameButPeak v) (sym (not_wrong_goes_on c' o' buffers' replaced fine').0) goes.0

    -- .. and every buffer ends with the same bytes: the work buffer of run, and both buffers of settle.
    pub same_bytes : buffers' ≡ buffers
    same_bytes = (not_wrong_goes_on c' o' buffers' replaced fine').1 ∙ goes.1 ∙ sym (not_wrong_goes_on c o buffers given fine).1

-- ---- what is not claimed

-- Where the given script is refused, nothing is: on the list of no cubes, turn v=0 0 1 is refused by 10; the same step twice is a pair, and the short script, which has no
-- step, is not refused.
pub refused_not_claimed :
    Called (run 1 [] two_turns []) (refused (refusal 10 0)) ([] ∷ [])
    × Called (compact 1 0 two_turns (replicate 16 7)) (accepted (0 ∷ [])) (replicate 16 7 ∷ [])
    × Called (run 1 [] (written_in 0 (replicate 16 7)) []) (accepted (0 ∷ 0 ∷ [])) ([] ∷ [])
unfolding answers leaves compact_outcome compact_after written compacted again without_first step_pair equal_records record_of run_outcome run_after check_run check_list_of check_script first_bad list_of records good fits steps_of meaning run_of with_bit those list_below bytes_of number_at code put apart turn_at applied turn_move step steps_from undo_by running.run capacity_of image filled
refused_not_claimed = (record { answer = refl; left = refl }, record { answer = refl; left = refl }, record { answer = refl; left = refl })

-- Nor is anything for lists of another count: compacted for lists of 1 product, split v=0 0 and join 0 1 are gone; on the list -, - they are not refused, and end in 1, 1.
pub other_count_not_claimed :
    Called (compact 1 1 split_and_join (replicate 16 7)) (accepted (0 ∷ [])) (replicate 16 7 ∷ [])
    × Called (run 1 (no_literal ++ no_literal) split_and_join (replicate 24 7)) (accepted (2 ∷ 3 ∷ [])) ((plain_literal ++ plain_literal ++ zeros 8) ∷ [])
    × Called (run 1 (no_literal ++ no_literal) (written_in 0 (replicate 16 7)) (replicate 24 7)) (accepted (2 ∷ 2 ∷ [])) ((no_literal ++ no_literal ++ zeros 8) ∷ [])
unfolding answers leaves compact_outcome compact_after written compacted again without_first step_pair equal_records record_of run_outcome run_after check_run check_list_of check_script first_bad list_of records good fits steps_of meaning run_of with_bit those list_below bytes_of number_at remove_at code put apart join_at split_at applied join_move split_move third step steps_from undo_by running.run capacity_of image filled
other_count_not_claimed = (record { answer = refl; left = refl }, record { answer = refl; left = refl }, record { answer = refl; left = refl })

-- So the count is needed: without it the bytes are not always the same, where neither script is refused.
pub bytes_need_the_count :
    ((n count : ℕ) (script out : List ℕ) (left : ℕ) (out' : List ℕ) → Called (compact n count script out) (accepted (left ∷ [])) (out' ∷ [])
    → (list : List ℕ) (c c' : Call) → OtherScript n list script (written_in left out') c c' → (v : List ℕ) → answers c ≡ accepted v → leaves c' ≡ leaves c)
    → ⊥
bytes_need_the_count claim =
    let p = other_count_not_claimed in
    let same = claim 1 1 split_and_join _ 0 _ p.0 (no_literal ++ no_literal) _ _ (of_run (replicate 24 7) (replicate 24 7) refl) _ (sym p.1.answer) in
    let z : ◌≡◌ {A = ℕ} 0 1 = ap (λ (b : List (List ℕ)). get_or (get_or b 0 []) 0 0) (p.2.left ∙ same ∙ sym p.1.left) in
    omega arith

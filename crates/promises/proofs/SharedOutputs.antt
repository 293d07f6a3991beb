-- Several slot bits in one list: document 02, Nine. "Output k's value is the parity over the products that carry bit k; the value call answers all 32 as one word. Drop, join
-- and turn need equal outputs; a split gives both halves i's. A new step, op 6, merges two equal cubes with different outputs into place i with the EXOR of the outputs and
-- removes j. Prove that products without bit k never sway output k, and that a script keeps every output's value. For these lists settling compares only the script's result
-- and the given list, by products; demand 3 holds for them in products, without its polarity clause or Six's forms. .. Plain scripts still refuse op 6 by 9." Which calls are
-- accepted, and what the others are refused by, is demand 1.
-- Assumes nothing.
use mathlib.Core.Path.{◌≡◌, refl, sym, ap, ◌∙◌, subst}
use mathlib.Core.Bool.{Bool, true, false, cond, ◌&&◌, true≢false}
use mathlib.Core.List.{List, [], ◌∷◌, map}
use Prim.Native.Nat.{ℕ, suc, ◌+◌, ◌-◌, ◌*◌, ◌/◌, ◌%◌, ◌^◌, ◌≤◌, ◌<◌}
use native.Mathlib.Nat.{le_refl, le_of_lt, le_trans, mul-le-mul_left, lt_of_not-le, le_antisymm}
use native.Mathlib.Omega.{arith}
use borrow.Author.Tests.{leb-true, leb-false, le-leb, lt-leb, eq-eqb}
use lib.Dec.{leb}
use lib.ListN.{length, get_or, drop, replicate}
use lib.Seq.{take_at, drop_at}
use Rattle.bits.specs.Bits.{bit}
use Rattle.bits.specs.Below.{sum_below}
use Rattle.bits.specs.Sums.{All, one_if, sum, first_bad}
use Rattle.bits.proofs.Bools.{both_true, never_true}
use Rattle.bits.proofs.Sums.{all_get, first_fails, first_lowest}
use Rattle.records.specs.Records.{flat, filled, image, list_of, zeros}
use Rattle.records.specs.Answers.{Outcome, accepted, refused, refusal, and_then, after_call}
use Rattle.records.proofs.Answers.{not_both, accepted_values, and_then_lem, unless_passes, unless_accepted, unless_at_refused, both_accepted}
use Rattle.records.proofs.Images.{length_flat}
use Rattle.records.proofs.Records.{length_list, list_flat, capacity_fits, capacity_most}
use Rattle.cube.specs.declared.Cube.{Cube}
use Rattle.cube.specs.Cubes.{holds, Good}
use Rattle.cube.specs.Lists.{record_width, cubes, cubes_of, cube_capacity, most_variables, most_records, trues, list_value}
use Rattle.cube.proofs.CubeRecord.{lawful}
use Rattle.cube.proofs.Calls.{value_accepts, accepts_value}
use Rattle.steps.specs.declared.StepRecord.{StepRecord}
use Rattle.steps.specs.Moves.{next}
use Rattle.steps.specs.Steps.{drop as drops, join, split, turn, L, exchanged, is_split, is_join, is_drop}
use Rattle.script.specs.Run.{Ran, stopped, ended}
use Rattle.script.specs.Scripts.{step_records, step_width, most_steps, fits}
use Rattle.script.specs.Counts.{how_many, greatest}
use Rattle.script.specs.Calls.{check_script, check_run}
use Rattle.script.proofs.Runs.{ended_list}
use Rattle.script.proofs.Scripts.{fits_parts, AcceptedScript, script_accepts}
use Rattle.script.proofs.Settled.{RanTo, ran_to}
use Rattle.script.proofs.Outcomes as outcomes
use Rattle.indexed.specs.Calls.{indexed_outcome, check_indexed}
use Rattle.indexed.proofs.Finishing as finishing
use Rattle.compactor.proofs.Calls.{compact_accepts}
use Rattle.settling.proofs.Outcomes.{settle_ended, settle_checked}
use Rattle.shared.specs.declared.Shared.{Shared}
use Rattle.shared.specs.SharedRecord.{shares, shares_of, shared_width, shared_capacity, Fine}
use Rattle.shared.specs.Outputs.{carries, carrying, output_value, output_count, value_word}
use Rattle.shared.specs.Calls.{check_shared}
use Rattle.shared.proofs.SharedRecord.{shared_lawful, shares_flat}
use Rattle.shared.proofs.Lists.{AcceptedShared, shared_accepts, accepts_shared}
use Rattle.shared.proofs.Calls.{AcceptedWord, word_accepts, accepts_word}
use Rattle.shared.proofs.Outputs.{carrying_le, carrying_good, output_sum, word_lt, word_bit, sway_added, sway_changed}
use Rattle.shared_steps.specs.SharedSteps.{SharedStep, plain, merge, merge_operation, SharedAllowed, on_cube, shared_step, is_merge, of_plain}
use Rattle.shared_steps.specs.Effects.{DropDone, JoinDone, SplitDone, TurnDone, MergeDone}
use Rattle.shared_steps.proofs.Inversion as inversion
use Rattle.shared_steps.proofs.Fair.{carries_fair}
use Rattle.shared_steps.proofs.Kept.{shared_back, shared_step_kept}
use Rattle.shared_run.specs.SharedScripts.{check_shared_script, shared_steps_of}
use Rattle.shared_run.specs.SharedRun.{shared_run, shared_lists, shared_burned}
use Rattle.shared_run.specs.Calls.{check_shared_run, shared_run_of, shared_run_outcome, shared_run_after, check_shared_settle, ran_shared, shared_settle_outcome, shared_settle_work, ran_shared_out, shared_settle_out}
use Rattle.shared_run.proofs.SharedScripts.{AcceptedSharedScript, shared_script_accepts, shared_script_fits}
use Rattle.shared_run.proofs.Value.{shared_run_fine, shared_run_value}
use Rattle.shared_run.proofs.Counts.{shared_lists_bound, shared_count, shared_run_lists, shared_peak, shared_peak_capacity, shared_last}
use Rattle.shared_run.proofs.Outcomes.{AcceptedSharedRun, shared_run_checked}
use Rattle.promises.specs.Calls.{Call, Called, answers, leaves}
use Rattle.promises.specs.Calls as call
use Rattle.promises.specs.SharedOutputs.{DifferWithout, changed, added, removed, shared_front, SharedEndsIn, BurnedByProducts, IsSharedRewrite, WithPlainScript, of_run, of_run_indexed, of_settle, of_compact, MergeAt}
use Rattle.promises.proofs.Calling.{only, work_of, out_of}

-- ---- "the value call answers all 32 as one word"

module _ (n : ℕ) (list : List ℕ) (a w : ℕ) (called : Called (call.shared_value n list a) (accepted (w ∷ [])) []) where
  word_taken : AcceptedWord n list a (w ∷ [])
  unfolding answers
  word_taken = word_accepts n list a (w ∷ []) (sym called.answer)

  -- An accepted value call answers the word of the list's outputs: ..
  pub word_is : w ≡ value_word n (shares_of list) a
  word_is = ap (λ (v : List ℕ). get_or v 0 0) word_taken.word

  -- .. 32 bits, ..
  pub word_below : w < 2 ^ output_count
  word_below = subst (λ (x : ℕ). x < 2 ^ output_count) (sym word_is) (word_lt n (shares_of list) a)

  module _ (k : ℕ) (h : k < output_count) where
    -- .. of which bit k is output k's value, ..
    pub word_is_outputs : bit w k ≡ output_value n k (shares_of list) a
    word_is_outputs = ap (λ (x : ℕ). bit x k) word_is ∙ word_bit n (shares_of list) a k h

    -- .. "the parity over the products that carry bit k"; ..
    pub output_is_parity : bit w k ≡ one_if (sum (λ r. carries k r && holds n r.cube a) (shares_of list))
    output_is_parity = word_is_outputs ∙ output_sum n k (shares_of list) a

    -- .. so it is what the plain value call answers, wherever that is accepted, for a list of just the cubes of the products that carry bit k.
    pub output_is_plain_value : (own : List ℕ) → cubes_of own ≡ carrying k (shares_of list) → (b t : ℕ) → Called (call.value n own a) (accepted (b ∷ t ∷ [])) [] → b ≡ bit w k
    unfolding answers output_value
    output_is_plain_value own e b t c =
        ap (λ (v : List ℕ). get_or v 0 0) (value_accepts n own a (b ∷ t ∷ []) (sym c.answer)).value
        ∙ ap (λ (l : List Cube). list_value n l a) e
        ∙ sym word_is_outputs

    -- There is such a list, and of it the plain call is accepted: the bytes of those cubes.
    pub plain_value_accepted : (o : Outcome) → Called (call.value n (flat cubes.enc (carrying k (shares_of list))) a) o []
        → o ≡ accepted (bit w k ∷ trues n (carrying k (shares_of list)) a ∷ [])
    unfolding answers output_value
    plain_value_accepted o c =
        let l : List Shared = shares_of list in
        let own : List ℕ = flat cubes.enc (carrying k l) in
        let back : cubes_of own ≡ carrying k l = list_flat cubes lawful (carrying k l) in
        let long : length own ≡ record_width * length (carrying k l) = length_flat cubes.enc record_width lawful.len (carrying k l) in
        let p = word_taken.at.list in
        let few : length (carrying k l) ≤ most_records = omega (arith, carrying_le k l, length_list shares list, p.short) in
        c.answer
        ∙ accepts_value n own a (record {
          list = record { few = p.few; whole = omega arith; short = omega arith; good = subst (All (Good n)) (sym back) (carrying_good n k l p.good) };
          below = word_taken.at.below;
        })
        ∙ ap (λ (m : List Cube). accepted (list_value n m a ∷ trues n m a ∷ [])) back
        ∙ ap (λ (x : ℕ). accepted (x ∷ trues n (carrying k l) a ∷ [])) (sym word_is_outputs)

-- ---- "products without bit k never sway output k"

without_same : (n k : ℕ) {l m : List Shared} → DifferWithout k l m → (a : ℕ) → output_value n k l a ≡ output_value n k m a
without_same n k (changed p s x y e f) a = sway_changed n k p s x e y f a
without_same n k (added p s x e) a = sway_added n k p s x e a
without_same n k (removed p s x e) a = sym (sway_added n k p s x e a)

-- Of two lists that differ in a product without bit k, changed, added or removed, the value calls at the same assignment answer words with the same bit k.
pub never_sways : (n k a : ℕ) → k < output_count → (list list' : List ℕ) → DifferWithout k (shares_of list) (shares_of list')
    → (w w' : ℕ) → Called (call.shared_value n list a) (accepted (w ∷ [])) [] → Called (call.shared_value n list' a) (accepted (w' ∷ [])) [] → bit w k ≡ bit w' k
never_sways n k a h list list' d w w' c c' =
    word_is_outputs n list a w c k h ∙ without_same n k d a ∙ sym (word_is_outputs n list' a w' c' k h)

-- ---- each step

-- What a step that is done found and what it leaves; of cubes it is the same as in a plain script.
module _ (n cap i j : ℕ) (l m : List Shared) where
  -- "Drop, join and turn need equal outputs"
  pub drop_done : shared_step n cap (plain (drops i j)) l ≡ next m → DropDone n i j l m
  drop_done = inversion.drop_accepted n cap i j l m

  pub join_done : shared_step n cap (plain (join i j)) l ≡ next m → JoinDone n i j l m
  join_done = inversion.join_accepted n cap i j l m

  pub turn_done : (v : ℕ) → shared_step n cap (plain (turn v i j)) l ≡ next m → TurnDone n v i j l m
  turn_done v = inversion.turn_accepted n cap v i j l m

  -- "a split gives both halves i's"
  pub split_done : (v : ℕ) → shared_step n cap (plain (split v i)) l ≡ next m → SplitDone cap v i l m
  split_done v = inversion.split_accepted n cap v i l m

  -- "merges two equal cubes with different outputs into place i with the EXOR of the outputs and removes j"
  pub merge_done : shared_step n cap (merge i j) l ≡ next m → MergeDone n i j l m
  merge_done = inversion.merge_accepted n cap i j l m

-- L is never refused; it is made of every cube, and leaves the outputs.
pub l_step : (n cap v b : ℕ) (l : List Shared) → shared_step n cap (plain (L v b)) l ≡ next (map (on_cube (exchanged v b)) l)
l_step = inversion.l_accepted

-- A rewrite that is done keeps every output's value, step by step.
pub rewrite_keeps_outputs : (n cap : ℕ) (x : SharedStep) → IsSharedRewrite x → SharedAllowed n x → (l m : List Shared) → All (Fine n) l → shared_step n cap x l ≡ next m
    → (k a : ℕ) → output_value n k m a ≡ output_value n k l a
rewrite_keeps_outputs n cap x r h l m g e k a =
    output_sum n k m a ∙ ap one_if (go x r ((shared_step_kept n cap l m g x h e).sums weight (carries_fair n k a))) ∙ sym (output_sum n k l a)
  where
    weight : Shared → Bool
    weight r = carries k r && holds n r.cube a

    go : (x : SharedStep) → IsSharedRewrite x → sum (λ r. weight (shared_back x r)) m ≡ sum weight l → sum weight m ≡ sum weight l
    go (plain (drops i j)) r s = s
    go (plain (join i j)) r s = s
    go (plain (split v i)) r s = s
    go (plain (turn v i j)) r s = s
    go (plain (L v b)) r s = absurd r
    go (merge i j) r s = s

-- ---- a list that a call left at the front of a buffer, with the outputs of the given list

record Left (n : ℕ) (list : List ℕ) (m : List Shared) (room count : ℕ) (b : List ℕ) : Type 0 where
  few : n ≤ most_variables
  is : b ≡ image shares room m
  many : count ≡ length m
  short : length m ≤ most_records
  fine : All (Fine n) m
  same : (k a : ℕ) → output_value n k m a ≡ output_value n k (shares_of list) a

module _ {n : ℕ} {list : List ℕ} {m : List Shared} {room count : ℕ} {b : List ℕ} (t : Left n list m room count b) where
  flat_long : length (flat shares.enc m) ≡ shared_width * count
  flat_long = length_flat shares.enc shared_width shared_lawful.len m ∙ ap (λ (k : ℕ). shared_width * k) (sym t.many)

  front_flat : shared_front count b ≡ flat shares.enc m
  unfolding image filled
  front_flat = ap (shared_front count) t.is ∙ take_at (flat shares.enc m) (replicate (room - length (flat shares.enc m)) 0) (shared_width * count) flat_long

  front_list : shares_of (shared_front count b) ≡ m
  front_list = ap shares_of front_flat ∙ shares_flat m

  front_zeros : drop (shared_width * count) b ≡ zeros (room - shared_width * count)
  unfolding image filled
  front_zeros =
      ap (drop (shared_width * count)) t.is
      ∙ drop_at (flat shares.enc m) (replicate (room - length (flat shares.enc m)) 0) (shared_width * count) flat_long
      ∙ ap (λ (k : ℕ). zeros (room - k)) flat_long

  front_outputs : (k a : ℕ) → output_value n k (shares_of (shared_front count b)) a ≡ output_value n k (shares_of list) a
  front_outputs k a = ap (λ (l : List Shared). output_value n k l a) front_list ∙ t.same k a

  front_word : (a : ℕ) → value_word n (shares_of (shared_front count b)) a ≡ value_word n (shares_of list) a
  unfolding value_word
  front_word a = λ i. sum_below output_count (λ k. front_outputs k a i * 2 ^ k)

  front_long : length (shared_front count b) ≡ shared_width * count
  front_long = ap length front_flat ∙ flat_long

  front_passes : AcceptedShared n (shared_front count b)
  front_passes = record {
    few = t.few;
    whole = omega (arith, front_long);
    short = omega (arith, front_long, t.many, t.short);
    good = subst (All (Fine n)) (sym front_list) t.fine;
  }

  front_checks : (o : Outcome) → Called (call.shared_check n (shared_front count b)) o [] → o ≡ accepted (count ∷ [])
  unfolding answers
  front_checks o c =
      let many : length (shared_front count b) / shared_width ≡ count = omega (arith, front_long) in
      c.answer ∙ accepts_shared n (shared_front count b) front_passes ∙ ap (λ (k : ℕ). accepted (k ∷ [])) many

  front_words : (a w : ℕ) (o : Outcome) → Called (call.shared_value n list a) (accepted (w ∷ [])) [] → Called (call.shared_value n (shared_front count b) a) o []
      → o ≡ accepted (w ∷ [])
  unfolding answers
  front_words a w o first second =
      second.answer
      ∙ accepts_word n (shared_front count b) a (record { list = front_passes; below = (word_taken n list a w first).at.below })
      ∙ ap (λ (x : ℕ). accepted (x ∷ [])) (front_word a ∙ sym (word_is n list a w first))

-- ---- "a script keeps every output's value"

module _ (n : ℕ) (list script work work' : List ℕ) (count peak : ℕ)
    (called : Called (call.shared_run n list script work) (accepted (count ∷ peak ∷ [])) (work' ∷ [])) where
  abbrev cap : ℕ
  cap = shared_capacity (length work)

  abbrev steps : List SharedStep
  steps = shared_steps_of script

  end : RanTo shares (check_shared_run n list script (length work)) (shared_run_of n list script (length work)) work work' count peak
  unfolding answers leaves shared_run_outcome shared_run_after
  end = ran_to shares (check_shared_run n list script (length work)) (shared_run_of n list script (length work)) work work' (only called.left) count peak called.answer

  passed : AcceptedSharedRun n list script (length work)
  passed = shared_run_checked n list script (length work) (record { values = end.values; is = end.checked })

  ran : shared_run n cap steps (shares_of list) ≡ ended end.result peak
  unfolding shared_run_of
  ran = end.is

  allowed : All (SharedAllowed n) steps
  allowed = shared_script_fits n script passed.script_is.each

  room : length end.result ≤ cap
  room =
      omega (
        arith,
        shared_last n cap steps (shares_of list) end.result peak ran,
        shared_peak_capacity n cap steps (shares_of list) end.result peak ran,
        passed.fits,
        length_list shares list,
      )

  left : Left n list end.result (length work) count work'
  left = record {
    few = passed.list_is.few;
    is = end.buffer;
    many = end.many;
    short = le_trans room (capacity_most shares most_records (length work));
    fine = shared_run_fine n cap steps allowed (shares_of list) passed.list_is.good end.result peak ran;
    same = shared_run_value n cap steps allowed (shares_of list) passed.list_is.good end.result peak ran;
  }

  -- An accepted run fills the front of work with the list that the script ends in, after the undoing, ..
  pub run_ends : shared_run n (shared_capacity (length work)) (shared_steps_of script) (shares_of list) ≡ ended (shares_of (shared_front count work')) peak
  run_ends = ran ∙ ap (λ (m : List Shared). ended m peak) (sym (front_list left))

  -- .. of as many products as it answers, which fit, ..
  pub result_count : length (shares_of (shared_front count work')) ≡ count
  result_count = ap length (front_list left) ∙ sym end.many

  pub result_fits : shared_width * count ≤ length work
  result_fits =
      le_trans (mul-le-mul_left shared_width (subst (λ (k : ℕ). k ≤ cap) (sym end.many) room)) (capacity_fits shares most_records (length work))

  -- .. and zeros after it.
  pub result_zeros : drop (shared_width * count) work' ≡ zeros (length work - shared_width * count)
  result_zeros = front_zeros left

  -- The bytes of the result are a list of shared products: the check accepts them, with that count.
  pub result_accepted : (o : Outcome) → Called (call.shared_check n (shared_front count work')) o [] → o ≡ accepted (count ∷ [])
  result_accepted = front_checks left

  -- A script keeps every output's value, at every assignment: ..
  pub script_keeps_outputs : (k a : ℕ) → output_value n k (shares_of (shared_front count work')) a ≡ output_value n k (shares_of list) a
  script_keeps_outputs = front_outputs left

  -- .. wherever the value call answers a word of the given list, it answers the same word of the result.
  pub script_keeps_word : (a w : ℕ) (o : Outcome) → Called (call.shared_value n list a) (accepted (w ∷ [])) [] → Called (call.shared_value n (shared_front count work') a) o []
      → o ≡ accepted (w ∷ [])
  script_keeps_word = front_words left

  -- "the first count plus splits, less joins, less merges, less twice the drops"
  pub run_count : count + how_many (of_plain is_join) (shared_steps_of script) + how_many is_merge (shared_steps_of script) + 2 * how_many (of_plain is_drop) (shared_steps_of script)
      ≡ length (shares_of list) + how_many (of_plain is_split) (shared_steps_of script)
  run_count = omega (arith, shared_count n cap steps (shares_of list) end.result peak ran, end.many)

  -- "The peak is the greatest count met, the first included", of the lists between the steps, of which there is one more than there are steps.
  pub run_peak : peak ≡ greatest (shared_lists n (shared_capacity (length work)) (shared_steps_of script) (shares_of list))
  run_peak = shared_peak n cap steps (shares_of list) end.result peak ran

  pub run_lists : length (shared_lists n (shared_capacity (length work)) (shared_steps_of script) (shares_of list)) ≡ suc (length (shared_steps_of script))
  run_lists = shared_run_lists n cap steps (shares_of list) end.result peak ran

  -- "It is at most the first count plus splits."
  pub run_peak_at_most : peak ≤ length (shares_of list) + how_many (of_plain is_split) (shared_steps_of script)
  run_peak_at_most = omega (arith, run_peak, (shared_lists_bound n cap steps (shares_of list)).0)

-- ---- "settling compares only the script's result and the given list, by products"

module _ (result given : List Shared) where
  burned_by : BurnedByProducts result given (shared_burned result given)
  burned_by = record {
    result_where_no_more = λ h. ap (λ (t : Bool). cond t result given) (le-leb (length result) (length given) h);
    given_else = λ h. ap (λ (t : Bool). cond t result given) (lt-leb (length result) (length given) h);
  }

  burned_one : (P : List Shared → Type 0) → P result → P given → P (shared_burned result given)
  burned_one P p q = go (leb (length result) (length given))
    where
      go : (t : Bool) → P (cond t result given)
      go true = p
      go false = q

  burned_most : (length (shared_burned result given) ≤ length result) × (length (shared_burned result given) ≤ length given)
  burned_most = go (leb (length result) (length given)) refl
    where
      go : (t : Bool) → leb (length result) (length given) ≡ t → (length (cond t result given) ≤ length result) × (length (cond t result given) ≤ length given)
      go true e = (le_refl (length result), leb-true _ _ e)
      go false e = (le_of_lt (leb-false _ _ e), le_refl (length given))

-- what an accepted call says of its input, its counts and its buffers
record Settling (n : ℕ) (list script work out : List ℕ) (given peak count burned : ℕ) (work' out' : List ℕ) : Type 0 where
  values : List ℕ
  checked : check_shared_settle n list script (length work) (length out) ≡ accepted values
  result : List Shared
  is : shared_run_of n list script (length work) ≡ ended result peak
  given_is : given ≡ length (shares_of list)
  count_is : count ≡ length result
  burned_is : burned ≡ length (shared_burned result (shares_of list))
  work_is : work' ≡ zeros (length work)
  out_is : out' ≡ image shares (length out) (shared_burned result (shares_of list))

record Passed (n : ℕ) (list script : List ℕ) (out : ℕ) : Type 0 where
  list_is : AcceptedShared n list
  out_room : length (shares_of list) ≤ shared_capacity out
  script_is : AcceptedSharedScript n script

settle_passed : (n : ℕ) (list script : List ℕ) (work out : ℕ) (v : List ℕ) → check_shared_settle n list script work out ≡ accepted v → Passed n list script out
unfolding check_shared_settle
settle_passed n list script work out v e =
    let b = both_accepted (check_shared n list) _ v e in
    let c = unless_accepted (leb (length (shares_of list)) (shared_capacity work)) 5 0 _ v b.second in
    let d = unless_accepted (leb (length (shares_of list)) (shared_capacity out)) 5 0 (check_shared_script n script) v c.1 in
    record { list_is = shared_accepts n list b.values b.first; out_room = leb-true _ _ d.0; script_is = shared_script_accepts n script v d.1 }

module _ (n : ℕ) (list script work out work' out' : List ℕ) (given peak count burned : ℕ)
    (called : Called (call.shared_settle n list script work out) (accepted (given ∷ peak ∷ count ∷ burned ∷ [])) (work' ∷ out' ∷ [])) where
  settling : Settling n list script work out given peak count burned work' out'
  unfolding answers leaves shared_settle_outcome shared_settle_work shared_settle_out
  settling =
      go (check_shared_settle n list script (length work) (length out)) (shared_run_of n list script (length work)) refl refl called.answer (work_of called.left)
      (out_of called.left)
    where
      go : (o : Outcome) (t : Ran Shared) → check_shared_settle n list script (length work) (length out) ≡ o → shared_run_of n list script (length work) ≡ t
          → accepted (given ∷ peak ∷ count ∷ burned ∷ []) ≡ and_then o (ran_shared (shares_of list) t) → work' ≡ after_call o (zeros (length work)) work
          → out' ≡ after_call o (ran_shared_out (shares_of list) t out) out → Settling n list script work out given peak count burned work' out'
      go (refused q) t eo et a w x = absurd (not_both a)
      go (accepted v) (stopped why step) eo et a w x = absurd (not_both a)
      go (accepted v) (ended m p) eo et a w x =
          let values = accepted_values a in
          record {
            values = v;
            checked = eo;
            result = m;
            is = et ∙ ap (ended m) (sym (ap (λ (u : List ℕ). get_or u 1 0) values));
            given_is = ap (λ (u : List ℕ). get_or u 0 0) values;
            count_is = ap (λ (u : List ℕ). get_or u 2 0) values;
            burned_is = ap (λ (u : List ℕ). get_or u 3 0) values;
            work_is = w;
            out_is = x;
          }

  abbrev result : List Shared
  result = settling.result

  let_through : Passed n list script (length out)
  let_through = settle_passed n list script (length work) (length out) settling.values settling.checked

  ends : shared_run n (shared_capacity (length work)) (shared_steps_of script) (shares_of list) ≡ ended result peak
  unfolding shared_run_of
  ends = settling.is

  fit : All (SharedAllowed n) (shared_steps_of script)
  fit = shared_script_fits n script let_through.script_is.each

  out_room : length (shared_burned result (shares_of list)) ≤ shared_capacity (length out)
  out_room = le_trans (burned_most result (shares_of list)).1 let_through.out_room

  burned_left : Left n list (shared_burned result (shares_of list)) (length out) burned out'
  burned_left = record {
    few = let_through.list_is.few;
    is = settling.out_is;
    many = settling.burned_is;
    short = le_trans out_room (capacity_most shares most_records (length out));
    fine =
        burned_one result (shares_of list) (All (Fine n))
        (shared_run_fine n (shared_capacity (length work)) (shared_steps_of script) fit (shares_of list) let_through.list_is.good result peak ends)
        let_through.list_is.good;
    same = λ k a.
        burned_one result (shares_of list) (λ m. output_value n k m a ≡ output_value n k (shares_of list) a)
        (shared_run_value n (shared_capacity (length work)) (shared_steps_of script) fit (shares_of list) let_through.list_is.good result peak ends k a)
        refl;
  }

  -- What is accepted keeps to the limits.
  pub limits : (n ≤ most_variables) × (length (shares_of list) ≤ most_records) × (length script / step_width ≤ most_steps)
  limits = (let_through.list_is.few, omega (arith, let_through.list_is.short, length_list shares list), let_through.script_is.short)

  -- An accepted call answers the number of the given products, ..
  pub given_count : given ≡ length (shares_of list)
  given_count = settling.given_is

  -- .. the peak of the script and the count of its result, after the undoing, ..
  pub script_ends : SharedEndsIn n list script work count peak
  script_ends = record { result = result; is = ends; many = settling.count_is }

  -- .. "the first count plus splits, less joins, less merges, less twice the drops", ..
  pub script_count : count + how_many (of_plain is_join) (shared_steps_of script) + how_many is_merge (shared_steps_of script) + 2 * how_many (of_plain is_drop) (shared_steps_of script)
      ≡ length (shares_of list) + how_many (of_plain is_split) (shared_steps_of script)
  script_count = omega (arith, shared_count n (shared_capacity (length work)) (shared_steps_of script) (shares_of list) result peak ends, settling.count_is)

  pub script_peak : peak ≡ greatest (shared_lists n (shared_capacity (length work)) (shared_steps_of script) (shares_of list))
  script_peak = shared_peak n (shared_capacity (length work)) (shared_steps_of script) (shares_of list) result peak ends

  -- .. and the number of the burned products.
  pub burned_count : length (shares_of (shared_front burned out')) ≡ burned
  burned_count = ap length (front_list burned_left) ∙ sym settling.burned_is

  -- The list we burn is the script's result where that has no more products than the given list, and else the given list.
  pub burned_by_products : (m : List Shared) (p : ℕ) → shared_run n (shared_capacity (length work)) (shared_steps_of script) (shares_of list) ≡ ended m p
      → BurnedByProducts m (shares_of list) (shares_of (shared_front burned out'))
  burned_by_products m p e =
      subst (λ (l : List Shared). BurnedByProducts l (shares_of list) (shares_of (shared_front burned out'))) (ended_list (sym ends ∙ e))
      (subst (BurnedByProducts result (shares_of list)) (sym (front_list burned_left)) (burned_by result (shares_of list)))

  -- That result is what run leaves, in a work buffer as long.
  pub burned_as_run : (again again' : List ℕ) (c p : ℕ) → length again ≡ length work → Called (call.shared_run n list script again) (accepted (c ∷ p ∷ [])) (again' ∷ [])
      → BurnedByProducts (shares_of (shared_front c again')) (shares_of list) (shares_of (shared_front burned out'))
  burned_as_run again again' c p e ran =
      burned_by_products (shares_of (shared_front c again')) p
      (subst (λ (r : ℕ). shared_run n (shared_capacity r) (shared_steps_of script) (shares_of list) ≡ ended (shares_of (shared_front c again')) p) e
      (run_ends n list script again again' c p ran))

  -- Demand 3, in products: it has every output's value of the given list, at every assignment, ..
  pub burned_keeps_outputs : (k a : ℕ) → output_value n k (shares_of (shared_front burned out')) a ≡ output_value n k (shares_of list) a
  burned_keeps_outputs = front_outputs burned_left

  -- .. and no more products than the given list or than the list the script ends in.
  pub no_more_than_given : burned ≤ given
  no_more_than_given = omega (arith, settling.burned_is, settling.given_is, (burned_most result (shares_of list)).1)

  pub no_more_than_script : burned ≤ count
  no_more_than_script = omega (arith, settling.burned_is, settling.count_is, (burned_most result (shares_of list)).0)

  -- Wherever the value call answers a word of the given list, it answers the same word of the burned one, ..
  pub burned_keeps_word : (a w : ℕ) (o : Outcome) → Called (call.shared_value n list a) (accepted (w ∷ [])) [] → Called (call.shared_value n (shared_front burned out') a) o []
      → o ≡ accepted (w ∷ [])
  burned_keeps_word = front_words burned_left

  -- .. whose bytes the check accepts again.
  pub burned_accepted : (o : Outcome) → Called (call.shared_check n (shared_front burned out')) o [] → o ≡ accepted (burned ∷ [])
  burned_accepted = front_checks burned_left

  -- After the list, which fits, every byte of the output buffer is zero; and every byte of the work buffer is.
  pub burned_fits : shared_width * burned ≤ length out
  burned_fits =
      le_trans (mul-le-mul_left shared_width (subst (λ (k : ℕ). k ≤ shared_capacity (length out)) (sym settling.burned_is) out_room))
      (capacity_fits shares most_records (length out))

  pub burned_zeros : drop (shared_width * burned) out' ≡ zeros (length out - shared_width * burned)
  burned_zeros = front_zeros burned_left

  pub work_zero : work' ≡ zeros (length work)
  work_zero = settling.work_is

-- ---- "Plain scripts still refuse op 6 by 9"

-- No step with op 6 passes 9 of a plain script, ..
pub merge_unfit : (n : ℕ) (r : StepRecord) → r.op ≡ merge_operation → fits n r ≡ false
merge_unfit n r e =
    never_true (fits n r) (λ t. omega (arith, leb-true r.op 5 (both_true (leb 1 r.op) (leb r.op 5) (fits_parts n r t).op_known).1))

not_passed : (n : ℕ) (script : List ℕ) (k : ℕ) → MergeAt script k → AcceptedScript n script → ⊥
not_passed n script k at s =
    true≢false (sym (all_get (λ r. fits n r ≡ true) (list_of step_records script) k step_records.none s.each at.inside) ∙ merge_unfit n _ at.is)

-- .. so a call with a plain script that has such a step is never accepted; ..
pub merge_never_accepted : (n : ℕ) (script : List ℕ) (k : ℕ) → MergeAt script k → {c : Call} → WithPlainScript n script c
    → (v : List ℕ) (buffers : List (List ℕ)) → Called c (accepted v) buffers → ⊥
unfolding answers indexed_outcome
merge_never_accepted n script k at (of_run list work) v buffers called =
    not_passed n script k at (outcomes.run_checked n list script (length work) (outcomes.run_accepted n list script (length work) v (sym called.answer)).checks).script_is
merge_never_accepted n script k at (of_run_indexed list work index starts) v buffers called =
    let b = both_accepted (check_indexed n list script (length work) (length index)) _ v (sym called.answer) in
    not_passed n script k at (outcomes.run_checked n list script (length work) (finishing.run_accepts n list script (length work) (length index) b.values b.first)).script_is
merge_never_accepted n script k at (of_settle list work out) v buffers called =
    let e = settle_ended n list script (length work) (length out) v (sym called.answer) in
    not_passed n script k at (settle_checked n list script (length work) (length out) e.values e.checked).script_is
merge_never_accepted n script k at (of_compact count out) v buffers called =
    let p = (compact_accepts n count script (length out) v (sym called.answer)).passes in
    not_passed n script k at (script_accepts n script p.values p.is)

module _ (n : ℕ) (list script work : List ℕ) (k : ℕ) (at : MergeAt script k) (before : (i : ℕ) → i < k → fits n (get_or (list_of step_records script) i step_records.none) ≡ true) where
  abbrev records : List StepRecord
  records = list_of step_records script

  none_lower : first_bad (fits n) records < k → ⊥
  none_lower h = true≢false (sym (before _ h) ∙ first_fails (fits n) step_records.none records (omega (arith, at.inside)))

  none_higher : k < first_bad (fits n) records → ⊥
  none_higher h = true≢false (sym (first_lowest (fits n) step_records.none records k h) ∙ merge_unfit n _ at.is)

  lowest_is : k ≡ first_bad (fits n) records
  lowest_is = le_antisymm (omega (arith, lt_of_not-le none_lower)) (omega (arith, lt_of_not-le none_higher))

  script_refused : length script % step_width ≡ 0 → length script / step_width ≤ most_steps → check_script n script ≡ refused (refusal 9 k)
  unfolding check_script
  script_refused whole short =
      unless_passes _ 7 0 _ (eq-eqb _ _ whole) ∙ unless_passes _ 8 0 _ (le-leb _ _ short)
      ∙ sym (unless_at_refused (fits n) 9 records _ k lowest_is (λ e. omega (arith, at.inside)))

  -- .. and run, of a list that is accepted and fits and a script of which nothing before that step is wrong, refuses it by 9 there, and writes nothing.
  pub merge_refused : (v : List ℕ) → Called (call.check n list) (accepted v) [] → length (cubes_of list) ≤ cube_capacity (length work)
      → length script % step_width ≡ 0 → length script / step_width ≤ most_steps
      → (o : Outcome) (work' : List ℕ) → Called (call.run n list script work) o (work' ∷ []) → (o ≡ refused (refusal 9 k)) × (work' ≡ work)
  unfolding answers leaves check_run
  merge_refused v listed fit whole short o work' called =
      let e : check_run n list script (length work) ≡ refused (refusal 9 k) =
      and_then_lem _ _ v (sym listed.answer) ∙ unless_passes _ 5 0 _ (le-leb _ _ fit) ∙ script_refused whole short in
      let t = outcomes.run_refuses n list script work (refusal 9 k) e in
      (called.answer ∙ sym t.0, only called.left ∙ sym t.1)

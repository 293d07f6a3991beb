-- What an outcome of `settle` says, for crates above: the burned list of an accepted one and what demand 3 says of it, and how a refused one came about.
-- Stated of `settle_outcome`, `settle_work` and `settle_out`, with no buffer of a caller and no answer of the call in sight.
-- Assumes nothing.
use mathlib.Core.Path.{◌≡◌, refl, sym, ap, ap₂, ◌∙◌, subst}
use mathlib.Core.Logic.{◌⊎◌, inl, inr}
use mathlib.Core.Bool.{true}
use mathlib.Core.List.{List}
use Prim.Native.Nat.{ℕ, ◌-◌, ◌*◌, ◌^◌, ◌≤◌, ◌<◌}
use native.Mathlib.Nat.{le_trans, mul-le-mul_left}
use native.Mathlib.Omega.{arith}
use borrow.Author.Tests.{leb-true}
use lib.Dec.{leb}
use lib.ListN.{length, drop, replicate}
use lib.Seq.{drop_at}
use Rattle.std.specs.Prelude.{Ok}
use Rattle.bits.specs.Sums.{All}
use Rattle.bits.proofs.Sums.{all_map}
use Rattle.records.specs.declared.Refusal.{Refusal}
use Rattle.records.specs.Records.{Holds, list_of, records, image, filled, flat, zeros}
use Rattle.records.specs.Answers.{Outcome, accepted, refused, and_then}
use Rattle.records.proofs.Answers.{not_both, refused_same, both_accepted, unless_accepted}
use Rattle.records.proofs.Images.{length_flat}
use Rattle.records.proofs.Records.{capacity_fits, holds_records, image_holds}
use Rattle.cube.specs.declared.Cube.{Cube}
use Rattle.cube.specs.Cubes.{Good}
use Rattle.cube.specs.Lists.{cubes, cubes_of, cube_capacity, record_width, most_records, most_variables, vector_variables, list_value, truth_vector}
use Rattle.cube.specs.Calls.{check_list}
use Rattle.cube.proofs.Lists.{lawful, AcceptedList, check_accepts}
use Rattle.polarity.specs.Cost.{cost}
use Rattle.polarity.specs.Forms.{form_list}
use Rattle.polarity.specs.Vectors.{byte_at}
use Rattle.polarity.proofs.Ranks.{rank_cost, rank_products}
use Rattle.polarity.proofs.Theorems.{form_is_good}
use Rattle.trees.specs.Trees as trees
use Rattle.trees.proofs.Theorems.{tree_is_good}
use Rattle.steps.specs.Steps.{Allowed, meaning}
use Rattle.script.specs.Run.{Ran, stopped, ended}
use Rattle.script.specs.Scripts.{step_records, fits, steps_of}
use Rattle.script.specs.Calls.{check_script, run_of, of_step}
use Rattle.script.proofs.Scripts.{meaning_fits}
use Rattle.script.proofs.Scripts.{AcceptedScript, script_accepts}
use Rattle.script.proofs.Value.{run_value, run_good}
use Rattle.settling.specs.declared.Settlement.{Settlement}
use Rattle.settling.specs.Candidates.{best_of, best_form, tree_form, burned_list, fixed_of}
use Rattle.settling.specs.Calls.{check_settle, ran_settled, settle_outcome, settle_work_by, settle_work, settle_out_by, settle_out, settled}
use Rattle.settling.proofs.Determined.{settled_back, settled_known}
use Rattle.settling.proofs.Cheapest.{burned_given, burned_result, burned_form, burned_le_given, burned_one, best_form_value, tree_form_value, burned_tree}

-- ---- what passed before the first step

pub record AcceptedSettle (n : ℕ) (list script : List ℕ) (work out : ℕ) : Type 0 where
  pub list_is : AcceptedList cubes most_variables n list
  pub work_room : length (cubes_of list) ≤ cube_capacity work
  pub out_room : length (cubes_of list) ≤ cube_capacity out
  pub script_is : AcceptedScript n script
  pub fit : All (Allowed n) (steps_of script)

pub settle_checked : (n : ℕ) (list script : List ℕ) (work out : ℕ) (v : List ℕ) → check_settle n list script work out ≡ accepted v → AcceptedSettle n list script work out
unfolding check_settle steps_of
settle_checked n list script work out v e =
    let b = both_accepted (check_list most_variables n list) _ v e in
    let c = unless_accepted (leb (length (cubes_of list)) (cube_capacity work)) 5 0 _ v b.second in
    let d = unless_accepted (leb (length (cubes_of list)) (cube_capacity out)) 5 0 (check_script n script) v c.1 in
    let s = script_accepts n script v d.1 in
    record {
      list_is = check_accepts cubes most_variables n list b.values b.first;
      work_room = leb-true _ _ c.0;
      out_room = leb-true _ _ d.0;
      script_is = s;
      fit = all_map (λ r. fits n r ≡ true) (Allowed n) meaning (meaning_fits n) (list_of step_records script) s.each;
    }

-- ---- an accepted outcome

-- the script ended in `result`, after the undoing
pub record Ended (n : ℕ) (list script : List ℕ) (work out : ℕ) : Type 0 where
  pub values : List ℕ
  pub checked : check_settle n list script work out ≡ accepted values
  pub result : List Cube
  pub peak : ℕ
  pub ran : run_of n list script work ≡ ended result peak

-- the counts that settle answers then
abbrev pub settlement_of : (n : ℕ) (list script : List ℕ) (work out : ℕ) → Ended n list script work out → Settlement
settlement_of n list script work out e = record {
  given = length (cubes_of list);
  peak = e.peak;
  script = length e.result;
  fixed = fixed_of n (cubes_of list);
  burned = length (burned_list n e.result (cubes_of list));
}

-- two settlements with the same counts are one
pub same_settlement : (s t : Settlement) → settled (Ok s) ≡ settled (Ok t) → s ≡ t
same_settlement s t e =
    let both : Ok s ≡ Ok t = sym (settled_known (Ok s)) ∙ ap settled_back e ∙ settled_known (Ok t) in
    cc

module _ (n : ℕ) (list script : List ℕ) (work out : ℕ) where
  pub settle_ended : (v : List ℕ) → settle_outcome n list script work out ≡ accepted v → Ended n list script work out
  unfolding settle_outcome
  settle_ended v h =
      let b = both_accepted (check_settle n list script work out) (ran_settled n (cubes_of list) (run_of n list script work)) v h in
      go (run_of n list script work) refl b.values b.first b.second
    where
      go : (ran : Ran Cube) → run_of n list script work ≡ ran → (u : List ℕ) → check_settle n list script work out ≡ accepted u
          → ran_settled n (cubes_of list) ran ≡ accepted v → Ended n list script work out
      go (stopped why step) f u e k = absurd (not_both (sym k))
      go (ended result peak) f u e k = record { values = u; checked = e; result = result; peak = peak; ran = f }

  -- What settle answers are the counts of the script's end, and of the list that is burned.
  pub settle_counts : (e : Ended n list script work out) → settle_outcome n list script work out ≡ settled (Ok (settlement_of n list script work out e))
  unfolding settle_outcome
  settle_counts e = ap₂ (λ (o : Outcome) (r : Ran Cube). and_then o (ran_settled n (cubes_of list) r)) e.checked e.ran

-- The burned list: the records at the front of what settle leaves in out, which are as many as it answers, and zeros after them; and what demand 3 says of it.
pub record BurnedBy (n : ℕ) (list script : List ℕ) (work : ℕ) (out : List ℕ) (result burned : List Cube) : Type 0 where
  pub bytes : settle_out n list script work out ≡ image cubes (length out) burned
  pub front : records cubes (length burned) (settle_out n list script work out) ≡ burned
  pub zeros_after : drop (record_width * length burned) (settle_out n list script work out) ≡ zeros (length out - record_width * length burned)
  pub fits : record_width * length burned ≤ length out
  pub good : All (Good n) burned
  pub same_value : (a : ℕ) → a < 2 ^ n → list_value n burned a ≡ list_value n (cubes_of list) a
  pub costs_no_more_than_given : cost burned ≤ cost (cubes_of list)
  pub costs_no_more_than_script : cost burned ≤ cost result
  pub no_form_costs_less : n ≤ vector_variables → (p : ℕ) → p < 2 ^ n → cost burned ≤ cost (form_list n p (list_value n (cubes_of list)))
  pub no_tree_costs_less : n ≤ vector_variables → (t : trees.Tree n) → cost burned ≤ cost (trees.list_of t (list_value n (cubes_of list)))
  pub no_more_than_given : length burned ≤ length (cubes_of list)
  pub no_more_than_script : length burned ≤ length result
  pub no_form_has_fewer : n ≤ vector_variables → (p : ℕ) → p < 2 ^ n → length burned ≤ length (form_list n p (list_value n (cubes_of list)))

module _ (n : ℕ) (list script : List ℕ) (work : ℕ) (out : List ℕ) (e : Ended n list script work (length out)) where
  passed : AcceptedSettle n list script work (length out)
  passed = settle_checked n list script work (length out) e.values e.checked

  burned : List Cube
  burned = burned_list n e.result (cubes_of list)

  is_image : settle_out n list script work out ≡ image cubes (length out) burned
  unfolding settle_out burned
  is_image = ap₂ (λ (o : Outcome) (r : Ran Cube). settle_out_by o n (cubes_of list) r out) e.checked e.ran

  burned_fits : record_width * length burned ≤ length out
  unfolding burned
  burned_fits =
      le_trans (mul-le-mul_left record_width (le_trans (burned_le_given n e.result (cubes_of list)) passed.out_room)) (capacity_fits cubes most_records (length out))

  pub settle_burned : BurnedBy n list script work out e.result (burned_list n e.result (cubes_of list))
  unfolding burned run_of image filled best_form tree_form
  settle_burned =
      let l : List Cube = burned_list n e.result (cubes_of list) in
      let long : length (flat cubes.enc l) ≡ record_width * length l = length_flat cubes.enc record_width lawful.len l in
      record {
        bytes = is_image;
        front =
            holds_records cubes lawful (settle_out n list script work out) l
            (subst (λ (b : List ℕ). Holds cubes b l) (sym is_image) (image_holds cubes lawful (length out) l burned_fits));
        zeros_after =
            ap (drop (record_width * length l)) is_image
            ∙ drop_at (flat cubes.enc l) (replicate (length out - length (flat cubes.enc l)) 0) (record_width * length l) long
            ∙ ap (λ (k : ℕ). replicate (length out - k) 0) long;
        fits = burned_fits;
        good =
            burned_one n e.result (cubes_of list) (All (Good n))
            (run_good n (cube_capacity work) (steps_of script) passed.fit (cubes_of list) passed.list_is.good e.result e.peak e.ran)
            passed.list_is.good
            (λ few. form_is_good n (best_of n (cubes_of list)) (byte_at (truth_vector n (cubes_of list))))
            (λ few. tree_is_good n (byte_at (truth_vector n (cubes_of list))) (omega (arith, few)));
        same_value = λ a h.
            burned_one n e.result (cubes_of list) (λ m. list_value n m a ≡ list_value n (cubes_of list) a)
            (run_value n (cube_capacity work) (steps_of script) passed.fit (cubes_of list) passed.list_is.good e.result e.peak e.ran a)
            refl
            (λ few. best_form_value n (cubes_of list) few a h)
            (λ few. tree_form_value n (cubes_of list) few a h);
        costs_no_more_than_given = rank_cost _ _ (burned_given n e.result (cubes_of list));
        costs_no_more_than_script = rank_cost _ _ (burned_result n e.result (cubes_of list));
        no_form_costs_less = λ few p h. rank_cost _ _ (burned_form n (cubes_of list) few e.result p h);
        no_tree_costs_less = λ few t. burned_tree n (cubes_of list) few e.result t;
        no_more_than_given = rank_products _ _ (burned_given n e.result (cubes_of list));
        no_more_than_script = rank_products _ _ (burned_result n e.result (cubes_of list));
        no_form_has_fewer = λ few p h. rank_products _ _ (burned_form n (cubes_of list) few e.result p h);
      }

-- ---- a refused outcome

-- found at a step: everything before the first step passed
pub record StoppedAt (n : ℕ) (list script : List ℕ) (work out : ℕ) (r : Refusal) : Type 0 where
  pub values : List ℕ
  pub checked : check_settle n list script work out ≡ accepted values
  pub found : run_of n list script work ≡ stopped (of_step r) r.place

-- A refusal was found before the first step, or at one.
pub settle_refuses : (n : ℕ) (list script : List ℕ) (work out : ℕ) (r : Refusal) → settle_outcome n list script work out ≡ refused r
    → (check_settle n list script work out ≡ refused r) ⊎ StoppedAt n list script work out r
unfolding settle_outcome
settle_refuses n list script work out r = first (check_settle n list script work out) refl (run_of n list script work) refl
  where
    first : (o : Outcome) → check_settle n list script work out ≡ o → (ran : Ran Cube) → run_of n list script work ≡ ran
        → and_then o (ran_settled n (cubes_of list) ran) ≡ refused r → (check_settle n list script work out ≡ refused r) ⊎ StoppedAt n list script work out r
    first (refused q) e ran f h = inl (e ∙ h)
    first (accepted v) e (ended result peak) f h = absurd (not_both h)
    first (accepted v) e (stopped why step) f h =
        inr (record { values = v; checked = e; found = f ∙ ap (λ (q : Refusal). stopped (of_step q) q.place) (refused_same h) })

-- ---- the buffers

-- Refused before the first step, nothing is written to the work buffer; else it ends all zero.
pub work_kept : (n : ℕ) (list script work : List ℕ) (out : ℕ) (r : Refusal) → check_settle n list script (length work) out ≡ refused r → settle_work n list script work out ≡ work
unfolding settle_work
work_kept n list script work out r e = ap (λ (o : Outcome). settle_work_by o work) e

pub work_cleared : (n : ℕ) (list script work : List ℕ) (out : ℕ) (v : List ℕ) → check_settle n list script (length work) out ≡ accepted v
    → settle_work n list script work out ≡ zeros (length work)
unfolding settle_work
work_cleared n list script work out v e = ap (λ (o : Outcome). settle_work_by o work) e

-- A refusal leaves the output untouched.
pub out_kept : (n : ℕ) (list script : List ℕ) (work : ℕ) (out : List ℕ) (r : Refusal) → settle_outcome n list script work (length out) ≡ refused r
    → settle_out n list script work out ≡ out
unfolding settle_out
out_kept n list script work out r h = go (settle_refuses n list script work (length out) r h)
  where
    go : (check_settle n list script work (length out) ≡ refused r) ⊎ StoppedAt n list script work (length out) r
        → settle_out_by (check_settle n list script work (length out)) n (cubes_of list) (run_of n list script work) out ≡ out
    go (inl e) = ap (λ (o : Outcome). settle_out_by o n (cubes_of list) (run_of n list script work) out) e
    go (inr s) = ap₂ (λ (o : Outcome) (t : Ran Cube). settle_out_by o n (cubes_of list) t out) s.checked s.found

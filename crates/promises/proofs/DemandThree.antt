-- Demand 3. For every accepted list of up to 4,096 products over up to 32 variables and every script of up to 1,024 steps that is not refused, the list
-- we burn has the same value as the given one at every assignment, and costs no more than the given one or than the list the script ends in, as it stands
-- after the undoing; for at most 8 variables no polarity's form costs less, nor the list of any expansion tree (document 02, Six). Nor has it more products
-- than the given one or than the list the script ends in. Stated of the bytes that `settle` leaves in the output buffer.
-- Assumes nothing.
use mathlib.Core.Path.{◌≡◌, sym, ap, ap₂, ◌∙◌, subst}
use mathlib.Core.Logic.{◌≢◌}
use mathlib.Core.List.{List, [], ◌∷◌}
use Prim.Native.Nat.{ℕ, ◌-◌, ◌*◌, ◌/◌, ◌^◌, ◌≤◌, ◌<◌}
use native.Mathlib.Nat.{le_trans}
use native.Mathlib.Omega.{arith}
use lib.ListN.{length, drop}
use Rattle.std.specs.Prelude.{Ok}
use Rattle.bits.specs.Bits.{bit}
use Rattle.bits.specs.Sums.{All}
use Rattle.records.specs.Records.{records, zeros}
use Rattle.records.specs.Answers.{Outcome}
use Rattle.records.proofs.Records.{length_records, length_list}
use Rattle.cube.specs.declared.Cube.{Cube}
use Rattle.cube.specs.Cubes.{code, Good}
use Rattle.cube.specs.Lists.{cubes, cubes_of, cube_capacity, record_width, most_records, most_variables, vector_variables, list_value}
use Rattle.polarity.specs.Cost.{cost}
use Rattle.polarity.specs.Forms.{form_list}
use Rattle.script.specs.Run.{ended, run}
use Rattle.script.specs.Scripts.{steps_of, step_width, most_steps}
use Rattle.script.specs.Calls.{run_of}
use Rattle.script.proofs.Runs.{ended_list}
use Rattle.trees.specs.Trees.{Tree, list_of}
use Rattle.settling.specs.declared.Settlement.{Settlement}
use Rattle.settling.specs.Candidates.{burned_list}
use Rattle.settling.specs.Calls.{settled}
use Rattle.settling.proofs.Cheapest.{burned_at_lem, burned_first}
use Rattle.settling.proofs.Outcomes.{AcceptedSettle, settle_checked, BurnedBy, settle_burned}
use Rattle.promises.specs.Calls.{settle, Called}
use Rattle.promises.specs.Refusals.{NoneWrong, faults}
use Rattle.promises.specs.Accepted.{EndOfScript, ScriptEnds}
use Rattle.promises.specs.Burned.{burned_in, EndsIn, BurnedFirst}
use Rattle.promises.proofs.AnyForm.{form_shortest, form_cheapest}
use Rattle.promises.proofs.Calling.{Accepting, called_accepted, accepted_settled}
use Rattle.promises.proofs.DemandOne.{not_wrong_accepted}

-- There are such calls: one of which nothing is wrong, and whose script ends, is not refused.
pub not_wrong_settles : (n : ℕ) (list script work out : List ℕ) (o : Outcome) (buffers : List (List ℕ)) → NoneWrong (faults (settle n list script work out))
    → EndOfScript n list script work → Called (settle n list script work out) o buffers
    → (s : Settlement) × Called (settle n list script work out) (settled (Ok s)) buffers
unfolding ScriptEnds
not_wrong_settles n list script work out o buffers fine end c =
    let a = not_wrong_accepted (settle n list script work out) o buffers c fine end in
    accepted_settled n list script work out a.0 buffers (record { answer = sym a.1 ∙ c.answer; left = c.left })

-- a call that was not refused
module _ (n : ℕ) (list script work out : List ℕ) (s : Settlement) (work' out' : List ℕ)
    (c : Called (settle n list script work out) (settled (Ok s)) (work' ∷ out' ∷ [])) where
  acc : Accepting n list script work out s work' out'
  acc = called_accepted n list script work out work' out' s c

  passed : AcceptedSettle n list script (length work) (length out)
  passed = settle_checked n list script (length work) (length out) acc.end.values acc.end.checked

  abbrev result : List Cube
  result = acc.end.result

  ran : run n (cube_capacity (length work)) (steps_of script) (cubes_of list) ≡ ended result s.peak
  unfolding run_of
  ran = acc.end.ran ∙ ap (λ (t : Settlement). ended result t.peak) (sym acc.is)

  abbrev burned : List Cube
  burned = burned_list n result (cubes_of list)

  by : BurnedBy n list script (length work) out result burned
  by = settle_burned n list script (length work) out acc.end

  count : s.burned ≡ length burned
  count = ap (λ (t : Settlement). t.burned) acc.is

  -- the output buffer's front is the list to burn
  is_burned : burned_in s out' ≡ burned
  is_burned = ap₂ (records cubes) count acc.out_is ∙ by.front

  -- what is known of the list to burn is known of it
  of_burned : (P : List Cube → Type 0) → P burned → P (burned_in s out')
  of_burned P = subst P (sym is_burned)

  -- What is accepted keeps to the limits.
  pub limits : (n ≤ most_variables) × (length (cubes_of list) ≤ most_records) × (length script / step_width ≤ most_steps)
  limits = (passed.list_is.few, omega (arith, passed.list_is.short, length_list cubes list), passed.script_is.short)

  -- The list we burn has as many products as settle answers.
  pub burned_count : length (burned_in s out') ≡ s.burned
  burned_count = length_records cubes s.burned out'

  -- It has the same value as the given one at every assignment.
  pub same_value : (a : ℕ) → a < 2 ^ n → list_value n (burned_in s out') a ≡ list_value n (cubes_of list) a
  same_value a h = of_burned (λ l. list_value n l a ≡ list_value n (cubes_of list) a) (by.same_value a h)

  -- Its cubes are good cubes over n variables.
  pub burned_good : All (Good n) (burned_in s out')
  burned_good = of_burned (All (Good n)) by.good

  -- It costs no more than the given one, and has no more products ..
  pub costs_no_more_than_given : cost (burned_in s out') ≤ cost (cubes_of list)
  costs_no_more_than_given = of_burned (λ l. cost l ≤ cost (cubes_of list)) by.costs_no_more_than_given

  pub no_more_than_given : length (burned_in s out') ≤ length (cubes_of list)
  no_more_than_given = of_burned (λ l. length l ≤ length (cubes_of list)) by.no_more_than_given

  -- .. nor than the list the script ends in, as it stands after the undoing; the script, which was not refused, does end in one ..
  module _ (m : List Cube) (peak : ℕ) (e : run n (cube_capacity (length work)) (steps_of script) (cubes_of list) ≡ ended m peak) where
    same_end : result ≡ m
    same_end = ended_list (sym ran ∙ e)

    -- The list we burn is the first of the candidates, by cost, then by products, then by their order.
    pub burned_is_first : BurnedFirst n m (cubes_of list) (burned_in s out')
    burned_is_first =
        subst (λ (l : List Cube). BurnedFirst n l (cubes_of list) (burned_in s out')) same_end
        (record { number = _; is = is_burned ∙ burned_at_lem n result (cubes_of list); first = burned_first n result (cubes_of list) })

    pub costs_no_more_than_script : cost (burned_in s out') ≤ cost m
    costs_no_more_than_script =
        subst (λ (l : List Cube). cost (burned_in s out') ≤ cost l) same_end (of_burned (λ l. cost l ≤ cost result) by.costs_no_more_than_script)

    pub no_more_than_script : length (burned_in s out') ≤ length m
    no_more_than_script =
        subst (λ (l : List Cube). length (burned_in s out') ≤ length l) same_end (of_burned (λ l. length l ≤ length result) by.no_more_than_script)

  pub script_ends : EndsIn n list script work s
  script_ends = record { result = result; is = ran; count = ap (λ (t : Settlement). t.script) acc.is }

  -- .. and for at most 8 variables no form of the given list's function costs less, nor has fewer products: whatever the polarity p is, and whatever list of
  -- products over n variables, in any order, has the given list's values and nowhere "the literal whose code is the vector's entry" (001, definition 3).
  module _ (few : n ≤ vector_variables) (p : ℕ) (h : p < 2 ^ n) (l : List Cube) (good : All (Good n) l) (missing : All (λ c. (k : ℕ) → code c k ≢ bit p k) l)
      (same : (a : ℕ) → a < 2 ^ n → list_value n l a ≡ list_value n (cubes_of list) a) where
    abbrev form : List Cube
    form = form_list n p (list_value n (cubes_of list))

    pub no_form_costs_less : cost (burned_in s out') ≤ cost l
    no_form_costs_less =
        le_trans (of_burned (λ m. cost m ≤ cost form) (by.no_form_costs_less few p h)) (form_cheapest n p h l good missing (list_value n (cubes_of list)) same)

    pub no_form_has_fewer : length (burned_in s out') ≤ length l
    no_form_has_fewer =
        le_trans (of_burned (λ m. length m ≤ length form) (by.no_form_has_fewer few p h)) (form_shortest n p h l good missing (list_value n (cubes_of list)) same)

  -- Nor does the list of any tree of the given list's function: whatever expansion is chosen at each node, by variable 0, then 1 and so on. "Demand 3 now also
  -- names these forms" (document 02, Six).
  pub no_tree_costs_less : n ≤ vector_variables → (t : Tree n) → cost (burned_in s out') ≤ cost (list_of t (list_value n (cubes_of list)))
  no_tree_costs_less few t = of_burned (λ m. cost m ≤ cost (list_of t (list_value n (cubes_of list)))) (by.no_tree_costs_less few t)

  -- After the list, which fits, every byte of the output buffer is zero; and every byte of the work buffer is.
  pub zeros_after : drop (record_width * s.burned) out' ≡ zeros (length out - record_width * s.burned)
  zeros_after =
      ap₂ (λ (k : ℕ) (b : List ℕ). drop (record_width * k) b) count acc.out_is ∙ by.zeros_after
      ∙ ap (λ (k : ℕ). zeros (length out - record_width * k)) (sym count)

  pub burned_fits : record_width * s.burned ≤ length out
  burned_fits = subst (λ (k : ℕ). record_width * k ≤ length out) (sym count) by.fits

  pub work_zero : work' ≡ zeros (length work)
  work_zero = acc.work_is

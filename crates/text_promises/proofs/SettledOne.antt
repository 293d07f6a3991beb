-- A map of one output that is read as text, settled with whatever script, and printed again: the list of its output is settled, and what is burned is printed as the
-- products of that output.
-- Assumes nothing.
use mathlib.Core.Path.{◌≡◌, sym, ap, subst, ◌∙◌}
use mathlib.Core.List.{List, map}
use Prim.Native.Nat.{ℕ, ◌^◌, ◌≤◌, ◌<◌}
use native.Mathlib.Omega.{arith}
use lib.ListN.{length, length-map}
use Rattle.std.specs.Prelude.{Ok}
use Rattle.bits.specs.Sums.{All}
use Rattle.bits.proofs.Sums.{all_map}
use Rattle.cube.specs.declared.Cube.{Cube}
use Rattle.cube.specs.Cubes.{Good}
use Rattle.cube.specs.Lists.{cubes_of, most_records, list_value}
use Rattle.cube.proofs.Lists.{cubes_flat}
use Rattle.polarity.specs.Cost.{cost}
use Rattle.shared.specs.declared.Shared.{Shared}
use Rattle.shared.specs.SharedRecord.{sharing, Fine}
use Rattle.shared.specs.Outputs.{carrying, output_value}
use Rattle.shared.proofs.Outputs.{carrying_le}
use Rattle.outputs.proofs.Round.{list_of_shares}
use Rattle.settling.specs.declared.Settlement.{Settlement}
use Rattle.settling.specs.Candidates.{burned_list}
use Rattle.settling.specs.Calls.{settle_outcome, settled}
use Rattle.settling.proofs.Outcomes.{Ended, settlement_of, same_settlement, settle_ended, settle_counts, BurnedBy, settle_burned}
use Rattle.pla.specs.Pla.{made, pla_of}
use Rattle.text_promises.specs.TextMeaning.{Below, BurnedText, one_bytes, burned_cubes}
use Rattle.text_promises.proofs.Burned.{burned_text}

module _ (t : List ℕ) (n : ℕ) (l : List Shared) (read : pla_of most_records t ≡ made n 1 l) (script : List ℕ) (work : ℕ) (out : List ℕ) (s : Settlement)
    (settles : settle_outcome n (one_bytes l) script work (length out) ≡ settled (Ok s)) where
  ended : Ended n (one_bytes l) script work (length out)
  ended = settle_ended n (one_bytes l) script work (length out) _ settles

  -- the list of output 0 is what settling is given
  given : cubes_of (one_bytes l) ≡ carrying 0 l
  given = cubes_flat (carrying 0 l)

  abbrev list : List Cube
  list = burned_list n ended.result (cubes_of (one_bytes l))

  by : BurnedBy n (one_bytes l) script work out ended.result list
  by = settle_burned n (one_bytes l) script work out ended

  counts : s ≡ settlement_of n (one_bytes l) script work (length out) ended
  counts = same_settlement s _ (sym settles ∙ settle_counts n (one_bytes l) script work (length out) ended)

  front : list ≡ burned_cubes n (one_bytes l) script work out s
  front = sym (ap (λ (x : Settlement). burned_cubes n (one_bytes l) script work out x) counts ∙ by.front)

  -- The burned list has the value of the map's output at every assignment, ..
  pub settled_one_value : (a : ℕ) → a < 2 ^ n → list_value n (burned_cubes n (one_bytes l) script work out s) a ≡ output_value n 0 l a
  unfolding output_value
  settled_one_value a h =
      ap (λ (c : List Cube). list_value n c a) (sym front) ∙ by.same_value a h ∙ ap (λ (c : List Cube). list_value n c a) given

  -- .. costs no more than the list of that output, ..
  pub settled_one_cost : cost (burned_cubes n (one_bytes l) script work out s) ≤ cost (carrying 0 l)
  settled_one_cost =
      subst (λ (c : List Cube). cost c ≤ cost (carrying 0 l)) front (subst (λ (g : List Cube). cost list ≤ cost g) given by.costs_no_more_than_given)

  -- .. and has no more products.
  pub settled_one_count : length (burned_cubes n (one_bytes l) script work out s) ≤ length (carrying 0 l)
  settled_one_count =
      subst (λ (c : List Cube). length c ≤ length (carrying 0 l)) front (subst (λ (g : List Cube). length list ≤ length g) given by.no_more_than_given)

  -- Printed as products of output 0, it is a text that reads as those products, and means the map that was given as text.
  pub settled_one_text : BurnedText t n 1 l (map (sharing 1) (burned_cubes n (one_bytes l) script work out s))
  unfolding output_value
  settled_one_text =
      let c : List Cube = burned_cubes n (one_bytes l) script work out s in
      burned_text t n 1 l (map (sharing 1) c) read
      (all_map (Good n) (Fine n) (sharing 1) (λ x g. record { good = g; some = λ z. omega arith }) c (subst (All (Good n)) front by.good))
      (all_map (Good n) (Below 1) (sharing 1) (λ x g. omega arith) c (subst (All (Good n)) front by.good))
      (omega (arith, length-map c (sharing 1), settled_one_count, carrying_le 0 l))
      (λ k h a b.
      let zeroth : k ≡ 0 = omega arith in
      rw zeroth (ap (λ (x : List Cube). list_value n x a) (list_of_shares 0 c) ∙ settled_one_value a b))

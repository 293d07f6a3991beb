-- One list of a map, settled into its part of the output: what an accepted outcome of settle says of the list that is burned and of its bytes.
-- Assumes nothing.
use mathlib.Core.Path.{◌≡◌, sym, ap, ap₂, ◌∙◌, subst}
use mathlib.Core.List.{List, ◌++◌, append_assoc}
use Prim.Native.Nat.{ℕ, ◌+◌, ◌-◌, ◌*◌, ◌≤◌}
use native.Mathlib.Nat.{le_trans}
use native.Mathlib.Omega.{arith}
use lib.ListN.{length, take, drop, replicate}
use lib.Seq.{take_at, drop_at, length-take-le}
use Rattle.std.specs.Prelude.{Result, Ok}
use Rattle.records.specs.declared.Refusal.{Refusal}
use Rattle.records.specs.Answers.{Accepts}
use Rattle.records.specs.Records.{image, filled, flat}
use Rattle.records.proofs.Images.{length_flat}
use Rattle.records.proofs.Records.{length_list}
use Rattle.cube.specs.declared.Cube.{Cube}
use Rattle.cube.specs.Lists.{record_width, most_records, cubes, cubes_of}
use Rattle.cube.proofs.Lists.{lawful, cubes_flat}
use Rattle.script.specs.Calls.{run_of}
use Rattle.settling.specs.declared.Settlement.{Settlement}
use Rattle.settling.specs.Candidates.{burned_list}
use Rattle.settling.specs.Calls.{settle_outcome, settle_out, settled}
use Rattle.settling.proofs.Outcomes.{Ended, BurnedBy, settlement_of, same_settlement, settle_ended, settle_counts, settle_checked, settle_burned}
use Rattle.selector.specs.Calls.{ran_burnt}
use Rattle.selector.proofs.Parts.{lent_size}

pub flat_long : (l : List Cube) → length (flat cubes.enc l) ≡ record_width * length l
flat_long l = length_flat cubes.enc record_width lawful.len l

-- the list that settle burns
abbrev pub burnt : ℕ → List ℕ → List ℕ → ℕ → List Cube
burnt n list script work = ran_burnt n (cubes_of list) (run_of n list script work)

module _ (n : ℕ) (list script : List ℕ) (work : ℕ) (out : List ℕ) (a : Accepts (settle_outcome n list script work (length out))) where
  end : Ended n list script work (length out)
  end = settle_ended n list script work (length out) a.values a.is

  by : BurnedBy n list script work out end.result (burned_list n end.result (cubes_of list))
  by = settle_burned n list script work out end

  burnt_is : burnt n list script work ≡ burned_list n end.result (cubes_of list)
  burnt_is = ap (ran_burnt n (cubes_of list)) end.ran

  -- its bytes are at the front of the output, and zeros after them
  pub burnt_image : settle_out n list script work out ≡ image cubes (length out) (burnt n list script work)
  burnt_image = by.bytes ∙ ap (image cubes (length out)) (sym burnt_is)

  pub burnt_fits : record_width * length (burnt n list script work) ≤ length out
  burnt_fits = subst (λ (l : List Cube). record_width * length l ≤ length out) (sym burnt_is) by.fits

  pub burnt_short : length (burnt n list script work) ≤ most_records
  burnt_short =
      le_trans (subst (λ (l : List Cube). length l ≤ length (cubes_of list)) (sym burnt_is) by.no_more_than_given)
      (subst (λ (k : ℕ). k ≤ most_records) (sym (length_list cubes list)) (settle_checked n list script work (length out) end.values end.checked).list_is.short)

  -- it has as many products as settle answers
  pub burnt_count : (s : Settlement) → settled (Ok s) ≡ settle_outcome n list script work (length out) → s.burned ≡ length (burnt n list script work)
  burnt_count s e =
      ap (λ (t : Settlement). t.burned) (same_settlement s (settlement_of n list script work (length out) end) (e ∙ settle_counts n list script work (length out) end))
      ∙ ap length (sym burnt_is)

-- ---- the part from..end of the output

module _ (n : ℕ) (list script : List ℕ) (work : ℕ) (out : List ℕ) (from end : ℕ) (h : (from ≤ end) × (end ≤ length out))
    (x : Result Settlement Refusal) (ex : settled x ≡ settle_outcome n list script work (end - from)) (s : Settlement) (es : x ≡ Ok s) where
  lent : List ℕ
  lent = take (end - from) (drop from out)

  here : settled (Ok s) ≡ settle_outcome n list script work (length lent)
  unfolding lent
  here = sym (ap settled es) ∙ ex ∙ ap (settle_outcome n list script work) (sym (lent_size out from end h))

  passed : Accepts (settle_outcome n list script work (length lent))
  passed = record { values = _; is = sym here }

  count : s.burned ≡ length (burnt n list script work)
  count = burnt_count n list script work lent passed s here

  pub bytes_are : record_width * s.burned ≡ record_width * length (burnt n list script work)
  bytes_are = ap (λ (k : ℕ). record_width * k) count

  pub bytes_fit : from + record_width * s.burned ≤ end
  unfolding lent
  bytes_fit = omega (arith, burnt_fits n list script work lent passed, lent_size out from end h, bytes_are)

  module _ (out' : List ℕ) (eo : out' ≡ take from out ++ (settle_out n list script work (take (end - from) (drop from out)) ++ drop end out))
      (to : ℕ) (et : to ≡ from + record_width * s.burned) where
    -- what is counted is the burned list
    pub counted_is : cubes_of (take (to - from) (drop from out')) ≡ burnt n list script work
    unfolding lent image filled
    counted_is =
        let l : List ℕ = flat cubes.enc (burnt n list script work) in
        let z : List ℕ = replicate (length lent - length l) 0 in
        let many : to - from ≡ record_width * length (burnt n list script work) = omega (arith, bytes_are) in
        let back : drop from out' ≡ l ++ (z ++ drop end out) =
        ap (drop from) (eo ∙ ap (λ (b : List ℕ). take from out ++ (b ++ drop end out)) (burnt_image n list script work lent passed))
        ∙ drop_at (take from out) ((l ++ z) ++ drop end out) from (length-take-le from out (omega arith)) ∙ append_assoc l z (drop end out) in
        ap₂ (λ (k : ℕ) (b : List ℕ). cubes_of (take k b)) many back
        ∙ ap cubes_of (take_at l (z ++ drop end out) (record_width * length (burnt n list script work)) (flat_long (burnt n list script work)))
        ∙ cubes_flat (burnt n list script work)

    pub counted_short : length (cubes_of (take (to - from) (drop from out'))) ≤ most_records
    unfolding lent
    counted_short = subst (λ (l : List Cube). length l ≤ most_records) (sym counted_is) (burnt_short n list script work lent passed)

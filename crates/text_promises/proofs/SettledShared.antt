-- A map of any number of outputs that is read as text, settled as one list of shared products with whatever script, and printed again.
-- Assumes nothing.
use mathlib.Core.Path.{◌≡◌, refl, sym, ap, ap₂, subst, ◌∙◌}
use mathlib.Core.Bool.{Bool, true, false, cond}
use mathlib.Core.List.{List}
use Prim.Native.Nat.{ℕ, ◌*◌, ◌≤◌}
use native.Mathlib.Nat.{le_refl, le_trans, mul-le-mul_left}
use lib.Dec.{leb}
use lib.ListN.{length, get_or}
use borrow.Author.Tests.{leb-true}
use Rattle.std.specs.Prelude.{Ok}
use Rattle.bits.specs.Sums.{All}
use Rattle.records.specs.Records.{image, records}
use Rattle.records.specs.Answers.{Outcome, accepted, after_call}
use Rattle.records.proofs.Answers.{not_both, accepted_values, both_accepted, unless_accepted}
use Rattle.records.proofs.Records.{capacity_fits, holds_records, image_holds}
use Rattle.cube.specs.Lists.{most_records}
use Rattle.script.specs.Run.{Ran, stopped, ended}
use Rattle.shared.specs.declared.Shared.{Shared}
use Rattle.shared.specs.SharedRecord.{shares, shares_of, shared_width, shared_capacity, Fine}
use Rattle.shared.specs.Outputs.{output_value}
use Rattle.shared.specs.Calls.{check_shared}
use Rattle.shared.proofs.SharedRecord.{shared_lawful, shares_flat}
use Rattle.shared_steps.specs.SharedSteps.{SharedAllowed}
use Rattle.shared_run.specs.declared.SharedSettlement.{SharedSettlement}
use Rattle.shared_run.specs.SharedRun.{shared_run, shared_burned}
use Rattle.shared_run.specs.SharedScripts.{check_shared_script, shared_steps_of}
use Rattle.shared_run.specs.Calls.{shared_run_of, check_shared_settle, ran_shared, ran_shared_out, shared_settle_outcome, shared_settle_out, shared_settled}
use Rattle.shared_run.proofs.SharedScripts.{shared_script_accepts, shared_script_fits}
use Rattle.shared_run.proofs.Value.{shared_run_fine, shared_run_value}
use Rattle.pla.specs.Pla.{made, pla_of}
use Rattle.text_promises.specs.TextMeaning.{Below, BurnedText, map_bytes, burned_shares}
use Rattle.text_promises.proofs.Accepted.{accepted_is_fine}
use Rattle.text_promises.proofs.Burned.{burned_text}
use Rattle.text_promises.proofs.OutputsBelow.{run_below}

-- ---- an accepted call, by its run

record Settled (n : ℕ) (list script : List ℕ) (work : ℕ) (out : List ℕ) (s : SharedSettlement) : Type 0 where
  result : List Shared
  peak : ℕ
  ran : shared_run n (shared_capacity work) (shared_steps_of script) (shares_of list) ≡ ended result peak
  allowed : All (SharedAllowed n) (shared_steps_of script)
  room : length (shares_of list) ≤ shared_capacity (length out)
  count : s.burned ≡ length (shared_burned result (shares_of list))
  left : shared_settle_out n list script work out ≡ image shares (length out) (shared_burned result (shares_of list))

settled_by : (n : ℕ) (list script : List ℕ) (work : ℕ) (out : List ℕ) (s : SharedSettlement)
    → shared_settle_outcome n list script work (length out) ≡ shared_settled (Ok s) → Settled n list script work out s
unfolding shared_settle_outcome shared_settle_out shared_run_of check_shared_settle
settled_by n list script work out s e =
    let b = both_accepted (check_shared_settle n list script work (length out)) (ran_shared (shares_of list) (shared_run_of n list script work)) _ e in
    let c = both_accepted (check_shared n list) _ b.values b.first in
    let d = unless_accepted (leb (length (shares_of list)) (shared_capacity work)) 5 0 _ b.values c.second in
    let f = unless_accepted (leb (length (shares_of list)) (shared_capacity (length out))) 5 0 (check_shared_script n script) b.values d.1 in
    let allowed : All (SharedAllowed n) (shared_steps_of script) = shared_script_fits n script (shared_script_accepts n script b.values f.1).each in
    go (shared_run_of n list script work) refl b.second b.values b.first allowed (leb-true _ _ f.0)
  where
    go : (r : Ran Shared) → shared_run_of n list script work ≡ r → ran_shared (shares_of list) r ≡ shared_settled (Ok s)
        → (v : List ℕ) → check_shared_settle n list script work (length out) ≡ accepted v
        → All (SharedAllowed n) (shared_steps_of script) → length (shares_of list) ≤ shared_capacity (length out) → Settled n list script work out s
    go (stopped why step) er a v ev allowed room = absurd (not_both (sym a))
    go (ended m p) er a v ev allowed room = record {
      result = m;
      peak = p;
      ran = er;
      allowed = allowed;
      room = room;
      count = sym (ap (λ (u : List ℕ). get_or u 3 0) (accepted_values a));
      left = ap₂ (λ (o : Outcome) (r : Ran Shared). after_call o (ran_shared_out (shares_of list) r out) out) ev er;
    }

-- ---- what is burned is the result or the given list, and has no more products than that

module _ (result given : List Shared) where
  burned_one : (P : List Shared → Type 0) → P result → P given → P (shared_burned result given)
  burned_one P p q = go (leb (length result) (length given))
    where
      go : (t : Bool) → P (cond t result given)
      go true = p
      go false = q

  burned_most : length (shared_burned result given) ≤ length given
  burned_most = go (leb (length result) (length given)) refl
    where
      go : (t : Bool) → leb (length result) (length given) ≡ t → length (cond t result given) ≤ length given
      go true e = leb-true _ _ e
      go false e = le_refl (length given)

-- ---- the promise

module _ (t : List ℕ) (n m : ℕ) (l : List Shared) (read : pla_of most_records t ≡ made n m l) (script : List ℕ) (work : ℕ) (out : List ℕ) (s : SharedSettlement)
    (settles : shared_settle_outcome n (map_bytes l) script work (length out) ≡ shared_settled (Ok s)) where
  by : Settled n (map_bytes l) script work out s
  by = settled_by n (map_bytes l) script work out s settles

  -- the products of the map are what settling is given
  given : shares_of (map_bytes l) ≡ l
  given = shares_flat l

  ran : shared_run n (shared_capacity work) (shared_steps_of script) l ≡ ended by.result by.peak
  ran = subst (λ (g : List Shared). shared_run n (shared_capacity work) (shared_steps_of script) g ≡ ended by.result by.peak) given by.ran

  abbrev list : List Shared
  list = shared_burned by.result l

  front : list ≡ burned_shares n (map_bytes l) script work out s
  front =
      let u = by in
      let count : s.burned ≡ length list = u.count ∙ ap (λ (g : List Shared). length (shared_burned u.result g)) given in
      let left : shared_settle_out n (map_bytes l) script work out ≡ image shares (length out) list =
      u.left ∙ ap (λ (g : List Shared). image shares (length out) (shared_burned u.result g)) given in
      let few : length l ≤ shared_capacity (length out) = subst (λ (g : List Shared). length g ≤ shared_capacity (length out)) given u.room in
      let fits : shared_width * length list ≤ length out =
      le_trans (mul-le-mul_left shared_width (le_trans (burned_most u.result l) few)) (capacity_fits shares most_records (length out)) in
      sym (ap₂ (λ (k : ℕ) (b : List ℕ). records shares k b) count left
      ∙ holds_records shares shared_lawful (image shares (length out) list) list (image_holds shares shared_lawful (length out) list fits))

  -- The burned products, printed, are a text that reads as those products; each output of the map has the value at every assignment that it has of the text that was given; and
  -- there are no more products.
  pub settled_shared_text : BurnedText t n m l (burned_shares n (map_bytes l) script work out s)
  settled_shared_text =
      let u = by in
      let f = accepted_is_fine most_records t n m l read in
      subst (BurnedText t n m l) front
      (burned_text t n m l list read
      (burned_one u.result l (All (Fine n))
      (shared_run_fine n (shared_capacity work) (shared_steps_of script) u.allowed l f.fine u.result u.peak ran) f.fine)
      (burned_one u.result l (All (Below m)) (run_below m n (shared_capacity work) (shared_steps_of script) u.allowed l u.result u.peak f.below ran) f.below)
      (burned_most u.result l)
      (λ k h a b.
      burned_one u.result l (λ g. output_value n k g a ≡ output_value n k l a)
      (shared_run_value n (shared_capacity work) (shared_steps_of script) u.allowed l f.fine u.result u.peak ran k a) refl))

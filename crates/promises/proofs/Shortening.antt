-- A call with a script that runs to the same end with a peak no higher answers the same but for the peak, and leaves the same.
-- Assumes nothing.
use mathlib.Core.Path.{◌≡◌, refl, sym, ap, ap₂, ◌∙◌, subst}
use mathlib.Core.List.{List, [], ◌∷◌}
use Prim.Native.Nat.{ℕ, ◌≤◌}
use lib.ListN.{length}
use Rattle.records.specs.Records.{zeros}
use Rattle.records.specs.Answers.{Outcome, accepted}
use Rattle.records.proofs.Answers.{not_both, accepted_values}
use Rattle.cube.specs.declared.Cube.{Cube}
use Rattle.cube.specs.Lists.{cubes_of}
use Rattle.steps.specs.declared.StepRefusal.{StepRefusal}
use Rattle.script.specs.Run.{Ran, stopped, ended}
use Rattle.script.specs.Calls.{run_of, ran_outcome, ran_work}
use Rattle.compactor.proofs.Shorter.{EndsLower}
use Rattle.settling.specs.Calls.{ran_settled, ran_burned}
use Rattle.promises.specs.Calls.{Call}
use Rattle.promises.specs.Accepted.{goes_on, goes_on_leaving}
use Rattle.promises.specs.OtherScript.{OtherScript, of_run, of_settle}
use Rattle.promises.specs.ShortScript.{SameButPeak}

-- what a call answers and leaves by its run: the peak is the second value, and what is left does not go by it
record ByRun (answer : Ran Cube → Outcome) (leave : ℕ → Ran Cube → List (List ℕ)) : Type 0 where
  stops : (why : StepRefusal) (s : ℕ) (v : List ℕ) → answer (stopped why s) ≡ accepted v → ⊥
  peaks : (m : List Cube) (p q : ℕ) (v : List ℕ) → q ≤ p → answer (ended m p) ≡ accepted v → SameButPeak v (answer (ended m q))
  leaves : (room : ℕ) (m : List Cube) (p q : ℕ) → leave room (ended m q) ≡ leave room (ended m p)

by_run : ByRun ran_outcome (λ room r. ran_work room r ∷ [])
by_run = record {
  stops = λ why s v g. not_both (sym g);
  peaks = λ m p q v h g. subst (λ (w : List ℕ). SameButPeak w (ran_outcome (ended m q))) (accepted_values g) (record { peak = q; is = refl; no_higher = h });
  leaves = λ room m p q. refl;
}

by_settle : (n : ℕ) (given : List Cube) (out : List ℕ) → ByRun (ran_settled n given) (λ room r. zeros room ∷ ran_burned n given r out ∷ [])
by_settle n given out = record {
  stops = λ why s v g. not_both (sym g);
  peaks = λ m p q v h g. subst (λ (w : List ℕ). SameButPeak w (ran_settled n given (ended m q))) (accepted_values g) (record { peak = q; is = refl; no_higher = h });
  leaves = λ room m p q. refl;
}

-- of two runs in any room, of which the other one ends where the given one does, with a peak no higher
module _ (given other : ℕ → Ran Cube) (ends : (room : ℕ) (m : List Cube) (p : ℕ) → given room ≡ ended m p → EndsLower (other room) m p)
    {answer : Ran Cube → Outcome} {leave : ℕ → Ran Cube → List (List ℕ)} (by : ByRun answer leave) (room again : ℕ) (e : again ≡ room) (v : List ℕ) where
  lower : answer (given room) ≡ accepted v → SameButPeak v (answer (other again)) × (leave again (other again) ≡ leave room (given room))
  lower is = go (given room) refl
    where
      go : (r : Ran Cube) → given room ≡ r → SameButPeak v (answer (other again)) × (leave again (other again) ≡ leave room (given room))
      go (stopped why s) f = absurd (by.stops why s v (ap answer (sym f) ∙ is))
      go (ended m p) f =
          let z = ends room m p f in
          let same = ap other e ∙ z.is in (
            subst (λ (r : Ran Cube). SameButPeak v (answer r)) (sym same) (by.peaks m p z.peak v z.no_higher (ap answer (sym f) ∙ is)),
            ap₂ leave e same ∙ by.leaves room m p z.peak ∙ ap (leave room) (sym f),
          )

module _ {n : ℕ} {list script other : List ℕ}
    (ends : (room : ℕ) (m : List Cube) (p : ℕ) → run_of n list script room ≡ ended m p → EndsLower (run_of n list other room) m p) where
  pub goes_lower : {c c' : Call} → OtherScript n list script other c c' → (v : List ℕ) → goes_on c ≡ accepted v
      → SameButPeak v (goes_on c') × (goes_on_leaving c' ≡ goes_on_leaving c)
  unfolding goes_on goes_on_leaving
  goes_lower (of_run work again e) v is = lower (run_of n list script) (run_of n list other) ends by_run (length work) (length again) e v is
  goes_lower (of_settle work again out e) v is =
      lower (run_of n list script) (run_of n list other) ends (by_settle n (cubes_of list) out) (length work) (length again) e v is

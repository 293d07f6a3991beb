-- What is decided of shared products, return by return: the outputs tested, the merge, and the decision on any step.
-- Assumes nothing.
use mathlib.Core.Path.{◌≡◌, refl, sym, ap, ◌∙◌}
use mathlib.Core.Bool.{false}
use mathlib.Core.List.{List, [], ◌∷◌}
use Prim.Native.Nat.{ℕ}
use native.Mathlib.Omega.{arith}
use lib.Bits.{bit_xor}
use lib.Count.{ones}
use lib.ListN.{length}
use borrow.Author.Tests.{eq-eqb, ne_eqb}
use Rattle.cube.specs.declared.Cube.{Cube}
use Rattle.cube.specs.Cubes.{apart, Good, differing}
use Rattle.cube.proofs.Masks.{apart_count}
use Rattle.steps.specs.declared.Change.{Change}
use Rattle.steps.specs.declared.Change.TheVariants as change_is
use Rattle.steps.specs.declared.StepRecord.{StepRecord}
use Rattle.steps.specs.declared.StepRefusal.{StepRefusal}
use Rattle.steps.specs.declared.operation.Step as operation
use Rattle.steps.specs.declared.operation.Step.TheVariants as step_is
use Rattle.steps.specs.Moves.{step_refusal, Move, refuse, drops, joins, splits, turns, map_move}
use Rattle.steps.specs.Steps.{Step, drop, join, split, turn, L, decision}
use Rattle.steps.specs.Changes.{move_of, step_of, places_number, Decided}
use Rattle.steps.proofs.Making.{no_letter}
use Rattle.steps.proofs.decide.Deciding.{number_passed, none_set}
use Rattle.shared.specs.declared.Shared.{Shared}
use Rattle.shared.specs.SharedRecord.{sharing}
use Rattle.shared_steps.specs.SharedSteps.{SharedStep, plain, merge, shared_meaning, or_refuse, carried, alike, merged, merge_move, shared_decision}
use Rattle.shared_steps.specs.Calls.{SharedKnown}
use Rattle.shared_steps.proofs.Inversion.{alike_same}
use Rattle.shared_steps.proofs.Meaning.{plain_low, no_merge, plain_meaning}

-- ---- a change of cubes carried

pub carried_is : (o : ℕ) (change c : Change Cube) → change ≡ c → map_move (sharing o) (move_of c) ≡ map_move (sharing o) (move_of change)
carried_is o change c e = sym (ap (λ (t : Change Cube). map_move (sharing o) (move_of t)) e)

-- ---- drop, join and turn: the outputs are equal, or they are not

module _ (a b : Shared) (change : Change Cube) (m : Move Shared) where
  pub alike_equal : a.outputs ≡ b.outputs → m ≡ map_move (sharing a.outputs) (move_of change) → m ≡ alike a b (move_of change)
  alike_equal e f = f ∙ sym (alike_same a b (move_of change) e)

  module _ (ne : a.outputs ≡ b.outputs → ⊥) where
    unlike : (y : Move Cube) → m ≡ or_refuse false 22 (carried a y) → m ≡ alike a b y
    unfolding alike
    unlike y f = f ∙ sym (simp (ne_eqb a.outputs b.outputs ne))

    -- a change of cubes that is refused is refused as it was
    pub alike_refused : (why : StepRefusal) → change ≡ change_is.Refuse why → m ≡ refuse why → m ≡ alike a b (move_of change)
    unfolding move_of
    alike_refused why e f = unlike (refuse why) f ∙ sym (ap (λ (t : Change Cube). alike a b (move_of t)) e)

    pub alike_unlike : ((why : StepRefusal) → change ≡ change_is.Refuse why → ⊥) → m ≡ refuse (step_refusal 22) → m ≡ alike a b (move_of change)
    unfolding move_of
    alike_unlike made f = go change refl
      where
        go : (c : Change Cube) → change ≡ c → m ≡ alike a b (move_of c)
        go (change_is.Refuse why) e = absurd (made why e)
        go change_is.Drop e = unlike drops f
        go (change_is.Join x) e = unlike (joins x) f
        go (change_is.Split x y) e = unlike (splits x y) f
        go (change_is.Turn x y) e = unlike (turns x y) f

-- ---- merge

module _ (n count i j : ℕ) (a b : Shared) (m : Move Shared) where
  module _ (e : 0 ≡ places_number count i j) where
    passed : ((l : List ℕ) → apart n a.cube b.cube ≡ l → m ≡ merged a b l) → m ≡ merge_move n count i j a b
    unfolding merge_move
    passed f = f (apart n a.cube b.cube) refl ∙ number_passed count i j 0 e (merged a b (apart n a.cube b.cube)) refl

    pub merge_same : a.outputs ≡ b.outputs → m ≡ refuse (step_refusal 23) → m ≡ merge_move n count i j a b
    merge_same q f = passed go
      where
        go : (l : List ℕ) → apart n a.cube b.cube ≡ l → m ≡ merged a b l
        go [] el = f ∙ sym (simp (eq-eqb a.outputs b.outputs q))
        go (v ∷ l) el = f

    module _ (g : Good n a.cube) (h : Good n b.cube) (s : ℕ) (es : s ≡ differing a.cube b.cube) where
      pub merge_unlike : (s ≡ 0 → ⊥) → m ≡ refuse (step_refusal 23) → m ≡ merge_move n count i j a b
      merge_unlike ne f = passed go
        where
          go : (l : List ℕ) → apart n a.cube b.cube ≡ l → m ≡ merged a b l
          go [] el = absurd (ne (es ∙ none_set n a.cube b.cube g h el))
          go (v ∷ l) el = f

      pub merge_made : s ≡ 0 → (a.outputs ≡ b.outputs → ⊥) → m ≡ joins (sharing (bit_xor a.outputs b.outputs) a.cube) → m ≡ merge_move n count i j a b
      unfolding ones
      merge_made q ne f = passed go
        where
          go : (l : List ℕ) → apart n a.cube b.cube ≡ l → m ≡ merged a b l
          go [] el = f ∙ sym (simp (ne_eqb a.outputs b.outputs ne))
          go (v ∷ l) el = absurd (omega (arith, sym (ap length el) ∙ apart_count n a.cube b.cube g h ∙ ap ones (sym es ∙ q)))

-- ---- any step

module _ (n count cap : ℕ) (x : StepRecord) (a b : Shared) (m : Move Shared) where
  pub merge_decided : (i j : ℕ) → merge i j ≡ shared_meaning x → m ≡ merge_move n count i j a b → m ≡ shared_decision n count cap (shared_meaning x) a b
  unfolding shared_decision
  merge_decided i j e f = f ∙ ap (λ (y : SharedStep). shared_decision n count cap y a b) e

  module _ (change : Change Cube) (made : Decided n count cap x a.cube b.cube change) where
    -- the change of cubes is what is decided of the plain step
    by_step : (y : Step) → plain y ≡ shared_meaning x → move_of change ≡ decision n count cap y a.cube b.cube
    by_step y e = made.is ∙ ap (λ (z : Step). decision n count cap z a.cube b.cube) (sym (plain_meaning x y e))

    plainly : (f : Move Cube → Move Shared) (y : Step) → plain y ≡ shared_meaning x → f (decision n count cap y a.cube b.cube) ≡ shared_decision n count cap (plain y) a b
        → m ≡ f (move_of change) → m ≡ shared_decision n count cap (shared_meaning x) a b
    plainly f y e d g = g ∙ ap f (by_step y e) ∙ d ∙ ap (λ (z : SharedStep). shared_decision n count cap z a b) e

    pub split_decided : (v i : ℕ) → plain (split v i) ≡ shared_meaning x → m ≡ map_move (sharing a.outputs) (move_of change)
        → m ≡ shared_decision n count cap (shared_meaning x) a b
    unfolding shared_decision decision
    split_decided v i e f = plainly (map_move (sharing a.outputs)) (split v i) e refl f

    pub alike_decided : SharedKnown n x → (x.op ≡ 5 → ⊥) → (s : operation.Step) → plain (step_of s) ≡ shared_meaning x
        → ((v i : ℕ) → s ≡ step_is.Split v i → ⊥) → m ≡ alike a b (move_of change) → m ≡ shared_decision n count cap (shared_meaning x) a b
    unfolding shared_decision decision
    alike_decided k nl (step_is.Drop i j) e no_split f = plainly (alike a b) (drop i j) e refl f
    alike_decided k nl (step_is.Join i j) e no_split f = plainly (alike a b) (join i j) e refl f
    alike_decided k nl (step_is.Split v i) e no_split f = absurd (no_split v i refl)
    alike_decided k nl (step_is.Turn v i j) e no_split f = plainly (alike a b) (turn v i j) e refl f
    alike_decided k nl (step_is.L v literal) e no_split f =
        absurd (no_letter x (plain_low x n k (no_merge x (L v literal) e) nl) v literal (plain_meaning x (L v literal) e))

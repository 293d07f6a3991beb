-- What an accepted step on shared products says of its places, its products and the new list, and why a refused one is refused.
-- Assumes nothing.
use mathlib.Core.Path.{◌≡◌, refl, sym, ap, ◌∙◌, subst}
use mathlib.Core.Logic.{◌≢◌, ◌⊎◌, inl, inr}
use mathlib.Core.Bool.{Bool, true, false, cond}
use mathlib.Core.List.{List, [], ◌∷◌, map}
use Prim.Native.Nat.{ℕ}
use native.Mathlib.Omega.{arith}
use lib.Bits.{bit_xor}
use lib.Dec.{eqb}
use lib.ListN.{length}
use borrow.Author.Tests.{lt-ltb, le-ltb, eqb-true, eqb-false, eq-eqb, ne_eqb}
use Rattle.cube.specs.declared.Cube.{Cube}
use Rattle.cube.specs.Cubes.{apart, differing_number}
use Rattle.cube.proofs.Apart.{apart_number}
use Rattle.steps.specs.declared.StepRefusal.{StepRefusal}
use Rattle.steps.specs.Moves.{step_refusal, Move, refuse, drops, joins, splits, turns, stop, next, applied}
use Rattle.steps.specs.Steps.{drop, join, split, turn, L, third_at, dropped, drop_move, joined, join_move, split_move, turned, turn_move, exchanged}
use Rattle.steps.specs.Effects.{TwoPlaces, TwoRefused, outside, same, unfit, DropUnfit, unequal, JoinUnfit, not_one, TurnUnfit, not_two, agree, full}
use Rattle.steps.proofs.Balanced.{next_same, stop_same, not_stopped}
use Rattle.steps.proofs.Inversion.{two_passed, two_by, drop_by, join_by, turn_by, split_by, turned_made, two_of}
use Rattle.shared.specs.declared.Shared.{Shared}
use Rattle.shared.specs.SharedRecord.{sharing, no_shared}
use Rattle.shared_steps.specs.SharedSteps.{SharedStep, plain, merge, shared_at, or_refuse, carried, alike, merged, merge_move, shared_decision, on_cube, shared_step}
use Rattle.shared_steps.specs.Effects.{DropDone, JoinDone, SplitDone, TurnDone, MergeDone, Unlike, by_cubes_lem, by_outputs, MergeUnfit, cubes_differ, outputs_equal, TurnFits, SharedStepRefused, by_shared, shared_third}
use Rattle.shared_steps.proofs.Reasons.{two_sole, unlike_sole, drop_sole, join_sole, turn_sole, merge_sole}

-- ---- the tests of each step, taken apart: what holds of each refusal and of the move made holds of what is decided

module _ (a b : Shared) where
  pub alike_same : (m : Move Cube) → a.outputs ≡ b.outputs → alike a b m ≡ carried a m
  unfolding alike
  alike_same m e = simp (eq-eqb a.outputs b.outputs e)

  module _ (P : Move Shared → Type 0) where
    -- the cubes' own refusal comes first
    alike_refused : (r : StepRefusal) → P (refuse r) → P (alike a b (refuse r))
    unfolding alike
    alike_refused r h = go (eqb a.outputs b.outputs)
      where
        go : (t : Bool) → P (or_refuse t 22 (refuse r))
        go true = h
        go false = h

    -- a move that is made of the cubes is made of the products, or refused by 22
    alike_made : (m : Move Cube) → or_refuse false 22 (carried a m) ≡ refuse (step_refusal 22) → (a.outputs ≢ b.outputs → P (refuse (step_refusal 22)))
        → (a.outputs ≡ b.outputs → P (carried a m)) → P (alike a b m)
    unfolding alike
    alike_made m is stops goes = go (eqb a.outputs b.outputs) refl
      where
        go : (t : Bool) → eqb a.outputs b.outputs ≡ t → P (or_refuse t 22 (carried a m))
        go true e = goes (eqb-true a.outputs b.outputs e)
        go false e = subst P (sym is) (stops (eqb-false a.outputs b.outputs e))

    -- a property of every refusal
    pub alike_by : ((r : StepRefusal) → P (refuse r)) → (m : Move Cube) → (a.outputs ≡ b.outputs → P (carried a m)) → P (alike a b m)
    alike_by stops (refuse r) goes = alike_refused r (stops r)
    alike_by stops drops goes = alike_made drops refl (λ ne. stops _) goes
    alike_by stops (joins x) goes = alike_made (joins x) refl (λ ne. stops _) goes
    alike_by stops (splits x y) goes = alike_made (splits x y) refl (λ ne. stops _) goes
    alike_by stops (turns x y) goes = alike_made (turns x y) refl (λ ne. stops _) goes

module _ (n : ℕ) (a b : Shared) where
  fits : (vs : List ℕ) → apart n a.cube b.cube ≡ vs → differing_number n a.cube b.cube ≡ length vs
  fits vs f = sym (apart_number n a.cube b.cube) ∙ ap length f

  turn_fits : (v u : ℕ) → (apart n a.cube b.cube ≡ v ∷ u ∷ []) ⊎ (apart n a.cube b.cube ≡ u ∷ v ∷ []) → TurnFits n v a.cube b.cube
  turn_fits v u f = let t = two_of n a.cube b.cube v u f in (number f, (t.p_lt, λ e. t.at_p (sym e)))
    where
      number : (apart n a.cube b.cube ≡ v ∷ u ∷ []) ⊎ (apart n a.cube b.cube ≡ u ∷ v ∷ []) → differing_number n a.cube b.cube ≡ 2
      number (inl e) = fits (v ∷ u ∷ []) e
      number (inr e) = fits (u ∷ v ∷ []) e

  module _ (P : Move Shared → Type 0) (count i j : ℕ) where
    abbrev Stops : (StepRefusal → Type 0) → Type 0
    Stops Unfit = (r : StepRefusal) → TwoRefused count i j Unfit r → P (refuse r)

    by_the_cubes : (Unfit : StepRefusal → Type 0) (Fit : Type 0) → Stops (Unlike Unfit Fit a b) → (r : StepRefusal) → TwoRefused count i j Unfit r → P (alike a b (refuse r))
    by_the_cubes U F stops r (outside h) = alike_refused a b P r (stops r (outside h))
    by_the_cubes U F stops r (same h e) = alike_refused a b P r (stops r (same h e))
    by_the_cubes U F stops r (unfit p u) = alike_refused a b P r (stops r (unfit p (by_cubes_lem u)))

    pub alike_drop_by : Stops (Unlike (DropUnfit n a.cube b.cube) (differing_number n a.cube b.cube ≡ 0) a b)
        → (TwoPlaces count i j → apart n a.cube b.cube ≡ [] → a.outputs ≡ b.outputs → P drops) → P (alike a b (drop_move n count i j a.cube b.cube))
    alike_drop_by stops goes =
        drop_by n a.cube b.cube (λ m. P (alike a b m)) count i j (by_the_cubes _ _ stops)
        (λ p f. alike_made a b P drops refl (λ ne. stops _ (unfit p (by_outputs (fits [] f) ne))) (goes p f))

    pub alike_join_by : Stops (Unlike (JoinUnfit n a.cube b.cube) (differing_number n a.cube b.cube ≡ 1) a b)
        → (TwoPlaces count i j → (v : ℕ) → apart n a.cube b.cube ≡ v ∷ [] → a.outputs ≡ b.outputs
        → P (joins (sharing a.outputs (third_at a.cube b.cube v)))) → P (alike a b (join_move n count i j a.cube b.cube))
    alike_join_by stops goes =
        join_by n a.cube b.cube (λ m. P (alike a b m)) count i j (by_the_cubes _ _ stops)
        (λ p v f. alike_made a b P (joins _) refl (λ ne. stops _ (unfit p (by_outputs (fits (v ∷ []) f) ne))) (goes p v f))

    pub alike_turn_by : (v : ℕ) → Stops (Unlike (TurnUnfit n v a.cube b.cube) (TurnFits n v a.cube b.cube) a b)
        → (TwoPlaces count i j → (u : ℕ) → (apart n a.cube b.cube ≡ v ∷ u ∷ []) ⊎ (apart n a.cube b.cube ≡ u ∷ v ∷ []) → a.outputs ≡ b.outputs
        → P (turns (sharing a.outputs (third_at a.cube b.cube v)) (sharing a.outputs (third_at b.cube a.cube u))))
        → P (alike a b (turn_move n count v i j a.cube b.cube))
    alike_turn_by v stops goes =
        turn_by n a.cube b.cube (λ m. P (alike a b m)) count i j v (by_the_cubes _ _ stops)
        (λ p u f. alike_made a b P (turns _ _) refl (λ ne. stops _ (unfit p (by_outputs (turn_fits v u f) ne))) (goes p u f))

    pub merge_by : Stops (MergeUnfit n a b)
        → (TwoPlaces count i j → apart n a.cube b.cube ≡ [] → a.outputs ≢ b.outputs → P (joins (sharing (bit_xor a.outputs b.outputs) a.cube)))
        → P (merge_move n count i j a b)
    unfolding merge_move
    merge_by stops goes = two_by count i j P (MergeUnfit n a b) (merged a b (apart n a.cube b.cube)) stops (go (apart n a.cube b.cube) refl)
      where
        made : TwoPlaces count i j → apart n a.cube b.cube ≡ [] → (t : Bool) → eqb a.outputs b.outputs ≡ t
            → P (cond t (refuse (step_refusal 23)) (joins (sharing (bit_xor a.outputs b.outputs) a.cube)))
        made p f true e = stops _ (unfit p (outputs_equal (eqb-true a.outputs b.outputs e)))
        made p f false e = goes p f (eqb-false a.outputs b.outputs e)

        go : (vs : List ℕ) → apart n a.cube b.cube ≡ vs → TwoPlaces count i j → P (merged a b vs)
        go [] f p = made p f (eqb a.outputs b.outputs) refl
        go (v ∷ vs) f p = stops _ (unfit p (cubes_differ (λ z. omega (arith, fits (v ∷ vs) f, z))))

-- a split, and a refused one, looks at no second place
pub split_anywhere : (count cap v i j : ℕ) (a : Shared) (l : List Shared)
    → applied no_shared i i l (carried a (split_move count cap v i a.cube)) ≡ applied no_shared i j l (carried a (split_move count cap v i a.cube))
unfolding applied
split_anywhere count cap v i j a l =
    split_by count cap v i (λ m. applied no_shared i i l (carried a m) ≡ applied no_shared i j l (carried a m)) a.cube (λ r t. refl) (λ p. refl)

-- ---- each step

module _ (n cap i j : ℕ) (l : List Shared) where
  abbrev a : Shared
  a = shared_at l i

  abbrev b : Shared
  b = shared_at l j

  pub drop_accepted : (m : List Shared) → shared_step n cap (plain (drop i j)) l ≡ next m → DropDone n i j l m
  unfolding shared_step shared_decision applied
  drop_accepted m =
      alike_drop_by n a b (λ x. applied no_shared i j l x ≡ next m → DropDone n i j l m) (length l) i j (λ r t e. absurd (not_stopped e))
      (λ p f o e. record { places = p; differ = f; alike = o; list = sym (next_same e) })

  pub drop_accepts : (m : List Shared) → DropDone n i j l m → shared_step n cap (plain (drop i j)) l ≡ next m
  unfolding shared_step shared_decision drop_move applied
  drop_accepts m r =
      ap (applied no_shared i j l) (alike_same a b _ r.alike
      ∙ ap (carried a) (two_passed (length l) i j (dropped (apart n a.cube b.cube)) r.places ∙ ap dropped r.differ))
      ∙ ap next (sym r.list)

  pub join_accepted : (m : List Shared) → shared_step n cap (plain (join i j)) l ≡ next m → JoinDone n i j l m
  unfolding shared_step shared_decision applied
  join_accepted m =
      alike_join_by n a b (λ x. applied no_shared i j l x ≡ next m → JoinDone n i j l m) (length l) i j (λ r t e. absurd (not_stopped e))
      (λ p v f o e. record { places = p; v = v; differ = f; alike = o; list = sym (next_same e) })

  pub join_accepts : (m : List Shared) → JoinDone n i j l m → shared_step n cap (plain (join i j)) l ≡ next m
  unfolding shared_step shared_decision join_move applied
  join_accepts m r =
      ap (applied no_shared i j l) (alike_same a b _ r.alike
      ∙ ap (carried a) (two_passed (length l) i j (joined a.cube b.cube (apart n a.cube b.cube)) r.places
      ∙ ap (joined a.cube b.cube) r.differ))
      ∙ ap next (sym r.list)

  pub merge_accepted : (m : List Shared) → shared_step n cap (merge i j) l ≡ next m → MergeDone n i j l m
  unfolding shared_step shared_decision applied
  merge_accepted m =
      merge_by n a b (λ x. applied no_shared i j l x ≡ next m → MergeDone n i j l m) (length l) i j (λ r t e. absurd (not_stopped e))
      (λ p f o e. record { places = p; differ = f; unlike = o; list = sym (next_same e) })

  pub merge_accepts : (m : List Shared) → MergeDone n i j l m → shared_step n cap (merge i j) l ≡ next m
  unfolding shared_step shared_decision merge_move applied
  merge_accepts m r =
      let made : merged a b [] ≡ joins (sharing (bit_xor a.outputs b.outputs) a.cube) = simp (ne_eqb a.outputs b.outputs r.unlike) in
      ap (applied no_shared i j l) (two_passed (length l) i j (merged a b (apart n a.cube b.cube)) r.places ∙ ap (merged a b) r.differ ∙ made)
      ∙ ap next (sym r.list)

module _ (n cap v i j : ℕ) (l : List Shared) where
  abbrev c : Shared
  c = shared_at l i

  abbrev d : Shared
  d = shared_at l j

  pub turn_accepted : (m : List Shared) → shared_step n cap (plain (turn v i j)) l ≡ next m → TurnDone n v i j l m
  unfolding shared_step shared_decision applied
  turn_accepted m =
      alike_turn_by n c d (λ x. applied no_shared i j l x ≡ next m → TurnDone n v i j l m) (length l) i j v (λ r t e. absurd (not_stopped e))
      (λ p u f o e. record { places = p; u = u; differ = f; alike = o; list = sym (next_same e) })

  pub turn_accepts : (m : List Shared) → TurnDone n v i j l m → shared_step n cap (plain (turn v i j)) l ≡ next m
  unfolding shared_step shared_decision turn_move applied
  turn_accepts m r =
      ap (applied no_shared i j l) (alike_same c d _ r.alike
      ∙ ap (carried c) (two_passed (length l) i j (turned c.cube d.cube v (apart n c.cube d.cube)) r.places
      ∙ turned_made n c.cube d.cube v r.u r.differ))
      ∙ ap next (sym r.list)

module _ (n cap v i : ℕ) (l : List Shared) where
  pub split_accepted : (m : List Shared) → shared_step n cap (plain (split v i)) l ≡ next m → SplitDone cap v i l m
  unfolding shared_step shared_decision applied
  split_accepted m =
      split_by (length l) cap v i (λ x. applied no_shared i i l (carried (shared_at l i) x) ≡ next m → SplitDone cap v i l m) (shared_at l i).cube
      (λ r t e. absurd (not_stopped e)) (λ p e. record { place = p.inside; room = p.more; list = sym (next_same e) })

  pub split_accepts : (m : List Shared) → SplitDone cap v i l m → shared_step n cap (plain (split v i)) l ≡ next m
  unfolding shared_step shared_decision split_move applied
  split_accepts m r = simp (lt-ltb i (length l) r.place, lt-ltb (length l) cap r.room) (ap next (sym r.list))

-- L is never refused
pub l_accepted : (n cap v b : ℕ) (l : List Shared) → shared_step n cap (plain (L v b)) l ≡ next (map (on_cube (exchanged v b)) l)
unfolding shared_step
l_accepted n cap v b l = refl

-- ---- a step that is refused

-- why it is: of each number exactly when it comes ..
pub shared_refused : (n cap : ℕ) (x : SharedStep) (l : List Shared) (r : StepRefusal) → shared_step n cap x l ≡ stop r → SharedStepRefused n cap x l r
unfolding shared_step shared_decision applied
shared_refused n cap (plain (drop i j)) l r =
    alike_drop_by n (shared_at l i) (shared_at l j) (λ x. applied no_shared i j l x ≡ stop r → SharedStepRefused n cap (plain (drop i j)) l r) (length l) i j
    (λ k t e. subst (SharedStepRefused n cap (plain (drop i j)) l) (stop_same {A = Shared} e) t) (λ p f o e. absurd (not_stopped (sym e)))
shared_refused n cap (plain (join i j)) l r =
    alike_join_by n (shared_at l i) (shared_at l j) (λ x. applied no_shared i j l x ≡ stop r → SharedStepRefused n cap (plain (join i j)) l r) (length l) i j
    (λ k t e. subst (SharedStepRefused n cap (plain (join i j)) l) (stop_same {A = Shared} e) t) (λ p v f o e. absurd (not_stopped (sym e)))
shared_refused n cap (plain (split v i)) l r =
    split_by (length l) cap v i (λ x. applied no_shared i i l (carried (shared_at l i) x) ≡ stop r → SharedStepRefused n cap (plain (split v i)) l r) (shared_at l i).cube
    (λ k t e. subst (SharedStepRefused n cap (plain (split v i)) l) (stop_same {A = Shared} e) t) (λ p e. absurd (not_stopped (sym e)))
shared_refused n cap (plain (turn v i j)) l r =
    alike_turn_by n (shared_at l i) (shared_at l j) (λ x. applied no_shared i j l x ≡ stop r → SharedStepRefused n cap (plain (turn v i j)) l r) (length l) i j v
    (λ k t e. subst (SharedStepRefused n cap (plain (turn v i j)) l) (stop_same {A = Shared} e) t) (λ p u f o e. absurd (not_stopped (sym e)))
shared_refused n cap (plain (L v b)) l r = λ e. absurd (not_stopped (sym e))
shared_refused n cap (merge i j) l r =
    merge_by n (shared_at l i) (shared_at l j) (λ x. applied no_shared i j l x ≡ stop r → SharedStepRefused n cap (merge i j) l r) (length l) i j
    (λ k t e. subst (SharedStepRefused n cap (merge i j) l) (stop_same {A = Shared} e) t) (λ p f o e. absurd (not_stopped (sym e)))

-- .. and where there is such a reason, which is then the only one, the step is refused by it
pub refused_shared : (n cap : ℕ) (x : SharedStep) (l : List Shared) (r : StepRefusal) → SharedStepRefused n cap x l r → shared_step n cap x l ≡ stop r
unfolding shared_step shared_decision split_move applied
refused_shared n cap (plain (drop i j)) l r t =
    let a : Shared = shared_at l i in
    let b : Shared = shared_at l j in
    let sole = two_sole (length l) i j _ _ (unlike_sole a b _ _ (drop_sole n a.cube b.cube)) in
    alike_drop_by n a b (λ x. applied no_shared i j l x ≡ stop r) (length l) i j
    (λ s u. ap stop (sole.once s r u t)) (λ p f o. absurd (sole.never r t (p, (fits n a b [] f, o))))
refused_shared n cap (plain (join i j)) l r t =
    let a : Shared = shared_at l i in
    let b : Shared = shared_at l j in
    let sole = two_sole (length l) i j _ _ (unlike_sole a b _ _ (join_sole n a.cube b.cube)) in
    alike_join_by n a b (λ x. applied no_shared i j l x ≡ stop r) (length l) i j
    (λ s u. ap stop (sole.once s r u t)) (λ p v f o. absurd (sole.never r t (p, (fits n a b (v ∷ []) f, o))))
refused_shared n cap (plain (split v i)) l r (outside h) = simp (le-ltb i (length l) h)
refused_shared n cap (plain (split v i)) l r (full h f) = simp (lt-ltb i (length l) h, le-ltb (length l) cap f)
refused_shared n cap (plain (turn v i j)) l r t =
    let a : Shared = shared_at l i in
    let b : Shared = shared_at l j in
    let sole = two_sole (length l) i j _ _ (unlike_sole a b _ _ (turn_sole n a.cube b.cube v)) in
    alike_turn_by n a b (λ x. applied no_shared i j l x ≡ stop r) (length l) i j v
    (λ s u. ap stop (sole.once s r u t)) (λ p u f o. absurd (sole.never r t (p, (turn_fits n a b v u f, o))))
refused_shared n cap (plain (L v b)) l r t = absurd t
refused_shared n cap (merge i j) l r t =
    let a : Shared = shared_at l i in
    let b : Shared = shared_at l j in
    let sole = two_sole (length l) i j _ _ (merge_sole n a b) in
    merge_by n a b (λ x. applied no_shared i j l x ≡ stop r) (length l) i j
    (λ s u. ap stop (sole.once s r u t)) (λ p f o. absurd (sole.never r t (p, (fits n a b [] f, o))))

-- by one of its numbers; and the third answer is the number of variables below n in which the two cubes, as they stood before the step, have different
-- codes, at 16 to 19, else 0
module _ (n cap : ℕ) where
  says : (x : SharedStep) (l : List Shared) (r : StepRefusal) → SharedStepRefused n cap x l r → (by_shared r.number ≡ true) × (r.differing ≡ shared_third n x l r.number)
  says (plain (drop i j)) l r (outside h) = (refl, refl)
  says (plain (drop i j)) l r (same h e) = (refl, refl)
  says (plain (drop i j)) l r (unfit p (by_cubes_lem (unequal ne))) = (refl, refl)
  says (plain (drop i j)) l r (unfit p (by_outputs f ne)) = (refl, refl)
  says (plain (join i j)) l r (outside h) = (refl, refl)
  says (plain (join i j)) l r (same h e) = (refl, refl)
  says (plain (join i j)) l r (unfit p (by_cubes_lem (not_one ne))) = (refl, refl)
  says (plain (join i j)) l r (unfit p (by_outputs f ne)) = (refl, refl)
  says (plain (split v i)) l r (outside h) = (refl, refl)
  says (plain (split v i)) l r (full h f) = (refl, refl)
  says (plain (turn v i j)) l r (outside h) = (refl, refl)
  says (plain (turn v i j)) l r (same h e) = (refl, refl)
  says (plain (turn v i j)) l r (unfit p (by_cubes_lem (not_two ne))) = (refl, refl)
  says (plain (turn v i j)) l r (unfit p (by_cubes_lem (agree two e))) = (refl, refl)
  says (plain (turn v i j)) l r (unfit p (by_outputs f ne)) = (refl, refl)
  says (plain (L v b)) l r t = absurd t
  says (merge i j) l r (outside h) = (refl, refl)
  says (merge i j) l r (same h e) = (refl, refl)
  says (merge i j) l r (unfit p (cubes_differ ne)) = (refl, refl)
  says (merge i j) l r (unfit p (outputs_equal e)) = (refl, refl)

  pub shared_number : (x : SharedStep) (l : List Shared) (r : StepRefusal) → SharedStepRefused n cap x l r → by_shared r.number ≡ true
  shared_number x l r t = (says x l r t).0

  pub shared_third_lem : (x : SharedStep) (l : List Shared) (r : StepRefusal) → SharedStepRefused n cap x l r → r.differing ≡ shared_third n x l r.number
  shared_third_lem x l r t = (says x l r t).1

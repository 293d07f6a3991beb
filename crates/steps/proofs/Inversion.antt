-- What an accepted step says of its places, its cubes and the new list, and why a refused one is refused: each test of a step is taken apart here, once.
-- Assumes nothing.
use mathlib.Core.Path.{◌≡◌, refl, sym, ap, ap₂, ◌∙◌, subst}
use mathlib.Core.Logic.{◌≢◌, ◌⊎◌, inl, inr}
use mathlib.Core.Bool.{Bool, true, false, cond, ◌&&◌}
use mathlib.Core.List.{List, [], ◌∷◌, map}
use Prim.Native.Nat.{ℕ, ◌≤◌, ◌<◌}
use native.Mathlib.Omega.{arith}
use lib.Dec.{eqb, ltb}
use lib.ListN.{length}
use borrow.Author.Tests.{lt-ltb, le-ltb, eqb-true, eqb-false, eq-eqb, ne_eqb}
use Rattle.bits.specs.Sums.{All}
use Rattle.cube.specs.declared.Cube.{Cube}
use Rattle.cube.specs.Cubes.{code, put, one, apart, differing_number, Good}
use Rattle.cube.proofs.Codes.{cube_ext}
use Rattle.cube.proofs.Apart.{apart_none, apart_number, Two, apart_two, two_swap}
use Rattle.cube.proofs.Lists.{good_at}
use Rattle.orders.specs.Codes.{lower, higher}
use Rattle.steps.specs.declared.StepRefusal.{StepRefusal}
use Rattle.steps.specs.Moves.{step_refusal, step_refusal_with, Move, refuse, drops, joins, splits, turns, stop, next, applied}
use Rattle.steps.specs.Steps.{Step, drop, join, split, turn, L, cube_at, third_at, at_two_places, unfit_by, dropped, drop_move, joined, join_move, split_move, turned, turn_move, exchanged, step}
use Rattle.steps.specs.Effects.{TwoPlaces, DropDone, JoinDone, SplitDone, TurnDone, TwoRefused, outside, same, unfit, DropUnfit, unequal, JoinUnfit, not_one, TurnUnfit, not_two, agree, SplitRefused, full, StepRefused, by_step, third_answer}
use Rattle.steps.specs.Changes.{OnePlace}
use Rattle.steps.proofs.Places.{two_tests, one_tests}
use Rattle.steps.proofs.Balanced.{next_same, stop_same, not_stopped}

-- ---- the tests of each step, taken apart: what holds of each refusal and of the move made holds of what is decided

module _ (count i j : ℕ) where
  -- two places pass their tests, or fail one
  pub two_passed : {A : Type 0} (x : Move A) → TwoPlaces count i j → at_two_places count i j x ≡ x
  two_passed x p = simp (lt-ltb i count p.first, lt-ltb j count p.second, ne_eqb i j p.unlike)

  two_outside : {A : Type 0} (x : Move A) → (count ≤ i) ⊎ (count ≤ j) → at_two_places count i j x ≡ refuse (step_refusal 10)
  two_outside x (inl h) = simp (le-ltb i count h)
  two_outside x (inr h) = past (ltb i count)
    where
      past : (s : Bool) → cond (s && ltb j count) (cond (eqb i j) (refuse (step_refusal 11)) x) (refuse (step_refusal 10)) ≡ refuse (step_refusal 10)
      past true = simp (le-ltb j count h)
      past false = refl

  two_same : {A : Type 0} (x : Move A) → i < count → i ≡ j → at_two_places count i j x ≡ refuse (step_refusal 11)
  two_same x h e = simp (lt-ltb i count h, lt-ltb j count (omega arith), eq-eqb i j e)

  pub two_by : {A : Type 0} (P : Move A → Type 0) (Unfit : StepRefusal → Type 0) (x : Move A)
      → ((r : StepRefusal) → TwoRefused count i j Unfit r → P (refuse r)) → (TwoPlaces count i j → P x) → P (at_two_places count i j x)
  two_by P U x stops goes =
      two_tests count i j (λ s t. P (cond s (cond t (refuse (step_refusal 11)) x) (refuse (step_refusal 10))))
      (λ u h. stops (step_refusal 10) (outside h)) (λ h e. stops (step_refusal 11) (same h e)) goes

  two_refuses : {A : Type 0} (Unfit : StepRefusal → Type 0) (x : Move A) → ((r : StepRefusal) → Unfit r → x ≡ refuse r)
      → (r : StepRefusal) → TwoRefused count i j Unfit r → at_two_places count i j x ≡ refuse r
  two_refuses U x u r (outside h) = two_outside x h
  two_refuses U x u r (same h e) = two_same x h e
  two_refuses U x u r (unfit p w) = two_passed x p ∙ u r w

-- the cubes of a step, by the variables in which they differ
module _ (n : ℕ) (a b : Cube) where
  -- how many these are
  counted : (vs : List ℕ) → apart n a b ≡ vs → length vs ≡ differing_number n a b
  counted vs f = sym (ap length f) ∙ apart_number n a b

  -- the third answer is their number
  unfit_number : (k : ℕ) (vs : List ℕ) → apart n a b ≡ vs → unfit_by k vs ≡ refuse (step_refusal_with k (differing_number n a b))
  unfit_number k vs f = ap (λ (m : ℕ). refuse (step_refusal_with k m)) (counted vs f)

  drop_unfit : (r : StepRefusal) → DropUnfit n a b r → dropped (apart n a b) ≡ refuse r
  drop_unfit r (unequal ne) = go (apart n a b) refl
    where
      go : (vs : List ℕ) → apart n a b ≡ vs → dropped vs ≡ refuse (step_refusal_with 16 (differing_number n a b))
      go [] f = absurd (ne (sym (counted [] f)))
      go (v ∷ vs) f = unfit_number 16 (v ∷ vs) f

  join_unfit : (r : StepRefusal) → JoinUnfit n a b r → joined a b (apart n a b) ≡ refuse r
  join_unfit r (not_one ne) = go (apart n a b) refl
    where
      go : (vs : List ℕ) → apart n a b ≡ vs → joined a b vs ≡ refuse (step_refusal_with 17 (differing_number n a b))
      go [] f = unfit_number 17 [] f
      go (v ∷ []) f = absurd (ne (sym (counted (v ∷ []) f)))
      go (v ∷ u ∷ vs) f = unfit_number 17 (v ∷ u ∷ vs) f

  turn_unfit : (v : ℕ) (r : StepRefusal) → TurnUnfit n v a b r → turned a b v (apart n a b) ≡ refuse r
  turn_unfit v r (not_two ne) = go (apart n a b) refl
    where
      go : (vs : List ℕ) → apart n a b ≡ vs → turned a b v vs ≡ refuse (step_refusal_with 18 (differing_number n a b))
      go [] f = unfit_number 18 [] f
      go (p ∷ []) f = unfit_number 18 (p ∷ []) f
      go (p ∷ q ∷ []) f = absurd (ne (sym (counted (p ∷ q ∷ []) f)))
      go (p ∷ q ∷ w ∷ vs) f = unfit_number 18 (p ∷ q ∷ w ∷ vs) f
  turn_unfit v r (agree two e) = go (apart n a b) refl
    where
      unlike : (u : ℕ) → u < n → code b u ≢ code a u → v ≢ u
      unlike u l ne is = ne (sym (subst (λ (k : ℕ). k < n → code a k ≡ code b k) is e l))

      go : (vs : List ℕ) → apart n a b ≡ vs → turned a b v vs ≡ refuse (step_refusal_with 19 (differing_number n a b))
      go [] f = absurd (omega (arith, counted [] f, two))
      go (p ∷ []) f = absurd (omega (arith, counted (p ∷ []) f, two))
      go (p ∷ q ∷ []) f =
          let w : Two n a b p q = apart_two n a b p q f in
          simp (ne_eqb v p (unlike p w.p_lt w.at_p), ne_eqb v q (unlike q w.q_lt w.at_q)) (unfit_number 19 (p ∷ q ∷ []) f)
      go (p ∷ q ∷ w ∷ vs) f = absurd (omega (arith, counted (p ∷ q ∷ w ∷ vs) f, two))

  module _ (P : Move Cube → Type 0) (count i j : ℕ) where
    -- a property of a refusal, whose third answer is their number
    by_number : (k : ℕ) (vs : List ℕ) → apart n a b ≡ vs → P (refuse (step_refusal_with k (differing_number n a b))) → P (unfit_by k vs)
    by_number k vs f = subst P (sym (unfit_number k vs f))

    pub drop_by : ((r : StepRefusal) → TwoRefused count i j (DropUnfit n a b) r → P (refuse r))
        → (TwoPlaces count i j → apart n a b ≡ [] → P drops) → P (drop_move n count i j a b)
    unfolding drop_move
    drop_by stops goes = two_by count i j P (DropUnfit n a b) (dropped (apart n a b)) stops (go (apart n a b) refl)
      where
        go : (vs : List ℕ) → apart n a b ≡ vs → TwoPlaces count i j → P (dropped vs)
        go [] f p = goes p f
        go (v ∷ vs) f p = by_number 16 (v ∷ vs) f (stops _ (unfit p (unequal (λ z. omega (arith, counted (v ∷ vs) f, z)))))

    pub join_by : ((r : StepRefusal) → TwoRefused count i j (JoinUnfit n a b) r → P (refuse r))
        → (TwoPlaces count i j → (v : ℕ) → apart n a b ≡ v ∷ [] → P (joins (third_at a b v))) → P (join_move n count i j a b)
    unfolding join_move
    join_by stops goes = two_by count i j P (JoinUnfit n a b) (joined a b (apart n a b)) stops (go (apart n a b) refl)
      where
        not_fit : (vs : List ℕ) → apart n a b ≡ vs → TwoPlaces count i j → length vs ≢ 1 → P (unfit_by 17 vs)
        not_fit vs f p ne = by_number 17 vs f (stops _ (unfit p (not_one (λ z. ne (counted vs f ∙ z)))))

        go : (vs : List ℕ) → apart n a b ≡ vs → TwoPlaces count i j → P (joined a b vs)
        go [] f p = not_fit [] f p (λ z. omega arith)
        go (v ∷ []) f p = goes p v f
        go (v ∷ u ∷ vs) f p = not_fit (v ∷ u ∷ vs) f p (λ z. omega arith)

    pub turn_by : (v : ℕ) → ((r : StepRefusal) → TwoRefused count i j (TurnUnfit n v a b) r → P (refuse r))
        → (TwoPlaces count i j → (u : ℕ) → (apart n a b ≡ v ∷ u ∷ []) ⊎ (apart n a b ≡ u ∷ v ∷ []) → P (turns (third_at a b v) (third_at b a u)))
        → P (turn_move n count v i j a b)
    unfolding turn_move
    turn_by v stops goes = two_by count i j P (TurnUnfit n v a b) (turned a b v (apart n a b)) stops (go (apart n a b) refl)
      where
        not_fit : (vs : List ℕ) → apart n a b ≡ vs → TwoPlaces count i j → length vs ≢ 2 → P (unfit_by 18 vs)
        not_fit vs f p ne = by_number 18 vs f (stops _ (unfit p (not_two (λ z. ne (counted vs f ∙ z)))))

        go : (vs : List ℕ) → apart n a b ≡ vs → TwoPlaces count i j → P (turned a b v vs)
        go [] f p = not_fit [] f p (λ z. omega arith)
        go (x ∷ []) f p = not_fit (x ∷ []) f p (λ z. omega arith)
        go (x ∷ y ∷ z ∷ vs) f p = not_fit (x ∷ y ∷ z ∷ vs) f p (λ e. omega arith)
        go (x ∷ y ∷ []) f p = pick (eqb v x) (eqb v y) refl refl
          where
            pick : (s t : Bool) → eqb v x ≡ s → eqb v y ≡ t
                → P (cond s (turns (third_at a b x) (third_at b a y)) (cond t (turns (third_at a b y) (third_at b a x)) (unfit_by 19 (x ∷ y ∷ []))))
            pick true t g h =
                subst (λ (k : ℕ). P (turns (third_at a b k) (third_at b a y))) (eqb-true v x g)
                (goes p y (inl (f ∙ ap (λ (k : ℕ). k ∷ y ∷ []) (sym (eqb-true v x g)))))
            pick false true g h =
                subst (λ (k : ℕ). P (turns (third_at a b k) (third_at b a x))) (eqb-true v y h)
                (goes p x (inr (f ∙ ap (λ (k : ℕ). x ∷ k ∷ []) (sym (eqb-true v y h)))))
            pick false false g h =
                by_number 19 (x ∷ y ∷ []) f
                (stops _ (unfit p (agree (sym (counted (x ∷ y ∷ []) f)) (λ l. (apart_two n a b x y f).elsewhere v l (eqb-false v x g) (eqb-false v y h)))))

pub split_by : (count cap v i : ℕ) (P : Move Cube → Type 0) (a : Cube) → ((r : StepRefusal) → SplitRefused count cap i r → P (refuse r))
    → (OnePlace count cap i → P (splits (put a v (lower (code a v))) (put a v (higher (code a v))))) → P (split_move count cap v i a)
unfolding split_move
split_by count cap v i P a stops goes =
    one_tests count cap i (λ s t. P (cond s (cond t (splits (put a v (lower (code a v))) (put a v (higher (code a v)))) (refuse (step_refusal 13))) (refuse (step_refusal 10))))
    (λ u h. stops (step_refusal 10) (outside h)) (λ h f. stops (step_refusal 13) (full h f)) goes

-- two cubes that differ in v and u alone are turned
pub turned_made : (n : ℕ) (a b : Cube) (v u : ℕ) → (apart n a b ≡ v ∷ u ∷ []) ⊎ (apart n a b ≡ u ∷ v ∷ [])
    → turned a b v (apart n a b) ≡ turns (third_at a b v) (third_at b a u)
turned_made n a b v u (inl f) =
    ap (turned a b v) f
    ∙ ap (λ (s : Bool). cond s (turns (third_at a b v) (third_at b a u)) (cond (eqb v u) (turns (third_at a b u) (third_at b a v)) (unfit_by 19 (v ∷ u ∷ [])))) (eq-eqb v v refl)
turned_made n a b v u (inr f) =
    ap (turned a b v) f
    ∙ ap₂ (λ (s t : Bool). cond s (turns (third_at a b u) (third_at b a v)) (cond t (turns (third_at a b v) (third_at b a u)) (unfit_by 19 (u ∷ v ∷ []))))
    (ne_eqb v u (λ e. (apart_two n a b u v f).distinct (sym e))) (eq-eqb v v refl)

-- such cubes differ in both and nowhere else
pub two_of : (n : ℕ) (a b : Cube) (v u : ℕ) → (apart n a b ≡ v ∷ u ∷ []) ⊎ (apart n a b ≡ u ∷ v ∷ []) → Two n a b v u
two_of n a b v u (inl f) = apart_two n a b v u f
two_of n a b v u (inr f) = two_swap n a b u v (apart_two n a b u v f)

-- ---- each step

-- what follows where a move is made, and where it is refused
abbrev Next : ℕ → ℕ → List Cube → List Cube → Type 0 → Move Cube → Type 0
Next i j l m R x = applied one i j l x ≡ next m → R

abbrev Stop : ℕ → ℕ → List Cube → StepRefusal → Type 0 → Move Cube → Type 0
Stop i j l r R x = applied one i j l x ≡ stop r → R

module _ (n cap i j : ℕ) (l : List Cube) where
  abbrev a : Cube
  a = cube_at l i

  abbrev b : Cube
  b = cube_at l j

  pub drop_accepted : (m : List Cube) → step n cap (drop i j) l ≡ next m → DropDone n i j l m
  unfolding step applied
  drop_accepted m =
      drop_by n a b (Next i j l m (DropDone n i j l m)) (length l) i j (λ r t e. absurd (not_stopped e))
      (λ p f e. record { places = p; differ = f; list = sym (next_same e) })

  pub drop_accepts : (m : List Cube) → DropDone n i j l m → step n cap (drop i j) l ≡ next m
  unfolding step drop_move applied
  drop_accepts m r = ap (applied one i j l) (two_passed (length l) i j (dropped (apart n a b)) r.places ∙ ap dropped r.differ) ∙ ap next (sym r.list)

  pub join_accepted : (m : List Cube) → step n cap (join i j) l ≡ next m → JoinDone n i j l m
  unfolding step applied
  join_accepted m =
      join_by n a b (Next i j l m (JoinDone n i j l m)) (length l) i j (λ r t e. absurd (not_stopped e))
      (λ p v f e. record { places = p; v = v; differ = f; list = sym (next_same e) })

  pub join_accepts : (m : List Cube) → JoinDone n i j l m → step n cap (join i j) l ≡ next m
  unfolding step join_move applied
  join_accepts m r =
      ap (applied one i j l) (two_passed (length l) i j (joined a b (apart n a b)) r.places ∙ ap (joined a b) r.differ) ∙ ap next (sym r.list)

module _ (n cap v i j : ℕ) (l : List Cube) where
  abbrev c : Cube
  c = cube_at l i

  abbrev d : Cube
  d = cube_at l j

  pub turn_accepted : (m : List Cube) → step n cap (turn v i j) l ≡ next m → TurnDone n v i j l m
  unfolding step applied
  turn_accepted m =
      turn_by n c d (Next i j l m (TurnDone n v i j l m)) (length l) i j v (λ r t e. absurd (not_stopped e))
      (λ p u f e. record { places = p; u = u; differ = f; list = sym (next_same e) })

  pub turn_accepts : (m : List Cube) → TurnDone n v i j l m → step n cap (turn v i j) l ≡ next m
  unfolding step turn_move applied
  turn_accepts m r =
      ap (applied one i j l) (two_passed (length l) i j (turned c d v (apart n c d)) r.places ∙ turned_made n c d v r.u r.differ)
      ∙ ap next (sym r.list)

  -- the cubes differ in v and u alone
  pub turn_two : (m : List Cube) (t : TurnDone n v i j l m) → Two n (cube_at l i) (cube_at l j) v t.u
  turn_two m t = two_of n c d v t.u t.differ

module _ (n cap v i : ℕ) (l : List Cube) where
  pub split_accepted : (m : List Cube) → step n cap (split v i) l ≡ next m → SplitDone cap v i l m
  unfolding step applied
  split_accepted m =
      split_by (length l) cap v i (Next i 0 l m (SplitDone cap v i l m)) (cube_at l i) (λ r t e. absurd (not_stopped e))
      (λ p e. record { place = p.inside; room = p.more; list = sym (next_same e) })

  pub split_accepts : (m : List Cube) → SplitDone cap v i l m → step n cap (split v i) l ≡ next m
  unfolding step split_move applied
  split_accepts m r = simp (lt-ltb i (length l) r.place, lt-ltb (length l) cap r.room) (ap next (sym r.list))

-- L is never refused
pub l_accepted : (n cap v b : ℕ) (l : List Cube) → step n cap (L v b) l ≡ next (map (exchanged v b) l)
unfolding step
l_accepted n cap v b l = refl

-- ---- a step that is refused

-- why it is: of each number exactly when it comes ..
pub step_refused : (n cap : ℕ) (x : Step) (l : List Cube) (r : StepRefusal) → step n cap x l ≡ stop r → StepRefused n cap x l r
unfolding step applied
step_refused n cap (drop i j) l r =
    drop_by n (cube_at l i) (cube_at l j) (Stop i j l r (StepRefused n cap (drop i j) l r)) (length l) i j
    (λ k t e. subst (StepRefused n cap (drop i j) l) (stop_same {A = Cube} e) t) (λ p f e. absurd (not_stopped (sym e)))
step_refused n cap (join i j) l r =
    join_by n (cube_at l i) (cube_at l j) (Stop i j l r (StepRefused n cap (join i j) l r)) (length l) i j
    (λ k t e. subst (StepRefused n cap (join i j) l) (stop_same {A = Cube} e) t) (λ p v f e. absurd (not_stopped (sym e)))
step_refused n cap (split v i) l r =
    split_by (length l) cap v i (Stop i 0 l r (StepRefused n cap (split v i) l r)) (cube_at l i)
    (λ k t e. subst (StepRefused n cap (split v i) l) (stop_same {A = Cube} e) t) (λ p e. absurd (not_stopped (sym e)))
step_refused n cap (turn v i j) l r =
    turn_by n (cube_at l i) (cube_at l j) (Stop i j l r (StepRefused n cap (turn v i j) l r)) (length l) i j v
    (λ k t e. subst (StepRefused n cap (turn v i j) l) (stop_same {A = Cube} e) t) (λ p u f e. absurd (not_stopped (sym e)))
step_refused n cap (L v b) l r = λ e. absurd (not_stopped (sym e))

-- .. and where there is such a reason, the step is refused by it
pub step_refuses : (n cap : ℕ) (x : Step) (l : List Cube) (r : StepRefusal) → StepRefused n cap x l r → step n cap x l ≡ stop r
unfolding step applied drop_move join_move split_move turn_move
step_refuses n cap (drop i j) l r t =
    ap (applied one i j l) (two_refuses (length l) i j _ (dropped (apart n (cube_at l i) (cube_at l j))) (drop_unfit n (cube_at l i) (cube_at l j)) r t)
step_refuses n cap (join i j) l r t =
    let a : Cube = cube_at l i in
    let b : Cube = cube_at l j in
    ap (applied one i j l) (two_refuses (length l) i j _ (joined a b (apart n a b)) (join_unfit n a b) r t)
step_refuses n cap (split v i) l r (outside h) = simp (le-ltb i (length l) h)
step_refuses n cap (split v i) l r (full h f) = simp (lt-ltb i (length l) h, le-ltb (length l) cap f)
step_refuses n cap (turn v i j) l r t =
    let a : Cube = cube_at l i in
    let b : Cube = cube_at l j in
    ap (applied one i j l) (two_refuses (length l) i j _ (turned a b v (apart n a b)) (turn_unfit n a b v) r t)
step_refuses n cap (L v b) l r t = absurd t

-- by one of its numbers; and the third answer is the number of variables below n in which the two cubes, as they stood before the step, have different
-- codes, at 16 to 19, else 0
module _ (n cap : ℕ) where
  says : (x : Step) (l : List Cube) (r : StepRefusal) → StepRefused n cap x l r → (by_step r.number ≡ true) × (r.differing ≡ third_answer n x l r.number)
  says (drop i j) l r (outside h) = (refl, refl)
  says (drop i j) l r (same h e) = (refl, refl)
  says (drop i j) l r (unfit p (unequal ne)) = (refl, refl)
  says (join i j) l r (outside h) = (refl, refl)
  says (join i j) l r (same h e) = (refl, refl)
  says (join i j) l r (unfit p (not_one ne)) = (refl, refl)
  says (split v i) l r (outside h) = (refl, refl)
  says (split v i) l r (full h f) = (refl, refl)
  says (turn v i j) l r (outside h) = (refl, refl)
  says (turn v i j) l r (same h e) = (refl, refl)
  says (turn v i j) l r (unfit p (not_two ne)) = (refl, refl)
  says (turn v i j) l r (unfit p (agree two e)) = (refl, refl)
  says (L v b) l r t = absurd t

  pub step_number : (x : Step) (l : List Cube) (r : StepRefusal) → step n cap x l ≡ stop r → by_step r.number ≡ true
  step_number x l r e = (says x l r (step_refused n cap x l r e)).0

  pub step_third : (x : Step) (l : List Cube) (r : StepRefusal) → step n cap x l ≡ stop r → r.differing ≡ third_answer n x l r.number
  step_third x l r e = (says x l r (step_refused n cap x l r e)).1

-- ---- what good cubes add

-- cubes that are dropped are equal
pub drop_equal : (n i j : ℕ) (l m : List Cube) → All (Good n) l → DropDone n i j l m → cube_at l i ≡ cube_at l j
drop_equal n i j l m a r =
    cube_ext n (cube_at l i) (cube_at l j) (good_at n l a i) (good_at n l a j) (apart_none n (cube_at l i) (cube_at l j) r.differ)

-- Drop, join and turn commute with a permutation of the codes at a variable, refusals included.
-- Assumes nothing.
use mathlib.Core.Path.{◌≡◌, refl, sym, ap, ap₂, ◌∙◌, subst}
use mathlib.Core.Logic.{◌≢◌}
use mathlib.Core.Bool.{Bool, true, false, not, cond}
use mathlib.Core.List.{List, [], ◌∷◌, map}
use Prim.Native.Nat.{ℕ}
use native.Mathlib.Decide.{ℕ_discrete}
use lib.Dec.{eqb}
use lib.ListN.{length, length-map}
use borrow.Author.Tests.{eq-eqb, ne_eqb}
use Rattle.bits.proofs.Below.{those_cong}
use Rattle.cube.specs.declared.Cube.{Cube}
use Rattle.cube.specs.Cubes.{code, put, one, differ_at, apart}
use Rattle.cube.proofs.Codes.{code_lt}
use Rattle.cube.proofs.Apart.{apart_one, Two, apart_two, two_swap}
use Rattle.orders.specs.Codes.{third}
use Rattle.orders.proofs.Codes.{third_lt, Permutes}
use Rattle.steps.specs.Moves.{step_refusal, Move, refuse, joins, turns, applied, map_move}
use Rattle.steps.specs.Steps.{Step, drop, join, split, turn, L, cube_at, third_at, at_two_places, unfit_by, dropped, drop_move, joined, join_move, turned, turn_move, step}
use Rattle.steps.proofs.Linear.{moved, code_moved, code_moved_other, moved_put_same, moved_put_other}
use Rattle.steps.proofs.Places.{two_tests, get_map}
use Rattle.steps.proofs.Balanced.{map_after, applied_map}

-- a step with two cubes: drop, join or turn
abbrev pub TwoCubes : Step → Type 0
TwoCubes (drop i j) = Unit {0}
TwoCubes (join i j) = Unit {0}
TwoCubes (split v i) = ⊥
TwoCubes (turn v i j) = Unit {0}
TwoCubes (L v b) = ⊥

module _ (σ : ℕ → ℕ) (s : Permutes σ) (u : ℕ) where
  -- ---- two cubes, moved

  same_code : (c d : Cube) (k : ℕ) → eqb (code (moved σ u c) k) (code (moved σ u d) k) ≡ eqb (code c k) (code d k)
  same_code c d k =
      elim (ℕ_discrete k u) [
        | yes e ↦ subst (λ (j : ℕ). eqb (code (moved σ u c) j) (code (moved σ u d) j) ≡ eqb (code c j) (code d j)) (sym e)
            (ap₂ eqb (code_moved σ s u c) (code_moved σ s u d) ∙ at_u)
        | no e ↦ ap₂ eqb (code_moved_other σ s u c k e) (code_moved_other σ s u d k e)
      ]
    where
      at_u : eqb (σ (code c u)) (σ (code d u)) ≡ eqb (code c u) (code d u)
      at_u = elim (ℕ_discrete (code c u) (code d u)) [
        | yes e ↦ eq-eqb (σ (code c u)) (σ (code d u)) (ap σ e) ∙ sym (eq-eqb (code c u) (code d u) e)
        | no e ↦ ne_eqb (σ (code c u)) (σ (code d u)) (s.distinct (code d u) (code c u) (code_lt d u) (code_lt c u) e) ∙ sym (ne_eqb (code c u) (code d u) e)
      ]

  -- they differ in the same variables
  pub apart_moved : (n : ℕ) (c d : Cube) → apart n (moved σ u c) (moved σ u d) ≡ apart n c d
  unfolding apart
  apart_moved n c d =
      those_cong (differ_at (moved σ u c) (moved σ u d)) (differ_at c d) (λ k. ap not (same_code c d k)) n 0

  -- and their thirds are moved
  pub third_moved : (c d : Cube) (v : ℕ) → code d v ≢ code c v → third_at (moved σ u c) (moved σ u d) v ≡ moved σ u (third_at c d v)
  third_moved c d v f = elim (ℕ_discrete v u) [ yes e ↦ here e | no e ↦ elsewhere e ]
    where
      elsewhere : v ≢ u → third_at (moved σ u c) (moved σ u d) v ≡ moved σ u (third_at c d v)
      elsewhere e =
          ap (put (moved σ u c) v) (ap₂ third (code_moved_other σ s u c v e) (code_moved_other σ s u d v e))
          ∙ sym (moved_put_other σ s u c v (third (code c v) (code d v)) (λ p. e (sym p)))

      at_u : code d u ≢ code c u → third_at (moved σ u c) (moved σ u d) u ≡ moved σ u (third_at c d u)
      at_u f =
          ap (put (moved σ u c) u)
          (ap₂ third (code_moved σ s u c) (code_moved σ s u d) ∙ sym (s.thirds (code c u) (code d u) (code_lt c u) (code_lt d u) f))
          ∙ sym (moved_put_same σ s u c (third (code c u) (code d u)) (third_lt (code c u) (code d u)))

      here : v ≡ u → third_at (moved σ u c) (moved σ u d) v ≡ moved σ u (third_at c d v)
      here e = subst (λ (k : ℕ). code d k ≢ code c k → third_at (moved σ u c) (moved σ u d) k ≡ moved σ u (third_at c d k)) (sym e) at_u f

  -- ---- what is decided of two cubes, moved

  module _ (n : ℕ) (a b : Cube) where
    pub dropped_moved : dropped (apart n (moved σ u a) (moved σ u b)) ≡ map_move (moved σ u) (dropped (apart n a b))
    dropped_moved = ap dropped (apart_moved n a b) ∙ go (apart n a b)
      where
        go : (vs : List ℕ) → dropped vs ≡ map_move (moved σ u) (dropped vs)
        go [] = refl
        go (v ∷ vs) = refl

    pub joined_moved : joined (moved σ u a) (moved σ u b) (apart n (moved σ u a) (moved σ u b)) ≡ map_move (moved σ u) (joined a b (apart n a b))
    joined_moved = ap (joined (moved σ u a) (moved σ u b)) (apart_moved n a b) ∙ go (apart n a b) refl
      where
        go : (vs : List ℕ) → apart n a b ≡ vs → joined (moved σ u a) (moved σ u b) vs ≡ map_move (moved σ u) (joined a b vs)
        go [] e = refl
        go (v ∷ []) e = ap joins (third_moved a b v (apart_one n a b v e).1)
        go (v ∷ w ∷ vs) e = refl

    pub turned_moved : (v : ℕ) → turned (moved σ u a) (moved σ u b) v (apart n (moved σ u a) (moved σ u b)) ≡ map_move (moved σ u) (turned a b v (apart n a b))
    turned_moved v = ap (turned (moved σ u a) (moved σ u b) v) (apart_moved n a b) ∙ go (apart n a b) refl
      where
        thirds : (p q : ℕ) → Two n a b p q
            → turns (third_at (moved σ u a) (moved σ u b) p) (third_at (moved σ u b) (moved σ u a) q) ≡ turns (moved σ u (third_at a b p)) (moved σ u (third_at b a q))
        thirds p q t = ap₂ turns (third_moved a b p t.at_p) (third_moved b a q (λ e. t.at_q (sym e)))

        go : (vs : List ℕ) → apart n a b ≡ vs → turned (moved σ u a) (moved σ u b) v vs ≡ map_move (moved σ u) (turned a b v vs)
        go [] e = refl
        go (p ∷ []) e = refl
        go (p ∷ q ∷ r ∷ vs) e = refl
        go (p ∷ q ∷ []) e = pick (eqb v p) (eqb v q)
          where
            pick : (x y : Bool) → cond x (turns (third_at (moved σ u a) (moved σ u b) p) (third_at (moved σ u b) (moved σ u a) q))
                (cond y (turns (third_at (moved σ u a) (moved σ u b) q) (third_at (moved σ u b) (moved σ u a) p)) (unfit_by 19 (p ∷ q ∷ [])))
                ≡ map_move (moved σ u) (cond x (turns (third_at a b p) (third_at b a q)) (cond y (turns (third_at a b q) (third_at b a p)) (unfit_by 19 (p ∷ q ∷ []))))
            pick true y = thirds p q (apart_two n a b p q e)
            pick false true = thirds q p (two_swap n a b p q (apart_two n a b p q e))
            pick false false = refl

  -- ---- a step

  -- the tests for two places, and then what is decided of the cubes there
  two_moved : (l : List Cube) (i j : ℕ) (f : Cube → Cube → Move Cube)
      → ((a b : Cube) → f (moved σ u a) (moved σ u b) ≡ map_move (moved σ u) (f a b))
      → at_two_places (length (map (moved σ u) l)) i j (f (cube_at (map (moved σ u) l) i) (cube_at (map (moved σ u) l) j))
      ≡ map_move (moved σ u) (at_two_places (length l) i j (f (cube_at l i) (cube_at l j)))
  two_moved l i j f h =
      ap (λ (k : ℕ). at_two_places k i j (f (cube_at (map (moved σ u) l) i) (cube_at (map (moved σ u) l) j))) (length-map l (moved σ u))
      ∙ two_tests (length l) i j
      (λ x y. cond x (cond y (refuse (step_refusal 11)) (f (cube_at (map (moved σ u) l) i) (cube_at (map (moved σ u) l) j))) (refuse (step_refusal 10))
      ≡ map_move (moved σ u) (cond x (cond y (refuse (step_refusal 11)) (f (cube_at l i) (cube_at l j))) (refuse (step_refusal 10))))
      (λ y h. refl) (λ h e. refl)
      (λ p. ap₂ f (get_map (moved σ u) l i one one p.first) (get_map (moved σ u) l j one one p.second) ∙ h (cube_at l i) (cube_at l j))

  -- the codes permuted before the step or after it: the same list, or the same refusal
  pub step_moved : (n cap : ℕ) (x : Step) → TwoCubes x → (l : List Cube) → step n cap x (map (moved σ u) l) ≡ map_after (moved σ u) (step n cap x l)
  unfolding step drop_move join_move turn_move
  step_moved n cap (drop i j) h l =
      ap (applied one i j (map (moved σ u) l)) (two_moved l i j (λ a b. dropped (apart n a b)) (dropped_moved n))
      ∙ applied_map (moved σ u) one one i j l (drop_move n (length l) i j (cube_at l i) (cube_at l j))
  step_moved n cap (join i j) h l =
      ap (applied one i j (map (moved σ u) l)) (two_moved l i j (λ a b. joined a b (apart n a b)) (joined_moved n))
      ∙ applied_map (moved σ u) one one i j l (join_move n (length l) i j (cube_at l i) (cube_at l j))
  step_moved n cap (turn v i j) h l =
      ap (applied one i j (map (moved σ u) l)) (two_moved l i j (λ a b. turned a b v (apart n a b)) (λ a b. turned_moved n a b v))
      ∙ applied_map (moved σ u) one one i j l (turn_move n (length l) v i j (cube_at l i) (cube_at l j))
  step_moved n cap (split v i) h l = absurd h
  step_moved n cap (L v b) h l = absurd h

-- What is decided of a step is the step: the change at its places gives the step's list, with places of the list and good cubes.
-- Assumes nothing.
use mathlib.Core.Path.{◌≡◌, refl, ap, ◌∙◌, subst}
use mathlib.Core.List.{List}
use Prim.Native.Nat.{ℕ, zero, suc, ◌≤◌, ◌<◌}
use native.Mathlib.Omega.{arith}
use lib.ListN.{length}
use Rattle.cube.specs.declared.Cube.{Cube}
use Rattle.cube.specs.Cubes.{one, Good}
use Rattle.steps.specs.declared.Change.{Change}
use Rattle.steps.specs.declared.StepRecord.{StepRecord}
use Rattle.steps.specs.Moves.{applied}
use Rattle.steps.specs.Steps.{Step, drop, L, is_l, Allowed, meaning, meaning_by, cube_at, split_move, step, decision}
use Rattle.steps.specs.Calls.{Known}
use Rattle.steps.specs.Changes.{move_of, Decided}
use Rattle.steps.proofs.Inversion.{split_by}
use Rattle.steps.proofs.Decisions.{Sound, drop_sound, join_sound, split_sound, turn_sound}

-- ---- the record of a step, by its operation

module _ (x : StepRecord) where
  pub means : (op : ℕ) → x.op ≡ op → meaning x ≡ meaning_by op x
  unfolding meaning
  means op e = ap (λ (k : ℕ). meaning_by k x) e

  pub means_fits : (n op : ℕ) → x.op ≡ op → Known n x → Allowed n (meaning_by op x)
  means_fits n op e k = subst (Allowed n) (means op e) k.fits

  -- below 2 a drop, from 5 on an L step
  pub means_drop : x.op < 2 → drop x.i x.j ≡ meaning x
  unfolding meaning
  means_drop l = go x.op l
    where
      go : (op : ℕ) → op < 2 → drop x.i x.j ≡ meaning_by op x
      go zero l = refl
      go (suc zero) l = refl
      go (suc (suc op)) l = absurd (omega arith)

  pub means_l : 5 ≤ x.op → L x.v x.literal ≡ meaning x
  unfolding meaning
  means_l l = go x.op l
    where
      go : (op : ℕ) → 5 ≤ op → L x.v x.literal ≡ meaning_by op x
      go zero l = absurd (omega arith)
      go (suc zero) l = absurd (omega arith)
      go (suc (suc zero)) l = absurd (omega arith)
      go (suc (suc (suc zero))) l = absurd (omega arith)
      go (suc (suc (suc (suc zero)))) l = absurd (omega arith)
      go (suc (suc (suc (suc (suc op))))) l = refl

  -- below 5 there is no L step
  pub no_letter : x.op < 5 → (v b : ℕ) → L v b ≡ meaning x → ⊥
  unfolding meaning
  no_letter l v b e = go x.op l (ap is_l e)
    where
      go : (op : ℕ) → op < 5 → 1 ≡ is_l (meaning_by op x) → ⊥
      go zero l e = omega arith
      go (suc zero) l e = omega arith
      go (suc (suc zero)) l e = omega arith
      go (suc (suc (suc zero))) l e = omega arith
      go (suc (suc (suc (suc zero)))) l e = omega arith
      go (suc (suc (suc (suc (suc op))))) l e = omega arith

-- ---- what is decided

pub decided : (n count cap : ℕ) (x : StepRecord) (a b : Cube) (change : Change Cube) (y : Step) → y ≡ meaning x → move_of change ≡ decision n count cap y a b
    → Decided n count cap x a b change
decided n count cap x a b change y e is = record { is = is ∙ ap (λ (z : Step). decision n count cap z a b) e }

-- ---- what is decided is the step, made at its record's places; and it is sound

-- a split, and a refused one, looks at no second place
split_anywhere : (count cap v i j : ℕ) (a : Cube) (l : List Cube) → applied one i 0 l (split_move count cap v i a) ≡ applied one i j l (split_move count cap v i a)
unfolding applied
split_anywhere count cap v i j a l = split_by count cap v i (λ m. applied one i 0 l m ≡ applied one i j l m) a (λ r t. refl) (λ p. refl)

module _ (n cap : ℕ) (x : StepRecord) (low : x.op < 5) where
  pub decision_made : (l : List Cube)
      → step n cap (meaning x) l ≡ applied one x.i x.j l (decision n (length l) cap (meaning x) (cube_at l x.i) (cube_at l x.j))
  unfolding meaning step decision
  decision_made l = go x.op low
    where
      go : (op : ℕ) → op < 5
          → step n cap (meaning_by op x) l ≡ applied one x.i x.j l (decision n (length l) cap (meaning_by op x) (cube_at l x.i) (cube_at l x.j))
      go zero h = refl
      go (suc zero) h = refl
      go (suc (suc zero)) h = refl
      go (suc (suc (suc zero))) h = split_anywhere (length l) cap x.v x.i x.j (cube_at l x.i) l
      go (suc (suc (suc (suc zero)))) h = refl
      go (suc (suc (suc (suc (suc op))))) h = absurd (omega arith)

  pub decision_sound : (count : ℕ) (a b : Cube) → Good n a → Good n b → Known n x
      → Sound n count cap x.i x.j a b (decision n count cap (meaning x) a b)
  unfolding meaning decision
  decision_sound count a b g h k = go x.op low k.fits
    where
      go : (op : ℕ) → op < 5 → Allowed n (meaning_by op x) → Sound n count cap x.i x.j a b (decision n count cap (meaning_by op x) a b)
      go zero l f = drop_sound n count cap x.i x.j a b g h
      go (suc zero) l f = drop_sound n count cap x.i x.j a b g h
      go (suc (suc zero)) l f = join_sound n count cap x.i x.j a b g h
      go (suc (suc (suc zero))) l f = split_sound n count cap x.i x.j a b x.v g f
      go (suc (suc (suc (suc zero)))) l f = turn_sound n count cap x.i x.j a b g h x.v
      go (suc (suc (suc (suc (suc op))))) l f = absurd (omega arith)

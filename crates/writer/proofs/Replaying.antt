-- The easy script as bytes: it passes the check of a script, and is read back as its steps; and the lists between its steps.
-- Assumes nothing.
use mathlib.Core.Path.{◌≡◌, refl, sym, ap, ◌∙◌, subst}
use mathlib.Core.Bool.{true}
use mathlib.Core.List.{List, [], ◌∷◌}
use Prim.Native.Nat.{ℕ, zero, suc, ◌*◌, ◌≤◌, ◌<◌, min}
use native.Mathlib.Omega.{arith}
use lib.ListN.{length, get_or}
use Rattle.records.specs.Answers.{accepted}
use Rattle.cube.specs.declared.Cube.{Cube}
use Rattle.steps.specs.Moves.{After}
use Rattle.steps.specs.Steps.{Step}
use Rattle.script.specs.Counts.{met_after, lists_by, lists}
use Rattle.script.specs.Run.{ended, run}
use Rattle.script.specs.Scripts.{step_width, most_steps, steps_of}
use Rattle.script.specs.Calls.{check_script}
use Rattle.script.proofs.Scripts.{script_bytes, script_read, steps_pass}
use Rattle.writer.specs.Pairs.{has_pair}
use Rattle.writer.specs.Easy.{easy_next, easy_steps, easy_end}
use Rattle.writer.proofs.Easy.{easy_ind, easy_accepted, easy_fewer, steps_pair, steps_none, easy_count, easy_fit, easy_run}

-- ---- the bytes

module _ (n : ℕ) (l : List Cube) where
  abbrev xs : List Step
  xs = easy_steps n most_steps l

  -- they pass 7, 8 and 9
  pub easy_passes : check_script n (script_bytes (easy_steps n most_steps l)) ≡ accepted (length (easy_steps n most_steps l) ∷ [])
  easy_passes = steps_pass xs n (easy_count n most_steps l).0 (easy_fit n most_steps l)

  -- and their run, in any capacity, ends in the end list, with the given count as peak
  pub easy_replays : (cap : ℕ) → run n cap (steps_of (script_bytes (easy_steps n most_steps l))) l ≡ ended (easy_end n most_steps l) (length l)
  easy_replays cap = ap (λ (ys : List Step). run n cap ys l) (script_read xs) ∙ easy_run n cap most_steps l

  -- there is room for them in a script buffer that is not refused
  pub easy_room : (room : ℕ) → step_width * min (length l) most_steps ≤ room → step_width * length (easy_steps n most_steps l) ≤ room
  easy_room room h = omega (arith, (easy_count n most_steps l).0, (easy_count n most_steps l).1)

-- ---- the lists between the steps

-- the first is the given one
lists_first : (n cap : ℕ) (xs : List Step) (l : List Cube) → get_or (lists n cap xs l) 0 [] ≡ l
unfolding lists_by
lists_first n cap [] l = refl
lists_first n cap (x ∷ xs) l = refl

-- each of them has fewer products than the one before it
pub easy_lists : (n cap m : ℕ) (l : List Cube) (k : ℕ) → k < length (easy_steps n m l)
    → length (get_or (lists n cap (easy_steps n m l) l) (suc k) []) < length (get_or (lists n cap (easy_steps n m l) l) k [])
unfolding easy_steps lists_by
easy_lists n cap =
    easy_ind n (λ m l. (k : ℕ) → k < length (easy_steps n m l) → length (get_or (lists n cap (easy_steps n m l) l) (suc k) []) < length (get_or (lists n cap (easy_steps n m l) l) k []))
    (λ l k h. absurd (omega arith))
    (λ m l e k h. absurd (omega (arith, ap length (steps_none n (suc m) l e))))
    (λ m l e ih k h. more m l e ih k h)
  where
    more : (m : ℕ) (l : List Cube) → has_pair n l ≡ true
        → ((k : ℕ) → k < length (easy_steps n m (easy_next n l))
        → length (get_or (lists n cap (easy_steps n m (easy_next n l)) (easy_next n l)) (suc k) []) < length (get_or (lists n cap (easy_steps n m (easy_next n l)) (easy_next n l)) k []))
        → (k : ℕ) → k < length (easy_steps n (suc m) l)
        → length (get_or (lists n cap (easy_steps n (suc m) l) l) (suc k) []) < length (get_or (lists n cap (easy_steps n (suc m) l) l) k [])
    more m l e ih k h =
        subst (λ (t : List (List Cube)). length (get_or t (suc k) []) < length (get_or t k [])) (sym are) (here k (omega (arith, ap length (steps_pair n m l e))))
      where
        are : lists n cap (easy_steps n (suc m) l) l ≡ l ∷ lists n cap (easy_steps n m (easy_next n l)) (easy_next n l)
        are =
            ap (λ (ys : List Step). lists n cap ys l) (steps_pair n m l e)
            ∙ ap (λ (a : After Cube). l ∷ met_after a (lists n cap (easy_steps n m (easy_next n l)))) (easy_accepted n l e cap)

        here : (k : ℕ) → k < suc (length (easy_steps n m (easy_next n l)))
            → length (get_or (l ∷ lists n cap (easy_steps n m (easy_next n l)) (easy_next n l)) (suc k) [])
            < length (get_or (l ∷ lists n cap (easy_steps n m (easy_next n l)) (easy_next n l)) k [])
        here zero h = omega (arith, ap length (lists_first n cap (easy_steps n m (easy_next n l)) (easy_next n l)), easy_fewer n l e)
        here (suc k) h = ih k (omega arith)

-- Without splits an L step is only decoration: a run of the plain steps alone is the run of all of them, but for the number of the step that is refused. And the
-- bytes of a script's plain steps. Document 02, Twelve.
-- Assumes nothing.
use mathlib.Core.Path.{◌≡◌, refl, sym, ap, ◌∙◌}
use mathlib.Core.Logic.{◌≢◌}
use mathlib.Core.List.{List, [], ◌∷◌, map, append-nil, filter-map}
use Prim.Native.Nat.{ℕ, ◌+◌, ◌*◌, ◌%◌, ◌≤◌, ◌<◌}
use native.Mathlib.Decide.{ℕ_discrete}
use native.Mathlib.Omega.{arith}
use lib.ListN.{length, get_or, take, length-map, get_or-map}
use Rattle.bits.specs.Sums.{All}
use Rattle.bits.proofs.Sums.{all_each}
use Rattle.records.specs.Records.{flat, list_of}
use Rattle.records.specs.Answers.{accepted}
use Rattle.records.proofs.Images.{flat_get}
use Rattle.records.proofs.Records.{length_list}
use Rattle.cube.specs.declared.Cube.{Cube}
use Rattle.cube.specs.Cubes.{Good}
use Rattle.orders.specs.Codes.{exchange}
use Rattle.orders.proofs.Codes.{exchange_permutes}
use Rattle.steps.specs.declared.StepRefusal.{StepRefusal}
use Rattle.steps.specs.Moves.{stop}
use Rattle.steps.specs.declared.StepRecord.{StepRecord}
use Rattle.steps.specs.Steps.{Step, drop, join, split, turn, L, Allowed, meaning, exchanged, step, is_split, is_l}
use Rattle.steps.proofs.Balanced.{map_after}
use Rattle.steps.proofs.Commute.{TwoCubes, step_moved}
use Rattle.steps.proofs.Kept.{taken_back, step_kept}
use Rattle.steps.proofs.Linear.{moved, exchanged_list_twice}
use Rattle.steps.proofs.Places.{take_map}
use Rattle.script.specs.Run.{unstep, run}
use Rattle.script.specs.Scripts.{step_records, step_width, steps_of}
use Rattle.script.specs.Calls.{check_script}
use Rattle.script.specs.PlainSteps.{without, without_before, plain_steps, without_l, corresponding}
use Rattle.script.proofs.Pending.{unstep_map}
use Rattle.script.proofs.Scripts.{steps_lawful, bytes_of_records, records_of_bytes, script_accepts, records_pass}
use Rattle.script.proofs.Without.{all_without, length_without, without_at}
use Rattle.script.proofs.Decoration.{renumbered, Decoration, run_without}

-- ---- a run

module _ (n cap : ℕ) where
  -- a step that passes 9 and is no split
  abbrev Unsplit : Step → Type 0
  Unsplit x = Allowed n x × (is_split x ≡ 0)

  two_cubes : (x : Step) → is_l x ≡ 0 → is_split x ≡ 0 → TwoCubes x
  two_cubes (drop i j) e h = tt
  two_cubes (join i j) e h = tt
  two_cubes (split v i) e h = absurd (omega arith)
  two_cubes (turn v i j) e h = tt
  two_cubes (L v b) e h = absurd (omega arith)

  -- an L step, by its kind
  by_l : (P : Step → Type 0) → ((v b : ℕ) → P (L v b)) → (x : Step) → is_l x ≢ 0 → P x
  by_l P h (drop i j) e = absurd (e refl)
  by_l P h (join i j) e = absurd (e refl)
  by_l P h (split v i) e = absurd (e refl)
  by_l P h (turn v i j) e = absurd (e refl)
  by_l P h (L v b) e = h v b

  not_undone : (x : Step) → is_l x ≡ 0 → (l : List Cube) → unstep x l ≡ l
  not_undone (drop i j) e l = refl
  not_undone (join i j) e l = refl
  not_undone (split v i) e l = refl
  not_undone (turn v i j) e l = refl
  not_undone (L v b) e l = absurd (omega arith)

  l_steps_decorate : Decoration (step n cap) unstep is_l taken_back (Good n) Unsplit
  unfolding step exchanged moved
  l_steps_decorate = record {
    kept = λ x h l m a e. (step_kept n cap l m a x h.0 e).good;
    undone = unstep_map;
    done = by_l _ (λ v b l. refl);
    twice = by_l _ (λ v b h l a. exchanged_list_twice n v b h.0.0 h.0.1 l a);
    not_undone = not_undone;
    commutes = λ x y e h f.
        by_l (λ y. Unsplit y → (l : List Cube) → step n cap x (map (taken_back y) l) ≡ map_after (taken_back y) (step n cap x l))
        (λ v b g l. step_moved (exchange b) (exchange_permutes b g.0.1) v n cap x (two_cubes x e h.1) l) y f;
  }

  -- "take out all L steps": of a script with no split, on a list of good cubes
  pub plain_run : (xs : List Step) → All (Allowed n) xs → All (λ x. is_split x ≡ 0) xs → (l : List Cube) → All (Good n) l
      → run n cap (plain_steps xs) l ≡ renumbered (corresponding xs) (run n cap xs l)
  unfolding run
  plain_run xs h none l a = run_without (step n cap) unstep is_l taken_back (Good n) Unsplit l_steps_decorate xs (all_both xs h none) l a
    where
      all_both : (xs : List Step) → All (Allowed n) xs → All (λ x. is_split x ≡ 0) xs → All Unsplit xs
      all_both [] h none = tt
      all_both (x ∷ xs) h none = ((h.0, none.0), all_both xs h.1 none.1)

  -- a step that is refused is no L step
  pub refused_plain : (x : Step) (l : List Cube) (why : StepRefusal) → step n cap x l ≡ stop why → is_l x ≡ 0
  unfolding step
  refused_plain (drop i j) l why e = refl
  refused_plain (join i j) l why e = refl
  refused_plain (split v i) l why e = refl
  refused_plain (turn v i j) l why e = refl
  refused_plain (L v b) l why e = let z : ◌≡◌ {A = ℕ} 0 1 = cc in absurd (omega arith)

-- ---- the bytes

-- the records of the script without its L steps are those of the plain steps, ..
plain_records : (b : List ℕ) → list_of step_records (without_l b) ≡ without (λ r. is_l (meaning r)) (list_of step_records b)
unfolding without_l
plain_records b = records_of_bytes (without (λ r. is_l (meaning r)) (list_of step_records b))

-- .. and its steps are they
pub plain_read : (b : List ℕ) → steps_of (without_l b) ≡ plain_steps (steps_of b)
unfolding steps_of
plain_read b = ap (map meaning) (plain_records b) ∙ sym (filter-map (λ x. ℕ_discrete (is_l x) 0) meaning (list_of step_records b))

-- it passes 7, 8 and 9 where the script does
pub plain_passes : (n : ℕ) (b v : List ℕ) → check_script n b ≡ accepted v → check_script n (without_l b) ≡ accepted (length (plain_steps (steps_of b)) ∷ [])
unfolding without_l steps_of
plain_passes n b v e =
    let a = script_accepts n b v e in
    let rs : List StepRecord = list_of step_records b in
    let left : List StepRecord = without (λ r. is_l (meaning r)) rs in
    let fewer : length left ≤ length rs = length_without (λ r. is_l (meaning r)) rs in
    let same : length left ≡ length (plain_steps (map meaning rs)) =
    sym (length-map left meaning) ∙ ap length (sym (filter-map (λ x. ℕ_discrete (is_l x) 0) meaning rs)) in
    records_pass n left (omega (arith, fewer, length_list step_records b, a.short)) (all_each _ _ (λ r p. p.1) left (all_without (λ r. is_l (meaning r)) _ rs a.each))
    ∙ ap (λ (k : ℕ). accepted (k ∷ [])) same

-- ---- each plain step stands in it at the step that corresponds, the same eight bytes

module _ (b : List ℕ) (bytes : All (λ x. x < 256) b) (whole : length b % step_width ≡ 0) where
  abbrev given : List StepRecord
  given = list_of step_records b

  abbrev gone : StepRecord → ℕ
  gone r = is_l (meaning r)

  -- byte k of record i
  at_record : (l : List StepRecord) (i k : ℕ) → i < length l → k < step_width
      → get_or (flat step_records.enc l) (step_width * i + k) 0 ≡ get_or (step_records.enc (get_or l i step_records.none)) k 0
  at_record l i k h hk =
      ap (λ (c : List ℕ). get_or c (step_width * i + k) 0) (sym (append-nil (flat step_records.enc l)))
      ∙ flat_get step_records.enc step_width steps_lawful.len l [] i k step_records.none h hk

  -- the records before one correspond to the steps before it
  before_same : (s : ℕ) → without_before gone given s ≡ corresponding (map meaning given) s
  before_same s =
      sym (length-map (without gone (take s given)) meaning)
      ∙ ap length (sym (filter-map (λ x. ℕ_discrete (is_l x) 0) meaning (take s given)) ∙ ap plain_steps (sym (take_map meaning s given)))

  pub plain_bytes : (s k : ℕ) → s < length (steps_of b) → is_l (get_or (steps_of b) s (drop 0 0)) ≡ 0 → k < step_width
      → get_or (without_l b) (step_width * corresponding (steps_of b) s + k) 0 ≡ get_or b (step_width * s + k) 0
  unfolding without_l steps_of meaning
  plain_bytes s k h e hk =
      let inside : s < length given = omega (arith, length-map given meaning) in
      let stays : gone (get_or given s step_records.none) ≡ 0 = ap is_l (sym (get_or-map meaning given s step_records.none)) ∙ e in
      let t = without_at gone step_records.none given s inside stays in
      ap (λ (i : ℕ). get_or (without_l b) (step_width * i + k) 0) (sym (before_same s))
      ∙ at_record (without gone given) (without_before gone given s) k t.0 hk
      ∙ ap (λ (r : StepRecord). get_or (step_records.enc r) k 0) t.1
      ∙ sym (at_record given s k inside hk)
      ∙ ap (λ (c : List ℕ). get_or c (step_width * s + k) 0) (bytes_of_records b bytes whole)

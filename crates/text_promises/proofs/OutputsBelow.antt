-- A script on shared products gives no product an output that none had: where all outputs of a list are below m, those of the list that a run ends in are.
-- Assumes nothing.
use mathlib.Core.Path.{◌≡◌, sym, subst, ◌∙◌}
use mathlib.Core.List.{List}
use Prim.Native.Nat.{ℕ, ◌^◌, ◌<◌}
use lib.Bits.{xor_lt}
use lib.Pow.{pow_pos}
use Rattle.bits.specs.Sums.{All}
use Rattle.bits.proofs.Sums.{all_get_or, all_map}
use Rattle.steps.specs.Moves.{next}
use Rattle.steps.specs.Steps.{drop, join, split, turn, L, exchanged}
use Rattle.steps.proofs.Balanced.{next_same}
use Rattle.steps.proofs.Places.{all_drop, all_join, all_split, all_turn}
use Rattle.script.specs.Run.{ended}
use Rattle.script.proofs.Runs.{Keeping, run_by_kept}
use Rattle.shared.specs.declared.Shared.{Shared}
use Rattle.shared.specs.SharedRecord.{no_shared}
use Rattle.shared_steps.specs.SharedSteps.{SharedStep, plain, merge, SharedAllowed, shared_at, on_cube, shared_step}
use Rattle.shared_steps.proofs.Inversion.{drop_accepted, join_accepted, split_accepted, turn_accepted, merge_accepted, l_accepted}
use Rattle.shared_steps.proofs.Kept.{shared_back}
use Rattle.shared_run.specs.SharedRun.{shared_unstep, shared_run}
use Rattle.shared_run.proofs.Pending.{unstep_back}
use Rattle.text_promises.specs.TextMeaning.{Below}

module _ (m n cap : ℕ) where
  -- a product of the list, or the one past its end, which has no output
  at_below : (l : List Shared) → All (Below m) l → (i : ℕ) → (shared_at l i).outputs < 2 ^ m
  at_below l a i = all_get_or (Below m) l i no_shared a (pow_pos m)

  step_below : (x : SharedStep) (l r : List Shared) → All (Below m) l → shared_step n cap x l ≡ next r → All (Below m) r
  step_below (plain (drop i j)) l r a e =
      let d = drop_accepted n cap i j l r e in
      subst (All (Below m)) (sym d.list) (all_drop (Below m) no_shared l i j d.places a)
  step_below (plain (join i j)) l r a e =
      let d = join_accepted n cap i j l r e in
      subst (All (Below m)) (sym d.list) (all_join (Below m) no_shared l i j _ d.places a (at_below l a i))
  step_below (plain (split v i)) l r a e =
      let d = split_accepted n cap v i l r e in
      subst (All (Below m)) (sym d.list) (all_split (Below m) l i _ _ a (at_below l a i) (at_below l a i))
  step_below (plain (turn v i j)) l r a e =
      let d = turn_accepted n cap v i j l r e in
      subst (All (Below m)) (sym d.list) (all_turn (Below m) l i j _ _ a (at_below l a i) (at_below l a i))
  step_below (plain (L v b)) l r a e =
      subst (All (Below m)) (next_same (sym (l_accepted n cap v b l) ∙ e)) (all_map (Below m) (Below m) (on_cube (exchanged v b)) (λ s h. h) l a)
  step_below (merge i j) l r a e =
      let d = merge_accepted n cap i j l r e in
      subst (All (Below m)) (sym d.list)
      (all_join (Below m) no_shared l i j _ d.places a (xor_lt m (shared_at l i).outputs (shared_at l j).outputs (at_below l a i) (at_below l a j)))

  back_below : (x : SharedStep) (s : Shared) → Below m s → Below m (shared_back x s)
  back_below (plain x) s h = h
  back_below (merge i j) s h = h

  -- as the laws of any kind of step have it, of no weight
  below_keeping : Keeping (shared_step n cap) shared_unstep shared_back (Below m) (λ w. ⊥) (SharedAllowed n)
  below_keeping = record {
    undone = unstep_back;
    good = λ x h. back_below x;
    fair = λ x h w f. f;
    kept = λ x l r h a e. record { good = step_below x l r a e; sums = λ w f. absurd f };
  }

  pub run_below : (xs : List SharedStep) → All (SharedAllowed n) xs → (l r : List Shared) (peak : ℕ) → All (Below m) l → shared_run n cap xs l ≡ ended r peak → All (Below m) r
  unfolding shared_run
  run_below xs h l r peak a e =
      (run_by_kept (shared_step n cap) shared_unstep shared_back (Below m) (λ w. ⊥) (SharedAllowed n) below_keeping xs l r peak h a e).good

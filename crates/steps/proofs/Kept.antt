-- One step that is not refused: a good list stays good, every linear weight keeps its sum up to the step's own undoing, and the count changes as it should.
-- Assumes nothing.
use mathlib.Core.Path.{◌≡◌, sym, ap, ◌∙◌, subst}
use mathlib.Core.Bool.{Bool}
use mathlib.Core.List.{List, map}
use Prim.Native.Nat.{ℕ, ◌+◌, ◌*◌}
use native.Mathlib.Omega.{arith}
use lib.ListN.{length, length-map}
use Rattle.bits.specs.Sums.{one_if, sum, All}
use Rattle.bits.proofs.Bools.{one_injective}
use Rattle.bits.proofs.Sums.{tally_sum, sum_map, all_map}
use Rattle.cube.specs.declared.Cube.{Cube}
use Rattle.cube.specs.Cubes.{one, Good, holds}
use Rattle.cube.specs.Lists.{trues, list_value}
use Rattle.cube.proofs.Lists.{good_at}
use Rattle.steps.specs.Moves.{drops, joins, splits, turns, next, applied}
use Rattle.steps.specs.Steps.{Step, drop, join, split, turn, L, Allowed, cube_at, third_at, exchanged, step, is_split, is_join, is_drop}
use Rattle.steps.specs.Effects.{IsRewrite}
use Rattle.steps.specs.Changes.{Placed}
use Rattle.steps.proofs.Linear.{Linear, holds_linear, exchanged_good, exchanged_linear, exchanged_list_twice}
use Rattle.steps.proofs.Balanced.{next_same, applied_count, sound_made}
use Rattle.steps.proofs.Inversion.{drop_accepted, join_accepted, split_accepted, turn_accepted}
use Rattle.steps.proofs.Decisions.{drop_sound, join_sound, split_sound, turn_sound}

-- ---- a step taken back, cube by cube: an L step is its own inverse, and nothing else is taken back

abbrev pub taken_back : Step → Cube → Cube
taken_back (drop i j) c = c
taken_back (join i j) c = c
taken_back (split v i) c = c
taken_back (turn v i j) c = c
taken_back (L v b) c = exchanged v b c

pub taken_back_good : (n : ℕ) (x : Step) → Allowed n x → (c : Cube) → Good n c → Good n (taken_back x c)
taken_back_good n (drop i j) h c g = g
taken_back_good n (join i j) h c g = g
taken_back_good n (split v i) h c g = g
taken_back_good n (turn v i j) h c g = g
taken_back_good n (L v b) h c g = exchanged_good n v b h.0 h.1 c g

pub taken_back_linear : (n : ℕ) (x : Step) → Allowed n x → (w : Cube → Bool) → Linear n w → Linear n (λ c. w (taken_back x c))
taken_back_linear n (drop i j) h w lin = lin
taken_back_linear n (join i j) h w lin = lin
taken_back_linear n (split v i) h w lin = lin
taken_back_linear n (turn v i j) h w lin = lin
taken_back_linear n (L v b) h w lin = exchanged_linear n v b h.0 h.1 w lin

-- ---- one step

pub record Kept (n : ℕ) (x : Step) (l m : List Cube) : Type 0 where
  pub good : All (Good n) m
  pub sums : (w : Cube → Bool) → Linear n w → sum (λ c. w (taken_back x c)) m ≡ sum w l

pub step_count : (n cap : ℕ) (x : Step) (l m : List Cube) → step n cap x l ≡ next m → length m + is_join x + 2 * is_drop x ≡ length l + is_split x
unfolding step applied Placed
step_count n cap (drop i j) l m e =
    let r = drop_accepted n cap i j l m e in
    omega (arith, applied_count one l m cap i j drops r.places (ap next (sym r.list)))
step_count n cap (join i j) l m e =
    let r = join_accepted n cap i j l m e in
    omega (arith, applied_count one l m cap i j (joins (third_at (cube_at l i) (cube_at l j) r.v)) r.places (ap next (sym r.list)))
step_count n cap (split v i) l m e =
    let r = split_accepted n cap v i l m e in
    omega (arith, applied_count one l m cap i 0 (splits _ _) (record { inside = r.place; more = r.room }) (ap next (sym r.list)))
step_count n cap (turn v i j) l m e =
    let r = turn_accepted n cap v i j l m e in
    omega (arith, applied_count one l m cap i j (turns _ _) r.places (ap next (sym r.list)))
step_count n cap (L v b) l m e = omega (arith, ap length (next_same e), length-map l (exchanged v b))

module _ (n cap : ℕ) (l m : List Cube) (a : All (Good n) l) where
  pub step_kept : (x : Step) → Allowed n x → step n cap x l ≡ next m → Kept n x l m
  unfolding step
  step_kept (drop i j) h e =
      let t = sound_made (Good n) (Linear n) one l m cap i j _ (drop_sound n (length l) cap i j (cube_at l i) (cube_at l j) (good_at n l a i) (good_at n l a j)) a e in
      record { good = t.0; sums = t.1 }
  step_kept (join i j) h e =
      let t = sound_made (Good n) (Linear n) one l m cap i j _ (join_sound n (length l) cap i j (cube_at l i) (cube_at l j) (good_at n l a i) (good_at n l a j)) a e in
      record { good = t.0; sums = t.1 }
  step_kept (split v i) h e =
      let t = sound_made (Good n) (Linear n) one l m cap i 0 _ (split_sound n (length l) cap i 0 (cube_at l i) (cube_at l 0) v (good_at n l a i) h) a e in
      record { good = t.0; sums = t.1 }
  step_kept (turn v i j) h e =
      let t = sound_made (Good n) (Linear n) one l m cap i j _ (turn_sound n (length l) cap i j (cube_at l i) (cube_at l j) (good_at n l a i) (good_at n l a j) v) a e in
      record { good = t.0; sums = t.1 }
  step_kept (L v b) h e = record {
    good = subst (All (Good n)) (next_same e) (all_map (Good n) (Good n) (exchanged v b) (exchanged_good n v b h.0 h.1) l a);
    sums = λ w lin.
        ap (sum (λ c. w (exchanged v b c))) (sym (next_same e))
        ∙ sym (sum_map w (exchanged v b) (map (exchanged v b) l))
        ∙ ap (sum w) (exchanged_list_twice n v b h.0 h.1 l a);
  }

-- ---- values

-- lists of one sum have one value
pub value_of_sum : (n : ℕ) (l m : List Cube) (a : ℕ) → sum (λ c. holds n c a) m ≡ sum (λ c. holds n c a) l → list_value n m a ≡ list_value n l a
unfolding list_value trues
value_of_sum n l m a e = tally_sum (λ c. holds n c a) m ∙ ap one_if e ∙ sym (tally_sum (λ c. holds n c a) l)

pub sum_of_value : (n : ℕ) (l m : List Cube) (a : ℕ) → list_value n m a ≡ list_value n l a → sum (λ c. holds n c a) m ≡ sum (λ c. holds n c a) l
unfolding list_value trues
sum_of_value n l m a e = one_injective _ _ (sym (tally_sum (λ c. holds n c a) m) ∙ e ∙ tally_sum (λ c. holds n c a) l)

-- a rewrite keeps the function
pub rewrite_value : (n cap : ℕ) (x : Step) → IsRewrite x → Allowed n x → (l m : List Cube) → All (Good n) l → step n cap x l ≡ next m
    → (a : ℕ) → list_value n m a ≡ list_value n l a
rewrite_value n cap x r h l m g e a = value_of_sum n l m a (go x r ((step_kept n cap l m g x h e).sums (λ c. holds n c a) (holds_linear n a)))
  where
    go : (x : Step) → IsRewrite x → sum (λ c. holds n (taken_back x c) a) m ≡ sum (λ c. holds n c a) l → sum (λ c. holds n c a) m ≡ sum (λ c. holds n c a) l
    go (drop i j) r s = s
    go (join i j) r s = s
    go (split v i) r s = s
    go (turn v i j) r s = s
    go (L v b) r s = absurd r

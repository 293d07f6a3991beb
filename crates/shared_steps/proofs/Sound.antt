-- What is decided of fine products is the step, and sound: its places are there, it writes fine products, and it is balanced for every fair weight.
-- Assumes nothing.
use mathlib.Core.Path.{◌≡◌, refl, ap, ◌∙◌, subst}
use mathlib.Core.Logic.{◌≢◌}
use mathlib.Core.Bool.{Bool, true, false, cond}
use mathlib.Core.List.{List}
use Prim.Native.Nat.{ℕ, zero, suc, ◌≤◌, ◌<◌}
use native.Mathlib.Omega.{arith}
use lib.Dec.{eqb}
use lib.ListN.{length}
use Rattle.bits.specs.Sums.{◌⊕◌}
use Rattle.cube.specs.declared.Cube.{Cube}
use Rattle.cube.specs.Cubes.{Good}
use Rattle.cube.proofs.Codes.{cube_ext}
use Rattle.cube.proofs.Apart.{apart_none}
use Rattle.steps.specs.declared.StepRecord.{StepRecord}
use Rattle.steps.specs.declared.StepRefusal.{StepRefusal}
use Rattle.steps.specs.Moves.{Move, refuse, applied}
use Rattle.steps.specs.Steps.{meaning, meaning_by, drop_move, join_move, split_move, turn_move}
use Rattle.steps.specs.Changes.{Placed}
use Rattle.steps.proofs.Linear.{Linear}
use Rattle.steps.proofs.Balanced.{Writes, SoundBy, refuse_sound, sound_map}
use Rattle.steps.proofs.Inversion.{split_by}
use Rattle.steps.proofs.Decisions.{Sound, drop_sound, join_sound, split_sound, turn_sound}
use Rattle.shared.specs.declared.Shared.{Shared}
use Rattle.shared.specs.SharedRecord.{sharing, no_shared, Fine}
use Rattle.shared_steps.specs.SharedSteps.{SharedAllowed, plain, merge, merge_operation, shared_meaning, shared_at, carried, alike, merge_move, shared_decision, shared_step}
use Rattle.shared_steps.specs.Calls.{SharedKnown}
use Rattle.shared_steps.proofs.Fair.{Fair, xor_none}
use Rattle.shared_steps.proofs.Inversion.{alike_by, alike_drop_by, alike_join_by, alike_turn_by, merge_by, split_anywhere}

abbrev pub SharedSound : (n count cap i j : ℕ) (a b : Shared) → Move Shared → Type 0
SharedSound n count cap i j a b m = SoundBy (Fine n) (Fair n) count cap i j a b m

-- ---- from the soundness of what is decided of their cubes; the product past the end has no outputs, so a's are asked for only where i is a place

module _ (n count cap i j : ℕ) (a b : Shared) where
  stops : (r : StepRefusal) → SharedSound n count cap i j a b (refuse r)
  stops r = refuse_sound (Fine n) (Fair n) count cap i j a b r

  module _ (g : Good n a.cube) (h : Good n b.cube) where
    -- two equal cubes with different outputs weigh what their EXOR does
    pub merge_sound : SharedSound n count cap i j a b (merge_move n count i j a b)
    unfolding Placed Writes
    merge_sound =
        merge_by n a b (SharedSound n count cap i j a b) count i j (λ r t. stops r)
        (λ p f ne.
        let e : a.cube ≡ b.cube = cube_ext n a.cube b.cube g h (apart_none n a.cube b.cube f) in
        record {
          places = p;
          good = record { good = g; some = λ z. ne (xor_none a.outputs b.outputs z) };
          balanced = λ w fair. fair.adds a.cube a.outputs b.outputs ∙ ap (λ (c : Cube). w a ⊕ w (sharing b.outputs c)) e;
        })

    module _ (some : i < count → a.outputs ≢ 0) where
      alike_sound : (m : Move Cube) → Sound n count cap i j a.cube b.cube m → SharedSound n count cap i j a b (alike a b m)
      alike_sound m s =
          alike_by a b (SharedSound n count cap i j a b) stops m (λ e.
          subst (λ (o : ℕ). SharedSound n count cap i j a (sharing o b.cube) (carried a m)) e
          (sound_map (sharing a.outputs) (Good n) (Fine n) (Linear n) (Fair n) count cap i j (λ c p k. record { good = k; some = some p })
          (λ w fair. fair.linear a.outputs) a.cube b.cube m s))

      pub alike_drop_sound : SharedSound n count cap i j a b (alike a b (drop_move n count i j a.cube b.cube))
      alike_drop_sound = alike_sound _ (drop_sound n count cap i j a.cube b.cube g h)

      pub alike_join_sound : SharedSound n count cap i j a b (alike a b (join_move n count i j a.cube b.cube))
      alike_join_sound = alike_sound _ (join_sound n count cap i j a.cube b.cube g h)

      pub alike_turn_sound : (v : ℕ) → SharedSound n count cap i j a b (alike a b (turn_move n count v i j a.cube b.cube))
      alike_turn_sound v = alike_sound _ (turn_sound n count cap i j a.cube b.cube g h v)

  -- a split takes a alone, whatever b is
  pub carried_split_sound : (v : ℕ) → Good n a.cube → (i < count → a.outputs ≢ 0) → v < n
      → SharedSound n count cap i j a b (carried a (split_move count cap v i a.cube))
  unfolding Placed Writes
  carried_split_sound v g some hv =
      split_by count cap v i (λ m. Sound n count cap i j a.cube b.cube m → SharedSound n count cap i j a b (carried a m)) a.cube
      (λ r t s. stops r)
      (λ p s. record {
        places = p;
        good = (record { good = s.good.0; some = some p.inside }, record { good = s.good.1; some = some p.inside });
        balanced = λ w fair. s.balanced (λ c. w (sharing a.outputs c)) (fair.linear a.outputs);
      })
      (split_sound n count cap i j a.cube b.cube v g hv)

-- ---- by the record of a step; an L step decides a refusal

module _ (n count cap : ℕ) (x : StepRecord) (a b : Shared) where
  pub shared_decision_sound : SharedAllowed n (shared_meaning x) → Good n a.cube → Good n b.cube → (x.i < count → a.outputs ≢ 0)
      → SharedSound n count cap x.i x.j a b (shared_decision n count cap (shared_meaning x) a b)
  unfolding shared_meaning meaning shared_decision
  shared_decision_sound fits g h some = pick (eqb x.op merge_operation) fits
    where
      go : (op : ℕ) → SharedAllowed n (plain (meaning_by op x)) → SharedSound n count cap x.i x.j a b (shared_decision n count cap (plain (meaning_by op x)) a b)
      go zero f = alike_drop_sound n count cap x.i x.j a b g h some
      go (suc zero) f = alike_drop_sound n count cap x.i x.j a b g h some
      go (suc (suc zero)) f = alike_join_sound n count cap x.i x.j a b g h some
      go (suc (suc (suc zero))) f = carried_split_sound n count cap x.i x.j a b x.v g some f
      go (suc (suc (suc (suc zero)))) f = alike_turn_sound n count cap x.i x.j a b g h some x.v
      go (suc (suc (suc (suc (suc op))))) f = stops n count cap x.i x.j a b _

      pick : (t : Bool) → SharedAllowed n (cond t (merge x.i x.j) (plain (meaning_by x.op x)))
          → SharedSound n count cap x.i x.j a b (shared_decision n count cap (cond t (merge x.i x.j) (plain (meaning_by x.op x))) a b)
      pick true f = merge_sound n count cap x.i x.j a b g h
      pick false f = go x.op f

  -- its places are there whatever the products are
  pub shared_decision_placed : Placed count cap x.i x.j (shared_decision n count cap (shared_meaning x) a b)
  unfolding shared_meaning meaning shared_decision Placed
  shared_decision_placed = pick (eqb x.op merge_operation)
    where
      go : (op : ℕ) → Placed count cap x.i x.j (shared_decision n count cap (plain (meaning_by op x)) a b)
      go zero = alike_drop_by n a b (Placed count cap x.i x.j) count x.i x.j (λ r t. tt {0}) (λ p f e. p)
      go (suc zero) = alike_drop_by n a b (Placed count cap x.i x.j) count x.i x.j (λ r t. tt {0}) (λ p f e. p)
      go (suc (suc zero)) = alike_join_by n a b (Placed count cap x.i x.j) count x.i x.j (λ r t. tt {0}) (λ p v f e. p)
      go (suc (suc (suc zero))) = split_by count cap x.v x.i (λ m. Placed count cap x.i x.j (carried a m)) a.cube (λ r t. tt {0}) (λ p. p)
      go (suc (suc (suc (suc zero)))) = alike_turn_by n a b (Placed count cap x.i x.j) count x.i x.j x.v (λ r t. tt {0}) (λ p u f e. p)
      go (suc (suc (suc (suc (suc op))))) = tt {0}

      pick : (t : Bool) → Placed count cap x.i x.j (shared_decision n count cap (cond t (merge x.i x.j) (plain (meaning_by x.op x))) a b)
      pick true = merge_by n a b (Placed count cap x.i x.j) count x.i x.j (λ r t. tt {0}) (λ p f e. p)
      pick false = go x.op

-- what is decided is the step, made at its record's places
pub shared_decision_made : (n cap : ℕ) (x : StepRecord) → SharedKnown n x → x.op ≢ 5 → (l : List Shared)
    → shared_step n cap (shared_meaning x) l
    ≡ applied no_shared x.i x.j l (shared_decision n (length l) cap (shared_meaning x) (shared_at l x.i) (shared_at l x.j))
unfolding shared_meaning meaning shared_step shared_decision
shared_decision_made n cap x known ne l = go x.op known.most ne
  where
    go : (op : ℕ) → op ≤ 6 → op ≢ 5 → shared_step n cap (cond (eqb op merge_operation) (merge x.i x.j) (plain (meaning_by op x))) l
        ≡ applied no_shared x.i x.j l
        (shared_decision n (length l) cap (cond (eqb op merge_operation) (merge x.i x.j) (plain (meaning_by op x))) (shared_at l x.i) (shared_at l x.j))
    go zero h d = refl
    go (suc zero) h d = refl
    go (suc (suc zero)) h d = refl
    go (suc (suc (suc zero))) h d = split_anywhere (length l) cap x.v x.i x.j (shared_at l x.i) l
    go (suc (suc (suc (suc zero)))) h d = refl
    go (suc (suc (suc (suc (suc zero))))) h d = absurd (d refl)
    go (suc (suc (suc (suc (suc (suc zero)))))) h d = refl
    go (suc (suc (suc (suc (suc (suc (suc op))))))) h d = absurd (omega arith)

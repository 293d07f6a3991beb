-- What is decided of good cubes is sound: its places are there, it writes good cubes, and it is balanced for every linear weight.
-- Assumes nothing.
use mathlib.Core.Path.{◌≡◌, sym, ap, ap₂, ◌∙◌, subst}
use mathlib.Core.Logic.{◌≢◌}
use mathlib.Core.Bool.{Bool}
use Prim.Native.Nat.{ℕ, ◌<◌}
use native.Mathlib.Decide.{ℕ_discrete}
use Rattle.bits.specs.Sums.{◌⊕◌}
use Rattle.bits.proofs.Bools.{xor_assoc, xor_comm, xor_cancel}
use Rattle.cube.specs.declared.Cube.{Cube}
use Rattle.cube.specs.Cubes.{code, put, Good}
use Rattle.cube.proofs.Codes.{code_lt, code_same, code_other, put_good, cube_ext}
use Rattle.cube.proofs.Apart.{apart_none, apart_one, Two}
use Rattle.orders.specs.Codes.{third, lower, higher}
use Rattle.orders.proofs.Codes.{third_lt, lower_lt, lower_other, higher_lt, higher_third}
use Rattle.steps.specs.Moves.{Move}
use Rattle.steps.specs.Steps.{third_at, drop_move, join_move, split_move, turn_move}
use Rattle.steps.specs.Changes.{Placed}
use Rattle.steps.proofs.Linear.{Linear}
use Rattle.steps.proofs.Balanced.{Writes, SoundBy, refuse_sound}
use Rattle.steps.proofs.Inversion.{drop_by, join_by, turn_by, split_by, two_of}

-- ---- the cubes of each rewrite

pub third_good : (n v : ℕ) (c d : Cube) → Good n c → v < n → Good n (third_at c d v)
third_good n v c d g hv = put_good n c v (third (code c v) (code d v)) g hv (third_lt (code c v) (code d v))

-- c with d's code at v is d, where they agree at every other variable
pub put_agree : (n : ℕ) (c d : Cube) (v : ℕ) → Good n c → Good n d → v < n → ((k : ℕ) → k < n → k ≢ v → code c k ≡ code d k) → put c v (code d v) ≡ d
put_agree n c d v g h hv e = cube_ext n (put c v (code d v)) d (put_good n c v (code d v) g hv (code_lt d v)) h same
  where
    same : (k : ℕ) → k < n → code (put c v (code d v)) k ≡ code d k
    same k hk =
        elim (ℕ_discrete k v) [
          | yes p ↦ subst (λ (j : ℕ). code (put c v (code d v)) j ≡ code d j) (sym p) (code_same c v (code d v) (code_lt d v))
          | no q ↦ code_other c v (code d v) k q ∙ e k hk q
        ]

-- the cube between two that differ in p and q alone: c with d's code at p is d with c's code at q
pub put_between : (n : ℕ) (c d : Cube) (p q : ℕ) → Good n c → Good n d → Two n c d p q → put c p (code d p) ≡ put d q (code c q)
put_between n c d p q g h t =
    sym (put_agree n d (put c p (code d p)) q h (put_good n c p (code d p) g t.p_lt (code_lt d p)) t.q_lt agree)
    ∙ ap (put d q) (code_other c p (code d p) q (λ e. t.distinct (sym e)))
  where
    agree : (k : ℕ) → k < n → k ≢ q → code d k ≡ code (put c p (code d p)) k
    agree k hk m =
        elim (ℕ_discrete k p) [
          | yes e ↦ subst (λ (j : ℕ). code d j ≡ code (put c p (code d p)) j) (sym e) (sym (code_same c p (code d p) (code_lt d p)))
          | no e ↦ sym (code_other c p (code d p) k e ∙ t.elsewhere k hk e m)
        ]

module _ (n : ℕ) (w : Cube → Bool) (lin : Linear n w) where
  -- two cubes that differ in v alone weigh what the third at v does
  pub join_weight : (c d : Cube) (v : ℕ) → Good n c → Good n d → v < n → code d v ≢ code c v → ((k : ℕ) → k < n → k ≢ v → code c k ≡ code d k)
      → w (third_at c d v) ≡ w c ⊕ w d
  join_weight c d v g h hv f e = lin c g v (code d v) hv (code_lt d v) f ∙ ap (λ (x : Cube). w c ⊕ w x) (put_agree n c d v g h hv e)

  -- a turn goes over the cube between the two
  pub turn_weight : (c d : Cube) (p q : ℕ) → Good n c → Good n d → Two n c d p q → w (third_at c d p) ⊕ w (third_at d c q) ≡ w c ⊕ w d
  turn_weight c d p q g h t =
      let e : Cube = put c p (code d p) in
      let left : w (third_at c d p) ≡ w c ⊕ w e = lin c g p (code d p) t.p_lt (code_lt d p) t.at_p in
      let right : w (third_at d c q) ≡ w d ⊕ w e
      = lin d h q (code c q) t.q_lt (code_lt c q) (λ r. t.at_q (sym r)) ∙ ap (λ (x : Cube). w d ⊕ w x) (sym (put_between n c d p q g h t)) in
      ap₂ ◌⊕◌ left right
      ∙ ap (λ (b : Bool). w c ⊕ w e ⊕ b) (xor_comm (w d) (w e))
      ∙ sym (xor_assoc (w c ⊕ w e) (w e) (w d))
      ∙ ap (λ (b : Bool). b ⊕ w d) (xor_cancel (w c) (w e))

  -- the two halves of a split weigh what it does
  pub split_weight : (c : Cube) (v : ℕ) → Good n c → v < n → w (put c v (lower (code c v))) ⊕ w (put c v (higher (code c v))) ≡ w c
  split_weight c v g hv =
      let x : ℕ = code c v in
      ap (λ (y : ℕ). w (put c v (lower x)) ⊕ w (put c v y)) (higher_third x (code_lt c v))
      ∙ ap (λ (b : Bool). w (put c v (lower x)) ⊕ b) (lin c g v (lower x) hv (lower_lt x) (lower_other x (code_lt c v)))
      ∙ xor_comm (w (put c v (lower x))) (w c ⊕ w (put c v (lower x)))
      ∙ xor_cancel (w c) (w (put c v (lower x)))

-- ---- the decisions

-- sound for cubes: it writes good ones, and is balanced for every linear weight
abbrev pub Sound : (n count cap i j : ℕ) (a b : Cube) → Move Cube → Type 0
Sound n count cap i j a b m = SoundBy (Good n) (Linear n) count cap i j a b m

module _ (n count cap i j : ℕ) (a b : Cube) where
  module _ (g : Good n a) (h : Good n b) where
    pub drop_sound : Sound n count cap i j a b (drop_move n count i j a b)
    unfolding Placed Writes
    drop_sound =
        drop_by n a b (Sound n count cap i j a b) count i j (λ r t. refuse_sound (Good n) (Linear n) count cap i j a b r)
        (λ p e. record { places = p; good = tt {0}; balanced = λ w lin. ap w (cube_ext n a b g h (apart_none n a b e)) })

    pub join_sound : Sound n count cap i j a b (join_move n count i j a b)
    unfolding Placed Writes
    join_sound =
        join_by n a b (Sound n count cap i j a b) count i j (λ r t. refuse_sound (Good n) (Linear n) count cap i j a b r)
        (λ p v e.
        let t = apart_one n a b v e in
        record { places = p; good = third_good n v a b g t.0; balanced = λ w lin. join_weight n w lin a b v g h t.0 t.1 t.2 })

    pub turn_sound : (v : ℕ) → Sound n count cap i j a b (turn_move n count v i j a b)
    unfolding Placed Writes
    turn_sound v =
        turn_by n a b (Sound n count cap i j a b) count i j v (λ r t. refuse_sound (Good n) (Linear n) count cap i j a b r)
        (λ p u e.
        let t = two_of n a b v u e in
        record {
          places = p;
          good = (third_good n v a b g t.p_lt, third_good n u b a h t.q_lt);
          balanced = λ w lin. turn_weight n w lin a b v u g h t;
        })

  pub split_sound : (v : ℕ) → Good n a → v < n → Sound n count cap i j a b (split_move count cap v i a)
  unfolding Placed Writes
  split_sound v g hv =
      split_by count cap v i (Sound n count cap i j a b) a (λ r t. refuse_sound (Good n) (Linear n) count cap i j a b r)
      (λ p. record {
        places = p;
        good = (put_good n a v (lower (code a v)) g hv (lower_lt (code a v)), put_good n a v (higher (code a v)) g hv (higher_lt (code a v)));
        balanced = λ w lin. split_weight n w lin a v g hv;
      })

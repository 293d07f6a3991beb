-- Linear weights of cubes: the third of two codes weighs the sum of both. Truth is linear, and stays so after a permutation of the codes at a variable.
-- Assumes nothing.
use mathlib.Core.Path.{◌≡◌, refl, sym, ap, ap₂, ◌∙◌, subst}
use mathlib.Core.Logic.{◌≢◌}
use mathlib.Core.Bool.{Bool, true, false, ◌&&◌, beq}
use mathlib.Core.List.{List, map}
use Prim.Native.Nat.{ℕ, zero, suc, ◌<◌}
use native.Mathlib.Nat.{not-suc-le-zero}
use native.Mathlib.Decide.{ℕ_discrete}
use native.Mathlib.Omega.{arith}
use Rattle.bits.specs.Bits.{bit}
use Rattle.bits.specs.Below.{all_below}
use Rattle.bits.specs.Sums.{◌⊕◌, All}
use Rattle.bits.proofs.Bools.{beq_eq, all_at, all_ext, xor_and, and_xor}
use Rattle.bits.proofs.Bits.{bit_lt}
use Rattle.bits.proofs.Sums.{map_back}
use Rattle.cube.specs.declared.Cube.{Cube}
use Rattle.cube.specs.Cubes.{code, put, Good, met, holds}
use Rattle.cube.proofs.Codes.{code_lt, code_same, code_other, put_put, put_comm, put_good, put_self}
use Rattle.orders.specs.Codes.{third, exchange}
use Rattle.orders.specs.Orders.{order_count, code_after}
use Rattle.orders.proofs.Codes.{two_codes, third_lt, Permutes, exchange_permutes, exchange_twice}
use Rattle.orders.proofs.Orders.{code_after_permutes}
use Rattle.steps.specs.Steps.{exchanged, reordered}

-- the literals of two different codes add up to that of the third
pub met_third : (x y b : ℕ) → x < 3 → y < 3 → y ≢ x → b < 2 → met (third x y) b ≡ met x b ⊕ met y b
unfolding third
met_third x y b hx hy d hb =
    beq_eq _ _ (all_at 2 (λ b. beq (met (third x y) b) (met x b ⊕ met y b))
    (two_codes (λ x y. all_below 2 (λ b. beq (met (third x y) b) (met x b ⊕ met y b))) refl x y hx hy d) b hb)

-- tests that are the same but at v, and add up there, add up over all numbers below n
pub all_one : (n v : ℕ) (s : Bool) (f g h : ℕ → Bool) → v < n → ((k : ℕ) → k ≢ v → f k ≡ g k) → ((k : ℕ) → k ≢ v → h k ≡ g k)
    → f v ≡ g v ⊕ (s && h v) → all_below n f ≡ all_below n g ⊕ (s && all_below n h)
all_one zero v s f g h l p q e = absurd (not-suc-le-zero l)
all_one (suc n) v s f g h l p q e =
    elim (ℕ_discrete v n) [
      | yes i ↦ last i
      | no d ↦
          ap₂ (λ (x y : Bool). x && y) (all_one n v s f g h (omega arith) p q e) (p n (λ i. d (sym i)))
          ∙ xor_and (all_below n g) (s && all_below n h) (g n)
          ∙ ap (λ (x : Bool). (all_below n g && g n) ⊕ x) (and_assoc s (all_below n h) (g n) ∙ ap (λ (x : Bool). s && (all_below n h && x)) (sym (q n (λ i. d (sym i)))))
    ]
  where
    and_assoc : (a b c : Bool) → ((a && b) && c) ≡ (a && (b && c))
    and_assoc true b c = refl
    and_assoc false b c = refl

    and_swap : (a b c : Bool) → (a && (b && c)) ≡ (b && (a && c))
    and_swap true b c = refl
    and_swap false true c = refl
    and_swap false false c = refl

    last : v ≡ n → all_below n f && f n ≡ (all_below n g && g n) ⊕ (s && (all_below n h && h n))
    last i =
        let below : (k : ℕ) → k < n → k ≢ v = λ k b. omega arith in
        let here : f n ≡ g n ⊕ (s && h n) = subst (λ (k : ℕ). f k ≡ g k ⊕ (s && h k)) i e in
        ap₂ (λ (x y : Bool). x && y) (all_ext n f g (λ k b. p k (below k b))) here
        ∙ and_xor (all_below n g) (g n) (s && h n)
        ∙ ap (λ (x : Bool). (all_below n g && g n) ⊕ x)
        (and_swap (all_below n g) s (h n) ∙ ap (λ (x : Bool). s && (x && h n)) (sym (all_ext n h g (λ k b. q k (below k b)))))

-- ---- linear weights

-- with the third of its code at v and another code y there, a good cube weighs what it does itself and with y there
abbrev pub Linear : ℕ → (Cube → Bool) → Type 0
Linear n w = (c : Cube) → Good n c → (v y : ℕ) → v < n → y < 3 → y ≢ code c v → w (put c v (third (code c v) y)) ≡ w c ⊕ w (put c v y)

-- the truth of a product at an assignment is linear
pub holds_linear : (n a : ℕ) → Linear n (λ c. holds n c a)
unfolding holds
holds_linear n a c g v y hv hy d =
    all_one n v true (λ k. met (code (put c v (third x y)) k) (bit a k)) (λ k. met (code c k) (bit a k)) (λ k. met (code (put c v y) k) (bit a k)) hv
    (λ k e. ap (λ (z : ℕ). met z (bit a k)) (code_other c v (third x y) k e))
    (λ k e. ap (λ (z : ℕ). met z (bit a k)) (code_other c v y k e))
    (ap (λ (z : ℕ). met z (bit a v)) (code_same c v (third x y) (third_lt x y))
    ∙ met_third x y (bit a v) (code_lt c v) hy d (bit_lt a v)
    ∙ ap (λ (z : ℕ). met x (bit a v) ⊕ met z (bit a v)) (sym (code_same c v y hy)))
  where
    x : ℕ
    x = code c v

-- ---- a permutation of the codes at one variable of a cube

unfoldable pub moved : (ℕ → ℕ) → ℕ → Cube → Cube
moved σ u c = put c u (σ (code c u))

pub exchanged_moved : (v b : ℕ) (c : Cube) → exchanged v b c ≡ moved (exchange b) v c
unfolding exchanged moved
exchanged_moved v b c = refl

pub reordered_moved : (v o : ℕ) (c : Cube) → reordered v o c ≡ moved (code_after o) v c
unfolding reordered moved
reordered_moved v o c = refl

module _ (σ : ℕ → ℕ) (s : Permutes σ) (u : ℕ) where
  pub code_moved : (c : Cube) → code (moved σ u c) u ≡ σ (code c u)
  unfolding moved
  code_moved c = code_same c u (σ (code c u)) (s.bound (code c u) (code_lt c u))

  pub code_moved_other : (c : Cube) (k : ℕ) → k ≢ u → code (moved σ u c) k ≡ code c k
  unfolding moved
  code_moved_other c k d = code_other c u (σ (code c u)) k d

  pub moved_good : (n : ℕ) (c : Cube) → u < n → Good n c → Good n (moved σ u c)
  unfolding moved
  moved_good n c h g = put_good n c u (σ (code c u)) g h (s.bound (code c u) (code_lt c u))

  -- a code put at another variable, and at u itself
  pub moved_put_other : (c : Cube) (v z : ℕ) → u ≢ v → moved σ u (put c v z) ≡ put (moved σ u c) v z
  unfolding moved
  moved_put_other c v z f = ap (λ (k : ℕ). put (put c v z) u (σ k)) (code_other c v z u f) ∙ sym (put_comm c u v (σ (code c u)) z f)

  pub moved_put_same : (c : Cube) (z : ℕ) → z < 3 → moved σ u (put c u z) ≡ put (moved σ u c) u (σ z)
  unfolding moved
  moved_put_same c z hz = ap (λ (k : ℕ). put (put c u z) u (σ k)) (code_same c u z hz) ∙ put_put c u z (σ z) ∙ sym (put_put c u (σ (code c u)) (σ z))

  -- a linear weight stays linear
  pub moved_linear : (n : ℕ) (w : Cube → Bool) → u < n → Linear n w → Linear n (λ c. w (moved σ u c))
  moved_linear n w hu lin c g v y hv hy d = elim (ℕ_discrete v u) [ yes e ↦ here e | no f ↦ elsewhere (λ p. f (sym p)) ]
    where
      elsewhere : u ≢ v → w (moved σ u (put c v (third (code c v) y))) ≡ w (moved σ u c) ⊕ w (moved σ u (put c v y))
      elsewhere f =
          let e : Cube = moved σ u c in
          let same : code e v ≡ code c v = code_moved_other c v (λ p. f (sym p)) in
          ap w (moved_put_other c v (third (code c v) y) f)
          ∙ ap (λ (k : ℕ). w (put e v (third k y))) (sym same)
          ∙ lin e (moved_good n c hu g) v y hv hy (λ p. d (p ∙ same))
          ∙ ap (λ (k : Cube). w e ⊕ w k) (sym (moved_put_other c v y f))

      at_u : y ≢ code c u → w (moved σ u (put c u (third (code c u) y))) ≡ w (moved σ u c) ⊕ w (moved σ u (put c u y))
      at_u d =
          let e : Cube = moved σ u c in
          let x : ℕ = code c u in
          let same : code e u ≡ σ x = code_moved c in
          ap w (moved_put_same c (third x y) (third_lt x y))
          ∙ ap (λ (k : ℕ). w (put e u k)) (s.thirds x y (code_lt c u) hy d ∙ ap (λ (k : ℕ). third k (σ y)) (sym same))
          ∙ lin e (moved_good n c hu g) u (σ y) hu (s.bound y hy) (λ q. s.distinct x y (code_lt c u) hy d (q ∙ same))
          ∙ ap (λ (k : Cube). w e ⊕ w k) (sym (moved_put_same c y hy))

      here : v ≡ u → w (moved σ u (put c v (third (code c v) y))) ≡ w (moved σ u c) ⊕ w (moved σ u (put c v y))
      here p =
          subst (λ (k : ℕ). y ≢ code c k → w (moved σ u (put c k (third (code c k) y))) ≡ w (moved σ u c) ⊕ w (moved σ u (put c k y))) (sym p) at_u d

-- moved by σ and then by τ
pub moved_moved : (σ τ : ℕ → ℕ) → Permutes σ → (u : ℕ) (c : Cube) → moved τ u (moved σ u c) ≡ moved (λ x. τ (σ x)) u c
unfolding moved
moved_moved σ τ s u c =
    put_put c u (σ (code c u)) (τ (code (moved σ u c) u)) ∙ ap (λ (k : ℕ). put c u (τ k)) (code_moved σ s u c)

-- moves at different variables commute
pub moved_comm : (σ τ : ℕ → ℕ) (u v : ℕ) (c : Cube) → u ≢ v → moved τ v (moved σ u c) ≡ moved σ u (moved τ v c)
unfolding moved
moved_comm σ τ u v c d =
    ap (λ (k : ℕ). put (moved σ u c) v (τ k)) (code_other c u (σ (code c u)) v (λ e. d (sym e)))
    ∙ put_comm c u v (σ (code c u)) (τ (code c v)) d
    ∙ ap (λ (k : ℕ). put (put c v (τ (code c v))) u (σ k)) (sym (code_other c v (τ (code c v)) u d))

-- ---- a cube that an L step exchanged, or an order moved

module _ (n v b : ℕ) (hv : v < n) (hb : b < 2) where
  pub exchanged_good : (c : Cube) → Good n c → Good n (exchanged v b c)
  unfolding exchanged moved
  exchanged_good c g = moved_good (exchange b) (exchange_permutes b hb) v n c hv g

  pub exchanged_linear : (w : Cube → Bool) → Linear n w → Linear n (λ c. w (exchanged v b c))
  unfolding exchanged moved
  exchanged_linear w lin = moved_linear (exchange b) (exchange_permutes b hb) v n w hv lin

  -- an L step done twice changes nothing
  pub exchanged_twice : (c : Cube) → Good n c → exchanged v b (exchanged v b c) ≡ c
  unfolding exchanged moved
  exchanged_twice c g =
      moved_moved (exchange b) (exchange b) (exchange_permutes b hb) v c ∙ ap (put c v) (exchange_twice b (code c v) hb (code_lt c v)) ∙ put_self n c v g hv

  pub exchanged_list_twice : (l : List Cube) → All (Good n) l → map (exchanged v b) (map (exchanged v b) l) ≡ l
  exchanged_list_twice l a = map_back (Good n) (exchanged v b) (exchanged v b) exchanged_twice l a

pub reordered_good : (n v o : ℕ) → v < n → o < order_count → (c : Cube) → Good n c → Good n (reordered v o c)
unfolding reordered moved
reordered_good n v o hv ho c g = moved_good (code_after o) (code_after_permutes o ho) v n c hv g

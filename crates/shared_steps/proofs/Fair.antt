-- Fair weights of shared products are linear in the cube and add up over the EXOR of outputs; the truth of a product at an output is fair.
-- Assumes nothing.
use mathlib.Core.Path.{◌≡◌, sym, ap, ◌∙◌}
use mathlib.Core.Bool.{Bool, ◌&&◌}
use Prim.Native.Nat.{ℕ, zero, suc, zero-le}
use native.Mathlib.Omega.{arith}
use lib.Bits.{bit_xor, differ}
use Rattle.bits.specs.Bits.{bit}
use Rattle.bits.specs.Sums.{◌⊕◌}
use Rattle.bits.proofs.Bools.{xor_and, and_xor}
use Rattle.bits.proofs.Bits.{bit_high, bit_xor_lem, bit_ext}
use Rattle.cube.specs.declared.Cube.{Cube}
use Rattle.cube.specs.Cubes.{holds}
use Rattle.steps.proofs.Linear.{Linear, holds_linear}
use Rattle.shared.specs.declared.Shared.{Shared}
use Rattle.shared.specs.SharedRecord.{sharing}
use Rattle.shared.specs.Outputs.{carries}
use Rattle.shared.proofs.Outputs.{carries_xor}

-- ---- the EXOR of outputs, bit by bit

differ_none : (x y : ℕ) → differ x y ≡ 0 → x ≡ y
differ_none zero y e = sym e
differ_none (suc x) zero e = e
differ_none (suc x) (suc y) e = ap suc (differ_none x y e)

-- only equal outputs have no EXOR
pub xor_none : (o p : ℕ) → bit_xor o p ≡ 0 → o ≡ p
xor_none o p e = bit_ext o p (λ k. differ_none (bit o k) (bit p k) (sym (bit_xor_lem o p k) ∙ ap (λ (x : ℕ). bit x k) e ∙ bit_high 0 0 k (omega arith) zero-le))

-- ---- fair weights

pub record Fair (n : ℕ) (w : Shared → Bool) : Type 0 where
  pub linear : (o : ℕ) → Linear n (λ c. w (sharing o c))
  pub adds : (c : Cube) (o p : ℕ) → w (sharing (bit_xor o p) c) ≡ w (sharing o c) ⊕ w (sharing p c)

-- the truth at an assignment, where bit k is carried
pub carries_fair : (n k a : ℕ) → Fair n (λ r. carries k r && holds n r.cube a)
carries_fair n k a = record {
  linear = λ o c g v y hv hy d.
      ap (λ (x : Bool). carries k (sharing o c) && x) (holds_linear n a c g v y hv hy d) ∙ and_xor (carries k (sharing o c)) (holds n c a) _;
  adds = λ c o p.
      ap (λ (x : Bool). x && holds n c a) (carries_xor o p k) ∙ xor_and (carries k (sharing o c)) (carries k (sharing p c)) (holds n c a);
}

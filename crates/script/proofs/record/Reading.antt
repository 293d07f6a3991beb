-- A step's record at a place of a script: what is read, and what is stored.
-- Assumes nothing.
use mathlib.Core.Path.{◌≡◌, sym, ap, ◌∙◌}
use mathlib.Core.List.{List}
use Prim.Native.Nat.{ℕ, suc, ◌+◌, ◌*◌, ◌/◌, ◌%◌, ◌≤◌, ◌<◌}
use native.Mathlib.Nat.{add-zero}
use native.Mathlib.Numerals.{add-one, add-two}
use native.Mathlib.Omega.{arith}
use lib.ListN.{length, get_or, set, length-set}
use lib.Seq.{sets, length-sets}
use Rattle.records.specs.Numbers.{bytes_of, number_at}
use Rattle.records.specs.Records.{list_of, stored}
use Rattle.records.proofs.Widths.{number_one}
use Rattle.records.proofs.Records.{list_at, list_past, stored_in, stored_out}
use Rattle.steps.specs.declared.StepRecord.{StepRecord}
use Rattle.script.specs.Scripts.{step_records, narrow_step, place_size, step_width}

-- ---- a step's record read

pub step_past : (b : List ℕ) (k : ℕ) → length b / step_width ≤ k → step_records.none ≡ get_or (list_of step_records b) k step_records.none
step_past b k h = sym (list_past step_records b k step_records.none h)

pub step_in : (b : List ℕ) (k i j : ℕ) → k < length b / step_width → i ≡ number_at 2 b (step_width * k + 2) → j ≡ number_at 2 b (step_width * k + 4)
    → record {
      op = get_or b (step_width * k) 0;
      v = get_or b (step_width * k + 1) 0;
      i = i;
      j = j;
      literal = get_or b (step_width * k + 6) 0;
      zero = get_or b (step_width * k + 7) 0;
    } ≡ get_or (list_of step_records b) k step_records.none
step_in b k i j h ei ej =
    (λ t. record {
      op = (ap (λ (p : ℕ). get_or b p 0) (sym (add-zero (8 * k))) ∙ number_one b (8 * k + 0)) t;
      v = number_one b (8 * k + 1) t;
      i = ei t;
      j = ej t;
      literal = number_one b (8 * k + 6) t;
      zero = number_one b (8 * k + 7) t;
    })
    ∙ sym (list_at step_records b k step_records.none h)

-- ---- a step's record stored

pub step_not_stored : (b : List ℕ) (k : ℕ) (x : StepRecord) → length b / step_width ≤ k → b ≡ stored step_records b k (narrow_step x)
step_not_stored b k x h = sym (stored_out step_records b k (narrow_step x) h)

pub step_long_kept : (b : List ℕ) (k : ℕ) (x : StepRecord)
    → (b₁ : List ℕ) → b₁ ≡ sets (set (set b (step_width * k) x.op) (step_width * k + 1) x.v) (step_width * k + 2) (bytes_of 2 (x.i % place_size))
    → (b₂ : List ℕ) → b₂ ≡ sets b₁ (step_width * k + 4) (bytes_of 2 (x.j % place_size)) → length b₂ ≡ length b
step_long_kept b k x b₁ e₁ b₂ e₂ =
    let front : List ℕ = set b (8 * k) x.op in
    ap length e₂ ∙ length-sets b₁ (8 * k + 4) (bytes_of 2 (x.j % place_size))
    ∙ ap length e₁ ∙ length-sets (set front (8 * k + 1) x.v) (8 * k + 2) (bytes_of 2 (x.i % place_size))
    ∙ length-set front (8 * k + 1) x.v ∙ length-set b (8 * k) x.op

pub step_stored : (b : List ℕ) (k : ℕ) (x : StepRecord) → k < length b / step_width
    → (b₁ : List ℕ) → b₁ ≡ sets (set (set b (step_width * k) x.op) (step_width * k + 1) x.v) (step_width * k + 2) (bytes_of 2 (x.i % place_size))
    → (b₂ : List ℕ) → b₂ ≡ sets b₁ (step_width * k + 4) (bytes_of 2 (x.j % place_size))
    → set (set b₂ (step_width * k + 6) x.literal) (step_width * k + 7) x.zero ≡ stored step_records b k (narrow_step x)
unfolding bytes_of
step_stored b k x h b₁ e₁ b₂ e₂ =
    let p : ℕ = 8 * k in
    let p₄ : p + 4 ≡ suc (suc (suc (suc p))) = omega arith in
    let p₆ : p + 6 ≡ suc (suc (suc (suc (suc (suc p))))) = omega arith in
    let p₇ : p + 7 ≡ suc (suc (suc (suc (suc (suc (suc p)))))) = omega arith in
    rw (e₂, e₁, add-one p, add-two p, p₄, p₆, p₇) (sym (stored_in step_records b k (narrow_step x) h))

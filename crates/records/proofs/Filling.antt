-- A list with zeros after it, and a buffer that is filled with a list.
-- Assumes nothing.
use mathlib.Core.Path.{◌≡◌, refl, sym, ap, ◌∙◌}
use mathlib.Core.Bool.{Bool, true, false, cond}
use Prim.Native.Nat.{ℕ, zero, suc, ◌+◌, ◌-◌, ◌≤◌, ◌<◌}
use native.Mathlib.Nat.{sub-zero, zero-sub, suc-sub-suc}
use native.Mathlib.Omega.{arith}
use mathlib.Core.List.{List, ◌++◌}
use lib.Dec.{leb}
use lib.ListN.{length, drop, get_or, replicate, length-append, length-replicate, get_or-append}
use lib.Seq.{get_or-append-add}
use borrow.Author.Tests.{le-leb, lt-leb, leb-true}
use Rattle.records.specs.Records.{filled, filled_by, zeros}

-- ---- zeros, and a list and zeros after it

pub zeros_at : (n i : ℕ) → ◌≡◌ {A = ℕ} 0 (get_or (replicate n 0) i 0)
zeros_at zero i = refl
zeros_at (suc n) zero = refl
zeros_at (suc n) (suc i) = zeros_at n i

pub length_zeros : (n : ℕ) → length (zeros n) ≡ n
length_zeros n = length-replicate n 0

pub drop_zeros : (k n : ℕ) → drop {A = ℕ} k (zeros n) ≡ zeros (n - k)
drop_zeros zero n = ap zeros (sym (sub-zero n))
drop_zeros (suc k) zero = ap zeros (sym (zero-sub (suc k)))
drop_zeros (suc k) (suc n) = drop_zeros k n ∙ ap zeros (sym (suc-sub-suc n k))

pub length_filled : (room : ℕ) (s : List ℕ) → length s ≤ room → length (filled room s) ≡ room
unfolding filled
length_filled room s h = simp (length-append, length-replicate) (omega arith)

pub filled_front : (room : ℕ) (s : List ℕ) (i : ℕ) → i < length s → get_or s i 0 ≡ get_or (filled room s) i 0
unfolding filled
filled_front room s i h = sym (get_or-append s (replicate (room - length s) 0) 0 i h)

pub filled_after : (room : ℕ) (s : List ℕ) (i : ℕ) → length s ≤ i → 0 ≡ get_or (filled room s) i 0
unfolding filled
filled_after room s i h =
    let e : i ≡ length s + (i - length s) = omega arith in
    zeros_at (room - length s) (i - length s)
    ∙ sym (get_or-append-add s (replicate (room - length s) 0) (i - length s) 0)
    ∙ ap (λ (k : ℕ). get_or (s ++ replicate (room - length s) 0) k 0) (sym e)

module _ (d s : List ℕ) where
  pub filled_by_lem : length s ≤ length d → filled_by d s ≡ filled (length d) s
  unfolding filled_by
  filled_by_lem h = simp (le-leb _ _ h)

  pub filled_not : length d < length s → filled_by d s ≡ d
  unfolding filled_by
  filled_not h = simp (lt-leb _ _ h)

  pub length_filled_by : length (filled_by d s) ≡ length d
  unfolding filled_by
  length_filled_by = go (leb (length s) (length d)) refl
    where
      go : (b : Bool) → leb (length s) (length d) ≡ b → length (cond b (filled (length d) s) d) ≡ length d
      go true e = length_filled (length d) s (leb-true _ _ e)
      go false e = refl

  -- the list at the front, and zeros in the bytes that are left
  pub filled_parts : (k : ℕ) → k + length s ≡ length d → s ++ replicate k 0 ≡ filled_by d s
  unfolding filled
  filled_parts k e =
      let left : k ≡ length d - length s = omega arith in
      ap (λ (n : ℕ). s ++ replicate n 0) left ∙ sym (filled_by_lem (omega arith))

-- How many entries stand between a group's start and the next.
-- Assumes nothing.
use mathlib.Core.Path.{◌≡◌, sym, ap, ◌∙◌}
use mathlib.Core.Bool.{Bool, cond}
use mathlib.Core.List.{List}
use Prim.Native.Nat.{ℕ, suc, ◌+◌, ◌≤◌, ◌<◌}
use native.Mathlib.Numerals.{add-one}
use native.Mathlib.Decide.{dec_lt}
use native.Mathlib.Omega.{arith}
use lib.ListN.{get_or}
use borrow.Author.Tests.{le-leb, lt-leb}
use Rattle.bits.proofs.Below.{get_or_list_below}
use Rattle.index.specs.Index.{group_count, start_of, starts_of}
use Rattle.index.specs.Counting.{many, Started, next_start}
use Rattle.index.proofs.Order.{start_suc, start_all}

pub start_at : (f : ℕ → ℕ) (k : ℕ) (s : List ℕ) (m : ℕ) → s ≡ starts_of f k → m < group_count → get_or s m 0 ≡ start_of f k m
unfolding starts_of
start_at f k s m e h = ap (λ (t : List ℕ). get_or t m 0) e ∙ get_or_list_below group_count (start_of f k) m 0 h

module _ (starts : List ℕ) (count m : ℕ) where
  pub next_last : 32 ≤ m → count ≡ next_start starts count m
  unfolding next_start
  next_last h = sym (ap (λ (b : Bool). cond b count (get_or starts (m + 1) 0)) (le-leb 32 m h))

  pub next_before : m < 32 → get_or starts (m + 1) 0 ≡ next_start starts count m
  unfolding next_start
  next_before h = sym (ap (λ (b : Bool). cond b count (get_or starts (m + 1) 0)) (lt-leb 32 m h))

module _ (f : ℕ → ℕ) (k : ℕ) (s : List ℕ) (st : Started f k s) (m : ℕ) (h : m < group_count) where
  next_is : next_start s k m ≡ start_of f k (suc m)
  next_is = elim (dec_lt m 32) [
    | yes l ↦ sym (next_before s k m l) ∙ ap (λ (x : ℕ). get_or s x 0) (add-one m) ∙ start_at f k s (suc m) st.is (omega arith)
    | no l ↦ let last : suc m ≡ group_count = omega arith in
        sym (next_last s k m (omega arith)) ∙ sym (ap (start_of f k) last ∙ start_all f group_count k st.grouped)
  ]

  pub group_size : (end : ℕ) → end ≡ next_start s k m → end ≡ get_or s m 0 + many f k m
  group_size end e = omega (arith, e, next_is, start_suc f k m, start_at f k s m st.is h)

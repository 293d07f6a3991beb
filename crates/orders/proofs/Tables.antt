-- The tables of the orders: what stands past their ends.
-- Assumes nothing.
use mathlib.Core.Path.{◌≡◌, refl, sym, ap}
use mathlib.Core.Bool.{Bool, true, ◌&&◌}
use mathlib.Core.List.{List, [], ◌∷◌}
use Prim.Native.Nat.{ℕ, zero, suc, ◌≤◌}
use native.Mathlib.Nat.{le_trans}
use borrow.Author.Tests.{leb-true}
use lib.Dec.{leb}
use lib.ListN.{length, get_or, get_or-eq_default}
use Rattle.bits.proofs.Bools.{both_true}
use Rattle.orders.specs.Orders.{codes_after, code_after, followings, follow, inverses, inverse}

-- each row has at most w entries
narrow : ℕ → List (List ℕ) → Bool
narrow w [] = true
narrow w (r ∷ t) = leb (length r) w && narrow w t

row_past : (t : List (List ℕ)) (p q : ℕ) → length t ≤ p → 0 ≡ get_or (get_or t p []) q 0
row_past t p q h = sym (ap (λ (r : List ℕ). get_or r q 0) (get_or-eq_default t [] {n = p} h))

column_past : (w : ℕ) (t : List (List ℕ)) → narrow w t ≡ true → (p q : ℕ) → w ≤ q → 0 ≡ get_or (get_or t p []) q 0
unfolding narrow
column_past w [] e p q h = refl
column_past w (r ∷ t) e zero q h = sym (get_or-eq_default r 0 {n = q} (le_trans (leb-true (length r) w (both_true (leb (length r) w) (narrow w t) e).0) h))
column_past w (r ∷ t) e (suc p) q h = column_past w t (both_true (leb (length r) w) (narrow w t) e).1 p q h

module _ (o x : ℕ) where
  pub code_after_no_order : 6 ≤ o → 0 ≡ code_after o x
  unfolding code_after
  code_after_no_order h = row_past codes_after o x h

  pub code_after_no_code : 3 ≤ x → 0 ≡ code_after o x
  unfolding code_after narrow
  code_after_no_code h = column_past 3 codes_after refl o x h

module _ (p q : ℕ) where
  pub follow_no_first : 6 ≤ p → 0 ≡ follow p q
  unfolding follow
  follow_no_first h = row_past followings p q h

  pub follow_no_second : 6 ≤ q → 0 ≡ follow p q
  unfolding follow narrow
  follow_no_second h = column_past 6 followings refl p q h

pub inverse_no_order : (o : ℕ) → 6 ≤ o → 0 ≡ inverse o
unfolding inverse
inverse_no_order o h = sym (get_or-eq_default inverses 0 {n = o} h)

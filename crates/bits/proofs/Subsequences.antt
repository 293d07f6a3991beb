-- Subsequences of a list of any kind: what holds of all elements holds of them, they are no longer, and a function makes subsequences of them.
-- Assumes nothing.
use mathlib.Core.Path.{sym, ap, subst}
use mathlib.Core.List.{List, map, Sublistᴰ}
use Prim.Native.Nat.{◌≤◌}
use native.Mathlib.Omega.{arith}
use lib.ListN.{length}
use Rattle.bits.specs.Sums.{All}

module _ {A : Type 0} where
  pub all_subsequence : (P : A → Type 0) {ys xs : List A} → Sublistᴰ ys xs → All P xs → All P ys
  all_subsequence P Sublistᴰ.slnil h = h
  all_subsequence P (Sublistᴰ.cons s) h = all_subsequence P s h.1
  all_subsequence P (Sublistᴰ.cons-cons e s) h = (subst P (sym e) h.0, all_subsequence P s h.1)

  pub length_subsequence : {ys xs : List A} → Sublistᴰ ys xs → length ys ≤ length xs
  length_subsequence Sublistᴰ.slnil = omega arith
  length_subsequence (Sublistᴰ.cons s) = omega (arith, length_subsequence s)
  length_subsequence (Sublistᴰ.cons-cons e s) = omega (arith, length_subsequence s)

  pub map_subsequence : {B : Type 0} (f : A → B) {ys xs : List A} → Sublistᴰ ys xs → Sublistᴰ (map f ys) (map f xs)
  map_subsequence f Sublistᴰ.slnil = Sublistᴰ.slnil
  map_subsequence f (Sublistᴰ.cons s) = Sublistᴰ.cons (map_subsequence f s)
  map_subsequence f (Sublistᴰ.cons-cons e s) = Sublistᴰ.cons-cons (ap f e) (map_subsequence f s)

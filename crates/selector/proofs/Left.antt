-- Lists that are gone through one after the other: which part of the buffer comes next, and that each has had its turn where none is left.
-- Assumes nothing.
use mathlib.Core.Path.{◌≡◌, refl, sym, ap, ◌∙◌, subst}
use mathlib.Core.List.{List, [], ◌∷◌}
use Prim.Native.Nat.{ℕ, zero, suc, ◌+◌, ◌≤◌, ◌<◌}
use native.Mathlib.Omega.{arith}
use native.Mathlib.Numerals.{add-one}
use lib.ListN.{length, get_or, take, drop, length-drop}
use lib.Seq.{drop-drop}
use Rattle.std.specs.Prelude.{sum}
use Rattle.std.proofs.lemmas.List.Sums.{sum_by-cons}
use Rattle.bits.specs.Below.{sum_below}
use Rattle.selector.specs.Maps.{starts, part}
use Rattle.selector.specs.Parts.{parts_of}

-- a sum by its first number
sum_first : (f : ℕ → ℕ) (k : ℕ) → sum_below (suc k) f ≡ f 0 + sum_below k (λ t. f (suc t))
unfolding sum_below
sum_first f zero = omega arith
sum_first f (suc k) = omega (arith, sum_first f k)

-- a length more at the front moves each part by it
starts_later : (x : ℕ) (lengths : List ℕ) (k : ℕ) → starts (x ∷ lengths) (suc k) ≡ x + starts lengths k
starts_later x lengths k = sum_first (λ i. get_or (x ∷ lengths) i 0) k

-- the last part ends where all lengths add up to
pub starts_sum : (lengths : List ℕ) → starts lengths (length lengths) ≡ sum lengths
unfolding sum_below
starts_sum [] = refl
starts_sum (x ∷ lengths) = starts_later x lengths (length lengths) ∙ ap (λ (s : ℕ). x + s) (starts_sum lengths) ∙ sym (sum_by-cons (λ (k : ℕ). k) x lengths)

pub parts_long : (lengths lists : List ℕ) → length (parts_of lengths lists) ≡ length lengths
parts_long [] lists = refl
parts_long (x ∷ lengths) lists = ap suc (parts_long lengths (drop x lists))

-- what is left of the lists after the first k
pub record Left (lists lengths : List ℕ) (left : List (List ℕ)) (k : ℕ) : Type 0 where
  pub within : k ≤ length lengths
  pub left_is : left ≡ drop k (parts_of lengths lists)

pub left_all : (lists lengths : List ℕ) (left : List (List ℕ)) (k : ℕ) → k ≡ 0 → left ≡ parts_of lengths lists → Left lists lengths left k
left_all lists lengths left k ek e = record { within = omega arith; left_is = e ∙ ap (λ (i : ℕ). drop i (parts_of lengths lists)) (sym ek) }

-- part k of a buffer comes next
pub record Next (lists lengths next : List ℕ) (rest : List (List ℕ)) (k : ℕ) : Type 0 where
  pub below : k < length lengths
  pub part_is : next ≡ part lists lengths k
  pub then : (m : ℕ) → m ≡ k + 1 → Left lists lengths rest m

record Cut (lengths lists next : List ℕ) (rest : List (List ℕ)) (k : ℕ) : Type 0 where
  below : k < length lengths
  part_is : next ≡ part lists lengths k
  rest_is : rest ≡ drop (suc k) (parts_of lengths lists)

cut : (lengths lists next : List ℕ) (rest : List (List ℕ)) (k : ℕ) → next ∷ rest ≡ drop k (parts_of lengths lists) → Cut lengths lists next rest k
unfolding part sum_below
cut [] lists next rest zero e = let z : ◌≡◌ {A = ℕ} 0 1 = cc in absurd (omega arith)
cut [] lists next rest (suc k) e = let z : ◌≡◌ {A = ℕ} 0 1 = cc in absurd (omega arith)
cut (x ∷ lengths) lists next rest zero e = record { below = omega arith; part_is = cc; rest_is = cc }
cut (x ∷ lengths) lists next rest (suc k) e =
    let c = cut lengths (drop x lists) next rest k e in
    record {
      below = omega (arith, c.below);
      part_is =
          c.part_is
          ∙ ap (take (get_or lengths k 0)) (drop-drop (starts lengths k) x lists ∙ ap (λ (i : ℕ). drop i lists) (sym (starts_later x lengths k)));
      rest_is = c.rest_is;
    }

module _ (lists lengths : List ℕ) (left : List (List ℕ)) (k : ℕ) (l : Left lists lengths left k) where
  pub left_long : k + length left ≡ length lengths
  left_long = omega (arith, ap length l.left_is, length-drop k (parts_of lengths lists), parts_long lengths lists, l.within)

  pub left_next : (next : List ℕ) (rest : List (List ℕ)) → left ≡ next ∷ rest → Next lists lengths next rest k
  left_next next rest e =
      let c = cut lengths lists next rest k (sym e ∙ l.left_is) in
      record {
        below = c.below;
        part_is = c.part_is;
        then = λ m em. record {
          within = omega (arith, c.below);
          left_is = c.rest_is ∙ ap (λ (i : ℕ). drop i (parts_of lengths lists)) (sym (em ∙ add-one k));
        };
      }

  pub left_none : left ≡ [] → length lengths ≤ k
  left_none e = omega (arith, left_long, ap length e)

-- a turn of a loop that counts the lists: what it keeps holds at the number of the list that comes next
pub turn : (Kept : ℕ → Type 0) (lists lengths : List ℕ) (left : List (List ℕ)) (k : ℕ) → Kept k → Left lists lengths left k
    → (next : List ℕ) (rest : List (List ℕ)) → left ≡ next ∷ rest → (i : ℕ) → i ≡ k → Kept i × Next lists lengths next rest i
turn Kept lists lengths left k kept l next rest e i ei =
    subst (λ (m : ℕ). Kept m × Next lists lengths next rest m) (sym ei) (kept, left_next lists lengths left k l next rest e)

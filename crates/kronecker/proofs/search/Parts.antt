-- The cheapest of a table's choices, from the cheapest of its parts: one for each digit of the highest variable.
-- Assumes nothing.
use mathlib.Core.Path.{◌≡◌, refl, sym, ap, ◌∙◌, subst}
use mathlib.Core.Bool.{Bool, true, false}
use mathlib.Core.List.{List, [], ◌∷◌}
use Prim.Native.Nat.{ℕ, suc, ◌+◌, ◌-◌, ◌*◌, ◌/◌, ◌%◌, ◌^◌, ◌≤◌, ◌<◌}
use native.Mathlib.Nat.{pow-suc}
use native.Mathlib.Omega.{arith}
use lib.ListN.{length, get_or, take, drop, length-drop}
use lib.Pow.{pow_mono}
use lib.Seq.{length-take-le, get_or-take, get_or-drop}
use Rattle.bits.specs.Bits.{bit}
use Rattle.bits.proofs.Bits.{shl_one}
use Rattle.bits.proofs.Least.{in_one}
use Rattle.trees.specs.Trees.{tree_cost}
use Rattle.kronecker.specs.declared.WrittenKronecker.{WrittenKronecker}
use Rattle.kronecker.specs.Choices.{choice_tree}
use Rattle.kronecker.specs.Words.{high_half, sum_half, highest, products_of, saved, LeastEntry, lowest_of, lesser_from, Covers, cost_in, FoundIn}
use Rattle.kronecker.proofs.Highest.{lowest_products, lowest_free, shannon_digit, positive_digit, negative_digit, upper_word}
use Rattle.kronecker.proofs.table.Filling as filled
use Rattle.kronecker.proofs.search.Ranges.{Cheapest, cheapest_is, is_cheapest, cheapest_alike, cheapest_both, entry, entry_cheapest, passed_one, passed_all, power_some, power_most}

-- ---- what is found, as the cheapest

module _ (n : ℕ) (f : ℕ → ℕ) (l : List ℕ) (r : WrittenKronecker) where
  pub found_cheapest : FoundIn n f l r → Cheapest (cost_in n f l) (entry l) (3 ^ n) r
  found_cheapest F = is_cheapest (cost_in n f l) (entry l) (3 ^ n) r (power_some n) F.choice_is F.cost_is F.products_are

  pub cheapest_found : Cheapest (cost_in n f l) (entry l) (3 ^ n) r → FoundIn n f l r
  cheapest_found C = record { choice_is = cheapest_is (cost_in n f l) (entry l) (3 ^ n) r C; cost_is = C.cost_is; products_are = C.products_are }

  pub found_few : n ≤ 6 → FoundIn n f l r → r.choice ≤ 729
  found_few h F = omega (arith, (found_cheapest F).least.inside, power_most n h)

-- ---- the part of a digit, whose choices count from s on

-- the trees with this digit: those of one variable less, for h, and d more that is never free
abbrev Digit : ℕ → (ℕ → ℕ) → (ℕ → ℕ) → (ℕ → ℕ) → ℕ → Type 0
Digit m f h d s = (i : ℕ) → i < 3 ^ m → (free : Bool) → tree_cost (choice_tree (suc m) (s + i)) free f ≡ tree_cost (choice_tree m i) free h + d i

module _ (m s : ℕ) (f : ℕ → ℕ) where
  positive : s ≡ 3 ^ m → Digit m f f (products_of m (highest m sum_half f)) s
  positive e i b free = rw e (positive_digit m i b free f)

  negative : s ≡ 3 ^ m + 3 ^ m → (h : ℕ → ℕ) → highest m high_half f ≡ h → Digit m f h (products_of m (highest m sum_half f)) s
  negative e h same i b free = rw (e, ← same) (negative_digit m i b free f)

-- its part of the table, p, covers h, and what is found there is the cheapest of its choices
pub record PartOf (m : ℕ) (f h : ℕ → ℕ) (s : ℕ) (l p : List ℕ) : Type 0 where
  pub covers : Covers m h p
  pub cheapest : (r : WrittenKronecker) → FoundIn m h p r → Cheapest (λ i. cost_in (suc m) f l (s + i)) (λ i. get_or l (s + i) 0) (3 ^ m) r

part_of : (m k s : ℕ) (f h d : ℕ → ℕ) → Digit m f h d s → k ≡ 3 ^ m → s + 3 ^ m ≤ 3 ^ suc m → (l : List ℕ) → Covers (suc m) f l → PartOf m f h s l (take k (drop s l))
part_of m k s f h d D e fits l C = record {
  covers = record {
    long = length-take-le k p (rw length-drop (omega (arith, C.long))) ∙ e;
    at = λ i b. rw (same i b) (omega (arith, C.at (s + i) (omega arith), D i b false));
  };
  cheapest = λ r F.
      cheapest_alike (cost_in m h (take k p)) (entry (take k p)) (3 ^ m) r (λ i. cost_in (suc m) f l (s + i)) (λ i. get_or l (s + i) 0)
      (λ i b. omega (arith, D i b true, D i b false, same i b)) same (found_cheapest m h (take k p) r F);
}
  where
    p : List ℕ
    p = drop s l

    same : (i : ℕ) → i < 3 ^ m → get_or (take k p) i 0 ≡ get_or l (s + i) 0
    same i h = get_or-take k p i 0 (omega arith) ∙ get_or-drop s l i 0

-- ---- a table by its parts, as the code cuts it; the function's upper half stands in w from bit 2 ^ m on

-- a variable is left
pub record Parted (left w : ℕ) (l : List ℕ) : Type 0 where
  pub few : left ≤ 6
  pub more : left ≡ 0 → ⊥
  pub covers : Covers left (bit w) l

module _ {left w : ℕ} {l : List ℕ} (P : Parted left w l) where
  abbrev m : ℕ
  m = left - 1

  abbrev t : ℕ
  t = length l / 3

  abbrev u : ℕ
  u = w / 2 ^ ((1 * 2 ^ m) % 2 ^ 64)

  below : left ≡ suc m
  below = omega (arith, P.more)

  whole : Covers (suc m) (bit w) l
  whole = subst (λ (x : ℕ). Covers x (bit w) l) below P.covers

  part_is : t ≡ 3 ^ m
  part_is = filled.part_is m l whole.long

  pub table_few : length l ≤ 729
  table_few = omega (arith, P.covers.long, power_most left P.few)

  half_is : (1 * 2 ^ m) % 2 ^ 64 ≡ 2 ^ m
  half_is = shl_one m 64 (omega (arith, P.few))

  pub half_few : (1 * 2 ^ m) % 2 ^ 64 < 64
  half_few = let h : 2 ^ m ≤ 2 ^ 5 = pow_mono {j = 5} (omega (arith, P.few)) in omega (arith, half_is)

  first_length : length (take t l) ≡ t
  first_length = length-take-le t l (omega arith)

  pub first_some : 0 < length (take t l)
  first_some = omega (arith, first_length, part_is, power_some m)

  -- below Shannon: nothing is saved
  first : (r : WrittenKronecker) → LeastEntry (take t l) r → Cheapest (cost_in (suc m) (bit w) l) (entry l) t r
  first r L =
      let same : (i : ℕ) → i < t → get_or (take t l) i 0 ≡ get_or l i 0 = λ i b. get_or-take t l i 0 b in
      cheapest_alike (entry (take t l)) (entry (take t l)) t r (cost_in (suc m) (bit w) l) (entry l)
      (λ i b. let h : i < 3 ^ m = omega (arith, part_is) in omega (arith, same i b, shannon_digit m i h true (bit w), shannon_digit m i h false (bit w))) same
      (subst (λ (x : ℕ). Cheapest (entry (take t l)) (entry (take t l)) x r) first_length (entry_cheapest (take t l) r first_some L))

  -- below positive and below negative Davio
  pub middle : PartOf m (bit w) (bit w) t l (take (2 * t - t) (drop t l))
  middle = part_of m (2 * t - t) t (bit w) (bit w) _ (positive m t (bit w) part_is) (omega (arith, part_is)) (omega (arith, part_is, pow-suc 3 m)) l whole

  pub last : PartOf m (bit w) (bit u) (2 * t) l (take (length l - 2 * t) (drop (2 * t) l))
  last =
      let high : highest m high_half (bit w) ≡ bit u = upper_word m w u (ap (λ (x : ℕ). w / 2 ^ x) half_is) in
      part_of m (length l - 2 * t) (2 * t) (bit w) (bit u) _ (negative m (2 * t) (bit w) (omega (arith, part_is)) (bit u) high)
      (omega (arith, part_is, whole.long, pow-suc 3 m)) (omega (arith, part_is, pow-suc 3 m)) l whole

  -- all three
  pub parts_found : (x y z q r : WrittenKronecker) → LeastEntry (take t l) x → FoundIn m (bit w) (take (2 * t - t) (drop t l)) y
      → FoundIn m (bit u) (take (length l - 2 * t) (drop (2 * t) l)) z → q ≡ lesser_from x y t → r ≡ lesser_from q z (2 * t) → FoundIn left (bit w) l r
  parts_found x y z q r X Y Z eq er =
      let both = cheapest_both _ (entry l) t (3 ^ m) x y (first x X) (middle.cheapest y Y) (2 * t) (omega (arith, part_is)) q eq in
      let all = cheapest_both _ (entry l) (2 * t) (3 ^ m) q z both (last.cheapest z Z) (3 ^ suc m) (omega (arith, part_is, pow-suc 3 m)) r er in
      subst (λ (x : ℕ). FoundIn x (bit w) l r) (sym below) (cheapest_found (suc m) (bit w) l r all)

-- ---- with no variable left: one entry, and its product is free

module _ (w : ℕ) (l : List ℕ) (C : Covers 0 (bit w) l) where
  lowest_saved : saved 0 (bit w) 0 ≡ w % 2
  lowest_saved = omega (arith, lowest_products w 0, lowest_free (bit w) 0)

  pub lowest_some : 0 < length l
  lowest_some = omega (arith, C.long)

  pub lowest_most : w % 2 ≤ get_or l 0 0
  lowest_most = omega (arith, lowest_saved, C.at 0 (omega arith))

  pub lowest_found : FoundIn 0 (bit w) l (lowest_of (get_or l 0 0) (w % 2))
  lowest_found = cheapest_found 0 (bit w) l (lowest_of (get_or l 0 0) (w % 2)) record {
    least = in_one (cost_in 0 (bit w) l) 0 1 refl;
    cost_is = ap (λ (x : ℕ). get_or l 0 0 - x) (sym lowest_saved);
    products_are = refl;
  }

-- ---- with one left: three parts of one entry each

one_parted : (w : ℕ) (l : List ℕ) → Covers 1 (bit w) l → Parted 1 w l
one_parted w l C = record { few = omega arith; more = λ e. omega arith; covers = C }

-- no entry is below the bit that is taken off
pub one_most : (w : ℕ) (l : List ℕ) → Covers 1 (bit w) l → (w % 2 ≤ get_or l 1 0) × (w / 2 ^ 1 % 2 ≤ get_or l 2 0)
one_most w [] C = absurd (omega (arith, C.long))
one_most w (a ∷ []) C = absurd (omega (arith, C.long))
one_most w (a ∷ b ∷ []) C = absurd (omega (arith, C.long))
one_most w (a ∷ b ∷ c ∷ []) C =
    let P = one_parted w (a ∷ b ∷ c ∷ []) C in (lowest_most w (b ∷ []) (middle P).covers, lowest_most (w / 2 ^ 1) (c ∷ []) (last P).covers)
one_most w (a ∷ b ∷ c ∷ d ∷ l) C = absurd (omega (arith, C.long))

pub one_found : (w : ℕ) (l : List ℕ) → Covers 1 (bit w) l
    → (x y z q r : WrittenKronecker) → x ≡ lowest_of (get_or l 0 0) 0 → y ≡ lowest_of (get_or l 1 0) (w % 2) → z ≡ lowest_of (get_or l 2 0) (w / 2 ^ 1 % 2)
    → q ≡ lesser_from x y 1 → r ≡ lesser_from q z 2 → FoundIn 1 (bit w) l r
one_found w [] C x y z q r ex ey ez eq er = absurd (omega (arith, C.long))
one_found w (a ∷ []) C x y z q r ex ey ez eq er = absurd (omega (arith, C.long))
one_found w (a ∷ b ∷ []) C x y z q r ex ey ez eq er = absurd (omega (arith, C.long))
one_found w (a ∷ b ∷ c ∷ []) C x y z q r ex ey ez eq er =
    let P = one_parted w (a ∷ b ∷ c ∷ []) C in
    let all : a - 0 ≡ a = omega arith in
    parts_found P x y z q r
    (subst (LeastEntry (a ∷ [])) (sym (ex ∙ ap (λ (k : ℕ). record { cost = k; choice = 0; products = a }) all)) (passed_all (a ∷ []) 1 a 0 (passed_one (a ∷ [])) refl))
    (subst (FoundIn 0 (bit w) (b ∷ [])) (sym ey) (lowest_found w (b ∷ []) (middle P).covers))
    (subst (FoundIn 0 (bit (w / 2 ^ 1)) (c ∷ [])) (sym ez) (lowest_found (w / 2 ^ 1) (c ∷ []) (last P).covers))
    eq er
one_found w (a ∷ b ∷ c ∷ d ∷ l) C x y z q r ex ey ez eq er = absurd (omega (arith, C.long))

-- The table of all choices: of no variable, of one, and of more, from the tables of the function's halves by the highest variable, which are filled in three parts.
-- Assumes nothing.
use mathlib.Core.Path.{◌≡◌, sym, ap, ap₂, ◌∙◌, subst}
use mathlib.Core.Bool.{false}
use mathlib.Core.List.{List, [], ◌∷◌, ◌++◌, append_assoc, append-nil}
use Prim.Native.Nat.{ℕ, zero, suc, ◌+◌, ◌-◌, ◌*◌, ◌/◌, ◌%◌, ◌^◌, ◌≤◌, zero-le}
use native.Mathlib.Nat.{pow-suc}
use native.Mathlib.Omega.{arith}
use borrow.Rule.Slice.PartMut.{put_mid, mid_len, same_len_mid}
use lib.Bits.{bit_xor}
use lib.ListN.{length, get_or, take, drop, length-append, length-drop, drop_of_length-le}
use lib.Pow.{pow_mono}
use lib.Seq.{take_at, sets, sets-eq}
use Rattle.bits.specs.Bits.{bit}
use Rattle.bits.specs.Below.{list_below}
use Rattle.bits.proofs.Below.{length_list_below}
use Rattle.trees.proofs.Prices.{products_most}
use Rattle.kronecker.specs.Choices.{choice_tree}
use Rattle.kronecker.specs.Words.{high_half, sum_half, highest, products_of, products_of_all, joined_parts}
use Rattle.kronecker.proofs.Highest.{lowest_products, shannon_digit, positive_digit, negative_digit, upper_word, change_word}
use Rattle.kronecker.proofs.table.Joining.{parts_cong, below_parts, joined_parts_lem}

-- ---- from the tables of the halves

joined_halves : (n : ℕ) (f : ℕ → ℕ)
    → joined_parts (3 ^ n) (products_of_all n f ++ (products_of_all n (highest n high_half f) ++ products_of_all n (highest n sum_half f))) ≡ products_of_all (suc n) f
unfolding products_of_all
joined_halves n f =
    joined_parts_lem (3 ^ n) (λ x. record { lower = products_of n f x; upper = products_of n (highest n high_half f) x; change = products_of n (highest n sum_half f) x })
    ∙ sym (below_parts (3 ^ n) (3 ^ suc n) (omega (arith, pow-suc 3 n)) (products_of (suc n) f)
    ∙ parts_cong (3 ^ n) _ _ (λ x h. λ i.
    record { lower = shannon_digit n x h false f i; upper = positive_digit n x h false f i; change = negative_digit n x h false f i }))

-- of a word's function
pub joined_words : (n w u : ℕ) → u ≡ w / 2 ^ 2 ^ n
    → joined_parts (3 ^ n) (products_of_all n (bit w) ++ (products_of_all n (bit u) ++ products_of_all n (bit (bit_xor w u)))) ≡ products_of_all (suc n) (bit w)
joined_words n w u is =
    ap₂ (λ (g h : ℕ → ℕ). joined_parts (3 ^ n) (products_of_all n (bit w) ++ (products_of_all n g ++ products_of_all n h)))
    (sym (upper_word n w u is)) (sym (change_word n w u is))
    ∙ joined_halves n (bit w)

-- ---- with no variable left, and with one

pub none_left : (w : ℕ) → products_of_all 0 (bit w) ≡ w % 2 ∷ []
unfolding products_of_all list_below
none_left w = ap (λ (x : ℕ). x ∷ []) (lowest_products w 0)

pub one_left : (w u : ℕ) → u ≡ w / 2 ^ 2 ^ 0
    → (w % 2 + u % 2) ∷ (w % 2 + bit_xor w u % 2) ∷ (u % 2 + bit_xor w u % 2) ∷ [] ≡ products_of_all 1 (bit w)
unfolding joined_parts list_below
one_left w u is =
    sym (λ x. joined_parts 1 (none_left w x ++ (none_left u x ++ none_left (bit_xor w u) x))) ∙ joined_words 0 w u is

-- a list that is stored whole
pub stored_whole : (l vs : List ℕ) → length l ≡ length vs → sets l 0 vs ≡ vs
stored_whole l vs e =
    sets-eq vs l 0 (omega arith) ∙ ap (λ (r : List ℕ). vs ++ r) (drop_of_length-le l {i = 0 + length vs} (omega arith)) ∙ append-nil vs

-- ---- the counts are few

few_below : (m k : ℕ) (f : ℕ → ℕ) → ((i : ℕ) → f i ≤ m) → (i : ℕ) → get_or (list_below k f) i 0 ≤ m
unfolding list_below
few_below m zero f h i = zero-le
few_below m (suc k) f h zero = h 0
few_below m (suc k) f h (suc i) = few_below m k (λ j. f (suc j)) (λ j. h (suc j)) i

few_append : (m : ℕ) (A B : List ℕ) → ((i : ℕ) → get_or A i 0 ≤ m) → ((i : ℕ) → get_or B i 0 ≤ m) → (i : ℕ) → get_or (A ++ B) i 0 ≤ m
few_append m [] B a b i = b i
few_append m (x ∷ A) B a b zero = a 0
few_append m (x ∷ A) B a b (suc i) = few_append m A B (λ j. a (suc j)) b i

table_few : (n : ℕ) → n ≤ 6 → (f : ℕ → ℕ) (i : ℕ) → get_or (products_of_all n f) i 0 ≤ 127
unfolding products_of_all
table_few n few f i = few_below 127 (3 ^ n) (products_of n f) (λ x. omega (arith, products_most (choice_tree n x) f, pow_mono {i = n} {j = 6} few)) i

-- ---- how long it is

pub products_long : (n : ℕ) (f : ℕ → ℕ) {l : List ℕ} → l ≡ products_of_all n f → length l ≡ 3 ^ n
unfolding products_of_all
products_long n f e = ap length e ∙ length_list_below (3 ^ n) (products_of n f)

-- ---- the three parts, filled one after the other

module _ (n : ℕ) (v : List ℕ) (long : length v ≡ 3 ^ suc n) where
  abbrev t : ℕ
  t = length v / 3

  pub part_is : t ≡ 3 ^ n
  part_is = omega (arith, pow-suc 3 n)

  table_long : (f : ℕ → ℕ) {A : List ℕ} → A ≡ products_of_all n f → length A ≡ t
  table_long f e = products_long n f e ∙ sym part_is

  module _ (f : ℕ → ℕ) {A : List ℕ} (ea : A ≡ products_of_all n f) where
    abbrev one : List ℕ
    one = A ++ drop t v

    pub one_long : length one ≡ 3 * t
    one_long = omega (arith, length-append A (drop t v), length-drop t v, table_long f ea, part_is, pow-suc 3 n)

    pub second_long : length (take (2 * t - t) (drop t one)) ≡ 3 ^ n
    second_long = mid_len t (2 * t) one (omega (arith, one_long)) ∙ omega (arith, part_is)

    module _ (g : ℕ → ℕ) {B : List ℕ} (eb : B ≡ products_of_all n g) where
      abbrev two : List ℕ
      two = put_mid t (2 * t - t) one B

      pub two_long : length two ≡ 3 * t
      two_long = same_len_mid t (2 * t - t) one B (table_long g eb ∙ part_is ∙ sym second_long) ∙ one_long

      pub last_long : length (take (length two - 2 * t) (drop (2 * t) two)) ≡ 3 ^ n
      last_long = mid_len (2 * t) (length two) two (omega arith) ∙ omega (arith, two_long, part_is)

      front_two : take (2 * t) two ≡ A ++ B
      front_two =
          ap (take (2 * t)) (ap (λ (l : List ℕ). l ++ (B ++ drop (2 * t - t) (drop t one))) (take_at A (drop t v) t (table_long f ea)) ∙ sym (append_assoc A B _))
          ∙ take_at (A ++ B) _ (2 * t) (omega (arith, length-append A B, table_long f ea, table_long g eb))

      module _ (h : ℕ → ℕ) {C : List ℕ} (ec : C ≡ products_of_all n h) where
        abbrev three : List ℕ
        three = put_mid (2 * t) (length two - 2 * t) two C

        three_is : three ≡ products_of_all n f ++ (products_of_all n g ++ products_of_all n h)
        three_is =
            ap₂ (λ (x y : List ℕ). x ++ (C ++ y)) front_two (drop_of_length-le (drop (2 * t) two) {i = length two - 2 * t} (omega (arith, length-drop (2 * t) two)))
            ∙ append_assoc A B (C ++ []) ∙ ap (λ (x : List ℕ). A ++ (B ++ x)) (append-nil C) ∙ (λ x. ea x ++ (eb x ++ ec x))

        -- what `join_parts` requires
        pub three_fit : n ≤ 6 → (length three ≡ 3 * t) × ((i : ℕ) → get_or three i 0 ≤ 127)
        three_fit few = (
          same_len_mid (2 * t) (length two - 2 * t) two C (table_long h ec ∙ part_is ∙ sym last_long) ∙ two_long,
          λ i. subst (λ (l : List ℕ). get_or l i 0 ≤ 127) (sym three_is)
              (few_append 127 (products_of_all n f) (products_of_all n g ++ products_of_all n h) (table_few n few f)
              (few_append 127 (products_of_all n g) (products_of_all n h) (table_few n few g) (table_few n few h)) i),
        )

        pub three_joined : joined_parts t three ≡ joined_parts (3 ^ n) (products_of_all n f ++ (products_of_all n g ++ products_of_all n h))
        three_joined = ap₂ joined_parts part_is three_is

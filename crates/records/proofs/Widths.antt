-- Numbers of several bytes, over how many bytes there are: their bytes there and back, and what they are below.
-- Assumes nothing.
use mathlib.Core.Path.{◌≡◌, refl, sym, ap, ap₂, ◌∙◌}
use mathlib.Core.List.{List, [], ◌∷◌, ◌++◌, append-nil, append_assoc}
use Prim.Native.Nat.{ℕ, zero, suc, ◌+◌, ◌-◌, ◌*◌, ◌/◌, ◌%◌, ◌^◌, ◌<◌, ◌≤◌}
use native.Mathlib.Nat.{zero-add, add-zero, add-suc, suc-add, mul_assoc, mod-lt, mod-add-div, pow-succ', one-le-pow, not-suc-le-zero, le_of_suc-le-suc}
use native.Mathlib.Numerals.{one-add}
use native.Mathlib.Omega.{arith}
use lib.ListN.{length, get_or, set, take, drop, replicate, length-take, length-drop, drop_of_length-le}
use lib.Seq.{sets, sets-eq, set_out, get_or-append-add, get_or-take, get_or-drop, drop-drop}
use borrow.Rule.Slice.PartMut.{put_mid}
use Rattle.records.specs.Numbers.{byte_size, bytes_of, number_at}

-- ---- the bytes of a number

pub length_bytes_lem : (k x : ℕ) → length (bytes_of k x) ≡ k
unfolding bytes_of
length_bytes_lem zero x = refl
length_bytes_lem (suc zero) x = refl
length_bytes_lem (suc (suc k)) x = ap suc (length_bytes_lem (suc k) (x / 256))

pub bytes_zero : (k : ℕ) → bytes_of k 0 ≡ replicate k 0
unfolding bytes_of
bytes_zero zero = refl
bytes_zero (suc zero) = refl
bytes_zero (suc (suc k)) = ap (λ (l : List ℕ). 0 ∷ l) (bytes_zero (suc k))

high_lt : (m x : ℕ) → x < 256 * m → x / 256 < m
high_lt m x h = omega arith

-- the bytes of a number that fits are bytes
pub bytes_lt : (k x i : ℕ) → x < byte_size ^ k → get_or (bytes_of k x) i 0 < byte_size
unfolding bytes_of
bytes_lt zero x i h = omega arith
bytes_lt (suc zero) x zero h = omega (arith, pow-succ' 256 0)
bytes_lt (suc zero) x (suc i) h = omega arith
bytes_lt (suc (suc k)) x zero h = omega arith
bytes_lt (suc (suc k)) x (suc i) h = bytes_lt (suc k) (x / 256) i (high_lt (256 ^ suc k) x (omega (arith, pow-succ' 256 (suc k))))

bytes_more : (k x : ℕ) → 0 < k → bytes_of (suc k) x ≡ x % 256 ∷ bytes_of k (x / 256)
unfolding bytes_of
bytes_more zero x l = absurd (omega arith)
bytes_more (suc k) x l = refl

pow_times : (j z : ℕ) → 256 ^ suc j * z ≡ 256 * (256 ^ j * z)
pow_times j z = ap (λ (m : ℕ). m * z) (pow-succ' 256 j) ∙ mul_assoc 256 (256 ^ j) z

-- a number of two parts has the bytes of the low one, then those of the high one
bytes_parts : (j k y z : ℕ) → 0 < k → y < 256 ^ j → bytes_of (j + k) (y + 256 ^ j * z) ≡ bytes_of j y ++ bytes_of k z
unfolding bytes_of
bytes_parts zero k y z l h =
    let none : y + 1 * z ≡ z = omega arith in
    ap₂ bytes_of (zero-add k) none
bytes_parts (suc zero) k y z l h =
    let low : (y + 256 * z) % 256 ≡ y = omega arith in
    let high : (y + 256 * z) / 256 ≡ z = omega arith in
    ap (λ (n : ℕ). bytes_of n (y + 256 * z)) (one-add k) ∙ bytes_more k (y + 256 * z) l ∙ ap₂ (λ (u v : ℕ). u ∷ bytes_of k v) low high
bytes_parts (suc (suc j)) k y z l h =
    let w : ℕ = 256 ^ suc j * z in
    let low : (y + 256 * w) % 256 ≡ y % 256 = omega arith in
    let high : (y + 256 * w) / 256 ≡ y / 256 + w = omega arith in
    let less : y / 256 < 256 ^ suc j = high_lt (256 ^ suc j) y (omega (arith, pow-succ' 256 (suc j))) in
    ap₂ (λ (n x : ℕ). bytes_of n (y + x)) (suc-add (suc j) k) (pow_times (suc j) z) ∙ bytes_more (suc j + k) (y + 256 * w) (omega arith)
    ∙ ap₂ (λ (u v : ℕ). u ∷ bytes_of (suc j + k) v) low high ∙ ap (λ (r : List ℕ). y % 256 ∷ r) (bytes_parts (suc j) k (y / 256) z l less)

-- ---- the number of bytes

pub number_one : (b : List ℕ) (p : ℕ) → get_or b p 0 ≡ number_at 1 b p
unfolding number_at
number_one b p = omega arith

-- the number of a low part and of a high part after it
pub number_parts : (j k : ℕ) (b : List ℕ) (p x y : ℕ) → x ≡ number_at j b p → y ≡ number_at k b (p + j) → x + byte_size ^ j * y ≡ number_at (j + k) b p
unfolding number_at
number_parts zero k b p x y e f = rw (e, f, zero-add k, add-zero p) (omega arith)
number_parts (suc j) k b p x y e f =
    let after : y ≡ number_at k b (suc p + j) = f ∙ ap (number_at k b) (add-suc p j ∙ sym (suc-add p j)) in
    let all : x + 256 ^ suc j * y ≡ get_or b p 0 + 256 * number_at (j + k) b (suc p) = omega (arith, pow_times j y, number_parts j k b (suc p) (number_at j b (suc p)) y refl after) in
    all ∙ ap (λ (n : ℕ). number_at n b p) (sym (suc-add j k))

pub number_past : (k : ℕ) (a b : List ℕ) (p : ℕ) → number_at k (a ++ b) (length a + p) ≡ number_at k b p
unfolding number_at
number_past zero a b p = refl
number_past (suc k) a b p =
    ap₂ (λ (x y : ℕ). x + 256 * y) (get_or-append-add a b p 0) (ap (number_at k (a ++ b)) (sym (add-suc (length a) p)) ∙ number_past k a b (suc p))

number_next : (k x : ℕ) (b : List ℕ) (p : ℕ) → number_at k (x ∷ b) (suc p) ≡ number_at k b p
unfolding number_at
number_next zero x b p = refl
number_next (suc k) x b p = ap (λ (y : ℕ). get_or b p 0 + 256 * y) (number_next k x b (suc p))

-- what was stored is read back
pub number_front : (k x : ℕ) (b : List ℕ) → 0 < k → number_at k (bytes_of k x ++ b) 0 ≡ x
unfolding number_at bytes_of
number_front zero x b h = absurd (omega arith)
number_front (suc zero) x b h = omega arith
number_front (suc (suc k)) x b h =
    ap (λ (y : ℕ). x % 256 + 256 * y) (number_next (suc k) (x % 256) (bytes_of (suc k) (x / 256) ++ b) 0 ∙ number_front (suc k) (x / 256) b (omega arith))
    ∙ mod-add-div x 256

-- at and past the end there are no bytes
byte_end : (b : List ℕ) (p : ℕ) → length b ≤ p → 0 ≡ get_or b p 0
byte_end [] p h = refl
byte_end (x ∷ b) zero h = absurd (omega arith)
byte_end (x ∷ b) (suc p) h = byte_end b p (le_of_suc-le-suc h)

pub number_end : (k : ℕ) (b : List ℕ) (p : ℕ) → length b ≤ p → 0 ≡ number_at k b p
unfolding number_at
number_end zero b p h = refl
number_end (suc k) b p h = omega (arith, byte_end b p h, number_end k b (suc p) (omega arith))

module _ (b : List ℕ) (small : (i : ℕ) → get_or b i 0 < byte_size) where
  pub number_lt : (k p : ℕ) → number_at k b p < byte_size ^ k
  unfolding number_at
  number_lt zero p = omega arith
  number_lt (suc k) p = more (get_or b p 0) (number_at k b (suc p)) (256 ^ k) (256 ^ suc k) (small p) (number_lt k (suc p)) (pow-succ' 256 k)
    where
      more : (x y m n : ℕ) → x < 256 → y < m → n ≡ 256 * m → x + 256 * y < n
      more x y m n hx hy e = omega arith

  -- the bytes of a number that was read are those that were there
  pub bytes_back : (k p i : ℕ) → i < k → get_or (bytes_of k (number_at k b p)) i 0 ≡ get_or b (p + i) 0
  unfolding number_at bytes_of
  bytes_back zero p i h = absurd (not-suc-le-zero h)
  bytes_back (suc zero) p zero h = only (get_or b p 0) ∙ ap (λ (n : ℕ). get_or b n 0) (sym (add-zero p))
    where
      only : (x : ℕ) → x + 256 * 0 ≡ x
      only x = omega arith
  bytes_back (suc zero) p (suc i) h = absurd (not-suc-le-zero (le_of_suc-le-suc h))
  bytes_back (suc (suc k)) p zero h = low (get_or b p 0) (number_at (suc k) b (suc p)) (small p) ∙ ap (λ (n : ℕ). get_or b n 0) (sym (add-zero p))
    where
      low : (x y : ℕ) → x < 256 → (x + 256 * y) % 256 ≡ x
      low x y l = omega arith
  bytes_back (suc (suc k)) p (suc i) h =
      ap (λ (x : ℕ). get_or (bytes_of (suc k) x) i 0) (high (get_or b p 0) (number_at (suc k) b (suc p)) (small p))
      ∙ bytes_back (suc k) (suc p) i (le_of_suc-le-suc h)
      ∙ ap (λ (n : ℕ). get_or b n 0) (suc-add p i ∙ sym (add-suc p i))
    where
      high : (x y : ℕ) → x < 256 → (x + 256 * y) / 256 ≡ y
      high x y l = omega arith

-- ---- stores

-- past the end nothing is stored
pub sets_end : (b : List ℕ) (p : ℕ) (vs : List ℕ) → length b ≤ p → b ≡ sets b p vs
sets_end b p [] h = refl
sets_end b p (v ∷ vs) h = sets_end b (suc p) vs (omega arith) ∙ ap (λ (l : List ℕ). sets l (suc p) vs) (sym (set_out b p v h))

-- stores one after another
pub sets_append : (b : List ℕ) (p : ℕ) (us vs : List ℕ) → sets (sets b p us) (p + length us) vs ≡ sets b p (us ++ vs)
sets_append b p [] vs = ap (λ (q : ℕ). sets b q vs) (add-zero p)
sets_append b p (u ∷ us) vs = ap (λ (q : ℕ). sets (sets (set b p u) (suc p) us) q vs) (add-suc p (length us) ∙ sym (suc-add p (length us))) ∙ sets_append (set b p u) (suc p) us vs

pub stored_one : (b : List ℕ) (p x : ℕ) → set b p x ≡ sets b p (bytes_of 1 x)
unfolding bytes_of
stored_one b p x = refl

-- the low part of a number stored, and its high part after that
pub stored_parts : (j k : ℕ) → 0 < k → (b : List ℕ) (p x : ℕ) (b₁ b₂ : List ℕ) → b₁ ≡ sets b p (bytes_of j (x % byte_size ^ j))
    → b₂ ≡ sets b₁ (p + j) (bytes_of k (x / byte_size ^ j)) → b₂ ≡ sets b p (bytes_of (j + k) x)
stored_parts j k l b p x b₁ b₂ e₁ e₂ =
    let y : ℕ = x % 256 ^ j in
    let z : ℕ = x / 256 ^ j in
    e₂ ∙ ap₂ (λ (c : List ℕ) (n : ℕ). sets c (p + n) (bytes_of k z)) e₁ (sym (length_bytes_lem j y)) ∙ sets_append b p (bytes_of j y) (bytes_of k z)
    ∙ ap (sets b p) (sym (bytes_parts j k y z l (mod-lt x (one-le-pow j 256 (omega arith)))) ∙ ap (bytes_of (j + k)) (mod-add-div x (256 ^ j)))

-- ---- a part of a buffer

pub number_part : (k : ℕ) (b : List ℕ) (p m i : ℕ) → i + k ≤ m → number_at k (take m (drop p b)) i ≡ number_at k b (p + i)
unfolding number_at
number_part zero b p m i h = refl
number_part (suc k) b p m i h =
    ap₂ (λ (x y : ℕ). x + 256 * y) (get_or-take m (drop p b) i 0 (omega arith) ∙ get_or-drop p b i 0)
    (number_part k b p m (suc i) (omega arith) ∙ ap (number_at k b) (add-suc p i))

-- a number read as a part of a buffer
pub number_in : (k : ℕ) (b : List ℕ) (p x : ℕ) → x ≡ number_at k (take (p + k - p) (drop p b)) 0 → x ≡ number_at k b p
number_in k b p x e = e ∙ number_part k b p (p + k - p) 0 (omega arith) ∙ ap (number_at k b) (add-zero p)

-- bytes stored over a whole part
pub sets_part : (b vs : List ℕ) (p m : ℕ) → length vs ≡ m → p + m ≤ length b → put_mid p m b (sets (take m (drop p b)) 0 vs) ≡ sets b p vs
sets_part b vs p m e h =
    let part : List ℕ = take m (drop p b) in
    let long : length part ≡ m = simp (length-take, length-drop) (omega arith) in
    let none : drop (0 + length vs) part ≡ [] = drop_of_length-le part {i = 0 + length vs} (omega arith) in
    let all : sets part 0 vs ≡ vs = sets-eq vs part 0 (omega arith) ∙ ap (λ (r : List ℕ). vs ++ r) none ∙ append-nil vs in
    ap (put_mid p m b) all
    ∙ ap (λ (r : List ℕ). take p b ++ (vs ++ r)) (drop-drop m p b ∙ ap (λ (n : ℕ). drop (p + n) b) (sym e))
    ∙ sym (append_assoc (take p b) vs (drop (p + length vs) b)) ∙ sym (sets-eq vs b p (omega arith))

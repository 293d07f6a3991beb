-- The loops of the checksum: what is left to do from here on makes the whole. Each invariant is one record.
-- Assumes nothing.
use mathlib.Core.Path.{◌≡◌, refl, ap}
use mathlib.Core.List.{List, ◌∷◌}
use Prim.Native.Nat.{ℕ, zero, suc, ◌+◌, ◌*◌, ◌-◌, ◌/◌, ◌%◌, ◌≤◌, ◌<◌}
use native.Mathlib.Numerals.{add-one}
use native.Mathlib.Omega.{arith}
use lib.Bits.{bit_xor}
use lib.ListN.{length, get_or, drop, drop_of_length-le}
use lib.Seq.{drop-cons}
use borrow.Author.Tests.{le-leb, lt-leb}
use Rattle.cksum.specs.Cksum.{remainders, polynomial, crc_turn, crc_turns, crc_byte, crc_bytes, bytes_by, length_bytes, checksum}

-- ---- one bit

pub turn_over : (c : ℕ) → 2147483648 ≤ c → bit_xor ((c * 2) % remainders) polynomial ≡ crc_turn c
unfolding crc_turn
turn_over c h = simp (le-leb 2147483648 c h)

pub turn_up : (c : ℕ) → c < 2147483648 → c * 2 ≡ crc_turn c
unfolding crc_turn
turn_up c h = simp (lt-leb 2147483648 c h)

-- ---- one byte: the turns that are left

pub record Turning (crc b c k : ℕ) : Type 0 where
  pub upto : k ≤ 8
  pub left : crc_turns (8 - k) c ≡ crc_byte crc b

pub turning_none : (crc b : ℕ) → Turning crc b (bit_xor crc (b * 16777216)) 0
unfolding crc_byte
turning_none crc b = record { upto = omega arith; left = refl }

module _ {crc b c k : ℕ} (T : Turning crc b c k) where
  pub turning_more : k < 8 → {d : ℕ} → d ≡ crc_turn c → Turning crc b d (k + 1)
  unfolding crc_turns
  turning_more h {d} e = let m : 8 - k ≡ suc (8 - (k + 1)) = omega arith in record { upto = omega arith; left = rw e (rw m at T.left) }

  pub turning_end : 8 ≤ k → c ≡ crc_byte crc b
  unfolding crc_turns
  turning_end h = let m : 8 - k ≡ 0 = omega arith in rw m at T.left

-- ---- bytes: those that are left

pub record Passing (crc : ℕ) (s : List ℕ) (c i : ℕ) : Type 0 where
  pub left : crc_bytes c (drop i s) ≡ crc_bytes crc s

pub passing_none : (crc : ℕ) (s : List ℕ) → Passing crc s crc 0
passing_none crc s = record { left = refl }

module _ {crc c i : ℕ} {s : List ℕ} (P : Passing crc s c i) where
  pub passing_more : i < length s → {d : ℕ} → d ≡ crc_byte c (get_or s i 0) → Passing crc s d (i + 1)
  unfolding crc_bytes
  passing_more h {d} e = record { left = rw (e, add-one i) (rw (drop-cons s i 0 h) at P.left) }

  pub passing_end : length s ≤ i → c ≡ crc_bytes crc s
  unfolding crc_bytes
  passing_end h = rw (drop_of_length-le s h) at P.left

-- ---- the bytes of a length

-- as many turns as the number are enough
enough : (f g n : ℕ) → n ≤ f → n ≤ g → bytes_by f n ≡ bytes_by g n
unfolding bytes_by
enough zero zero n h k = refl
enough zero (suc g) n h k = let e : n ≡ 0 = omega arith in rw e
enough (suc f) zero n h k = let e : n ≡ 0 = omega arith in rw e
enough (suc f) (suc g) zero h k = refl
enough (suc f) (suc g) (suc n) h k = ap (λ (s : List ℕ). suc n % 256 ∷ s) (enough f g (suc n / 256) (omega arith) (omega arith))

length_more : (n : ℕ) → (n ≡ 0 → ⊥) → length_bytes n ≡ n % 256 ∷ length_bytes (n / 256)
unfolding bytes_by
length_more zero ne = absurd (ne refl)
length_more (suc n) ne = ap (λ (s : List ℕ). suc n % 256 ∷ s) (enough n (suc n / 256) (suc n / 256) (omega arith) (omega arith))

pub record Measuring (crc size c n : ℕ) : Type 0 where
  pub left : crc_bytes c (length_bytes n) ≡ crc_bytes crc (length_bytes size)

pub measuring_none : (crc size : ℕ) → Measuring crc size crc size
measuring_none crc size = record { left = refl }

module _ {crc size c n : ℕ} (M : Measuring crc size c n) where
  pub measuring_more : (n ≡ 0 → ⊥) → {d : ℕ} → d ≡ crc_byte c (n % 256) → Measuring crc size d (n / 256)
  unfolding crc_bytes
  measuring_more ne {d} e = record { left = rw e (rw (length_more n ne) at M.left) }

  pub measuring_end : n ≡ 0 → c ≡ crc_bytes crc (length_bytes size)
  unfolding crc_bytes bytes_by
  measuring_end e = rw e at M.left

-- ---- all of it

pub checksum_is : (s : List ℕ) (c d : ℕ) → c ≡ crc_bytes 0 s → d ≡ crc_bytes c (length_bytes (length s)) → bit_xor d 4294967295 ≡ checksum s
unfolding checksum
checksum_is s c d e f = rw (f, e)

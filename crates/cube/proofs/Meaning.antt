-- What the definitions mean, in document 01's words: theorems for readers.
-- Assumes nothing.
use mathlib.Core.Path.{◌≡◌, refl, sym, ap, ◌∙◌, subst}
use mathlib.Core.Bool.{true}
use mathlib.Core.List.{List, []}
use Prim.Native.Nat.{ℕ, ◌*◌, ◌^◌, ◌<◌, zero-le}
use lib.Bits.{bit_and}
use lib.Count.{ones}
use borrow.Author.Tests.{eqb-true}
use lib.Dec.{eqb, lit<}
use lib.ListN.{length, get_or}
use Rattle.bits.specs.Bits.{bit}
use Rattle.bits.specs.Sums.{sum, one_if, tally}
use Rattle.bits.proofs.Bits.{bit_high}
use Rattle.bits.proofs.Bools.{all_at, all_true}
use Rattle.bits.proofs.Sums.{tally_sum}
use Rattle.records.specs.Records.{flat, records, image}
use Rattle.cube.specs.declared.Cube.{Cube}
use Rattle.cube.specs.Cubes.{code_of, code, Good, met, holds, one, bare, differing_number, differing}
use Rattle.cube.specs.Lists.{cubes, record_width, trues, list_value}
use Rattle.cube.proofs.Codes.{code_above, one_good, cube_ext}
use Rattle.cube.proofs.Masks.{holds_mask, apart_count}
use Rattle.cube.proofs.Apart.{apart_number, number_none, number_same}
use Rattle.cube.proofs.Lists.{lawful, cubes_bytes}

-- A list's value at an assignment is the EXOR of its products there.
pub value_is_exor : (n : ℕ) (l : List Cube) (a : ℕ) → list_value n l a ≡ one_if (sum (λ c. holds n c a) l)
unfolding list_value trues
value_is_exor n l a = tally_sum (λ c. holds n c a) l

-- A product is true where each literal is met, per variable (002, definition 3.3) ..
pub product_true : (n : ℕ) (c : Cube) (a : ℕ) → ((k : ℕ) → k < n → met (code c k) (bit a k) ≡ true) → holds n c a ≡ true
unfolding holds
product_true n c a h = all_true n (λ k. met (code c k) (bit a k)) h

-- .. and only there.
pub true_product : (n : ℕ) (c : Cube) (a : ℕ) → holds n c a ≡ true → (k : ℕ) → k < n → met (code c k) (bit a k) ≡ true
unfolding holds
true_product n c a e = all_at n (λ k. met (code c k) (bit a k)) e

-- "The product with no literal is the constant 1."
pub no_literal_true : (n a : ℕ) → holds n one a ≡ true
no_literal_true n a = product_true n one a (λ k h. ap (λ (x : ℕ). met x (bit a k)) (code_above 0 one (one_good 0) k zero-le))

-- "The empty list is the constant 0."
pub empty_list_zero : (n a : ℕ) → list_value n [] a ≡ 0
unfolding list_value trues tally
empty_list_zero n a = refl

-- For a good cube, and an assignment of n variables, that is one masked comparison, for every n.
pub product_by_mask : (n : ℕ) (c : Cube) (a : ℕ) → Good n c → a < 2 ^ n → holds n c a ≡ eqb (bit_and c.seen a) c.value
product_by_mask = holds_mask

-- Two good cubes with equal codes are equal.
pub equal_codes : (n : ℕ) (c d : Cube) → Good n c → Good n d → ((k : ℕ) → k < n → code c k ≡ code d k) → c ≡ d
equal_codes = cube_ext

-- A product that has no literal has the code 2, absent, at every variable; a good cube that has it at each of the n variables has no literal.
pub bare_absent : (c : Cube) → bare c ≡ true → (k : ℕ) → code c k ≡ 2
unfolding code
bare_absent c e k = ap (λ (s : ℕ). code_of (bit s k) (bit c.value k)) (eqb-true c.seen 0 e) ∙ ap (λ (b : ℕ). code_of b (bit c.value k)) (bit_high 0 0 k (lit< tt) zero-le)

pub absent_bare : (n : ℕ) (c : Cube) → Good n c → ((k : ℕ) → k < n → code c k ≡ 2) → bare c ≡ true
absent_bare n c g h = ap bare (equal_codes n c one g (one_good n) (λ k l. h k l ∙ sym (bare_absent one refl k)))

-- The number of variables in which two good cubes differ is the count of ones of the set.
pub number_differing : (n : ℕ) (c d : Cube) → Good n c → Good n d → differing_number n c d ≡ ones (differing c d)
number_differing n c d g h = sym (apart_number n c d) ∙ apart_count n c d g h

-- It is 0 exactly where they are equal.
pub equal_none : (n : ℕ) (c d : Cube) → c ≡ d → differing_number n c d ≡ 0
equal_none n c d e = subst (λ (x : Cube). differing_number n c x ≡ 0) e (number_same n c)

pub none_equal : (n : ℕ) (c d : Cube) → Good n c → Good n d → differing_number n c d ≡ 0 → c ≡ d
none_equal = number_none

-- A record there and back: what is read at a place of a written list is the cube written there ..
pub record_back : (room : ℕ) (l : List Cube) (i : ℕ) → i < length l → cubes.read (image cubes room l) i ≡ get_or l i one
record_back = lawful.reads

-- .. and the bytes of the cubes read are the bytes that were there.
pub bytes_back : (count : ℕ) (b : List ℕ) → length b ≡ record_width * count → ((i : ℕ) → get_or b i 0 < 256) → flat cubes.enc (records cubes count b) ≡ b
bytes_back = cubes_bytes

-- The law for the index's users: "Partners for a join differ by at most one in their number of literals" (document 02, Eight), since a join is refused by 17 unless
-- its cubes differ in one variable; and equal cubes not at all. So a partner stands in one of three groups. Over n, for masks of any width.
-- Assumes nothing.
use mathlib.Core.Path.{◌≡◌, refl, sym, ap, ◌∙◌}
use mathlib.Core.Logic.{◌≢◌}
use mathlib.Core.List.{List, [], ◌∷◌}
use Prim.Native.Nat.{ℕ, zero, suc, ◌+◌, ◌≤◌, ◌<◌}
use native.Mathlib.Decide.{dec_lt}
use native.Mathlib.Omega.{arith}
use lib.ListN.{length, get_or}
use borrow.Author.Tests.{lt-ltb}
use Rattle.bits.specs.Bits.{bit}
use Rattle.bits.specs.Sums.{one_if, All}
use Rattle.bits.proofs.Bits.{bit_lt}
use Rattle.bits.proofs.Below.{ones_near}
use Rattle.cube.specs.declared.Cube.{Cube}
use Rattle.cube.specs.Cubes.{code_of, code, seen_bit, one, Good, apart, differing_number}
use Rattle.cube.proofs.Codes.{good_seen}
use Rattle.cube.proofs.Apart.{apart_number, apart_none, apart_one}
use Rattle.cube.proofs.Lists.{good_at}
use Rattle.index.specs.Index.{literals, literals_at}
use Rattle.index.specs.Ordered.{Near, OneOfThree, own, above, below}
use Rattle.index.proofs.Groups.{group_all}

-- the seen bit of a variable, by its code
seen_code : (c : Cube) (k : ℕ) → bit c.seen k ≡ seen_bit (code c k)
unfolding code
seen_code c k = go (bit c.seen k) (bit c.value k) (bit_lt c.seen k) (bit_lt c.value k)
  where
    go : (s b : ℕ) → s < 2 → b < 2 → s ≡ seen_bit (code_of s b)
    go zero b hs hb = refl
    go (suc zero) b hs hb = sym (ap one_if (lt-ltb b 2 hb))
    go (suc (suc s)) b hs hb = absurd (omega arith)

-- ---- two cubes

-- with the same codes but at v, the one has at most one literal more
one_apart : (n : ℕ) (c d : Cube) → Good n c → Good n d → (v : ℕ) → ((k : ℕ) → k < n → k ≢ v → code c k ≡ code d k) → literals c ≤ literals d + 1
unfolding literals
one_apart n c d g h v e =
    ones_near n c.seen d.seen v (good_seen n c g) (good_seen n d h) (λ k l ne. seen_code c k ∙ ap seen_bit (e k l ne) ∙ sym (seen_code d k))

pub partner_near : (n : ℕ) (c d : Cube) → Good n c → Good n d → differing_number n c d ≤ 1 → Near (literals c) (literals d)
partner_near n c d g h few = go (apart n c d) refl
  where
    by : (v : ℕ) → ((k : ℕ) → k < n → k ≢ v → code c k ≡ code d k) → Near (literals c) (literals d)
    by v e = record { above = one_apart n c d g h v e; below = one_apart n d c h g v (λ k l ne. sym (e k l ne)) }

    go : (l : List ℕ) → apart n c d ≡ l → Near (literals c) (literals d)
    go [] e = by 0 (λ k l ne. apart_none n c d e k l)
    go (v ∷ []) e = by v (apart_one n c d v e).2
    go (v ∷ w ∷ l) e = absurd (omega (arith, apart_number n c d, ap length e))

-- cubes that can be joined
pub join_near : (n : ℕ) (c d : Cube) → Good n c → Good n d → differing_number n c d ≡ 1 → Near (literals c) (literals d)
join_near n c d g h e = partner_near n c d g h (omega arith)

-- equal cubes
pub equal_same : (c d : Cube) → c ≡ d → literals c ≡ literals d
equal_same c d e = ap literals e

-- ---- of a list

pub partner_group : (n : ℕ) (l : List Cube) → All (Good n) l → (i j : ℕ) → j < length l → differing_number n (get_or l i one) (get_or l j one) ≤ 1 → OneOfThree l i j
unfolding literals_at
partner_group n l good i j h few =
    let near : Near (literals_at l i) (literals_at l j) = partner_near n (get_or l i one) (get_or l j one) (good_at n l good i) (good_at n l good j) few in
    elim (dec_lt (literals_at l i) (literals_at l j)) [
      | yes u ↦ above (group_all l (suc (literals_at l i)) j h (omega arith))
      | no u ↦ elim (dec_lt (literals_at l j) (literals_at l i)) [
        | yes v ↦ below (literals_at l j) (omega arith) (group_all l (literals_at l j) j h refl)
        | no v ↦ own (group_all l (literals_at l i) j h (omega arith))
      ]
    ]

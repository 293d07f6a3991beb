-- What a group is, in words, and that an accepted call hands it back: "the run of the caller's index that holds exactly those places" (document 02, Eight).
-- Assumes nothing.
use mathlib.Core.Path.{◌≡◌, ap, ◌∙◌}
use mathlib.Core.List.{List, [], Memᴰ}
use Prim.Native.Nat.{ℕ, ◌<◌}
use native.Mathlib.Omega.{arith}
use lib.Dec.{eqb}
use lib.ListN.{length, get_or}
use borrow.Author.Tests.{eqb-true, eq-eqb}
use Rattle.bits.specs.Below.{Ascending}
use Rattle.bits.proofs.Below.{those_bounds, those_all, those_ascending}
use Rattle.records.specs.Records.{list_of}
use Rattle.records.specs.Places.{places}
use Rattle.records.specs.declared.Refusal.{Refusal}
use Rattle.records.specs.Answers.{Outcome, accepted, refused}
use Rattle.cube.specs.declared.Cube.{Cube}
use Rattle.cube.specs.Lists.{cubes_of}
use Rattle.index.specs.Index.{group_count, literals_at, group_of, list_group}
use Rattle.index.specs.Calls.{group_outcome, part_after, group_part}
use Rattle.index.proofs.Accepted.{group_accepts, part_entries}

-- ---- it has exactly the places of the cubes with m literals, ascending

module _ (l : List Cube) (m : ℕ) where
  pub group_in : (p : ℕ) → Memᴰ p (list_group l m) → (p < length l) × (literals_at l p ≡ m)
  unfolding list_group group_of
  group_in p h =
      let t = those_bounds (λ q. eqb (literals_at l q) m) (length l) 0 p h in
      (omega (arith, t.1), eqb-true _ _ t.2)

  pub group_all : (p : ℕ) → p < length l → literals_at l p ≡ m → Memᴰ p (list_group l m)
  unfolding list_group group_of
  group_all p h e = those_all (λ q. eqb (literals_at l q) m) (length l) 0 p (omega arith) (omega arith) (eq-eqb _ _ e)

  pub group_ascending : Ascending 0 (list_group l m)
  unfolding list_group group_of
  group_ascending = those_ascending (λ q. eqb (literals_at l q) m) (length l) 0

-- ---- the part that is handed back holds it, and nothing where the call is refused

module _ (n : ℕ) (b index starts : List ℕ) (m : ℕ) where
  pub group_holds : (v : List ℕ) → length starts ≡ group_count → group_outcome n b index starts m ≡ accepted v
      → list_of places (group_part n b index starts m) ≡ list_group (cubes_of b) m
  unfolding group_part
  group_holds v long e =
      ap (λ (o : Outcome). list_of places (part_after o index (get_or starts m 0))) e
      ∙ part_entries n b index starts m v (group_accepts n b index starts m long v e)

  pub group_empty : (r : Refusal) → group_outcome n b index starts m ≡ refused r → group_part n b index starts m ≡ []
  unfolding group_part
  group_empty r e = ap (λ (o : Outcome). part_after o index (get_or starts m 0)) e

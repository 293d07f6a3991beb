-- The products of a tree, put into a buffer one after the other: a leaf, and a node from its two branches.
-- Assumes nothing.
use mathlib.Core.Path.{◌≡◌, refl, sym, ap, ap₂, ◌∙◌, subst}
use mathlib.Core.Bool.{Bool, true, false, ◌&&◌, cond}
use mathlib.Core.List.{List, [], ◌∷◌, ◌++◌}
use Prim.Native.Nat.{ℕ, suc, ◌+◌, ◌-◌, ◌*◌, ◌%◌, ◌^◌, ◌≤◌}
use native.Mathlib.Omega.{arith}
use lib.Dec.{eqb}
use lib.ListN.{length, length-append}
use Rattle.bits.specs.declared.packed.Packed.{Packed}
use Rattle.records.specs.Records.{written}
use Rattle.records.proofs.Records.{written_append}
use Rattle.cube.specs.declared.Cube.{Cube}
use Rattle.cube.specs.Cubes.{with_code}
use Rattle.cube.specs.Lists.{cubes}
use Rattle.trees.specs.declared.Expansion.{Expansion}
use Rattle.trees.specs.Trees.{first, second, first_code, second_code, unmarked, Tree, leaf, node, leaf_list, products}
use Rattle.trees.specs.Least.{choice, chosen}
use Rattle.trees.specs.Words.{Stands, first_half, second_half, Plan, PutIs}
use Rattle.trees.proofs.Halves.{twice, stands_first, stands_second, stands_none}

-- ---- a leaf

-- whichever tree of no variable it is
leaf_products : (t : Tree 0) (k : ℕ) (c : Cube) (f : ℕ → ℕ) → products t k c f ≡ leaf_list (f 0) c
unfolding products
leaf_products leaf k c f = refl

pub leaf_next : (at x r : ℕ) (c : Cube) → r ≡ at + length (leaf_list x c) → r ≤ at + 1
unfolding leaf_list
leaf_next at x r c e = go (eqb x 0) e
  where
    go : (b : Bool) → r ≡ at + length (cond b [] (c ∷ [])) → r ≤ at + 1
    go true e = omega arith
    go false e = omega arith

-- the number of variables that are left, as a test finds it
pub put_leaf : (k left : ℕ) → left ≡ 0 → (plan : Plan) (w : Packed) (c : Cube) (at : ℕ) (out out' : List ℕ) (r : ℕ) → r ≡ at + length (leaf_list (w.a % 2) c)
    → out' ≡ written cubes at (leaf_list (w.a % 2) c) out → PutIs k left plan w c at out out' r
put_leaf k left z plan w c at out out' r er eo = subst (λ (x : ℕ). PutIs k x plan w c at out out' r) (sym z) record {
  few = leaf_next at (w.a % 2) r c er;
  next = λ f S. er ∙ ap (λ (l : List Cube). at + length l) (same f S);
  bytes = λ f S. eo ∙ ap (λ (l : List Cube). written cubes at l out) (same f S);
}
  where
    same : (f : ℕ → ℕ) → Stands k 0 f w → leaf_list (w.a % 2) c ≡ products (plan 0 f) k c f
    same f S = ap (λ (x : ℕ). leaf_list x c) (stands_none k f w S) ∙ sym (leaf_products (plan 0 f) k c f)

-- each branch has half of the assignments
pub half : (left : ℕ) → (left ≡ 0 → ⊥) → 2 ^ left ≡ 2 ^ (left - 1) * 2
half left more = twice left (left - 1) (omega (arith, more))

-- ---- a node by variable k; j is the next variable, and m are left below the node

-- the tree of the choices, by the expansion that is chosen
pub chosen_node : (m : ℕ) (free stays : Bool) (f : ℕ → ℕ) (e : Expansion) → e ≡ choice m free f → stays ≡ (free && unmarked e)
    → chosen (suc m) free f ≡ node e (chosen m stays (first e f)) (chosen m false (second e f))
unfolding chosen
chosen_node m free stays f e is stays_is =
    ap (λ (x : Expansion). node x (chosen m (free && unmarked x) (first x f)) (chosen m false (second x f))) (sym is)
    ∙ ap (λ (b : Bool). node e (chosen m b (first e f)) (chosen m false (second e f))) (sym stays_is)

module _ (k j left m : ℕ) (next : j ≡ suc k) (below : left ≡ suc m) (few : k + left ≤ 8) (w u v : Packed) (c a b : Cube) (e : Expansion)
    (is_first : u ≡ first_half e k w) (is_second : v ≡ second_half e k w) (first_is : a ≡ with_code c k (first_code e)) (second_is : b ≡ with_code c k (second_code e))
    (plan first_plan second_plan : Plan)
    (splits : (f : ℕ → ℕ) → Stands k (suc m) f w → plan (suc m) f ≡ node e (first_plan m (first e f)) (second_plan m (second e f))) where
  module _ (f : ℕ → ℕ) (S : Stands k left f w) where
    abbrev one : List Cube
    one = products (first_plan m (first e f)) j a (first e f)

    abbrev two : List Cube
    two = products (second_plan m (second e f)) j b (second e f)

    low : Stands j m (first e f) u
    low = subst (Stands j m (first e f)) (sym is_first) (stands_first k j left m next below few f w S e)

    high : Stands j m (second e f) v
    high = subst (Stands j m (second e f)) (sym is_second) (stands_second k j left m next below few f w S e)

    whole : products (plan left f) k c f ≡ one ++ two
    unfolding products
    whole =
        ap (λ (x : ℕ). products (plan x f) k c f) below
        ∙ ap (λ (t : Tree (suc m)). products t k c f) (splits f (subst (λ (x : ℕ). Stands k x f w) below S))
        ∙ sym (λ i. products (first_plan m (first e f)) (next i) (first_is i) (first e f) ++ products (second_plan m (second e f)) (next i) (second_is i) (second e f))

  pub put_node : (at place r : ℕ) (out mid out' : List ℕ) → PutIs j m first_plan u a at out mid place → PutIs j m second_plan v b place mid out' r → PutIs k left plan w c at out out' r
  put_node at place r out mid out' P Q = record {
    few = omega (arith, P.few, Q.few, twice left m below);
    next = λ f S.
        rw (whole f S, length-append) (omega (arith, P.next (first e f) (low f S), Q.next (second e f) (high f S)));
    bytes = λ f S.
        Q.bytes (second e f) (high f S)
        ∙ ap₂ (λ (x : ℕ) (y : List ℕ). written cubes x (two f S) y) (P.next (first e f) (low f S)) (P.bytes (first e f) (low f S))
        ∙ sym (written_append cubes at (one f S) (two f S) out) ∙ ap (λ (l : List Cube). written cubes at l out) (sym (whole f S));
  }

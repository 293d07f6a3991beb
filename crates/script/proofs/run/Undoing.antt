-- Taking back what is pending: nothing to do at a variable where no order is; and one variable after another, for any kind of record.
-- Assumes nothing.
use mathlib.Core.Path.{◌≡◌, sym, ap, ◌∙◌}
use mathlib.Core.Bool.{Bool, true}
use mathlib.Core.List.{List, map}
use Prim.Native.Nat.{ℕ, suc, ◌<◌}
use lib.ListN.{length, get_or}
use Rattle.bits.specs.Sums.{All}
use Rattle.bits.proofs.Sums.{map_same, map_map, map_each, all_each}
use Rattle.records.specs.Records.{Codec, Held, Holds, records, image}
use Rattle.cube.specs.declared.Cube.{Cube}
use Rattle.cube.specs.Cubes.{good, Good, code, put}
use Rattle.cube.specs.Lists.{cubes, most_variables}
use Rattle.cube.proofs.Codes.{code_lt, put_self, good_parts, parts_good}
use Rattle.orders.specs.Orders.{no_order, inverse, code_after}
use Rattle.orders.proofs.Orders.{code_after_none, inverse_none}
use Rattle.steps.specs.Steps.{reordered}
use Rattle.script.specs.Pending.{restored}

none_reordered : (v : ℕ) (c : Cube) → v < most_variables → Good most_variables c → reordered v (inverse no_order) c ≡ c
unfolding reordered
none_reordered v c h g =
    ap (λ (o : ℕ). put c v (code_after o (code c v))) inverse_none
    ∙ ap (put c v) (code_after_none (code c v) (code_lt c v)) ∙ put_self most_variables c v g h

module _ {A : Type 0} (on : (Cube → Cube) → A → A) (fine : ℕ → A → Bool)
    (same : (f : Cube → Cube) (n : ℕ) → ((c : Cube) → Good n c → f c ≡ c) → (a : A) → fine n a ≡ true → on f a ≡ a) where
  -- no order is pending at v
  pub none_back : (v o : ℕ) → o ≡ 0 → v < most_variables → (l : List A) → All (λ a. fine most_variables a ≡ true) l → l ≡ map (on (reordered v (inverse o))) l
  none_back v o e h l all =
      map_same l
      ∙ map_each (λ a. fine most_variables a ≡ true) (λ a. a) (on (reordered v (inverse no_order)))
      (λ a f. sym (same (reordered v (inverse no_order)) most_variables (λ c g. none_reordered v c h g) a f)) l all
      ∙ ap (λ (p : ℕ). map (on (reordered v (inverse p))) l) (sym e)

  -- so a buffer that holds records is that of the records with the order taken back
  pub undo_none_by : (C : Codec A) (b : List ℕ) (count v o : ℕ) → o ≡ 0 → Held C count b → All (λ a. fine most_variables a ≡ true) (records C count b) → v < most_variables
      → b ≡ image C (length b) (map (on (reordered v (inverse o))) (records C count b))
  unfolding Held Holds
  undo_none_by C b count v o e h all l = h ∙ ap (image C (length b)) (none_back v o e l (records C count b) all)

  -- no variable
  pub back_none : (os : List ℕ) (n : ℕ) (l : List A) → All (λ a. fine n a ≡ true) l → l ≡ map (on (restored 0 os)) l
  unfolding restored
  back_none os n l all = map_same l ∙ map_each (λ a. fine n a ≡ true) (λ a. a) (on (λ c. c)) (λ a f. sym (same (λ c. c) n (λ c g i. c) a f)) l all

  -- one variable more
  pub back_more : ((f h : Cube → Cube) (a : A) → on f (on h a) ≡ on (λ c. f (h c)) a) → (v : ℕ) (os : List ℕ) (l m k : List A) → m ≡ map (on (restored v os)) l
      → k ≡ map (on (reordered v (inverse (get_or os v no_order)))) m → k ≡ map (on (restored (suc v) os)) l
  unfolding restored
  back_more twice v os l m k em ek =
      ek ∙ ap (map (on (reordered v (inverse (get_or os v no_order))))) em
      ∙ map_map (on (reordered v (inverse (get_or os v no_order)))) (on (restored v os)) l
      ∙ (λ i. map (λ a. twice (reordered v (inverse (get_or os v no_order))) (restored v os) a i) l)

-- ---- cubes

pub undo_none : (b : List ℕ) (count v o : ℕ) → o ≡ 0 → Held cubes count b → All (Good most_variables) (records cubes count b) → v < most_variables
    → b ≡ image cubes (length b) (map (reordered v (inverse o)) (records cubes count b))
undo_none b count v o e h all l =
    undo_none_by (λ f c. f c) good (λ f n s c g. s c (good_parts n c g)) cubes b count v o e h
    (all_each (Good most_variables) (λ c. good most_variables c ≡ true) (parts_good most_variables) (records cubes count b) all) l

-- A move made to the records of a buffer, of any kind: what each store and each removal leaves, and what comes of a drop, a join, a split and a turn.
-- Assumes nothing.
use mathlib.Core.Path.{◌≡◌, refl, sym, ap, ap₂, ◌∙◌, subst}
use mathlib.Core.List.{List, [], ◌∷◌, ◌++◌}
use Prim.Native.Nat.{ℕ, suc, ◌+◌, ◌-◌, ◌*◌, ◌/◌, ◌≤◌, ◌<◌, max, min}
use native.Mathlib.Nat.{le_trans, mul-le-mul_left, mul-suc}
use native.Mathlib.Omega.{arith}
use lib.ListN.{length, get_or, set, length-set, get_or-eq_default}
use Rattle.std.specs.Prelude.{Ok, Err}
use Rattle.records.specs.Places.{remove_at}
use Rattle.records.specs.Records.{Codec, stored, records, list_of, image, Holds, Held}
use Rattle.records.proofs.Images.{length_image, length_remove}
use Rattle.records.proofs.Records.{Lawful, length_records, get_or_records, list_at, length_stored, place_room, held_fits, held_place, holds_store, holds_push, holds_remove, holds_held, holds_records, image_holds}
use Rattle.steps.specs.declared.Change.{Change}
use Rattle.steps.specs.declared.Change.TheVariants as change_is
use Rattle.steps.specs.declared.StepRefusal.{StepRefusal}
use Rattle.steps.specs.Moves.{Move, refuse, drops, joins, splits, turns, After, next, applied, drop_at, join_at, split_at, turn_at}
use Rattle.steps.specs.Effects.{TwoPlaces}
use Rattle.steps.specs.Changes.{move_of, OnePlace, Placed, DoneBy}
use Rattle.steps.proofs.Places.{length_drop_at, length_join_at, length_split_at, length_turn_at}

-- ---- a place looked at

module _ {A : Type 0} (C : Codec A) (k i : ℕ) (b : List ℕ) where
  pub look_past : k ≤ i → C.none ≡ get_or (records C k b) i C.none
  look_past h = sym (get_or-eq_default (records C k b) C.none {n = i} (omega (arith, length_records C k b)))

  pub look_in : Lawful C → Held C k b → i < k → (a : A) → a ≡ get_or (list_of C b) i C.none → a ≡ get_or (records C k b) i C.none
  look_in K h l a e =
      e ∙ list_at C b i C.none (held_place C K k b h i l) ∙ sym (get_or_records C k b i C.none l)

module _ {A : Type 0} (C : Codec A) (K : Lawful C) where
  -- a buffer as long as it was, with a list in it
  in_place : (n : ℕ) (b : List ℕ) (l : List A) → length b ≡ n → Holds C b l → b ≡ image C n l
  unfolding Holds
  in_place n b l e h = h ∙ ap (λ (m : ℕ). image C m l) e

  -- ---- a record stored among k

  module _ (k i : ℕ) (b b₁ : List ℕ) (a : A) (h : Held C k b) (hi : i < k) (e : b₁ ≡ stored C b i a) where
    stored_holds : Holds C b₁ (set (records C k b) i a)
    unfolding Held
    stored_holds =
        subst (λ (t : List ℕ). Holds C t (set (records C k b) i a)) (sym e)
        (holds_store C K b (records C k b) h i a (omega (arith, length_records C k b)))

    stored_many : length (set (records C k b) i a) ≡ k
    stored_many = length-set (records C k b) i a ∙ length_records C k b

    stored_long : length b₁ ≡ length b
    stored_long = ap length e ∙ length_stored C b i a

    pub stored_held : Held C k b₁
    stored_held = subst (λ (n : ℕ). Held C n b₁) stored_many (holds_held C K b₁ (set (records C k b) i a) stored_holds)

    pub stored_records : records C k b₁ ≡ set (records C k b) i a
    stored_records = ap (λ (n : ℕ). records C n b₁) (sym stored_many) ∙ holds_records C K b₁ (set (records C k b) i a) stored_holds

  -- ---- a place removed among k

  pub remove_done : (k i : ℕ) (b b₁ b₂ : List ℕ) (x : A) → Held C k b → i < k → x ≡ get_or (list_of C b) (k - 1) C.none
      → b₁ ≡ stored C b i x → b₂ ≡ stored C b₁ (k - 1) C.none → b₂ ≡ image C (length b) (remove_at C.none (records C k b) i)
  unfolding Held
  remove_done k i b b₁ b₂ x h hi ex e₁ e₂ =
      let l : List A = records C k b in
      let many : length l ≡ k = length_records C k b in
      let x_is : x ≡ get_or l (k - 1) C.none = look_in C k (k - 1) b K h (omega arith) x ex in
      in_place (length b) b₂ (remove_at C.none l i)
      (ap length e₂ ∙ length_stored C b₁ (k - 1) C.none ∙ ap length e₁ ∙ length_stored C b i x)
      (subst (λ (t : List ℕ). Holds C t (remove_at C.none l i))
      (ap (λ (a : A). stored C (stored C b i a) (k - 1) C.none) (sym x_is) ∙ ap (λ (t : List ℕ). stored C t (k - 1) C.none) (sym e₁) ∙ sym e₂)
      (holds_remove C K b l h i (k - 1) (omega arith) (omega arith)))

  module _ (k i : ℕ) (b b₁ : List ℕ) (h : Held C k b) (e : b₁ ≡ image C (length b) (remove_at C.none (records C k b) i)) where
    removed_many : length (remove_at C.none (records C k b) i) ≡ k - 1
    removed_many = length_remove C.none (records C k b) i ∙ ap (λ (n : ℕ). n - 1) (length_records C k b)

    removed_fits : C.width * length (remove_at C.none (records C k b) i) ≤ length b
    removed_fits = le_trans (mul-le-mul_left C.width (omega (arith, removed_many))) (held_fits C K k b h)

    removed_holds : Holds C b₁ (remove_at C.none (records C k b) i)
    removed_holds =
        subst (λ (t : List ℕ). Holds C t (remove_at C.none (records C k b) i)) (sym e)
        (image_holds C K (length b) (remove_at C.none (records C k b) i) removed_fits)

    removed_long : length b₁ ≡ length b
    unfolding image
    removed_long = ap length e ∙ length_image C.enc C.width K.len (length b) (remove_at C.none (records C k b) i) removed_fits

    pub removed_held : Held C (k - 1) b₁
    removed_held = subst (λ (n : ℕ). Held C n b₁) removed_many (holds_held C K b₁ (remove_at C.none (records C k b) i) removed_holds)

    pub removed_records : records C (k - 1) b₁ ≡ remove_at C.none (records C k b) i
    removed_records =
        ap (λ (n : ℕ). records C n b₁) (sym removed_many) ∙ holds_records C K b₁ (remove_at C.none (records C k b) i) removed_holds

  -- ---- the four moves

  pub dropped_many : (k i j : ℕ) (b : List ℕ) → k - 2 ≡ length (drop_at C.none (records C k b) i j)
  dropped_many k i j b = sym (length_drop_at C.none (records C k b) i j ∙ ap (λ (n : ℕ). n - 2) (length_records C k b))

  pub joined_many : (k i j : ℕ) (b : List ℕ) (x : A) → k - 1 ≡ length (join_at C.none (records C k b) i j x)
  joined_many k i j b x = sym (length_join_at C.none (records C k b) i j x ∙ ap (λ (n : ℕ). n - 1) (length_records C k b))

  module _ (k i j : ℕ) (b : List ℕ) (h : Held C k b) where
    pub dropped_image : (hi lo : ℕ) → hi ≡ max i j → lo ≡ min i j
        → (b₁ b₂ : List ℕ) → b₁ ≡ image C (length b) (remove_at C.none (records C k b) hi)
        → b₂ ≡ image C (length b₁) (remove_at C.none (records C (k - 1) b₁) lo)
        → b₂ ≡ image C (length b) (drop_at C.none (records C k b) i j)
    unfolding drop_at
    dropped_image hi lo ehi elo b₁ b₂ e₁ e₂ =
        e₂
        ∙ ap₂ (image C) (removed_long k hi b b₁ h e₁)
        (ap₂ (remove_at C.none) (removed_records k hi b b₁ h e₁ ∙ ap (remove_at C.none (records C k b)) ehi) elo)

    pub joined_image : i < k → (x : A) (b₁ b₂ : List ℕ) → b₁ ≡ stored C b i x → b₂ ≡ image C (length b₁) (remove_at C.none (records C k b₁) j)
        → b₂ ≡ image C (length b) (join_at C.none (records C k b) i j x)
    unfolding join_at
    joined_image hi x b₁ b₂ e₁ e₂ =
        e₂
        ∙ ap₂ (λ (n : ℕ) (l : List A). image C n (remove_at C.none l j)) (stored_long k i b b₁ x h hi e₁) (stored_records k i b b₁ x h hi e₁)

    pub split_image : OnePlace k (length b / C.width) i → (x y : A) (b₁ b₂ : List ℕ) → b₁ ≡ stored C b i x → b₂ ≡ stored C b₁ k y
        → b₂ ≡ image C (length b) (split_at (records C k b) i x y)
    unfolding split_at
    split_image p x y b₁ b₂ e₁ e₂ =
        let l₁ : List A = set (records C k b) i x in
        let many : length l₁ ≡ k = stored_many k i b b₁ x h p.inside e₁ in
        let long : length b₁ ≡ length b = stored_long k i b b₁ x h p.inside e₁ in
        let fits : C.width * suc (length l₁) ≤ length b₁ =
        rw (many, long) (omega (arith, mul-suc C.width k, place_room C.width (length b) k K.wide p.more)) in
        in_place (length b) b₂ (l₁ ++ (y ∷ [])) (ap length e₂ ∙ length_stored C b₁ k y ∙ long)
        (subst (λ (t : List ℕ). Holds C t (l₁ ++ (y ∷ []))) (ap (λ (n : ℕ). stored C b₁ n y) many ∙ sym e₂)
        (holds_push C K b₁ l₁ (stored_holds k i b b₁ x h p.inside e₁) y fits))

    pub turned_image : TwoPlaces k i j → (x y : A) (b₁ b₂ : List ℕ) → b₁ ≡ stored C b i x → b₂ ≡ stored C b₁ j y
        → b₂ ≡ image C (length b) (turn_at (records C k b) i j x y)
    unfolding turn_at
    turned_image p x y b₁ b₂ e₁ e₂ =
        let h₁ : Held C k b₁ = stored_held k i b b₁ x h p.first e₁ in
        in_place (length b) b₂ (set (set (records C k b) i x) j y)
        (stored_long k j b₁ b₂ y h₁ p.second e₂ ∙ stored_long k i b b₁ x h p.first e₁)
        (subst (λ (l : List A). Holds C b₂ (set l j y)) (stored_records k i b b₁ x h p.first e₁) (stored_holds k j b₁ b₂ y h₁ p.second e₂))

-- ---- what the places of a move say

module _ {A : Type 0} (k room i j : ℕ) (m : Move A) (p : Placed k room i j m) where
  pub drop_in : m ≡ drops → TwoPlaces k i j
  unfolding Placed
  drop_in e = subst (Placed k room i j) e p

  pub join_in : (x : A) → m ≡ joins x → TwoPlaces k i j
  unfolding Placed
  join_in x e = subst (Placed k room i j) e p

  pub split_in : (x y : A) → m ≡ splits x y → OnePlace k room i
  unfolding Placed
  split_in x y e = subst (Placed k room i j) e p

  pub turn_in : (x y : A) → m ≡ turns x y → TwoPlaces k i j
  unfolding Placed
  turn_in x y e = subst (Placed k room i j) e p

-- ---- a move m made to the k records of a buffer b, return by return

module _ {A : Type 0} (C : Codec A) (K : Lawful C) (k i j : ℕ) (b : List ℕ) (m : Move A) where
  made_next : (b' : List ℕ) (l : List A) (count : ℕ) → applied C.none i j (records C k b) m ≡ next l → b' ≡ image C (length b) l → length l ≡ count
      → DoneBy C b b' (applied C.none i j (records C k b) m) (Ok count)
  made_next b' l count p q r = subst (λ (e : After A). DoneBy C b b' e (Ok count)) (sym p) (record { answer = ap Ok (sym r); buffer = q })

  pub made_refuse : (why : StepRefusal) → m ≡ refuse why → DoneBy C b b (applied C.none i j (records C k b) m) (Err why)
  unfolding applied
  made_refuse why e =
      subst (λ (t : Move A). DoneBy C b b (applied C.none i j (records C k b) t) (Err why)) (sym e) (record { answer = refl; buffer = refl })

  pub made_drop : m ≡ drops → (b' : List ℕ) (count : ℕ) → count ≡ length (drop_at C.none (records C k b) i j)
      → b' ≡ image C (length b) (drop_at C.none (records C k b) i j) → DoneBy C b b' (applied C.none i j (records C k b) m) (Ok count)
  unfolding applied
  made_drop e b' count ec eb = made_next b' (drop_at C.none (records C k b) i j) count (ap (applied C.none i j (records C k b)) e) eb (sym ec)

  pub made_join : (x : A) → m ≡ joins x → (b' : List ℕ) (count : ℕ) → count ≡ length (join_at C.none (records C k b) i j x)
      → b' ≡ image C (length b) (join_at C.none (records C k b) i j x) → DoneBy C b b' (applied C.none i j (records C k b) m) (Ok count)
  unfolding applied
  made_join x e b' count ec eb = made_next b' (join_at C.none (records C k b) i j x) count (ap (applied C.none i j (records C k b)) e) eb (sym ec)

  module _ (p : Placed k (length b / C.width) i j m) where
    pub made_split : (x y : A) → m ≡ splits x y → Held C k b → (b₁ b₂ : List ℕ) → b₁ ≡ stored C b i x → b₂ ≡ stored C b₁ k y
        → DoneBy C b b₂ (applied C.none i j (records C k b) m) (Ok (k + 1))
    unfolding applied
    made_split x y e h b₁ b₂ e₁ e₂ =
        made_next b₂ (split_at (records C k b) i x y) (k + 1) (ap (applied C.none i j (records C k b)) e)
        (split_image C K k i j b h (split_in k (length b / C.width) i j m p x y e) x y b₁ b₂ e₁ e₂)
        (length_split_at (records C k b) i x y ∙ ap (λ (n : ℕ). n + 1) (length_records C k b))

    pub made_turn : (x y : A) → m ≡ turns x y → Held C k b → (b₁ b₂ : List ℕ) → b₁ ≡ stored C b i x → b₂ ≡ stored C b₁ j y
        → DoneBy C b b₂ (applied C.none i j (records C k b) m) (Ok k)
    unfolding applied
    made_turn x y e h b₁ b₂ e₁ e₂ =
        made_next b₂ (turn_at (records C k b) i j x y) k (ap (applied C.none i j (records C k b)) e)
        (turned_image C K k i j b h (turn_in k (length b / C.width) i j m p x y e) x y b₁ b₂ e₁ e₂)
        (length_turn_at (records C k b) i j x y ∙ length_records C k b)

-- ---- a change as a move

module _ {A : Type 0} (change : Change A) where
  pub refuse_move : (why : StepRefusal) → change ≡ change_is.Refuse why → move_of change ≡ refuse why
  unfolding move_of
  refuse_move why e = ap move_of e

  pub drop_move_lem : change ≡ change_is.Drop → move_of change ≡ drops
  unfolding move_of
  drop_move_lem e = ap move_of e

  pub join_move_lem : (c : A) → change ≡ change_is.Join c → move_of change ≡ joins c
  unfolding move_of
  join_move_lem c e = ap move_of e

  pub split_move_lem : (c d : A) → change ≡ change_is.Split c d → move_of change ≡ splits c d
  unfolding move_of
  split_move_lem c d e = ap move_of e

  pub turn_move_lem : (c d : A) → change ≡ change_is.Turn c d → move_of change ≡ turns c d
  unfolding move_of
  turn_move_lem c d e = ap move_of e

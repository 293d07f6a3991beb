-- A move of any kind of record: where its places are there and what it writes has the sum of what it takes, the list keeps its sum.
-- Assumes nothing.
use mathlib.Core.Path.{◌≡◌, refl, sym, ap, ◌∙◌, subst}
use mathlib.Core.Bool.{Bool}
use mathlib.Core.List.{List, map}
use Prim.Native.Nat.{ℕ, ◌+◌, ◌≤◌, ◌<◌}
use native.Mathlib.Nat.{lt_of_lt_of_le}
use native.Mathlib.Omega.{arith}
use lib.ListN.{length, get_or}
use Rattle.bits.specs.Sums.{◌⊕◌, sum, All}
use Rattle.steps.specs.declared.StepRefusal.{StepRefusal}
use Rattle.steps.specs.Moves.{Move, refuse, drops, joins, splits, turns, After, stop, next, applied, map_move}
use Rattle.steps.specs.Changes.{Placed}
use Rattle.steps.proofs.Places.{length_drop_at, length_join_at, length_split_at, length_turn_at, all_drop, all_join, all_split, all_turn, drop_map, join_map, split_map, turn_map, sum_drop, sum_join, sum_split, sum_turn}

module _ {A : Type 0} where
  -- what it writes has the sum of what it takes: a at place i and, but in a split, b at place j
  abbrev pub Balanced : (A → Bool) → A → A → Move A → Type 0
  Balanced w a b (refuse r) = Unit {0}
  Balanced w a b drops = w a ≡ w b
  Balanced w a b (joins x) = w x ≡ w a ⊕ w b
  Balanced w a b (splits x y) = w x ⊕ w y ≡ w a
  Balanced w a b (turns x y) = w x ⊕ w y ≡ w a ⊕ w b

  -- P holds of every record that it writes
  unfoldable pub Writes : (A → Type 0) → Move A → Type 0
  Writes P (refuse r) = Unit {0}
  Writes P drops = Unit {0}
  Writes P (joins x) = P x
  Writes P (splits x y) = P x × P y
  Writes P (turns x y) = P x × P y

  -- how many records it adds, and how many it takes away
  abbrev pub added : Move A → ℕ
  added (refuse r) = 0
  added drops = 0
  added (joins x) = 0
  added (splits x y) = 1
  added (turns x y) = 0

  abbrev pub taken : Move A → ℕ
  taken (refuse r) = 0
  taken drops = 2
  taken (joins x) = 1
  taken (splits x y) = 0
  taken (turns x y) = 0

  -- ---- what comes of a move

  pub next_same : {r s : List A} → next r ≡ next s → r ≡ s
  next_same e = cc

  pub stop_same : {r s : StepRefusal} → ◌≡◌ {A = After A} (stop r) (stop s) → r ≡ s
  stop_same e = cc

  pub not_stopped : {r : StepRefusal} {s : List A} → stop r ≡ next s → ⊥
  not_stopped e = let z : ◌≡◌ {A = ℕ} 0 1 = cc in omega arith

-- a move of the list l at the places i and j, with so much room, not refused, that leaves the list m
module _ {A : Type 0} (d : A) (l m : List A) (room i j : ℕ) where
  -- the sum of a weight for which it is balanced stays
  pub applied_sum : (w : A → Bool) (x : Move A) → Placed (length l) room i j x → Balanced w (get_or l i d) (get_or l j d) x
      → applied d i j l x ≡ next m → sum w m ≡ sum w l
  unfolding applied Placed
  applied_sum w (refuse r) p b e = absurd (not_stopped e)
  applied_sum w drops p b e = ap (sum w) (sym (next_same e)) ∙ sum_drop d w l i j p b
  applied_sum w (joins x) p b e = ap (sum w) (sym (next_same e)) ∙ sum_join d w l i j p x b
  applied_sum w (splits x y) p b e = ap (sum w) (sym (next_same e)) ∙ sum_split d w l i p.inside x y b
  applied_sum w (turns x y) p b e = ap (sum w) (sym (next_same e)) ∙ sum_turn d w l i j p x y b

  -- what held of every record, and holds of what is written, holds of every record
  pub applied_all : (P : A → Type 0) (x : Move A) → Placed (length l) room i j x → Writes P x → All P l → applied d i j l x ≡ next m → All P m
  unfolding applied Placed Writes
  applied_all P (refuse r) p h a e = absurd (not_stopped e)
  applied_all P drops p h a e = subst (All P) (next_same e) (all_drop P d l i j p a)
  applied_all P (joins x) p h a e = subst (All P) (next_same e) (all_join P d l i j x p a h)
  applied_all P (splits x y) p h a e = subst (All P) (next_same e) (all_split P l i x y a h.0 h.1)
  applied_all P (turns x y) p h a e = subst (All P) (next_same e) (all_turn P l i j x y a h.0 h.1)

  -- the count changes as the move says
  pub applied_count : (x : Move A) → Placed (length l) room i j x → applied d i j l x ≡ next m → length m + taken x ≡ length l + added x
  unfolding applied Placed
  applied_count (refuse r) p e = absurd (not_stopped e)
  applied_count drops p e = omega (arith, p.unlike, ap length (next_same e), length_drop_at d l i j)
  applied_count (joins x) p e = omega (arith, p, ap length (next_same e), length_join_at d l i j x)
  applied_count (splits x y) p e = omega (arith, ap length (next_same e), length_split_at l i x y)
  applied_count (turns x y) p e = omega (arith, ap length (next_same e), length_turn_at l i j x y)

-- ---- more room, and less asked of what is written

module _ {A : Type 0} where
  pub placed_more : (count cap room i j : ℕ) (m : Move A) → cap ≤ room → Placed count cap i j m → Placed count room i j m
  unfolding Placed
  placed_more count cap room i j (refuse r) h p = p
  placed_more count cap room i j drops h p = p
  placed_more count cap room i j (joins y) h p = p
  placed_more count cap room i j (splits y z) h p = record { inside = p.inside; more = lt_of_lt_of_le p.more h }
  placed_more count cap room i j (turns y z) h p = p

-- ---- sound moves

-- a move at the places i and j, of so many and with so much room, where a and b stand: its places are there, what it writes is fine, and it is balanced
-- for every fair weight
pub record SoundBy {A : Type 0} (Fine : A → Type 0) (Fair : (A → Bool) → Type 0) (count room i j : ℕ) (a b : A) (m : Move A) : Type 0 where
  pub places : Placed count room i j m
  pub good : Writes Fine m
  pub balanced : (w : A → Bool) → Fair w → Balanced w a b m

module _ {A : Type 0} (Fine : A → Type 0) (Fair : (A → Bool) → Type 0) where
  pub refuse_sound : (count room i j : ℕ) (a b : A) (r : StepRefusal) → SoundBy Fine Fair count room i j a b (refuse r)
  unfolding Placed Writes
  refuse_sound count room i j a b r = record { places = tt {0}; good = tt {0}; balanced = λ w fair. tt {0} }

  -- made, it keeps a fine list fine, and every fair weight its sum
  pub sound_made : (d : A) (l m : List A) (room i j : ℕ) (x : Move A) → SoundBy Fine Fair (length l) room i j (get_or l i d) (get_or l j d) x → All Fine l
      → applied d i j l x ≡ next m → All Fine m × ((w : A → Bool) → Fair w → sum w m ≡ sum w l)
  sound_made d l m room i j x s a e =
      (applied_all d l m room i j Fine x s.places s.good a e, λ w fair. applied_sum d l m room i j w x s.places (s.balanced w fair) e)

-- ---- a move of records that carry others: cubes carry cubes moved by an order, and shared products a cube with its outputs

module _ {A B : Type 0} (f : A → B) where
  abbrev pub map_after : After A → After B
  map_after (stop r) = stop r
  map_after (next l) = next (map f l)

  -- it is made on the carrying list as on the carried one
  pub applied_map : (d : A) (e : B) (i j : ℕ) (l : List A) (x : Move A) → applied e i j (map f l) (map_move f x) ≡ map_after (applied d i j l x)
  unfolding applied
  applied_map d e i j l (refuse r) = refl
  applied_map d e i j l drops = ap next (drop_map f d e l i j)
  applied_map d e i j l (joins x) = ap next (join_map f d e l i j x)
  applied_map d e i j l (splits x y) = ap next (split_map f l i x y)
  applied_map d e i j l (turns x y) = ap next (turn_map f l i j x y)

  -- and is balanced for w where the move of the carried ones is for w after f
  pub balanced_map : (w : B → Bool) (a b : A) (x : Move A) → Balanced (λ c. w (f c)) a b x → Balanced w (f a) (f b) (map_move f x)
  balanced_map w a b (refuse r) h = tt {0}
  balanced_map w a b drops h = h
  balanced_map w a b (joins x) h = h
  balanced_map w a b (splits x y) h = h
  balanced_map w a b (turns x y) h = h

  pub placed_map : (count room i j : ℕ) (x : Move A) → Placed count room i j x → Placed count room i j (map_move f x)
  unfolding Placed
  placed_map count room i j (refuse r) p = p
  placed_map count room i j drops p = p
  placed_map count room i j (joins x) p = p
  placed_map count room i j (splits x y) p = p
  placed_map count room i j (turns x y) p = p

  -- what is written by a move whose places are there, place i among them
  pub writes_map : (P : A → Type 0) (Q : B → Type 0) (count room i j : ℕ) → ((x : A) → i < count → P x → Q (f x))
      → (x : Move A) → Placed count room i j x → Writes P x → Writes Q (map_move f x)
  unfolding Writes Placed
  writes_map P Q count room i j h (refuse r) p k = k
  writes_map P Q count room i j h drops p k = k
  writes_map P Q count room i j h (joins x) p k = h x p.first k
  writes_map P Q count room i j h (splits x y) p k = (h x p.inside k.0, h y p.inside k.1)
  writes_map P Q count room i j h (turns x y) p k = (h x p.first k.0, h y p.first k.1)

  -- and is sound where that of the carried ones is
  pub sound_map : (P : A → Type 0) (Q : B → Type 0) (Fair : (A → Bool) → Type 0) (Fair' : (B → Bool) → Type 0)
      → (count room i j : ℕ) → ((x : A) → i < count → P x → Q (f x)) → ((w : B → Bool) → Fair' w → Fair (λ x. w (f x)))
      → (a b : A) (x : Move A) → SoundBy P Fair count room i j a b x → SoundBy Q Fair' count room i j (f a) (f b) (map_move f x)
  sound_map P Q Fair Fair' count room i j h k a b x s = record {
    places = placed_map count room i j x s.places;
    good = writes_map P Q count room i j h x s.places s.good;
    balanced = λ w fair. balanced_map w a b x (s.balanced (λ c. w (f c)) (k w fair));
  }

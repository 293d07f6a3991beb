-- The pending orders, all taken back at once, undo the L steps of a script one by one, the last one first.
-- Assumes nothing.
use mathlib.Core.Path.{◌≡◌, refl, sym, ap, ap₂, ◌∙◌, subst}
use mathlib.Core.Logic.{◌≢◌}
use mathlib.Core.List.{List, [], ◌∷◌, map}
use Prim.Native.Nat.{ℕ, zero, suc, ◌≤◌, ◌<◌}
use native.Mathlib.Nat.{not-suc-le-zero, le_trans}
use native.Mathlib.Decide.{ℕ_discrete}
use native.Mathlib.Omega.{arith}
use lib.ListN.{length, get_or, set, replicate, length-set}
use lib.Seq.{get_or-set_same, get_or-set_other}
use Rattle.bits.specs.Sums.{All}
use Rattle.bits.proofs.Sums.{all_map, all_set, all_get_or, map_same, map_map, map_each}
use Rattle.records.proofs.Filling.{zeros_at}
use Rattle.cube.specs.declared.Cube.{Cube}
use Rattle.cube.specs.Cubes.{code, Good}
use Rattle.cube.specs.Lists.{most_variables}
use Rattle.cube.proofs.Codes.{code_lt, cube_ext}
use Rattle.orders.specs.Codes.{exchange}
use Rattle.orders.specs.Orders.{order_count, no_order, code_after, follow, inverse, letter_order}
use Rattle.orders.proofs.Codes.{exchange_permutes}
use Rattle.orders.proofs.Orders.{code_after_permutes, follow_lt, inverse_lt, code_after_follow, inverse_following, code_after_none, inverse_none, letter_lt, code_after_letter, letter_inverse}
use Rattle.steps.specs.Steps.{Step, drop, join, split, turn, L, Allowed, exchanged, reordered}
use Rattle.steps.proofs.Linear.{exchanged_moved, reordered_moved, code_moved, code_moved_other, reordered_good}
use Rattle.steps.proofs.Kept.{taken_back, taken_back_good}
use Rattle.script.specs.Run.{unstep, undo}
use Rattle.script.proofs.Runs.{undone_by, undo_by_map, undone_by_good}
use Rattle.script.specs.Pending.{none_pending, pend_step, pend_by, pend, restored}

-- ---- the undoing, cube by cube

abbrev pub undone : List Step → Cube → Cube
undone xs c = undone_by taken_back xs c

pub unstep_map : (x : Step) (l : List Cube) → unstep x l ≡ map (taken_back x) l
unstep_map (drop i j) l = map_same l
unstep_map (join i j) l = map_same l
unstep_map (split v i) l = map_same l
unstep_map (turn v i j) l = map_same l
unstep_map (L v b) l = refl

pub undo_map : (xs : List Step) (l : List Cube) → undo xs l ≡ map (undone xs) l
undo_map xs l = undo_by_map unstep taken_back unstep_map xs l

pub undone_good : (n : ℕ) (xs : List Step) → All (Allowed n) xs → (c : Cube) → Good n c → Good n (undone xs c)
undone_good n xs h c g = undone_by_good taken_back (Good n) (Allowed n) (taken_back_good n) xs h c g

pub undo_good : (n : ℕ) (xs : List Step) → All (Allowed n) xs → (l : List Cube) → All (Good n) l → All (Good n) (undo xs l)
undo_good n xs h l a = subst (All (Good n)) (sym (undo_map xs l)) (all_map (Good n) (Good n) (undone xs) (undone_good n xs h) l a)

-- ---- the pending orders are orders, as many as before

abbrev pub IsOrder : ℕ → Type 0
IsOrder o = o < order_count

order_at : (os : List ℕ) (v : ℕ) → All IsOrder os → get_or os v no_order < order_count
order_at os v a = all_get_or IsOrder os v no_order a (omega arith)

pub pend_step_orders : (os : List ℕ) (x : Step) → All IsOrder os → All IsOrder (pend_step os x)
pend_step_orders os (drop i j) a = a
pend_step_orders os (join i j) a = a
pend_step_orders os (split v i) a = a
pend_step_orders os (turn v i j) a = a
pend_step_orders os (L v b) a =
    all_set IsOrder os v (follow (get_or os v no_order) (letter_order b)) a (follow_lt (get_or os v no_order) (letter_order b) (order_at os v a) (letter_lt b))

pub pend_step_length : (os : List ℕ) (x : Step) → length (pend_step os x) ≡ length os
pend_step_length os (drop i j) = refl
pend_step_length os (join i j) = refl
pend_step_length os (split v i) = refl
pend_step_length os (turn v i j) = refl
pend_step_length os (L v b) = length-set os v (follow (get_or os v no_order) (letter_order b))

pub pend_orders : (xs : List Step) (os : List ℕ) → All IsOrder os → All IsOrder (pend os xs)
unfolding pend_by
pend_orders [] os a = a
pend_orders (x ∷ xs) os a = pend_orders xs (pend_step os x) (pend_step_orders os x a)

pub none_orders : (k : ℕ) → All IsOrder (replicate k no_order)
none_orders zero = tt
none_orders (suc k) = (omega arith, none_orders k)

-- from none pending: every order is one of the six
pub pending_orders : (xs : List Step) → All (λ o. o < order_count) (pend none_pending xs)
pending_orders xs = pend_orders xs none_pending (none_orders most_variables)

-- ---- the pending orders taken back, variable by variable

module _ (os : List ℕ) (a : All IsOrder os) (c : Cube) where
  back_lt : (k : ℕ) → inverse (get_or os k no_order) < order_count
  back_lt k = inverse_lt (get_or os k no_order) (order_at os k a)

  pub restored_good : (n m : ℕ) → m ≤ n → Good n c → Good n (restored m os c)
  unfolding restored
  restored_good n zero h g = g
  restored_good n (suc m) h g = reordered_good n m (inverse (get_or os m no_order)) h (back_lt m) (restored m os c) (restored_good n m (omega arith) g)

  code_back : (d : Cube) (m : ℕ) → code (reordered m (inverse (get_or os m no_order)) d) m ≡ code_after (inverse (get_or os m no_order)) (code d m)
  code_back d m = ap (λ (x : Cube). code x m) (reordered_moved m (inverse (get_or os m no_order)) d)
      ∙ code_moved (code_after (inverse (get_or os m no_order))) (code_after_permutes (inverse (get_or os m no_order)) (back_lt m)) m d

  code_back_other : (d : Cube) (m k : ℕ) → k ≢ m → code (reordered m (inverse (get_or os m no_order)) d) k ≡ code d k
  code_back_other d m k e = ap (λ (x : Cube). code x k) (reordered_moved m (inverse (get_or os m no_order)) d)
      ∙ code_moved_other (code_after (inverse (get_or os m no_order))) (code_after_permutes (inverse (get_or os m no_order)) (back_lt m)) m d k e

  pub restored_above : (m k : ℕ) → m ≤ k → code (restored m os c) k ≡ code c k
  unfolding restored
  restored_above zero k h = refl
  restored_above (suc m) k h = code_back_other (restored m os c) m k (omega arith) ∙ restored_above m k (omega arith)

  pub restored_code : (m k : ℕ) → k < m → code (restored m os c) k ≡ code_after (inverse (get_or os k no_order)) (code c k)
  unfolding restored
  restored_code zero k h = absurd (not-suc-le-zero h)
  restored_code (suc m) k h =
      elim (ℕ_discrete k m) [
        | yes e ↦ subst (λ (k : ℕ). code (restored (suc m) os c) k ≡ code_after (inverse (get_or os k no_order)) (code c k)) (sym e)
            (code_back (restored m os c) m ∙ ap (code_after (inverse (get_or os m no_order))) (restored_above m m (omega arith)))
        | no d ↦ code_back_other (restored m os c) m k d ∙ restored_code m k (omega arith)
      ]

-- one variable more
pub restored_next : (m : ℕ) (os : List ℕ) (l : List Cube)
    → map (restored (suc m) os) l ≡ map (reordered m (inverse (get_or os m no_order))) (map (restored m os) l)
unfolding restored
restored_next m os l = sym (map_map (reordered m (inverse (get_or os m no_order))) (restored m os) l)

-- no variable
pub restored_none : (os : List ℕ) (l : List Cube) → map (restored 0 os) l ≡ l
unfolding restored
restored_none os l = sym (map_same l)

-- ---- what is pending at a variable, taken back, undoes the L steps there

-- to take back an L step's order after another: its exchange, and then the other taken back
back_letter : (o b x : ℕ) → o < order_count → b < 2 → x < 3 → code_after (inverse o) (exchange b x) ≡ code_after (inverse (follow o (letter_order b))) x
back_letter o b x ho hb hx =
    ap (code_after (inverse o)) (sym (code_after_letter b x hb hx) ∙ ap (λ (q : ℕ). code_after q x) (sym (letter_inverse b hb)))
    ∙ sym (code_after_follow (inverse (letter_order b)) (inverse o) x (inverse_lt (letter_order b) (letter_lt b)) (inverse_lt o ho) hx)
    ∙ ap (λ (q : ℕ). code_after q x) (sym (inverse_following o (letter_order b) ho (letter_lt b)))

-- one step more is pending
pend_step_code : (n : ℕ) (x : Step) → Allowed n x → (os : List ℕ) → All IsOrder os → n ≤ length os → (c : Cube) (k : ℕ)
    → code_after (inverse (get_or os k no_order)) (code (taken_back x c) k) ≡ code_after (inverse (get_or (pend_step os x) k no_order)) (code c k)
pend_step_code n (drop i j) h os a l c k = refl
pend_step_code n (join i j) h os a l c k = refl
pend_step_code n (split v i) h os a l c k = refl
pend_step_code n (turn v i j) h os a l c k = refl
pend_step_code n (L v b) h os a l c k =
    elim (ℕ_discrete k v) [
      | yes e ↦ subst (λ (k : ℕ). code_after (inverse (get_or os k no_order)) (code (exchanged v b c) k) ≡ code_after (inverse (get_or (set os v r) k no_order)) (code c k)) (sym e)
          (ap (code_after (inverse o)) (ap (λ (d : Cube). code d v) (exchanged_moved v b c) ∙ code_moved (exchange b) (exchange_permutes b h.1) v c)
          ∙ back_letter o b (code c v) (order_at os v a) h.1 (code_lt c v)
          ∙ ap (λ (q : ℕ). code_after (inverse q) (code c v)) (sym (get_or-set_same os v r no_order (le_trans h.0 l))))
      | no d ↦ ap₂ (λ (q y : ℕ). code_after (inverse q) y) (sym (get_or-set_other os v k r no_order d))
          (ap (λ (d : Cube). code d k) (exchanged_moved v b c) ∙ code_moved_other (exchange b) (exchange_permutes b h.1) v c k d)
    ]
  where
    o : ℕ
    o = get_or os v no_order

    r : ℕ
    r = follow o (letter_order b)

pend_code : (n : ℕ) (xs : List Step) → All (Allowed n) xs → (os : List ℕ) → All IsOrder os → n ≤ length os → (c : Cube) (k : ℕ)
    → code_after (inverse (get_or os k no_order)) (code (undone xs c) k) ≡ code_after (inverse (get_or (pend os xs) k no_order)) (code c k)
unfolding undone_by pend_by
pend_code n [] h os a l c k = refl
pend_code n (x ∷ xs) h os a l c k =
    pend_step_code n x h.0 os a l (undone xs c) k
    ∙ pend_code n xs h.1 (pend_step os x) (pend_step_orders os x a) (omega (arith, pend_step_length os x)) c k

-- where nothing is pending nothing is taken back
back_none : (k x : ℕ) → x < 3 → code_after (inverse (get_or none_pending k no_order)) x ≡ x
back_none k x h = ap (λ (o : ℕ). code_after (inverse o) x) (sym (zeros_at most_variables k)) ∙ ap (λ (o : ℕ). code_after o x) inverse_none ∙ code_after_none x h

module _ (n : ℕ) (few : n ≤ most_variables) (xs : List Step) (fits : All (Allowed n) xs) where
  pub undone_restored : (c : Cube) → Good n c → undone xs c ≡ restored n (pend none_pending xs) c
  undone_restored c g =
      let os = pend none_pending xs in
      cube_ext n (undone xs c) (restored n os c) (undone_good n xs fits c g) (restored_good os (pending_orders xs) c n n (omega arith) g) (λ k hk.
      sym (back_none k (code (undone xs c) k) (code_lt (undone xs c) k))
      ∙ pend_code n xs fits none_pending (none_orders most_variables) few c k
      ∙ sym (restored_code os (pending_orders xs) c n k hk))

  -- the whole list
  pub undo_pending : (l : List Cube) → All (Good n) l → undo xs l ≡ map (restored n (pend none_pending xs)) l
  undo_pending l a = undo_map xs l ∙ map_each (Good n) (undone xs) (restored n (pend none_pending xs)) undone_restored l a

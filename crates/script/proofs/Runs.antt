-- A run of any kind of steps on any kind of record that ends: its list is fine, and every fair weight has the sum it had. One induction over the script, for
-- all fair weights. Value uses it for cubes, which are fine where they are good, and for linear weights.
-- Assumes nothing.
use mathlib.Core.Path.{◌≡◌, refl, sym, ap, ◌∙◌, subst}
use mathlib.Core.Bool.{Bool}
use mathlib.Core.List.{List, [], ◌∷◌, map}
use Prim.Native.Nat.{ℕ, suc, max}
use native.Mathlib.Omega.{arith}
use lib.ListN.{length}
use Rattle.bits.specs.Sums.{sum, All}
use Rattle.bits.proofs.Sums.{sum_map, all_map, map_same, map_map}
use Rattle.steps.specs.declared.StepRefusal.{StepRefusal}
use Rattle.steps.specs.Moves.{After, stop, next}
use Rattle.script.specs.Run.{Ran, stopped, ended, onward, steps_from, undo_by, finish_by, run_by}

-- ---- runs that end

pub ended_list : {A : Type 0} {l m : List A} {p q : ℕ} → ended l p ≡ ended m q → l ≡ m
ended_list e = cc

pub ended_peak : {A : Type 0} {l m : List A} {p q : ℕ} → ended l p ≡ ended m q → p ≡ q
ended_peak e = cc

pub not_ended : {A : Type 0} {r : StepRefusal} {s p : ℕ} {m : List A} → stopped r s ≡ ended m p → ⊥
not_ended e = let z : ◌≡◌ {A = ℕ} 0 1 = cc in omega arith

-- a step that was done, and the steps after it
pub record OnwardBy {A X : Type 0} (σ : X → List A → After A) (s peak : ℕ) (x : X) (xs : List X) (l m : List A) (p : ℕ) : Type 0 where
  pub between : List A
  pub first : σ x l ≡ next between
  pub rest : steps_from σ (suc s) (max peak (length between)) xs between ≡ ended m p

pub onward_by : {A X : Type 0} (σ : X → List A → After A) (s peak : ℕ) (x : X) (xs : List X) (l m : List A) (p : ℕ)
    → steps_from σ s peak (x ∷ xs) l ≡ ended m p → OnwardBy σ s peak x xs l m p
unfolding steps_from
onward_by {A} σ s peak x xs l m p e = go (σ x l) refl e
  where
    go : (r : After A) → σ x l ≡ r → onward s (λ r. steps_from σ (suc s) (max peak (length r)) xs r) r ≡ ended m p → OnwardBy σ s peak x xs l m p
    go (stop k) f e = absurd (not_ended e)
    go (next r) f e = record { between = r; first = f; rest = e }

-- a run is its steps, and then the undoing
pub record FinishedBy {A X : Type 0} (σ : X → List A → After A) (un : X → List A → List A) (xs : List X) (l m : List A) (peak : ℕ) : Type 0 where
  pub last : List A
  pub steps : steps_from σ 0 (length l) xs l ≡ ended last peak
  pub list : m ≡ undo_by un xs last

pub finished_by : {A X : Type 0} (σ : X → List A → After A) (un : X → List A → List A) (xs : List X) (l m : List A) (peak : ℕ)
    → run_by σ un xs l ≡ ended m peak → FinishedBy σ un xs l m peak
finished_by {A} σ un xs l m peak e = go (steps_from σ 0 (length l) xs l) refl e
  where
    go : (r : Ran A) → steps_from σ 0 (length l) xs l ≡ r → finish_by (undo_by un xs) r ≡ ended m peak → FinishedBy σ un xs l m peak
    go (stopped k s) f e = absurd (not_ended e)
    go (ended r p) f e = record { last = r; steps = f ∙ ap (ended r) (ended_peak e); list = sym (ended_list e) }

-- ---- the undoing, record by record

unfoldable pub undone_by : {A X : Type 0} → (X → A → A) → List X → A → A
undone_by back [] c = c
undone_by back (x ∷ xs) c = back x (undone_by back xs c)

pub undo_by_map : {A X : Type 0} (un : X → List A → List A) (back : X → A → A) → ((x : X) (l : List A) → un x l ≡ map (back x) l)
    → (xs : List X) (l : List A) → undo_by un xs l ≡ map (undone_by back xs) l
unfolding undo_by undone_by
undo_by_map un back h [] l = map_same l
undo_by_map un back h (x ∷ xs) l = h x (undo_by un xs l) ∙ ap (map (back x)) (undo_by_map un back h xs l) ∙ map_map (back x) (undone_by back xs) l

pub undone_by_good : {A X : Type 0} (back : X → A → A) (Fine : A → Type 0) (Allowed : X → Type 0) → ((x : X) → Allowed x → (c : A) → Fine c → Fine (back x c))
    → (xs : List X) → All Allowed xs → (c : A) → Fine c → Fine (undone_by back xs c)
unfolding undone_by
undone_by_good back Fine Allowed h [] f c g = g
undone_by_good back Fine Allowed h (x ∷ xs) f c g = h x f.0 (undone_by back xs c) (undone_by_good back Fine Allowed h xs f.1 c g)

-- ---- fine lists stay fine, and every fair weight keeps its sum, up to the undoing

pub record KeptBy {A : Type 0} (back : A → A) (Fine : A → Type 0) (Fair : (A → Bool) → Type 0) (l m : List A) : Type 0 where
  pub good : All Fine m
  pub sums : (w : A → Bool) → Fair w → sum (λ c. w (back c)) m ≡ sum w l

-- steps that keep them, one by one
pub record Keeping {A X : Type 0} (σ : X → List A → After A) (un : X → List A → List A) (back : X → A → A) (Fine : A → Type 0) (Fair : (A → Bool) → Type 0)
    (Allowed : X → Type 0) : Type 0 where
  pub undone : (x : X) (l : List A) → un x l ≡ map (back x) l
  pub good : (x : X) → Allowed x → (c : A) → Fine c → Fine (back x c)
  pub fair : (x : X) → Allowed x → (w : A → Bool) → Fair w → Fair (λ c. w (back x c))
  pub kept : (x : X) (l m : List A) → Allowed x → All Fine l → σ x l ≡ next m → KeptBy (back x) Fine Fair l m

module _ {A X : Type 0} (σ : X → List A → After A) (un : X → List A → List A) (back : X → A → A) (Fine : A → Type 0) (Fair : (A → Bool) → Type 0)
    (Allowed : X → Type 0) (k : Keeping σ un back Fine Fair Allowed) where
  pub steps_end_by : (s peak : ℕ) (xs : List X) (l m : List A) (p : ℕ) → All Allowed xs → All Fine l → steps_from σ s peak xs l ≡ ended m p
      → KeptBy (undone_by back xs) Fine Fair l m
  unfolding steps_from undone_by
  steps_end_by s peak [] l m p h a e = subst (λ (r : List A). KeptBy (undone_by back []) Fine Fair l r) (ended_list e) (record { good = a; sums = λ w fair. refl })
  steps_end_by s peak (x ∷ xs) l m p h a e =
      let o = onward_by σ s peak x xs l m p e in
      let q = k.kept x l o.between h.0 a o.first in
      let t = steps_end_by (suc s) (max peak (length o.between)) xs o.between m p h.1 q.good o.rest in
      record { good = t.good; sums = λ w fair. t.sums (λ c. w (back x c)) (k.fair x h.0 w fair) ∙ q.sums w fair }

  -- a whole run
  pub run_by_kept : (xs : List X) (l m : List A) (peak : ℕ) → All Allowed xs → All Fine l → run_by σ un xs l ≡ ended m peak → KeptBy (λ c. c) Fine Fair l m
  run_by_kept xs l m peak h a e =
      let f = finished_by σ un xs l m peak e in
      let t = steps_end_by 0 (length l) xs l f.last peak h a f.steps in
      let is : m ≡ map (undone_by back xs) f.last = f.list ∙ undo_by_map un back k.undone xs f.last in
      record {
        good = subst (All Fine) (sym is) (all_map Fine Fine (undone_by back xs) (undone_by_good back Fine Allowed k.good xs h) f.last t.good);
        sums = λ w fair. ap (sum w) is ∙ sum_map w (undone_by back xs) f.last ∙ t.sums w fair;
      }

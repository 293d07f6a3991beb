-- A run by the records of the steps, as the run by their meanings; and what is answered and left of it. For any kind of record and of step, and for cubes.
-- Assumes nothing.
use mathlib.Core.Path.{◌≡◌, refl, sym, ap, ap₂, ◌∙◌, subst}
use mathlib.Core.Bool.{Bool, true, false, cond}
use mathlib.Core.List.{List, [], ◌∷◌, map}
use Prim.Native.Nat.{ℕ, suc, ◌*◌, ◌≤◌, ◌<◌, max}
use native.Mathlib.Omega.{arith}
use lib.Dec.{eqb}
use lib.ListN.{length, length-map}
use Rattle.std.specs.Prelude.{Result, Ok, Err, IsErr, IsErrAnd, IfOk}
use Rattle.bits.specs.Sums.{All}
use Rattle.bits.proofs.Sums.{all_each}
use Rattle.records.specs.declared.Refusal.{Refusal}
use Rattle.records.specs.Records.{Codec, Holds, records, image}
use Rattle.records.proofs.Records.{Lawful, length_records, held_fits, holds_records, image_holds}
use Rattle.orders.specs.Orders.{order_count}
use Rattle.steps.specs.declared.StepRecord.{StepRecord}
use Rattle.steps.specs.Steps.{meaning}
use Rattle.records.specs.Answers.{Outcome, accepted, refused, and_then, Accepts}
use Rattle.steps.specs.Moves.{After, stop, next}
use Rattle.steps.specs.Calls.{ReadyBy}
use Rattle.steps.proofs.Onward.{Stepwise}
use Rattle.cube.specs.declared.Cube.{Cube}
use Rattle.script.specs.declared.Ended.{Ended}
use Rattle.script.specs.declared.Peaked.{Peaked}
use Rattle.script.specs.Run.{Ran, stopped, ended, onward, steps_from, undo_by, finish_by}
use Rattle.script.specs.Pending.{pend_step, pend_by}
use Rattle.script.specs.Calls.{ran_outcome, ran_work_by, work_after_by}
use Rattle.script.specs.Progress.{pend_record, reached, run_back, SteppingBy, AnsweredBy}
use Rattle.script.proofs.Pending.{pend_step_orders}
use Rattle.script.proofs.Runs.{ended_list, onward_by}

err_not_ok : {A E : Type 0} {a : A} {e : E} → ◌≡◌ {A = Result A E} (Err e) (Ok a) → ⊥
err_not_ok f = let z : ◌≡◌ {A = ℕ} 0 1 = cc in omega arith

err_same : {A E : Type 0} {e f : E} → ◌≡◌ {A = Result A E} (Err e) (Err f) → e ≡ f
err_same g = cc

ok_same : {A E : Type 0} {a b : A} → ◌≡◌ {A = Result A E} (Ok a) (Ok b) → a ≡ b
ok_same g = cc

-- a refusal that `?` hands on
pub handed : {A E : Type 0} (r : Result A E) (e : E) → IsErr r × IsErrAnd r (λ (f : E). f ≡ e) → ◌≡◌ {A = Result A E} (Err e) r
handed (Ok a) e p = absurd p.1
handed (Err f) e p = ap Err (sym p.1)

-- ---- the steps by their records, and by their meanings

module _ {A X Y : Type 0} (σ : X → List A → After A) (mean : Y → X) where
  pub steps_mean : (s p : ℕ) (ys : List Y) (l : List A) → steps_from (λ y. σ (mean y)) s p ys l ≡ steps_from σ s p (map mean ys) l
  unfolding steps_from
  steps_mean s p [] l = refl
  steps_mean s p (y ∷ ys) l = go (σ (mean y) l) (λ m. steps_mean (suc s) (max p (length m)) ys m)
    where
      go : (e : After A)
          → ((m : List A) → steps_from (λ z. σ (mean z)) (suc s) (max p (length m)) ys m ≡ steps_from σ (suc s) (max p (length m)) (map mean ys) m)
          → onward s (λ m. steps_from (λ z. σ (mean z)) (suc s) (max p (length m)) ys m) e
          ≡ onward s (λ m. steps_from σ (suc s) (max p (length m)) (map mean ys) m) e
      go (stop r) ih = refl
      go (next m) ih = ih m

pub pend_mean : {X Y : Type 0} (one : List ℕ → Y → List ℕ) (other : List ℕ → X → List ℕ) (mean : Y → X) (Fits : Y → Type 0)
    → ((os : List ℕ) (y : Y) → Fits y → one os y ≡ other os (mean y)) → (ys : List Y) → All Fits ys → (os : List ℕ) → pend_by one os ys ≡ pend_by other os (map mean ys)
unfolding pend_by
pend_mean one other mean Fits same [] a os = refl
pend_mean one other mean Fits same (y ∷ ys) a os =
    ap (λ (ps : List ℕ). pend_by one ps ys) (same os y a.0) ∙ pend_mean one other mean Fits same ys a.1 (other os (mean y))

-- what the steps answer and leave
module _ {A X Y : Type 0} (C : Codec A) (σ : X → List A → After A) (mean : Y → X) (Fine Good : A → Type 0) (h : (a : A) → Fine a → Good a) (n cap first : ℕ)
    (ys : List Y) (pending pending' work work' : List ℕ) (same : pending ≡ pending') where
  ready_each : (r : Result Ended Refusal) → IfOk r (λ e. ReadyBy C Fine n e.count cap work') → IfOk r (λ e. ReadyBy C Good n e.count cap work')
  ready_each (Ok e) r = record { held = r.held; good = all_each Fine Good h _ r.good; few = r.few; room = r.room }
  ready_each (Err q) r = tt

  pub stepping_mean : (r : Result Ended Refusal) → SteppingBy C (λ y. σ (mean y)) Fine n cap first ys pending work work' r
      → SteppingBy C σ Good n cap first (map mean ys) pending' work work' r
  stepping_mean r s = record {
    answer = s.answer ∙ ap₂ reached (steps_mean σ mean 0 first ys _) same;
    buffer = s.buffer ∙ ap (ran_work_by C (length work)) (steps_mean σ mean 0 first ys _);
    ready = ready_each r s.ready;
  }

-- ---- what is pending, taken back

module _ {A X : Type 0} (C : Codec A) (σ : X → List A → After A) (Fine : A → Type 0) (Allowed : X → Type 0) (cap : ℕ) (K : Stepwise C σ Fine Allowed cap) where
  -- the steps leave a fine list
  steps_fine : (s p : ℕ) (xs : List X) (l m : List A) (q : ℕ) → All Allowed xs → All Fine l → steps_from σ s p xs l ≡ ended m q → All Fine m
  unfolding steps_from
  steps_fine s p [] l m q h a e = subst (All Fine) (ended_list e) a
  steps_fine s p (x ∷ xs) l m q h a e =
      let o = onward_by σ s p x xs l m q e in
      steps_fine (suc s) (max p (length o.between)) xs o.between m q h.1 (K.good x l o.between h.0 a o.first) o.rest

  -- so that what takes back the orders in a fine list undoes the steps
  pub back_undoes : (un : X → List A → List A) (xs : List X) (back : A → A) → ((m : List A) → All Fine m → undo_by un xs m ≡ map back m)
      → (s p : ℕ) (l : List A) → All Allowed xs → All Fine l → finish_by (map back) (steps_from σ s p xs l) ≡ finish_by (undo_by un xs) (steps_from σ s p xs l)
  back_undoes un xs back restores s p l h a = go (steps_from σ s p xs l) refl
    where
      go : (t : Ran A) → steps_from σ s p xs l ≡ t → finish_by (map back) t ≡ finish_by (undo_by un xs) t
      go (stopped r k) e = refl
      go (ended m q) e = ap (λ (k : List A). ended k q) (sym (restores m (steps_fine s p xs l m q h a e)))

-- ---- what is answered and left after the steps

-- every pending order is one of the six
pend_record_orders : (os : List ℕ) (x : StepRecord) → All (λ o. o < order_count) os → All (λ o. o < order_count) (pend_record os x)
pend_record_orders os x a = go (eqb x.op 5)
  where
    go : (b : Bool) → All (λ o. o < order_count) (cond b (pend_step os (meaning x)) os)
    go true = pend_step_orders os (meaning x) a
    go false = a

pub record_orders : (rs : List StepRecord) (os : List ℕ) → All (λ o. o < order_count) os → All (λ o. o < order_count) (pend_by pend_record os rs)
unfolding pend_by
record_orders [] os a = a
record_orders (r ∷ rs) os a = record_orders rs (pend_record os r) (pend_record_orders os r a)

module _ {A X : Type 0} (C : Codec A) (K : Lawful C) (σ : X → List A → After A) (Fine : A → Type 0) (n cap first : ℕ) (xs : List X) (pending work w : List ℕ) where
  abbrev steps : ℕ → Ran A
  steps k = steps_from σ 0 k xs (records C first work)

  from_list : steps first ≡ steps (length (records C first work))
  from_list = ap steps (sym (length_records C first work))

  -- refused at a step
  pub back_stopped : (f : List A → List A) (q : Refusal) → SteppingBy C σ Fine n cap first xs pending work w (Err q)
      → AnsweredBy C (finish_by f (steps (length (records C first work)))) work w (Err q)
  back_stopped f q s = subst (λ (t : Ran A). AnsweredBy C (finish_by f t) work w (Err q)) from_list (go (steps first) s.answer s.buffer)
    where
      go : (t : Ran A) → ◌≡◌ {A = Result Ended Refusal} (Err q) (reached t pending) → w ≡ ran_work_by C (length work) t → AnsweredBy C (finish_by f t) work w (Err q)
      go (stopped why k) e b = record { answer = ap refused (err_same e); buffer = b }
      go (ended m p) e b = absurd (err_not_ok e)

  -- done to the end, and each record changed by g
  module _ (e : Ended) (s : SteppingBy C σ Fine n cap first xs pending work w (Ok e)) where
    pub back_orders : e.pending ≡ pending
    back_orders = go (steps first) s.answer
      where
        go : (t : Ran A) → ◌≡◌ {A = Result Ended Refusal} (Ok e) (reached t pending) → e.pending ≡ pending
        go (stopped why k) f = absurd (err_not_ok (sym f))
        go (ended m p) f = ap (λ (x : Ended). x.pending) (ok_same f)

    pub back_ended : (g : A → A) (count : ℕ) → count ≡ e.count → length w ≡ length work → (w' : List ℕ) → w' ≡ image C (length w) (map g (records C count w))
        → AnsweredBy C (finish_by (map g) (steps (length (records C first work)))) work w' (Ok (record { count = e.count; peak = e.peak }))
    back_ended g count many long w' is =
        subst (λ (t : Ran A). AnsweredBy C (finish_by (map g) t) work w' (Ok (record { count = e.count; peak = e.peak }))) from_list (go (steps first) s.answer s.buffer)
      where
        go : (t : Ran A) → ◌≡◌ {A = Result Ended Refusal} (Ok e) (reached t pending) → w ≡ ran_work_by C (length work) t
            → AnsweredBy C (finish_by (map g) t) work w' (Ok (record { count = e.count; peak = e.peak }))
        go (stopped why k) f b = absurd (err_not_ok (sym f))
        go (ended m p) f b =
            let same : e ≡ record { count = length m; peak = p; pending = pending } = ok_same f in
            let count_is : e.count ≡ length m = ap (λ (x : Ended). x.count) same in
            let peak_is : e.peak ≡ p = ap (λ (x : Ended). x.peak) same in
            let fits : C.width * length m ≤ length work =
            subst (λ (k : ℕ). C.width * length m ≤ k) long (subst (λ (k : ℕ). C.width * k ≤ length w) count_is (held_fits C K e.count w s.ready.held)) in
            let list : records C count w ≡ m =
            ap (λ (k : ℕ). records C k w) (many ∙ count_is)
            ∙ holds_records C K w m (subst (λ (y : List ℕ). Holds C y m) (sym b) (image_holds C K (length work) m fits)) in
            record {
              answer =
                  ap₂ (λ (k q : ℕ). accepted (k ∷ q ∷ [])) (count_is ∙ sym (length-map m g)) peak_is;
              buffer = is ∙ ap₂ (λ (room : ℕ) (l : List A). image C room (map g l)) long list;
            }

-- ---- two runs that are the same where the checks pass

module _ {A : Type 0} (C : Codec A) (o : Outcome) (t u : Ran A) (same : Accepts o → t ≡ u) where
  pub outcome_same : and_then o (ran_outcome t) ≡ and_then o (ran_outcome u)
  outcome_same = go o refl
    where
      go : (q : Outcome) → o ≡ q → and_then q (ran_outcome t) ≡ and_then q (ran_outcome u)
      go (accepted v) e = ap ran_outcome (same (record { values = v; is = e }))
      go (refused r) e = refl

  pub after_same : (work : List ℕ) → work_after_by C o work t ≡ work_after_by C o work u
  after_same work = go o refl
    where
      go : (q : Outcome) → o ≡ q → work_after_by C q work t ≡ work_after_by C q work u
      go (accepted v) e = ap (ran_work_by C (length work)) (same (record { values = v; is = e }))
      go (refused r) e = refl

-- ---- a list that stands in other words

module _ {A : Type 0} (C : Codec A) (on : (Cube → Cube) → A → A) (step : ℕ → ℕ → StepRecord → List A → After A) (fine : ℕ → A → Bool) (rs : List StepRecord)
    (pending w : List ℕ) where
  pub stepping_same : (n n' cap cap' count count' : ℕ) (b b' w' : List ℕ) (r : Result Ended Refusal) → n ≡ n' → cap ≡ cap' → count ≡ count' → b ≡ b' → w ≡ w'
      → SteppingBy C (step n cap) (λ a. fine n a ≡ true) n cap count rs pending b w r → SteppingBy C (step n' cap') (λ a. fine n' a ≡ true) n' cap' count' rs pending b' w' r
  stepping_same n n' cap cap' count count' b b' w' r en ec eo eb ew s =
      subst (λ (k : ℕ). SteppingBy C (step k cap') (λ a. fine k a ≡ true) k cap' count' rs pending b' w' r) en
      (subst (λ (k : ℕ). SteppingBy C (step n k) (λ a. fine n a ≡ true) n k count' rs pending b' w' r) ec
      (subst (λ (k : ℕ). SteppingBy C (step n cap) (λ a. fine n a ≡ true) n cap k rs pending b' w' r) eo
      (subst (λ (x : List ℕ). SteppingBy C (step n cap) (λ a. fine n a ≡ true) n cap count rs pending x w' r) eb
      (subst (λ (x : List ℕ). SteppingBy C (step n cap) (λ a. fine n a ≡ true) n cap count rs pending b x r) ew s))))

  pub answered_same : (n n' cap cap' : ℕ) (l l' : List A) (b b' w' : List ℕ) (r : Result Peaked Refusal) → n ≡ n' → cap ≡ cap' → l ≡ l' → length b ≡ length b' → w ≡ w'
      → AnsweredBy C (run_back on (step n cap) n rs l) b w r → AnsweredBy C (run_back on (step n' cap') n' rs l') b' w' r
  answered_same n n' cap cap' l l' b b' w' r en ec el eb ew s =
      subst (λ (k : ℕ). AnsweredBy C (run_back on (step k cap') k rs l') b' w' r) en
      (subst (λ (k : ℕ). AnsweredBy C (run_back on (step n k) n rs l') b' w' r) ec
      (subst (λ (k : List A). AnsweredBy C (run_back on (step n cap) n rs k) b' w' r) el
      (subst (λ (x : List ℕ). AnsweredBy C (run_back on (step n cap) n rs l) b' x r) ew
      (record { answer = s.answer; buffer = s.buffer ∙ ap (λ (k : ℕ). ran_work_by C k (run_back on (step n cap) n rs l)) eb }))))

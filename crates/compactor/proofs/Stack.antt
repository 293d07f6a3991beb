-- The stack of the numbers of the steps that are kept: its steps are those of the pass.
-- Assumes nothing.
use mathlib.Core.Path.{◌≡◌, refl, sym, ap, ap₂, ◌∙◌, subst}
use mathlib.Core.Bool.{Bool, true, false, cond, false≢true}
use mathlib.Core.List.{List, [], ◌∷◌, ◌++◌, map, map-append, append_assoc}
use Prim.Native.Nat.{ℕ, zero, suc, ◌+◌, ◌-◌, ◌/◌, ◌≤◌, ◌<◌, zero-le}
use native.Mathlib.Numerals.{add-one}
use native.Mathlib.Omega.{arith}
use lib.ListN.{length, get_or, set, take, drop, length-map, length-take, length-set, drop_of_length-le}
use lib.Seq.{get_or-take, take-suc, take-suc-set, drop-cons}
use borrow.Author.Tests.{eq-eqb, ne_eqb}
use Rattle.bits.specs.Sums.{All}
use Rattle.bits.proofs.Sums.{all_get, all_parts, all_snoc, all_each}
use Rattle.records.specs.Records.{list_of}
use Rattle.cube.specs.Lists.{most_records}
use Rattle.steps.specs.Steps.{Step, drop as dropping, join, split, turn, L, meaning}
use Rattle.script.specs.Scripts.{step_records, step_width, most_steps, record_of, steps_of}
use Rattle.compactor.specs.Compact.{step_pair, count_after, count_along}
use Rattle.compactor.specs.declared.Halves.{Halves}
use Rattle.compactor.specs.StepBytes.{record_at, halves_at, operation_of, half_pair}
use Rattle.compactor.specs.Keeping.{most_count, count_by, Faithful, taken_off, top_after, kept_after, step_at, StepsKept}
use Rattle.script.proofs.Scripts.{length_script, meaning_at}
use Rattle.compactor.proofs.Pairs.{count_of, count_most}
use Rattle.compactor.proofs.StepBytes.{at_halves, at_small, half_pair_lem, operation_is}
use Rattle.compactor.proofs.Passing.{along_snoc, Passing, passing_start, passing_first, passing_off, passing_on, passing_end}

-- a step of a script whose records are those of their steps
pub faithful_at : (b : List ℕ) (k : ℕ) → Faithful b → k < length (steps_of b) → record_of (meaning (record_at b k)) ≡ record_at b k
unfolding Faithful steps_of
faithful_at b k m h =
    all_get (λ r. record_of (meaning r) ≡ r) (list_of step_records b) k step_records.none m (omega (arith, length-map (list_of step_records b) meaning))

-- ---- whether a step takes the last one off, by whether there is one

module _ (b kept : List ℕ) (top count : ℕ) (x : Halves) where
  pub off_none : top ≡ 0 → false ≡ taken_off b kept top count x
  unfolding taken_off
  off_none e = sym (ap (λ (t : Bool). cond t false (half_pair (count - 1) (halves_at b (get_or kept (top - 1) 0)) x)) (eq-eqb top 0 e))

  pub off_last : (top ≡ 0 → ⊥) → (last : ℕ) → last ≡ get_or kept (top - 1) 0 → (c : ℕ) → c ≡ count - 1
      → (y : Halves) → y ≡ halves_at b last → (r : Bool) → r ≡ half_pair c y x → r ≡ taken_off b kept top count x
  unfolding taken_off
  off_last ne last el c ec y ey r er =
      er ∙ ap₂ (λ (i : ℕ) (z : Halves). half_pair i z x) ec (ey ∙ ap (halves_at b) el)
      ∙ sym (ap (λ (t : Bool). cond t false (half_pair (count - 1) (halves_at b (get_or kept (top - 1) 0)) x)) (ne_eqb top 0 ne))

-- the count before the last step kept, where it matters: where that is a split, one less
pair_now : (c along : ℕ) (t x : Step) → along ≡ count_after c t → step_pair (along - 1) t x ≡ step_pair c t x
unfolding step_pair count_after
pair_now c along (dropping i j) x e = refl
pair_now c along (join i j) x e = refl
pair_now c along (split v i) x e = let z : along - 1 ≡ c = omega arith in ap (λ (k : ℕ). step_pair k (split v i) x) z
pair_now c along (turn v i j) x e = refl
pair_now c along (L v b) x e = refl

-- ---- the loop

-- k steps are looked at
pub record Stacked (size : ℕ) (b : List ℕ) (first : ℕ) (kept : List ℕ) (top count k : ℕ) : Type 0 where
  pub long : length kept ≡ size
  pub below : k ≤ length (steps_of b)
  pub few : top ≤ k
  pub inside : All (λ t. t < k) (take top kept)
  pub passing : Passing first (steps_of b) (map (step_at (steps_of b)) (take top kept)) (drop k (steps_of b)) count
  pub small : count ≤ first + k

module _ (b : List ℕ) (first size : ℕ) (room : (length (steps_of b) ≤ most_steps) × (length (steps_of b) ≤ size) × (first ≤ most_records)) where
  abbrev xs : List Step
  xs = steps_of b

  pub keeping_start : (kept : List ℕ) → length kept ≡ size → Stacked size b first kept 0 first 0
  keeping_start kept e = record { long = e; below = zero-le; few = zero-le; inside = tt; passing = passing_start first xs; small = omega arith }

  module _ (kept : List ℕ) (top count k : ℕ) (g : Stacked size b first kept top count k) where
    pub keeping_room : top ≤ length kept
    keeping_room = omega (arith, g.few, g.below, g.long, room.1)

    pub keeping_count : count ≤ most_count
    keeping_count = omega (arith, g.small, g.below, room.0, room.2)

    pub keeping_end : length b / step_width ≤ k → StepsKept first (steps_of b) kept top
    keeping_end h = record {
      inside = all_each (λ t. t < k) (λ t. t < length xs) (λ t l. omega (arith, g.below)) (take top kept) g.inside;
      room = keeping_room;
      left = passing_end first xs (map (step_at xs) (take top kept)) count
          (subst (λ (l : List Step). Passing first xs (map (step_at xs) (take top kept)) l count) (drop_of_length-le xs {i = k} (omega (arith, length_script b))) g.passing);
    }

    -- the last number kept is that of a step
    pub keeping_last : k < length b / step_width → 0 < top → get_or kept (top - 1) 0 < length b / step_width
    keeping_last h some =
        let taken : length (take top kept) ≡ top = omega (arith, length-take top kept, keeping_room) in
        omega (arith, all_get (λ t. t < k) (take top kept) (top - 1) 0 g.inside (omega arith), get_or-take top kept (top - 1) 0 (omega arith))

    module _ (m : Faithful b) (h : k < length b / step_width) where
      k_lt : k < length (steps_of b)
      k_lt = omega (arith, length_script b)

      pub keeping_more_room : top < length kept
      keeping_more_room = omega (arith, g.few, k_lt, g.long, room.1)

      next_step : drop k xs ≡ step_at xs k ∷ drop (suc k) xs
      next_step = drop-cons xs k (dropping 0 0) k_lt

      -- the state after step k, whatever is kept
      next : (kept' : List ℕ) (top' : ℕ) → length kept' ≡ length kept → top' ≤ top + 1 → All (λ t. t < k + 1) (take top' kept')
          → Passing first xs (map (step_at xs) (take top' kept')) (drop (suc k) xs) (count_after count (step_at xs k))
          → Stacked size b first kept' top' (count_after count (step_at xs k)) (k + 1)
      next kept' top' el et a p = record {
        long = el ∙ g.long;
        below = omega (arith, k_lt);
        few = omega (arith, g.few);
        inside = a;
        passing = subst (λ (j : ℕ). Passing first xs (map (step_at xs) (take top' kept')) (drop j xs) (count_after count (step_at xs k))) (sym (add-one k)) p;
        small = omega (arith, g.small, count_most count (step_at xs k));
      }

      -- step k put on
      on : (ys : List Step) → ys ≡ map (step_at xs) (take top kept) ++ step_at xs k ∷ [] → Passing first xs ys (drop (suc k) xs) (count_after count (step_at xs k))
          → Stacked size b first (set kept top k) (top + 1) (count_after count (step_at xs k)) (k + 1)
      on ys ey p =
          let put : take (top + 1) (set kept top k) ≡ take top kept ++ k ∷ []
          = ap (λ (j : ℕ). take j (set kept top k)) (add-one top) ∙ take-suc-set kept top k keeping_more_room in
          next (set kept top k) (top + 1) (length-set kept top k) (omega arith)
          (subst (All (λ t. t < k + 1)) (sym put) (all_snoc (λ t. t < k + 1) (take top kept) k (all_each (λ t. t < k) (λ t. t < k + 1) (λ t l. omega arith) (take top kept) g.inside) (omega arith)))
          (subst (λ (l : List Step). Passing first xs l (drop (suc k) xs) (count_after count (step_at xs k)))
          (ey ∙ sym (map-append (step_at xs) (take top kept) (k ∷ [])) ∙ ap (map (step_at xs)) (sym put)) p)

      module _ (bytes : (i : ℕ) → get_or b i 0 < 256) (x : Halves) (ex : x ≡ halves_at b k) where
        -- nothing is kept
        module _ (e : top ≡ 0) where
          none_kept : map (step_at xs) (take top kept) ≡ []
          none_kept = ap (λ (j : ℕ). map (step_at xs) (take j kept)) e

          put_first : Stacked size b first (set kept top k) (top + 1) (count_after count (step_at xs k)) (k + 1)
          put_first =
              on (step_at xs k ∷ []) (ap (λ (l : List Step). l ++ step_at xs k ∷ []) (sym none_kept))
              (passing_first first xs (step_at xs k) (drop (suc k) xs) count
              (subst (λ (l : List Step). Passing first xs l (step_at xs k ∷ drop (suc k) xs) count) none_kept
              (subst (λ (l : List Step). Passing first xs (map (step_at xs) (take top kept)) l count) next_step g.passing)))

        -- some are, and the last of them is t
        module _ (j : ℕ) (e : top ≡ suc j) where
          abbrev number : ℕ
          number = get_or kept j 0

          abbrev t : Step
          t = step_at xs number

          abbrev before : List Step
          before = map (step_at xs) (take j kept)

          numbers : take top kept ≡ take j kept ++ number ∷ []
          numbers = ap (λ (i : ℕ). take i kept) e ∙ take-suc kept j 0 (omega (arith, keeping_room))

          split_last : map (step_at xs) (take top kept) ≡ before ++ t ∷ []
          split_last = ap (map (step_at xs)) numbers ∙ map-append (step_at xs) (take j kept) (number ∷ [])

          passed : Passing first xs (before ++ t ∷ []) (step_at xs k ∷ drop (suc k) xs) count
          passed =
              subst (λ (l : List Step). Passing first xs l (step_at xs k ∷ drop (suc k) xs) count) split_last
              (subst (λ (l : List Step). Passing first xs (map (step_at xs) (take top kept)) l count) next_step g.passing)

          parts : All (λ i. i < k) (take j kept) × All (λ i. i < k) (number ∷ [])
          parts = all_parts (λ i. i < k) (take j kept) (number ∷ []) (subst (All (λ i. i < k)) numbers g.inside)

          last_off : taken_off b kept top count x ≡ step_pair (count_along first before) t (step_at xs k)
          last_off =
              let z : j ≡ top - 1 = omega arith in
              let inside : number < length b / step_width = omega (arith, parts.1.0) in
              sym (off_last b kept top count x (λ q. omega arith) number (ap (λ (i : ℕ). get_or kept i 0) z) (count - 1) refl (halves_at b number) refl _ refl)
              ∙ ap₂ (half_pair (count - 1)) (at_halves b number inside) (ex ∙ at_halves b k h)
              ∙ half_pair_lem (count - 1) (omega (arith, keeping_count)) (record_at b number) (record_at b k) (at_small b number inside bytes) (at_small b k h bytes)
              (faithful_at b number m (omega (arith, parts.1.0, k_lt))) (faithful_at b k m k_lt)
              ∙ ap₂ (step_pair (count - 1)) (meaning_at b number) (meaning_at b k)
              ∙ pair_now (count_along first before) count t (step_at xs k) (passed.counts ∙ along_snoc first before t)

          take_last : step_pair (count_along first before) t (step_at xs k) ≡ true
              → Stacked size b first kept (top - 1) (count_after count (step_at xs k)) (k + 1)
          take_last f =
              let z : j ≡ top - 1 = omega arith in
              subst (λ (i : ℕ). Stacked size b first kept i (count_after count (step_at xs k)) (k + 1)) z
              (next kept j refl (omega arith) (all_each (λ i. i < k) (λ i. i < k + 1) (λ i l. omega arith) (take j kept) parts.0)
              (passing_off first xs before t (step_at xs k) (drop (suc k) xs) count passed f))

          put_next : step_pair (count_along first before) t (step_at xs k) ≡ false
              → Stacked size b first (set kept top k) (top + 1) (count_after count (step_at xs k)) (k + 1)
          put_next f =
              on (before ++ t ∷ step_at xs k ∷ []) (sym (append_assoc before (t ∷ []) (step_at xs k ∷ [])) ∙ ap (λ (l : List Step). l ++ step_at xs k ∷ []) (sym split_last))
              (passing_on first xs before t (step_at xs k) (drop (suc k) xs) count passed f)

        by_off : (off : Bool) → off ≡ taken_off b kept top count x
            → Stacked size b first (kept_after off kept top k) (top_after off top) (count_after count (step_at xs k)) (k + 1)
        by_off off eo = go top refl off eo
          where
            go : (i : ℕ) → top ≡ i → (off : Bool) → off ≡ taken_off b kept top count x
                → Stacked size b first (kept_after off kept top k) (top_after off top) (count_after count (step_at xs k)) (k + 1)
            go zero e true f = absurd (false≢true (off_none b kept top count x e ∙ sym f))
            go zero e false f = put_first e
            go (suc j) e true f = take_last j e (sym (f ∙ last_off j e))
            go (suc j) e false f = put_next j e (sym (f ∙ last_off j e))

        module _ (off : Bool) (eo : off ≡ taken_off b kept top count x) where
          -- a step is taken off only where one is kept
          pub keeping_some : off ≡ true → 0 < top
          keeping_some e = go top refl
            where
              go : (i : ℕ) → top ≡ i → 0 < top
              go zero z = absurd (false≢true (off_none b kept top count x z ∙ sym eo ∙ e))
              go (suc j) z = omega arith

          pub keeping_more : (top' : ℕ) → top' ≡ top_after off top → (kept' : List ℕ) → kept' ≡ kept_after off kept top k → (c : ℕ) → c ≡ count_by count (operation_of x)
              → Stacked size b first kept' top' c (k + 1)
          keeping_more top' et kept' ek c ec =
              let op_is : operation_of x ≡ (record_at b k).op = ap operation_of (ex ∙ at_halves b k h) ∙ operation_is (record_at b k) (at_small b k h bytes) in
              let step_is : count_by count (operation_of x) ≡ count_after count (step_at xs k) =
              ap (count_by count) op_is ∙ count_of count (record_at b k) ∙ ap (count_after count) (meaning_at b k) in
              subst (λ (i : ℕ). Stacked size b first kept' i c (k + 1)) (sym et)
              (subst (λ (l : List ℕ). Stacked size b first l (top_after off top) c (k + 1)) (sym ek)
              (subst (λ (i : ℕ). Stacked size b first (kept_after off kept top k) (top_after off top) i (k + 1))
              (sym (ec ∙ step_is)) (by_off off eo)))

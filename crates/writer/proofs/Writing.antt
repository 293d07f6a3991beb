-- One step written and done, and the loop over them: its invariant is one record, with the laws of its start, its turn and its two ends.
-- Assumes nothing.
use mathlib.Core.Path.{◌≡◌, refl, sym, ap, ap₂, ◌∙◌, subst}
use mathlib.Core.Bool.{Bool, true, false, not}
use mathlib.Core.Logic.{inr}
use mathlib.Core.List.{List, [], ◌∷◌, map}
use Prim.Native.Nat.{ℕ, zero, suc, ◌+◌, ◌-◌, ◌/◌, ◌≤◌, ◌<◌, zero-le}
use native.Mathlib.Nat.{zero-add, add-zero, mod-eq_of_lt}
use native.Mathlib.Numerals.{add-one}
use native.Mathlib.Omega.{arith}
use lib.Count.{ones, count_trailing_zeros}
use lib.Dec.{eqb}
use lib.ListN.{length, get_or, set, length-set}
use Rattle.std.specs.Prelude.{Option, None, Some, is_none}
use borrow.Author.Tests.{ne_eqb, leb-true}
use Rattle.bits.specs.Sums.{one_if}
use Rattle.records.specs.Records.{Held, Holds, records, written, image, stored}
use Rattle.records.proofs.Records.{length_records, length_stored, held_fits, held_place}
use Rattle.cube.specs.declared.Cube.{Cube}
use Rattle.cube.specs.Cubes.{Good, one, code, with_code, apart, differing_number, DiffersIn}
use Rattle.cube.specs.Lists.{record_width, cubes, cubes_of, most_records}
use Rattle.cube.proofs.Apart.{apart_number}
use Rattle.cube.proofs.Lists.{lawful}
use Rattle.cube.proofs.Masks.{apart_count}
use Rattle.orders.specs.Codes.{third_of}
use Rattle.steps.specs.declared.StepRecord.{StepRecord}
use Rattle.steps.specs.Effects.{TwoPlaces}
use Rattle.steps.specs.Moves.{next, drop_at, join_at}
use Rattle.steps.specs.Steps.{Step, cube_at, third_at, step}
use Rattle.steps.specs.Calls.{Ready, work_stepped}
use Rattle.steps.proofs.decide.Deciding.{join_cube}
use Rattle.steps.proofs.step.Stepping.{step_records_lem, step_long, ready_onward}
use Rattle.script.specs.Scripts.{step_records, most_steps, place_size, narrow_step, record_of}
use Rattle.writer.specs.declared.Pair.{Pair}
use Rattle.writer.specs.Pairs.{pair, has_pair, First}
use Rattle.writer.specs.Easy.{step_by, step_at, easy_step, easy_next, easy_steps, easy_end}
use Rattle.writer.specs.Watching.{Watched, Found, FoundPair, Unmarked, Made, WritingIs}
use Rattle.writer.proofs.Searching.{number_ones, read_cube, read_good}
use Rattle.writer.proofs.Watching.{watched_next}
use Rattle.writer.proofs.Easy.{pair_places, easy_accepted, easy_fewer, easy_fits, first_has, first_step, first_moved, first_dropped, first_joined, steps_pair, end_pair, steps_none, end_none, no_steps, no_end}

-- ---- the record of the step for two cubes: 1 where they are equal, else 2

pub step_written : (n : ℕ) (l : List Cube) (i j : ℕ) (a b : Cube) → a ≡ cube_at l i → b ≡ cube_at l j → Good n a → Good n b → (x : ℕ) → DiffersIn a b x
    → record { op = 1 + one_if (not (eqb (ones x) 0)); v = 0; i = i; j = j; literal = 0; zero = 0 } ≡ record_of (step_at n l i j)
unfolding record_of
step_written n l i j a b ea eb g h x d =
    by (ones x) ∙ ap (λ (k : ℕ). record_of (step_by k i j))
    (ap ones d.fixed ∙ sym (number_ones n a b g h) ∙ ap₂ (differing_number n) ea eb)
  where
    by : (k : ℕ) → ◌≡◌ {A = StepRecord} (record { op = 1 + one_if (not (eqb k 0)); v = 0; i = i; j = j; literal = 0; zero = 0 }) (record_of (step_by k i j))
    by zero = refl
    by (suc k) =
        ap (λ (t : Bool). record { op = 1 + one_if (not t); v = 0; i = i; j = j; literal = 0; zero = 0 }) (ne_eqb (suc k) 0 (λ e. omega arith))

-- ---- one step made

-- the places of a drop or a join fit their two bytes
narrow : (k i j : ℕ) → i < place_size → j < place_size → narrow_step (record_of (step_by k i j)) ≡ record_of (step_by k i j)
unfolding record_of
narrow zero i j g h = λ t. record { op = 1; v = 0; i = mod-eq_of_lt g t; j = mod-eq_of_lt h t; literal = 0; zero = 0 }
narrow (suc k) i j g h = λ t. record { op = 2; v = 0; i = mod-eq_of_lt g t; j = mod-eq_of_lt h t; literal = 0; zero = 0 }

module _ (n count : ℕ) (b : List ℕ) (i j : ℕ) (p : First n (records cubes count b) i j) where
  abbrev l : List Cube
  l = records cubes count b

  size : length (records cubes count b) ≡ count
  size = length_records cubes count b

  pub make_two : TwoPlaces count i j
  make_two = subst (λ (k : ℕ). TwoPlaces k i j) size (pair_places n l i j p)

  pub make_places : (i < count) × (j < count)
  make_places = (make_two.first, make_two.second)

  pub make_held : Held cubes count b → (i < length b / record_width) × (j < length b / record_width)
  make_held held = (held_place cubes lawful count b held i make_two.first, held_place cubes lawful count b held j make_two.second)

  -- the cubes at the two places, as they are read, and the set in which they differ
  module _ (ready : Ready n count count b) (a d : Cube) (ea : a ≡ get_or (cubes_of b) i one) (ed : d ≡ get_or (cubes_of b) j one) (s : ℕ) (es : DiffersIn a d s) where
    good_a : Good n a
    good_a = read_good n count b ready i make_places.0 a ea

    good_d : Good n d
    good_d = read_good n count b ready j make_places.1 d ed

    -- by the variables in which they differ
    apart_is : apart n a d ≡ apart n (cube_at l i) (cube_at l j)
    apart_is = ap₂ (apart n) (read_cube n count b ready i make_places.0 a ea) (read_cube n count b ready j make_places.1 d ed)

    number_is : length (apart n a d) ≡ ones s
    number_is = apart_count n a d good_a good_d ∙ ap ones (sym es.fixed)

    few : length (apart n a d) ≤ 1
    unfolding pair
    few =
        omega (
          arith,
          leb-true (differing_number n (cube_at l i) (cube_at l j)) 1 p.is.near,
          apart_number n (cube_at l i) (cube_at l j),
          ap length apart_is,
        )

    pub pair_dropped : ones s ≡ 0 → (r : ℕ) (b' : List ℕ) → r ≡ length (drop_at one (records cubes count b) i j) → b' ≡ image cubes (length b) (drop_at one (records cubes count b) i j)
        → (r ≡ length (easy_next n (records cubes count b))) × (b' ≡ image cubes (length b) (easy_next n (records cubes count b)))
    pair_dropped z r b' er eb = go (apart n a d) refl (number_is ∙ z)
      where
        go : (vs : List ℕ) → apart n a d ≡ vs → length vs ≡ 0 → (r ≡ length (easy_next n l)) × (b' ≡ image cubes (length b) (easy_next n l))
        go [] e q =
            let same : easy_next n l ≡ drop_at one l i j = first_dropped n l i j p (sym apart_is ∙ e) in
            (er ∙ ap length (sym same), eb ∙ ap (image cubes (length b)) (sym same))
        go (v ∷ vs) e q = absurd (omega arith)

    pub pair_joined : (ones s ≡ 0 → ⊥) → (v : ℕ) → v ≡ count_trailing_zeros 32 s → (c : Cube) → c ≡ with_code a v (third_of (code a v) (code d v)) → (r : ℕ) (b' : List ℕ)
        → r ≡ length (join_at one (records cubes count b) i j c) → b' ≡ image cubes (length b) (join_at one (records cubes count b) i j c)
        → (r ≡ length (easy_next n (records cubes count b))) × (b' ≡ image cubes (length b) (easy_next n (records cubes count b)))
    pair_joined z v ev c ec r b' er eb = go (apart n a d) refl few
      where
        go : (vs : List ℕ) → apart n a d ≡ vs → length vs ≤ 1 → (r ≡ length (easy_next n l)) × (b' ≡ image cubes (length b) (easy_next n l))
        go [] e q = absurd (z (sym number_is ∙ ap length e))
        go (u ∷ []) e q =
            let third : c ≡ third_at (cube_at l i) (cube_at l j) u =
            join_cube n a d good_a good_d ready.few u e s v es.fixed ev c ec
            ∙ ap₂ (λ (x y : Cube). third_at x y u) (read_cube n count b ready i make_places.0 a ea) (read_cube n count b ready j make_places.1 d ed) in
            let same : easy_next n l ≡ join_at one l i j c =
            first_joined n l i j p u (sym apart_is ∙ e) ∙ ap (join_at one l i j) (sym third) in
            (er ∙ ap length (sym same), eb ∙ ap (image cubes (length b)) (sym same))
        go (u ∷ w ∷ vs) e q = absurd (omega arith)

  -- and the step written
  pub make_made : count ≤ most_records → (x : StepRecord) → x ≡ record_of (step_at n (records cubes count b) i j) → (b' script script' : List ℕ) (k r : ℕ)
      → script' ≡ stored step_records script k (narrow_step x) → r ≡ length (easy_next n (records cubes count b))
      → b' ≡ image cubes (length b) (easy_next n (records cubes count b)) → Made n (records cubes count b) k b b' script script' r
  make_made few x ex b' script script' k r es er eb = record {
    many = er;
    buffer = eb;
    bytes =
        es
        ∙ ap (stored step_records script k)
        (ap narrow_step ex ∙ narrow (differing_number n (cube_at l i) (cube_at l j)) i j (omega (arith, make_places.0)) (omega (arith, make_places.1)) ∙ ap record_of (first_step n l i j p));
  }

-- ---- the loop

-- k steps are written and done: the whole script is those and the script of the list that is left in b
pub record Writing (n first : ℕ) (work script marks₀ : List ℕ) (b s marks : List ℕ) (count row k : ℕ) : Type 0 where
  pub ready : Ready n count count b
  pub long : length b ≡ length work
  pub script_long : length s ≡ length script
  pub marks_long : length marks ≡ length marks₀
  pub room : count ≤ length marks₀
  pub few : count ≤ first
  pub limit : k ≤ most_steps
  pub watched : Watched n (records cubes count b) row row marks
  pub steps_so_far : length (easy_steps n most_steps (records cubes first work)) ≡ k + length (easy_steps n (most_steps - k) (records cubes count b))
  pub end_so_far : easy_end n most_steps (records cubes first work) ≡ easy_end n (most_steps - k) (records cubes count b)
  pub bytes_so_far : written step_records 0 (map record_of (easy_steps n most_steps (records cubes first work))) script
      ≡ written step_records k (map record_of (easy_steps n (most_steps - k) (records cubes count b))) s

module _ (n first : ℕ) (work script marks₀ : List ℕ) where
  pub writing_none : Ready n first first work → Unmarked first marks₀ → Writing n first work script marks₀ work script marks₀ first 0 0
  writing_none ready un = record {
    ready = ready;
    long = refl;
    script_long = refl;
    marks_long = refl;
    room = un.room;
    few = omega arith;
    limit = zero-le;
    watched = record { only = λ r s p. inr (zero-le, un.none r) };
    steps_so_far = sym (zero-add (length (easy_steps n most_steps (records cubes first work))));
    end_so_far = refl;
    bytes_so_far = refl;
  }

  module _ (b s marks : List ℕ) (count row k : ℕ) (w : Writing n first work script marks₀ b s marks count row k) where
    abbrev left : List Cube
    left = records cubes count b

    many : length (records cubes count b) ≡ count
    many = length_records cubes count b

    -- the end of the steps, where the list that is left is the end list
    ends : (f : Bool) → easy_steps n (most_steps - k) left ≡ [] → easy_end n (most_steps - k) left ≡ left → f ≡ not (has_pair n left)
        → WritingIs n (records cubes first work) work b script s (record { steps = k; finished = f })
    unfolding written Held Holds
    ends f es el ef = record {
      steps_are = sym (w.steps_so_far ∙ ap (λ (xs : List Step). k + length xs) es ∙ add-zero k);
      finished_is = ef ∙ sym (ap (λ (m : List Cube). not (has_pair n m)) (w.end_so_far ∙ el));
      buffer =
          w.ready.held ∙ ap (λ (t : ℕ). image cubes t left) w.long ∙ ap (image cubes (length work)) (sym (w.end_so_far ∙ el));
      bytes = sym (w.bytes_so_far ∙ ap (λ (xs : List Step). written step_records k (map record_of xs) s) es);
    }

    -- no pair is left
    pub writing_end : has_pair n (records cubes count b) ≡ false → WritingIs n (records cubes first work) work b script s (record { steps = k; finished = true })
    writing_end none = ends true (steps_none n (most_steps - k) left none) (end_none n (most_steps - k) left none) (sym (ap not none))

    -- 1,024 steps are done, and a pair is left or none
    pub writing_limit : most_steps ≤ k → (marks' : List ℕ) (o : Option Pair) → Found n (records cubes count b) marks' o
        → WritingIs n (records cubes first work) work b script s (record { steps = most_steps; finished = is_none o })
    writing_limit g marks' o found =
        subst (λ (m : ℕ). WritingIs n (records cubes first work) work b script s (record { steps = m; finished = is_none o })) (omega (arith, w.limit)) (go o found)
      where
        none : most_steps - k ≡ 0
        none = omega arith

        go : (o : Option Pair) → Found n (records cubes count b) marks' o → WritingIs n (records cubes first work) work b script s (record { steps = k; finished = is_none o })
        go None found = writing_end found
        go (Some p) found =
            ends false (ap (λ (m : ℕ). easy_steps n m left) none ∙ no_steps n left) (ap (λ (m : ℕ). easy_end n m left) none ∙ no_end n left)
            (sym (ap not (first_has n left p.i p.j found.first)))

    module _ (marks' : List ℕ) (p : Pair) (found : FoundPair n (records cubes count b) marks' p) where
      has : has_pair n left ≡ true
      has = first_has n left p.i p.j found.first

      module _ (g : k < most_steps) (long' : length marks' ≡ length marks) (b' s' : List ℕ) (c : ℕ) (made : Made n left k b b' s s' c) where
        e : step n count (easy_step n left) left ≡ next (easy_next n left)
        e = easy_accepted n left has count

        e' : b' ≡ work_stepped b (step n count (easy_step n left) left)
        e' = made.buffer ∙ sym (ap (work_stepped b) e)

        list_is : records cubes c b' ≡ easy_next n left
        list_is = ap (λ (k : ℕ). records cubes k b') made.many ∙ step_records_lem n count count b b' (easy_step n left) (easy_next n left) w.ready e e'

        after : Ready n c count b'
        after =
            subst (λ (k : ℕ). Ready n k count b') (sym made.many)
            (ready_onward n count count b b' (easy_step n left) (easy_next n left) w.ready e e' (easy_fits n left has))

        more : most_steps - k ≡ suc (most_steps - (k + 1))
        more = omega arith

        steps_on : easy_steps n (most_steps - k) left ≡ easy_step n left ∷ easy_steps n (most_steps - (k + 1)) (records cubes c b')
        steps_on =
            ap (λ (t : ℕ). easy_steps n t left) more ∙ steps_pair n (most_steps - (k + 1)) left has
            ∙ ap (λ (t : List Cube). easy_step n left ∷ easy_steps n (most_steps - (k + 1)) t) (sym list_is)

        pub writing_more : Writing n first work script marks₀ b' s' (set (set marks' p.i 0) p.j 0) c p.i (k + 1)
        unfolding written
        writing_more = record {
          ready = record { held = after.held; good = after.good; few = after.few; room = held_fits cubes lawful c b' after.held };
          long = step_long n count count b b' (easy_step n left) (easy_next n left) w.ready e e' ∙ w.long;
          script_long = ap length made.bytes ∙ length_stored step_records s k (record_of (easy_step n left)) ∙ w.script_long;
          marks_long = length-set (set marks' p.i 0) p.j 0 ∙ length-set marks' p.i 0 ∙ long' ∙ w.marks_long;
          room = omega (arith, w.room, made.many, easy_fewer n left has, many);
          few = omega (arith, made.many, easy_fewer n left has, many, w.few);
          limit = omega arith;
          watched =
              subst (λ (t : List Cube). Watched n t p.i p.i (set (set marks' p.i 0) p.j 0)) (sym list_is)
              (watched_next n left (easy_next n left) p.i p.j found.first (first_moved n left p.i p.j found.first) marks'
              (omega (arith, many, w.room, long', w.marks_long)) found.kept);
          steps_so_far =
              w.steps_so_far ∙ ap (λ (xs : List Step). k + length xs) steps_on ∙ shift k (length (easy_steps n (most_steps - (k + 1)) (records cubes c b')));
          end_so_far =
              w.end_so_far ∙ ap (λ (t : ℕ). easy_end n t left) more ∙ end_pair n (most_steps - (k + 1)) left has
              ∙ ap (easy_end n (most_steps - (k + 1))) (sym list_is);
          bytes_so_far =
              w.bytes_so_far ∙ ap (λ (xs : List Step). written step_records k (map record_of xs) s) steps_on
              ∙ ap₂ (λ (t : ℕ) (y : List ℕ). written step_records t (map record_of (easy_steps n (most_steps - (k + 1)) (records cubes c b'))) y)
              (sym (add-one k)) (sym made.bytes);
        }
          where
            shift : (x y : ℕ) → x + suc y ≡ x + 1 + y
            shift x y = omega arith

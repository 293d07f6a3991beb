-- The tests of a map, before its lists: what each of their returns answers, and what an accepted map is.
-- Assumes nothing.
use mathlib.Core.Path.{◌≡◌, refl, sym, ap, ◌∙◌}
use mathlib.Core.Bool.{Bool, true, false}
use mathlib.Core.List.{List, [], ◌∷◌}
use Prim.Native.Nat.{ℕ, ◌*◌, ◌/◌, ◌≤◌, ◌<◌}
use native.Mathlib.Omega.{arith}
use borrow.Author.Tests.{leb-true, le-leb, lt-leb, eqb-true, eq-eqb, ne_eqb}
use lib.Dec.{leb, eqb}
use lib.ListN.{length}
use Rattle.records.specs.declared.Refusal.{Refusal}
use Rattle.records.specs.Places.{place_width}
use Rattle.records.specs.Answers.{accepted, refused, refusal}
use Rattle.records.proofs.Answers.{accepted_values, unless_passes, unless_fails, unless_accepted, both_accepted, and_then_lem, and_not}
use Rattle.selector.specs.Maps.{most_lists, starts, add_up, records_of}
use Rattle.selector.specs.Calls.{check_map, check_map_reasons, Job, list_count, check_job}
use Rattle.selector.specs.Turns.{Mapped, Showable, Settleable}

-- ---- 24 and 26

module _ (lists : ℕ) (lengths : List ℕ) where
  pub map_none : (r : Refusal) → r ≡ refusal 24 0 → length lengths < 1 → refused r ≡ check_map lists lengths
  unfolding check_map
  map_none r e h = ap refused e ∙ sym (unless_fails _ 24 0 _ (lt-leb 1 (length lengths) h))

  module _ (some : 1 ≤ length lengths) where
    pub map_many : (r : Refusal) → r ≡ refusal 24 0 → most_lists < length lengths → refused r ≡ check_map lists lengths
    unfolding check_map
    map_many r e h = ap refused e ∙ sym (unless_passes _ 24 0 _ (le-leb 1 (length lengths) some) ∙ unless_fails _ 24 0 _ (lt-leb (length lengths) most_lists h))

    module _ (few : length lengths ≤ most_lists) (t : Bool) (et : t ≡ add_up lengths lists) where
      pub map_wrong : (r : Refusal) → r ≡ refusal 26 0 → t ≡ false → refused r ≡ check_map lists lengths
      unfolding check_map
      map_wrong r e f =
          ap refused e
          ∙ sym (unless_passes _ 24 0 _ (le-leb 1 (length lengths) some) ∙ unless_passes _ 24 0 _ (le-leb (length lengths) most_lists few) ∙ unless_fails _ 26 0 _ (sym et ∙ f))

      pub map_count : t ≡ true → accepted (length lengths ∷ []) ≡ check_map lists lengths
      unfolding check_map
      map_count f =
          sym (unless_passes _ 24 0 _ (le-leb 1 (length lengths) some) ∙ unless_passes _ 24 0 _ (le-leb (length lengths) most_lists few) ∙ unless_passes _ 26 0 _ (sym et ∙ f))

-- an accepted map
pub map_accepts : (lists lengths v : List ℕ) → check_map (length lists) lengths ≡ accepted v → Mapped lists lengths
unfolding check_map add_up
map_accepts lists lengths v e =
    let p = unless_accepted (leb 1 (length lengths)) 24 0 _ v e in
    let q = unless_accepted (leb (length lengths) most_lists) 24 0 _ v p.1 in
    let s = unless_accepted (eqb (starts lengths (length lengths)) (length lists)) 26 0 _ v q.1 in
    record { some = leb-true _ _ p.0; few = leb-true _ _ q.0; adds = eqb-true (starts lengths (length lengths)) (length lists) s.0 }

pub accepts_map : (lists lengths : List ℕ) → Mapped lists lengths → check_map (length lists) lengths ≡ accepted (length lengths ∷ [])
unfolding add_up
accepts_map lists lengths m =
    sym (map_count (length lists) lengths m.some m.few true (sym (eq-eqb (starts lengths (length lengths)) (length lists) m.adds)) refl)

-- ---- 5 of the reasons

module _ (lists lengths : List ℕ) (out : ℕ) where
  pub reasons_refused : (r : Refusal) → check_map (length lists) lengths ≡ refused r → refused r ≡ check_map_reasons lists lengths out
  unfolding check_map_reasons
  reasons_refused r e = sym (and_not _ _ r e)

  module _ (count : ℕ) (e : check_map (length lists) lengths ≡ accepted (count ∷ [])) (records : ℕ) (er : records ≡ records_of lists lengths) where
    pub reasons_short : (r : Refusal) → r ≡ refusal 5 0 → out / place_width < records → refused r ≡ check_map_reasons lists lengths out
    unfolding check_map_reasons
    reasons_short r ef h =
        let short : out < place_width * records_of lists lengths = omega (arith, er) in
        ap refused ef ∙ sym (and_then_lem _ _ _ e ∙ unless_fails _ 5 0 _ (lt-leb _ out short))

    pub reasons_count : records ≤ out / place_width → accepted (count ∷ []) ≡ check_map_reasons lists lengths out
    unfolding check_map_reasons
    reasons_count h =
        let fits : place_width * records_of lists lengths ≤ out = omega (arith, er) in
        ap accepted (accepted_values (sym e ∙ accepts_map lists lengths (map_accepts lists lengths _ e)))
        ∙ sym (and_then_lem _ _ _ e ∙ unless_passes _ 5 0 _ (le-leb _ out fits))

  pub reasons_accepts : (v : List ℕ) → check_map_reasons lists lengths out ≡ accepted v → Showable lists lengths out
  unfolding check_map_reasons
  reasons_accepts v e =
      let p = both_accepted (check_map (length lists) lengths) _ v e in
      let q = unless_accepted (leb (place_width * records_of lists lengths) out) 5 0 _ v p.second in
      record { lists_are = map_accepts lists lengths p.values p.first; room = leb-true _ _ q.0 }

-- ---- 26 of the scripts, and 5 of settling

module _ (j : Job) (out : ℕ) where
  pub job_refused : (r : Refusal) → check_map (length j.lists) j.lengths ≡ refused r → refused r ≡ check_job j out
  unfolding check_job
  job_refused r e = sym (and_not _ _ r e)

  module _ (count : ℕ) (e : check_map (length j.lists) j.lengths ≡ accepted (count ∷ [])) where
    pub job_uneven : (r : Refusal) → r ≡ refusal 26 0 → (length j.script_lengths ≡ list_count j → ⊥) → refused r ≡ check_job j out
    unfolding check_job
    job_uneven r er h = ap refused er ∙ sym (and_then_lem _ _ _ e ∙ unless_fails _ 26 0 _ (ne_eqb (length j.script_lengths) (list_count j) h))

    module _ (even : length j.script_lengths ≡ list_count j) (t : Bool) (et : t ≡ add_up j.script_lengths (length j.scripts)) where
      pub job_wrong : (r : Refusal) → r ≡ refusal 26 0 → t ≡ false → refused r ≡ check_job j out
      unfolding check_job
      job_wrong r er f =
          ap refused er
          ∙ sym (and_then_lem _ _ _ e ∙ unless_passes _ 26 0 _ (eq-eqb (length j.script_lengths) (list_count j) even) ∙ unless_fails _ 26 0 _ (sym et ∙ f))

      module _ (f : t ≡ true) where
        pub job_short : (r : Refusal) → r ≡ refusal 5 0 → out < length j.lists → refused r ≡ check_job j out
        unfolding check_job
        job_short r er h =
            ap refused er
            ∙ sym (and_then_lem _ _ _ e ∙ unless_passes _ 26 0 _ (eq-eqb (length j.script_lengths) (list_count j) even) ∙ unless_passes _ 26 0 _ (sym et ∙ f)
            ∙ unless_fails _ 5 0 _ (lt-leb (length j.lists) out h))

        pub job_count : length j.lists ≤ out → accepted (count ∷ []) ≡ check_job j out
        unfolding check_job
        job_count h =
            ap accepted (accepted_values (sym e ∙ accepts_map j.lists j.lengths (map_accepts j.lists j.lengths _ e)))
            ∙ sym (and_then_lem _ _ _ e ∙ unless_passes _ 26 0 _ (eq-eqb (length j.script_lengths) (list_count j) even) ∙ unless_passes _ 26 0 _ (sym et ∙ f)
            ∙ unless_passes _ 5 0 _ (le-leb (length j.lists) out h))

  pub job_accepts : (v : List ℕ) → check_job j out ≡ accepted v → Settleable j out
  unfolding check_job add_up
  job_accepts v e =
      let a = both_accepted (check_map (length j.lists) j.lengths) _ v e in
      let p = unless_accepted (eqb (length j.script_lengths) (list_count j)) 26 0 _ v a.second in
      let q = unless_accepted (eqb (starts j.script_lengths (length j.script_lengths)) (length j.scripts)) 26 0 _ v p.1 in
      let s = unless_accepted (leb (length j.lists) out) 5 0 _ v q.1 in
      record {
        lists_are = map_accepts j.lists j.lengths a.values a.first;
        one_a_list = eqb-true (length j.script_lengths) (list_count j) p.0;
        scripts_are = eqb-true (starts j.script_lengths (length j.script_lengths)) (length j.scripts) q.0;
        room = leb-true (length j.lists) out s.0;
      }

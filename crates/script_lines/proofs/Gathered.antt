-- The loop over the lines: the buffer holds the steps so far, and zeros after them.
-- Assumes nothing.
use mathlib.Core.Path.{◌≡◌, refl, sym, ap, ap₂, subst, ◌∙◌}
use mathlib.Core.Bool.{Bool, true, false, cond}
use mathlib.Core.List.{List, [], ◌∷◌, ◌++◌}
use Prim.Native.Nat.{ℕ, suc, ◌+◌, ◌-◌, ◌*◌, ◌≤◌, ◌<◌}
use native.Mathlib.Omega.{arith}
use lib.Dec.{ltb}
use lib.ListN.{length, take, drop, length-append, length-replicate}
use borrow.Author.Tests.{ltb-true, ltb-false}
use Rattle.lines.specs.Bytes.{index_of}
use Rattle.std.specs.Prelude.{Result, Ok, Err}
use Rattle.records.specs.declared.Refusal.{Refusal}
use Rattle.records.specs.declared.reason.Reason.{Reason}
use Rattle.records.specs.Reasons.{number_of}
use Rattle.records.specs.Answers.{Outcome, accepted, refused, refusal}
use Rattle.records.specs.Records.{Holds, image, filled, stored, zeros}
use Rattle.records.proofs.Records.{holds_push, length_stored, capacity_fits}
use Rattle.steps.specs.declared.StepRecord.{StepRecord}
use Rattle.script.specs.Scripts.{step_records, narrow_step, step_width, most_steps}
use Rattle.script.proofs.Scripts.{steps_lawful}
use Rattle.lines.specs.Lines.{newline, content}
use Rattle.lines.specs.Gathering.{most_text, Says, knows, has, over, bad, Progress}
use Rattle.lines.specs.Gathering as progress_is
use Rattle.lines.proofs.Gathering.{Gathering, gathering_none, gathering_end, gathering_knows, gathering_bad, gathering_takes, gathering_full, gathered_long, gathered_whole}
use Rattle.script_lines.specs.Scripts.{step_before, line_says, each, read_through, at_end, script_of, step_capacity, told_of, steps_of, script_outcome, script_after}
use Rattle.script_lines.specs.Inside.{numbered, reached_by, stored_by, whole_of}
use Rattle.script_lines.proofs.Saying.{Sayable, says_sayable}

-- a clear buffer holds no step
clear_image : {b : List ℕ} (bytes : ℕ) → b ≡ zeros bytes → b ≡ image step_records bytes []
unfolding image filled
clear_image bytes e =
    let all : bytes ≡ bytes - 0 = omega arith in
    e ∙ ap zeros all

length_clear : {b : List ℕ} (bytes : ℕ) → b ≡ zeros bytes → length b ≡ bytes
length_clear bytes e = ap length e ∙ length-replicate bytes 0

-- a buffer that was cleared is clear
pub clear_now : (bytes : ℕ) {b : List ℕ} → b ≡ zeros bytes → b ≡ zeros (length b)
clear_now bytes e = e ∙ ap zeros (sym (length_clear bytes e))

length_stored_by : (room n : ℕ) (b : List ℕ) (s : Says (Unit {0}) StepRecord) → length (stored_by room n b s) ≡ length b
length_stored_by room n b (knows u) = refl
length_stored_by room n b (has u x) = go (ltb n room)
  where
    go : (z : Bool) → length (cond z (stored step_records b n (narrow_step x)) b) ≡ length b
    go true = length_stored step_records b n (narrow_step x)
    go false = refl
length_stored_by room n b over = refl
length_stored_by room n b (bad number) = refl

pub record Reading (t : List ℕ) (bytes : ℕ) (out : List ℕ) (at n k : ℕ) : Type 0 where
  pub list : List StepRecord
  pub count : length list ≡ n
  pub long : length out ≡ bytes
  pub holds : Holds step_records out list
  pub gathering : Gathering line_says each 35 (step_capacity bytes) tt t at tt list k

pub reading_none : (t : List ℕ) {out : List ℕ} → out ≡ zeros (length out) → Reading t (length out) out 0 0 1
unfolding Holds
reading_none t {out} e = record {
  list = [];
  count = refl;
  long = refl;
  holds = clear_image (length out) e;
  gathering = gathering_none line_says each 35 (step_capacity (length out)) tt t;
}

module _ {t : List ℕ} {bytes : ℕ} {out : List ℕ} {at n k : ℕ} (g : Reading t bytes out at n k) where
  -- ---- the end of the text

  module _ (o : length t ≤ at) where
    at_end_lem : whole_of bytes t ≡ progress_is.before tt g.list k
    at_end_lem = gathering_end line_says each 35 (step_capacity bytes) g.gathering o

    pub end_told : accepted (n ∷ []) ≡ told_of (at_end (whole_of bytes t))
    end_told = sym (ap (λ (p : Progress (Unit {0}) StepRecord). told_of (at_end p)) at_end_lem ∙ ap (λ (m : ℕ). accepted (m ∷ [])) g.count)

    pub end_held : out ≡ image step_records bytes (steps_of (at_end (whole_of bytes t)))
    unfolding Holds
    end_held =
        g.holds ∙ ap (λ (m : ℕ). image step_records m g.list) g.long
        ∙ sym (ap (λ (p : Progress (Unit {0}) StepRecord). image step_records bytes (steps_of (at_end p))) at_end_lem)

  -- ---- a line

  module _ (o : at < length t) {end : ℕ} (e : end ≡ at + index_of newline (drop at t)) {room : ℕ} (er : room ≡ step_capacity bytes) where
    abbrev line : List ℕ
    line = take (end - at) (drop at t)

    said : {s : Says (Unit {0}) StepRecord} → step_before (content line) ≡ s → line_says k tt line ≡ s
    unfolding line_says
    said d = d

    pushed : {x : StepRecord} → step_before (content line) ≡ has tt x → narrow_step x ≡ x → n < room
        → {out' : List ℕ} → out' ≡ stored step_records out n (narrow_step x) → Reading t bytes out' (end + 1) (n + 1) (k + 1)
    pushed {x} d w r {out'} eo =
        let put : out' ≡ stored step_records out (length g.list) x = eo ∙ ap₂ (stored step_records out) (sym g.count) w in
        let more : suc (length g.list) ≤ step_capacity bytes = omega (arith, g.count) in
        let fits : step_width * suc (length g.list) ≤ length out = omega (arith, capacity_fits step_records most_steps bytes, g.long) in
        record {
          list = g.list ++ (x ∷ []);
          count = length-append g.list (x ∷ []) ∙ ap (λ (m : ℕ). m + 1) g.count;
          long = ap length eo ∙ length_stored step_records out n (narrow_step x) ∙ g.long;
          holds = subst (λ (b : List ℕ). Holds step_records b (g.list ++ (x ∷ []))) (sym put) (holds_push step_records steps_lawful out g.list g.holds x fits);
          gathering = gathering_takes line_says each 35 (step_capacity bytes) g.gathering o e (said d) refl (omega (arith, g.count));
        }

    on_says : (s : Says (Unit {0}) StepRecord) → step_before (content line) ≡ s → Sayable s → {m : ℕ} {out' : List ℕ} → reached_by room n s ≡ Ok m
        → out' ≡ stored_by room n out s → Reading t bytes out' (end + 1) m (k + 1)
    on_says (knows u) d w {m} em eo =
        let same : n ≡ m = cc in
        subst (λ (b : List ℕ). Reading t bytes b (end + 1) m (k + 1)) (sym eo) (record {
          list = g.list;
          count = g.count ∙ same;
          long = g.long;
          holds = g.holds;
          gathering = gathering_knows line_says each 35 (step_capacity bytes) g.gathering o e (said d);
        })
    on_says (has u x) d w {m} {out'} em eo = go (ltb n room) refl em eo
      where
        go : (z : Bool) → ltb n room ≡ z → cond {A = Result ℕ ℕ} z (Ok (n + 1)) (Err 35) ≡ Ok m
            → out' ≡ cond z (stored step_records out n (narrow_step x)) out → Reading t bytes out' (end + 1) m (k + 1)
        go true h f i =
            let same : n + 1 ≡ m = cc in
            subst (λ (j : ℕ). Reading t bytes out' (end + 1) j (k + 1)) same (pushed d w (ltb-true n room h) i)
        go false h f i = let z : ◌≡◌ {A = ℕ} 0 1 = cc in absurd (omega arith)
    on_says over d w em eo = absurd w
    on_says (bad number) d w em eo = let z : ◌≡◌ {A = ℕ} 0 1 = cc in absurd (omega arith)

    pub reading_more : {r : Result ℕ Reason} {out' : List ℕ} → numbered r ≡ reached_by room n (step_before (content line)) → out' ≡ stored_by room n out (step_before (content line))
        → {m : ℕ} → r ≡ Ok m → Reading t bytes out' (end + 1) m (k + 1)
    reading_more er' eo em = on_says (step_before (content line)) refl (says_sayable (content line)) (sym er' ∙ ap numbered em) eo

    off_says : (s : Says (Unit {0}) StepRecord) → step_before (content line) ≡ s → Sayable s → {number : ℕ} → reached_by room n s ≡ Err number
        → whole_of bytes t ≡ progress_is.refused_by number k
    off_says (knows u) d w em = let z : ◌≡◌ {A = ℕ} 0 1 = cc in absurd (omega arith)
    off_says (has u x) d w {number} em = go (ltb n room) refl em
      where
        go : (z : Bool) → ltb n room ≡ z → cond {A = Result ℕ ℕ} z (Ok (n + 1)) (Err 35) ≡ Err number
            → whole_of bytes t ≡ progress_is.refused_by number k
        go true h f = let z : ◌≡◌ {A = ℕ} 0 1 = cc in absurd (omega arith)
        go false h f =
            let same : 35 ≡ number = cc in
            gathering_full line_says each 35 (step_capacity bytes) g.gathering o e (said d) refl (omega (arith, g.count, ltb-false n room h))
            ∙ ap (λ (m : ℕ). progress_is.refused_by m k) same
    off_says over d w em = absurd w
    off_says (bad x) d w {number} em =
        let same : x ≡ number = cc in
        gathering_bad line_says each 35 (step_capacity bytes) g.gathering o e (said d) ∙ ap (λ (m : ℕ). progress_is.refused_by m k) same

    -- a refusal, and the buffer cleared
    module _ {r : Result ℕ Reason} (er' : numbered r ≡ reached_by room n (step_before (content line))) {why : Reason} (em : r ≡ Err why) where
      refused_here : whole_of bytes t ≡ progress_is.refused_by (number_of why) k
      refused_here = off_says (step_before (content line)) refl (says_sayable (content line)) (sym er' ∙ ap numbered em)

      pub line_told : {x : Refusal} → x ≡ refusal (number_of why) k → refused x ≡ told_of (at_end (whole_of bytes t))
      line_told ex = ap refused ex ∙ sym (ap (λ (p : Progress (Unit {0}) StepRecord). told_of (at_end p)) refused_here)

      pub line_cleared : {b b' : List ℕ} → b' ≡ stored_by room n out (step_before (content line)) → b ≡ zeros (length b')
          → b ≡ image step_records bytes (steps_of (at_end (whole_of bytes t)))
      line_cleared eo eb =
          clear_image bytes (eb ∙ ap (λ (m : ℕ). zeros m) (ap length eo ∙ length_stored_by room n out (step_before (content line)) ∙ g.long)) ∙ sym (ap (λ (p : Progress (Unit {0}) StepRecord). image step_records bytes (steps_of (at_end p))) refused_here)

-- ---- the whole: a text that is too long, and one that is not

module _ (t : List ℕ) (bytes : ℕ) where
  module _ (o : most_text < length t) where
    too_long : script_of (step_capacity bytes) t ≡ at_end (progress_is.refused_by 36 0)
    unfolding script_of read_through
    too_long = ap at_end (gathered_long line_says each 35 (step_capacity bytes) 36 tt t o)

    pub long_told : {x : Refusal} → x ≡ refusal 36 0 → refused x ≡ script_outcome t bytes
    unfolding script_outcome
    long_told ex = ap refused ex ∙ sym (ap told_of too_long)

    pub long_cleared : {b : List ℕ} → b ≡ zeros bytes → b ≡ script_after t bytes
    unfolding script_after
    long_cleared eb = clear_image bytes eb ∙ sym (ap (λ s. image step_records bytes (steps_of s)) too_long)

  module _ (o : length t ≤ most_text) where
    short_enough : script_of (step_capacity bytes) t ≡ at_end (whole_of bytes t)
    unfolding script_of read_through
    short_enough = ap at_end (gathered_whole line_says each 35 (step_capacity bytes) 36 tt t o)

    module _ {b₀ : List ℕ} (e₀ : b₀ ≡ zeros bytes) where
      pub whole_told : {z : Outcome} → z ≡ told_of (at_end (whole_of (length b₀) t)) → z ≡ script_outcome t bytes
      unfolding script_outcome
      whole_told ez = ez ∙ ap (λ (m : ℕ). told_of (at_end (whole_of m t))) (length_clear bytes e₀) ∙ sym (ap told_of short_enough)

      pub whole_held : {b : List ℕ} → b ≡ image step_records (length b₀) (steps_of (at_end (whole_of (length b₀) t))) → b ≡ script_after t bytes
      unfolding script_after
      whole_held eb =
          eb ∙ ap (λ (m : ℕ). image step_records m (steps_of (at_end (whole_of m t)))) (length_clear bytes e₀)
          ∙ sym (ap (λ s. image step_records bytes (steps_of s)) short_enough)

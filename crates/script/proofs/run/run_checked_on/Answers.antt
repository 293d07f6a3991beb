-- The run, on any kind of record, of a checked list.
-- Assumes nothing.
use mathlib.Core.Path.{◌≡◌, sym, ap, ap₂, ◌∙◌, subst}
use mathlib.Core.Bool.{true}
use Prim.Native.Nat.{ℕ, ◌/◌, ◌<◌}
use native.Mathlib.Omega.{arith}
use lib.ListN.{length, get_or}
use Rattle.bits.specs.Sums.{All}
use Rattle.records.specs.Records.{records, list_of}
use Rattle.records.proofs.Answers.{handed_on}
use Rattle.records.proofs.Checks.{records_accepted}
use Rattle.script.specs.Scripts.{step_records, most_steps}
use Rattle.script.proofs.Outcomes.{refuses_by, answers_by, leaves_by}
use Rattle.script.proofs.run.Checked.{listed_records, listed_long, listed_carries}
use Rattle.script.proofs.run.Finishing.{answered_same}
use Rattle.script.proofs.run.run_checked_on.Goals as goal

pub of-requires : goal.of-requires
of-requires g c =
    let K = g.K.Runnable in
    let L = g.met.K.Runnable in
    let a = c.args in
    let small : (i : ℕ) → get_or a.list.now i 0 < 256 = λ i. omega (arith, c.type_inv.list i) in
    record {
      ready =
          listed_carries K.codec L.lawful (K.fine a.n) a.n a.list.now a.work.now (L.accepted_is a.n a.list.now c.requires.accepts.values c.requires.accepts.is) L.whole_is small
          c.requires.room _ (ap (λ (w : ℕ). length a.list.now / w) (c.WIDTH.ensures ∙ sym L.width_is)) _ c.fill.ensures _ c.capacity-cap.ensures;
    }

pub run-requires : goal.run-requires
run-requires g c =
    let K = g.K.Runnable in
    let a = c.args in
    let each = (records_accepted step_records (K.fits a.n) 7 8 9 most_steps a.script.now _ (sym c.in_ok-check_script_on.ensures)).each in
    record { all = subst (λ (n : ℕ). All (λ r. K.fits n r ≡ true) (list_of step_records a.script.now)) (sym c.of.ensures.variables) each }

pub returns : goal.returns
returns g c =
    let K = g.K.Runnable in
    let L = g.met.K.Runnable in
    let a = c.args in
    let o = c.of.ensures in
    let small : (i : ℕ) → get_or a.list.now i 0 < 256 = λ i. omega (arith, c.type_inv.list i) in
    let ok = L.accepted_is a.n a.list.now c.requires.accepts.values c.requires.accepts.is in
    let many : length a.list.now / c.WIDTH.result ≡ length a.list.now / K.codec.width = ap (λ (w : ℕ). length a.list.now / w) (c.WIDTH.ensures ∙ sym L.width_is) in
    let given = listed_records K.codec L.lawful (K.fine a.n) a.n a.list.now a.work.now ok L.whole_is small c.requires.room _ many _ c.fill.ensures in
    let long = listed_long K.codec L.lawful (K.fine a.n) a.n a.list.now a.work.now ok L.whole_is small c.requires.room _ many _ c.fill.ensures in
    let e = sym c.in_ok-check_script_on.ensures in
    let s = answered_same K.codec K.on_cube K.step K.fine (list_of step_records a.script.now) a.work.now c.run.new.self.buffer.now
    _ a.n _ _ _ _ _ a.work.now _ c.run.result o.variables (o.capacity ∙ c.capacity-cap.ensures) (ap₂ (records K.codec) o.count o.bytes ∙ given) (ap length o.bytes ∙ long)
    (sym (c.work-2-1.given.1.1 (sym (c.run.ensures.same_reference ∙ o.same_reference)))) c.run.ensures.answered in
    record {
      answer = s.answer ∙ answers_by K.codec _ _ a.work.now _ e;
      work_after = s.buffer ∙ leaves_by K.codec _ _ a.work.now _ e;
    }

pub returns-in_err-check_script_on : goal.returns-in_err-check_script_on
returns-in_err-check_script_on g c =
    let both = refuses_by g.K.Runnable.codec _ _ c.args.work.now _ (sym c.in_err-check_script_on.ensures) in
    record { answer = handed_on _ _ _ _ c.from_residual.ensures both.0; work_after = both.1 }

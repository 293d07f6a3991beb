-- The steps of a script in turn, on any kind of record.
-- Assumes nothing.
use mathlib.Core.Path.{◌≡◌, sym, ap, ap₂, ◌∙◌, subst}
use mathlib.Core.Bool.{Bool, true, cond}
use Prim.Native.Nat.{ℕ, ◌+◌}
use native.Mathlib.Omega.{arith}
use Rattle.records.specs.Records.{records}
use Rattle.records.proofs.Records.{length_records, length_list}
use Rattle.steps.specs.Steps.{meaning}
use Rattle.script.specs.Carrying.{Carries}
use Rattle.script.specs.Pending.{pend_step}
use Rattle.script.specs.Progress.{pend_record}
use Rattle.script.specs.Scripts.{step_records}
use Rattle.script.proofs.run.Running.{RunningBy, record_passes, steps_on, running_end, running_stop, running_more}
use Rattle.script.proofs.list.WorkList.run_steps.Goals as goal

pub step-requires : goal.step-requires
step-requires g c =
    let i = c.loop-place.invariant in
    record {
      fits =
          subst (λ (n : ℕ). g.K.Runnable.fits n c.step_at-x.result ≡ true) (sym i.2)
          (record_passes c.args.script.now c.loop-place.place c.step_at-x.result c.step_at-x.ensures c.loop-place-test.true (g.K.Runnable.fits c.args.self.now.n) c.requires.all);
    }

pub returns-in-Err-clause-variables : goal.returns-in-Err-clause-variables
returns-in-Err-clause-variables g c = c.clear.ensures.variables ∙ c.step.ensures.variables ∙ c.loop-place.invariant.2

pub returns-in-Err-clause-stepping : goal.returns-in-Err-clause-stepping
returns-in-Err-clause-stepping g c =
    let i = c.loop-place.invariant in
    let K = g.K.Runnable in
    let s = c.args.self.now in
    let p = c.loop-place in
    let x = c.step_at-x.result in
    running_stop K.codec (K.step s.n s.cap) pend_record s.count _ s.buffer.now p.place p.self.buffer.now p.pending p.self.count p.peak i.0 x
    (steps_on c.args.script.now p.place x c.step_at-x.ensures c.loop-place-test.true) (λ a. K.fine s.n a ≡ true) s.n s.cap c.in-Err.why
    (ap₂ (λ (n cap : ℕ). K.step n cap x (records K.codec p.self.count p.self.buffer.now)) (sym i.2) (sym i.3) ∙ c.in-Err.ensures.refused)
    c.halted.result c.halted.ensures c.clear.new.self.buffer.now c.step.new.self.buffer.now c.step.ensures.length c.clear.ensures.bytes

pub after_step-requires-clause-kept : goal.after_step-requires-clause-kept
after_step-requires-clause-kept g c =
    let i = c.loop-place.invariant in
    let p = c.loop-place in (
      records g.K.Runnable.codec p.self.count p.self.buffer.now,
      length_records g.K.Runnable.codec p.self.count p.self.buffer.now,
      subst (λ (cap : ℕ). g.W.Watch.keeps cap (records g.K.Runnable.codec p.self.count p.self.buffer.now) p.beside) (sym (c.step.ensures.capacity ∙ i.3)) i.5,
    )

pub loop-place-preserved : goal.loop-place-preserved
loop-place-preserved g c =
    let i = c.loop-place.invariant in
    let K = g.K.Runnable in
    let s = c.args.self.now in
    let p = c.loop-place in
    let q = c.step.new.self in
    let x = c.step_at-x.result in
    let on : c.if-is_letter.pending ≡ pend_record p.pending x =
    elim c.if-is_letter.branch [
      | goal.then-is_letter w ↦ w.pending-is ∙ w.pended-pending.ensures ∙ sym (ap (λ (b : Bool). cond b (pend_step p.pending (meaning x)) p.pending) (sym c.is_letter.ensures ∙ w.if-is_letter.true))
      | goal.else-is_letter w ↦ w.pending-is ∙ sym (ap (λ (b : Bool). cond b (pend_step p.pending (meaning x)) p.pending) (sym c.is_letter.ensures ∙ w.if-is_letter.false))
    ] in (
      subst (RunningBy K.codec (K.step s.n s.cap) pend_record s.count _ s.buffer.now (p.place + 1) q.buffer.now c.if-is_letter.pending q.count) (sym c.max-peak.ensures)
          (running_more K.codec (K.step s.n s.cap) pend_record s.count _ s.buffer.now p.place p.self.buffer.now p.pending p.self.count p.peak i.0 x
          (steps_on c.args.script.now p.place x c.step_at-x.ensures c.loop-place-test.true) q.count q.buffer.now
          (ap₂ (λ (n cap : ℕ). K.step n cap x (records K.codec p.self.count p.self.buffer.now)) (sym i.2) (sym i.3) ∙ c.in_default.ensures.done)
          c.step.ensures.length c.if-is_letter.pending on),
      c.step.ensures.same_reference ∙ i.1,
      c.step.ensures.variables ∙ i.2,
      c.step.ensures.capacity ∙ i.3,
      c.after_step.ensures.length ∙ i.4,
      subst (λ (cap : ℕ). g.W.Watch.keeps cap (records K.codec q.count q.buffer.now) c.after_step.new.beside) (c.step.ensures.capacity ∙ i.3) c.after_step.ensures.kept,
    )

pub returns-clause-stepping : goal.returns-clause-stepping
returns-clause-stepping g c =
    let i = c.loop-place.invariant in
    let K = g.K.Runnable in
    let s = c.args.self.now in
    let p = c.loop-place in
    running_end K.codec (K.step s.n s.cap) pend_record s.count _ s.buffer.now p.place p.self.buffer.now p.pending p.self.count p.peak i.0 (K.fine s.n) s.n s.cap
    (subst (λ (n : ℕ). Carries K.codec (K.fine n) n p.self.count s.cap p.self.buffer.now) i.2
    (subst (λ (cap : ℕ). Carries K.codec (K.fine p.self.n) p.self.n p.self.count cap p.self.buffer.now) i.3 p.self.ready))
    (omega (arith, c.loop-place-test.false, length_list step_records c.args.script.now))

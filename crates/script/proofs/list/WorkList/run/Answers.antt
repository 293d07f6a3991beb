-- The run of a script, on any kind of record.
-- Assumes nothing.
use mathlib.Core.Path.{◌≡◌, sym, ap₂, ◌∙◌, subst}
use mathlib.Core.Bool.{true}
use mathlib.Core.List.{List, map}
use Prim.Native.Nat.{ℕ, ◌<◌}
use lib.ListN.{length}
use Rattle.bits.specs.Sums.{All}
use Rattle.cube.specs.Lists.{most_variables}
use Rattle.records.specs.Records.{records, list_of, image}
use Rattle.orders.specs.Orders.{order_count}
use Rattle.script.specs.Pending.{none_pending, pend_by, restored}
use Rattle.script.specs.Progress.{pend_record, AnsweredBy}
use Rattle.script.specs.Scripts.{step_records}
use Rattle.script.proofs.Pending.{none_orders}
use Rattle.script.proofs.run.Finishing.{handed, record_orders, back_stopped, back_orders, back_ended}
use Rattle.script.proofs.list.WorkList.run.Goals as goal

pub returns-in_err-count-clause-answered : goal.returns-in_err-count-clause-answered
returns-in_err-count-clause-answered g c =
    let K = g.K.Runnable in
    let s = c.args.self.now in
    subst (AnsweredBy K.codec _ s.buffer.now c.run_steps.new.self.buffer.now) (handed _ _ c.from_residual.ensures)
    (back_stopped K.codec g.met.K.Runnable.lawful (K.step s.n s.cap) (λ a. K.fine s.n a ≡ true) s.n s.cap s.count (list_of step_records c.args.script.now) _
    s.buffer.now c.run_steps.new.self.buffer.now (map (K.on_cube (restored s.n (pend_by pend_record none_pending (list_of step_records c.args.script.now))))) _
    c.in_err-count.ensures.stepping)

pub undo-requires-clause-orders : goal.undo-requires-clause-orders
undo-requires-clause-orders g c =
    let K = g.K.Runnable in
    let s = c.args.self.now in
    subst (All (λ o. o < order_count))
    (sym (back_orders K.codec g.met.K.Runnable.lawful (K.step s.n s.cap) (λ a. K.fine s.n a ≡ true) s.n s.cap s.count (list_of step_records c.args.script.now) _
    s.buffer.now c.run_steps.new.self.buffer.now _ c.in_ok-count.ensures.stepping))
    (record_orders (list_of step_records c.args.script.now) none_pending (none_orders most_variables))

pub returns-clause-answered : goal.returns-clause-answered
returns-clause-answered g c =
    let K = g.K.Runnable in
    let s = c.args.self.now in
    let rs = list_of step_records c.args.script.now in
    let w = c.run_steps.new.self in
    let e = c.in_ok-count.ensures in
    back_ended K.codec g.met.K.Runnable.lawful (K.step s.n s.cap) (λ a. K.fine s.n a ≡ true) s.n s.cap s.count rs _ s.buffer.now w.buffer.now _ e.stepping
    (K.on_cube (restored s.n (pend_by pend_record none_pending rs))) w.count e.count e.length c.undo.new.self.buffer.now
    (c.undo.ensures.bytes
    ∙ ap₂ (λ (n : ℕ) (os : List ℕ). image K.codec (length w.buffer.now) (map (K.on_cube (restored n os)) (records K.codec w.count w.buffer.now))) e.variables
    (back_orders K.codec g.met.K.Runnable.lawful (K.step s.n s.cap) (λ a. K.fine s.n a ≡ true) s.n s.cap s.count rs _ s.buffer.now w.buffer.now _ e.stepping))

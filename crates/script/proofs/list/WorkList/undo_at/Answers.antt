-- What is pending at a variable, taken back.
-- Assumes nothing.
use mathlib.Core.Path.{◌≡◌, ap, ◌∙◌}
use mathlib.Core.Bool.{true}
use mathlib.Core.List.{map}
use Prim.Native.Nat.{ℕ}
use native.Mathlib.Omega.{arith}
use Rattle.bits.proofs.Sums.{all_each}
use Rattle.records.specs.Records.{Held, Holds, records}
use Rattle.cube.specs.Lists.{most_variables}
use Rattle.orders.proofs.Orders.{inverse_lt}
use Rattle.steps.specs.Steps.{reordered}
use Rattle.steps.proofs.Linear.{reordered_good}
use Rattle.script.proofs.Carrying.{carries_all, changed_records, changed_long, changed_carries}
use Rattle.script.proofs.run.Undoing.{none_back}
use Rattle.script.proofs.list.WorkList.undo_at.Goals as goal

pub returns-then-o-eq0-clause-undone : goal.returns-then-o-eq0-clause-undone
returns-then-o-eq0-clause-undone g c =
    let s = c.args.self.now in
    let K = g.K.Runnable in
    none_back K.on_cube K.fine g.met.K.Runnable.on_same c.args.v c.args.o (omega (arith, c.if-o-eq0.true)) (omega (arith, c.requires.order.0, s.ready.few)) _
    (all_each (λ a. K.fine s.n a ≡ true) (λ a. K.fine most_variables a ≡ true) (λ a f. g.met.K.Runnable.fine_more s.n most_variables s.ready.few a f) _ (carries_all K.codec (K.fine s.n) (λ a. K.fine s.n a ≡ true) s.n s.count s.cap s.buffer.now s.ready))

pub reorder-requires : goal.reorder-requires
unfolding Held Holds
reorder-requires g c =
    let s = c.args.self.now in
    let K = g.K.Runnable in record {
      held = s.ready.held;
      all = all_each (λ a. K.fine s.n a ≡ true) (λ a. K.fine most_variables a ≡ true) (λ a f. g.met.K.Runnable.fine_more s.n most_variables s.ready.few a f) _ (carries_all K.codec (K.fine s.n) (λ a. K.fine s.n a ≡ true) s.n s.count s.cap s.buffer.now s.ready);
      order = (omega (arith, c.requires.order.0, s.ready.few), omega (arith, c.inverse.ensures, inverse_lt _ c.requires.order.1));
    }

pub invariant_of-self : goal.invariant_of-self
invariant_of-self g c =
    let s = c.args.self.now in
    let K = g.K.Runnable in
    record {
      ready =
          changed_carries K.codec g.met.K.Runnable.lawful (K.fine s.n) s.n s.count s.cap s.buffer.now s.ready (K.on_cube (reordered c.args.v c.inverse.result)) _ c.reorder.ensures
          (λ a f. g.met.K.Runnable.on_fine _ s.n (λ d h. reordered_good s.n c.args.v c.inverse.result c.requires.order.0 (omega (arith, c.inverse.ensures, inverse_lt _ c.requires.order.1)) d h) a f);
    }

pub returns-clause-undone : goal.returns-clause-undone
returns-clause-undone g c =
    let s = c.args.self.now in
    let K = g.K.Runnable in
    changed_records K.codec g.met.K.Runnable.lawful (K.fine s.n) s.n s.count s.cap s.buffer.now s.ready (K.on_cube (reordered c.args.v c.inverse.result)) _ c.reorder.ensures
    ∙ ap (λ (p : ℕ). map (K.on_cube (reordered c.args.v p)) (records K.codec s.count s.buffer.now)) c.inverse.ensures

pub returns-clause-length : goal.returns-clause-length
returns-clause-length g c =
    let s = c.args.self.now in
    let K = g.K.Runnable in
    changed_long K.codec g.met.K.Runnable.lawful (K.fine s.n) s.n s.count s.cap s.buffer.now s.ready (K.on_cube (reordered c.args.v c.inverse.result)) _ c.reorder.ensures

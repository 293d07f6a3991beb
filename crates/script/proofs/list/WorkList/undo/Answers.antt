-- What is pending, taken back variable by variable.
-- Assumes nothing.
use mathlib.Core.Path.{◌≡◌, sym, ap, ap₂, ◌∙◌}
use mathlib.Core.Bool.{true}
use mathlib.Core.List.{map}
use lib.ListN.{length}
use Prim.Native.Nat.{ℕ, ◌<◌}
use native.Mathlib.Numerals.{add-one}
use native.Mathlib.Omega.{arith}
use Rattle.bits.proofs.Sums.{all_get}
use Rattle.records.specs.Records.{records, image}
use Rattle.orders.specs.Orders.{order_count}
use Rattle.script.specs.Pending.{restored}
use Rattle.script.proofs.Carrying.{carries_all}
use Rattle.script.proofs.run.Undoing.{back_none, back_more}
use Rattle.script.proofs.list.WorkList.undo.Goals as goal

pub loop-v-init : goal.loop-v-init
loop-v-init g c =
    let s = c.args.self.now in
    let K = g.K.Runnable in (
      λ i. s.buffer.ghost_name,
      λ i. s.n,
      λ i. s.count,
      λ i. s.cap,
      λ i. length s.buffer.now,
      back_none K.on_cube K.fine g.met.K.Runnable.on_same c.args.pending s.n _ (carries_all K.codec (K.fine s.n) (λ a. K.fine s.n a ≡ true) s.n s.count s.cap s.buffer.now s.ready),
    )

-- the orders of the first v variables are taken back, and then that of v
pub undo_at-requires : goal.undo_at-requires
undo_at-requires g c =
    let i = c.loop-v.invariant in
    record { order = (omega (arith, i.1, c.requires.few, c.loop-v-test.true), all_get (λ (o : ℕ). o < order_count) c.args.pending c.loop-v.v 0 c.requires.orders (omega (arith, c.well_formed))) }

pub loop-v-preserved : goal.loop-v-preserved
loop-v-preserved g c =
    let i = c.loop-v.invariant in
    let e = c.undo_at.ensures in
    let K = g.K.Runnable in (
      e.same_reference ∙ i.0,
      e.variables ∙ i.1,
      e.count ∙ i.2,
      e.capacity ∙ i.3,
      e.length ∙ i.4,
      back_more K.on_cube K.fine g.met.K.Runnable.on_same g.met.K.Runnable.on_twice c.loop-v.v c.args.pending _ _ _ i.5 e.undone
          ∙ ap (λ (v : ℕ). map (K.on_cube (restored v c.args.pending)) (records K.codec c.args.self.now.count c.args.self.now.buffer.now)) (sym (add-one c.loop-v.v)),
    )

pub returns-clause-bytes : goal.returns-clause-bytes
returns-clause-bytes g c =
    let i = c.loop-v.invariant in
    let K = g.K.Runnable in
    let s = c.args.self.now in
    let all : c.loop-v.v ≡ c.args.variables = omega (arith, c.loop-v-test.false) in
    c.loop-v.self.ready.held
    ∙ ap₂ (image K.codec) i.4 (i.5 ∙ ap (λ (v : ℕ). map (K.on_cube (restored v c.args.pending)) (records K.codec s.count s.buffer.now)) all)

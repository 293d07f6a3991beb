-- `put_trues` meets its contract: the loop keeps `Showing`.
-- Assumes nothing.
use mathlib.Core.Path.{refl, sym, subst₂, ◌∙◌}
use mathlib.Core.List.{List}
use Prim.Native.Nat.{ℕ, ◌+◌}
use Rattle.records.proofs.Picking.{picking_skip, picking_more}
use Rattle.cube.specs.Lists.{cubes_of}
use Rattle.reasons.proofs.Showing.{Showing, true_here, shown_count, shown_all}
use Rattle.reasons.proofs.put_trues.Goals as goal
use Rattle.reasons.proofs.put_trues.Goals.{then-holds_at, else-holds_at}

pub loop-i-preserved : goal.loop-i-preserved
loop-i-preserved c =
    let again : List ℕ → ℕ → Type 0 = λ (out : List ℕ) (k : ℕ). Showing c.args.n c.args.list.now c.args.a c.args.out.now out k (c.loop-i.i + 1) in
    let true_there = true_here c.args.n (cubes_of c.args.list.now) c.args.a c.loop-i.i c.requires.all c.requires.a_bound
    c.record_at.result c.record_at.ensures c.holds_at.result c.holds_at.ensures in
    elim c.if-holds_at.branch [
      | then-holds_at w ↦ subst₂ again (sym w.out-is) (sym w.k-is) (picking_more _ _ _ _ _ _ _ _ c.loop-i.invariant _ _ c.loop-i-test.true (true_there ∙ w.if-holds_at.true) refl w.put_place.ensures)
      | else-holds_at w ↦ subst₂ again (sym w.out-is) (sym w.k-is) (picking_skip _ _ _ _ _ _ _ _ c.loop-i.invariant c.loop-i-test.true (true_there ∙ w.if-holds_at.false))
    ]

pub returns : goal.returns
returns c = record { value = search shown_count; out_after = search shown_all }

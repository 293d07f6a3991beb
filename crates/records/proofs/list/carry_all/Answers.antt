-- `list::carry_all` meets its contract: the loop keeps `Converting`.
-- Assumes nothing.
use mathlib.Core.Path.{sym, subst}
use native.Mathlib.Omega.{arith}
use Rattle.bits.proofs.Sums.{all_get}
use Rattle.records.specs.Records.{list_of}
use Rattle.records.proofs.Records.{length_list}
use Rattle.records.proofs.Converting.{converting_more, converting_all}
use Rattle.records.proofs.list.carry_all.Goals as goal

pub put_item-requires-clause-fits : goal.put_item-requires-clause-fits
put_item-requires-clause-fits g c =
    let D = g.From.Kind.codec in
    let l = list_of D c.args.list.now in
    subst g.To.Kind.writable (sym c.item_at.ensures)
    (all_get g.To.Kind.writable l c.loop-i.i D.none c.requires.fits (omega (arith, length_list D c.args.list.now, c.count-i-end.ensures, c.loop-i-test.true)))

pub loop-i-preserved : goal.loop-i-preserved
loop-i-preserved g c =
    converting_more g.From.Kind.codec g.To.Kind.codec c.args.list.now c.args.out.now c.loop-i.out c.loop-i.i c.loop-i.invariant
    (omega (arith, c.count-i-end.ensures, c.loop-i-test.true)) _ c.item_at.ensures _ c.put_item.ensures

pub returns : goal.returns
returns g c =
    converting_all g.From.Kind.codec g.To.Kind.codec c.args.list.now c.args.out.now c.loop-i.out c.loop-i.i c.loop-i.invariant
    (omega (arith, c.count-i-end.ensures, c.loop-i-test.false))

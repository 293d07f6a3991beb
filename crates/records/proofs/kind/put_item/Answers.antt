-- `kind::put_item` meets its contract: the item's bytes over its part of the list.
-- Assumes nothing.
use Rattle.std.proofs.Common.{rules}
use Rattle.records.proofs.Items.{item_stored}
use Rattle.records.proofs.kind.put_item.Goals as goal

pub returns : goal.returns
returns g c = let t = item_stored g.K.Kind.codec g.met.K.Kind.laws g.K.Kind.WIDTH g.met.K.Kind.width_is c.args.list.now c.args.i c.requires.place c.args.item in search rules

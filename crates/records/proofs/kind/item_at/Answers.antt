-- `kind::item_at` meets its contract: the item of its part of the list.
-- Assumes nothing.
use Rattle.std.proofs.Common.{rules}
use Rattle.records.proofs.Items.{item_part}
use Rattle.records.proofs.kind.item_at.Goals as goal

pub returns : goal.returns
returns g c = let t = item_part g.K.Kind.codec g.met.K.Kind.laws g.K.Kind.WIDTH g.met.K.Kind.width_is c.args.list.now c.args.i c.requires in search rules

-- `settle_map::settle_lists` meets its contract: the loop keeps `Settling`.
-- Assumes nothing.
use lib.ListN.{length}
use Rattle.selector.specs.Calls.{job}
use Rattle.selector.specs.Parts.{parts_of}
use Rattle.selector.proofs.Left.{Left}
use Rattle.selector.proofs.settle_map.Settling.{Settling}
use Rattle.selector.proofs.settle_map.settle_lists.Given as goal

abbrev pub invariant-loop-k : goal.invariant-loop-k
invariant-loop-k l =
    Settling (job l.fn.n l.fn.lists.bytes.now l.fn.lists.lengths.now l.fn.scripts.bytes.now l.fn.scripts.lengths.now (length l.fn.work)) l.fn.out l.work l.out l.sizes l.total l.to l.k-iterator.count
    × Left l.fn.lists.bytes.now l.fn.lists.lengths.now (parts_of l.k-iterator.iter.a.lengths.now l.k-iterator.iter.a.bytes.now) l.k-iterator.count
    × Left l.fn.scripts.bytes.now l.fn.scripts.lengths.now (parts_of l.k-iterator.iter.b.lengths.now l.k-iterator.iter.b.bytes.now) l.k-iterator.count

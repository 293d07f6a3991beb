-- `map_reasons::show_lists` meets its contract: the loop keeps `Showing`.
-- Assumes nothing.
use Rattle.selector.specs.Parts.{parts_of}
use Rattle.selector.proofs.Left.{Left}
use Rattle.selector.proofs.map_reasons.Showing.{Showing}
use Rattle.selector.proofs.map_reasons.show_lists.Given as goal

abbrev pub invariant-loop-k : goal.invariant-loop-k
invariant-loop-k l =
    Showing l.fn.n l.fn.lists.bytes.now l.fn.lists.lengths.now l.fn.a l.fn.out l.out l.numbers l.slot l.to l.k-iterator.count
    × Left l.fn.lists.bytes.now l.fn.lists.lengths.now (parts_of l.k-iterator.iter.lengths.now l.k-iterator.iter.bytes.now) l.k-iterator.count

-- Taking back what is pending in every product: nothing to do at a variable where no order is.
-- Assumes nothing.
use mathlib.Core.Path.{◌≡◌}
use mathlib.Core.Bool.{true}
use mathlib.Core.List.{List, map}
use Prim.Native.Nat.{ℕ, ◌<◌}
use lib.ListN.{length}
use Rattle.bits.specs.Sums.{All}
use Rattle.bits.proofs.Sums.{all_each}
use Rattle.records.specs.Records.{Held, records, image}
use Rattle.cube.specs.Lists.{most_variables}
use Rattle.orders.specs.Orders.{inverse}
use Rattle.steps.specs.Steps.{reordered}
use Rattle.script.proofs.run.Undoing.{undo_none_by}
use Rattle.shared.specs.SharedRecord.{sharing, shares, fine, Fine}
use Rattle.shared.proofs.SharedRecord.{fine_parts, parts_fine}
use Rattle.shared_steps.specs.SharedSteps.{on_cube}

pub undo_none : (b : List ℕ) (count v o : ℕ) → o ≡ 0 → Held shares count b → All (Fine most_variables) (records shares count b) → v < most_variables
    → b ≡ image shares (length b) (map (on_cube (reordered v (inverse o))) (records shares count b))
undo_none b count v o e h all l =
    undo_none_by on_cube fine (λ f n s r g i. sharing r.outputs (s r.cube (fine_parts n r g).good i)) shares b count v o e h
    (all_each (Fine most_variables) (λ r. fine most_variables r ≡ true) (parts_fine most_variables) (records shares count b) all) l

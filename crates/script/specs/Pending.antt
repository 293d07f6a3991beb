-- What is pending: one of the six orders for each variable. Document 01, "The steps of a script".
-- Assumes nothing.
use Rattle.std.specs.Prelude.{ℕ, zero, suc, List, [], ◌∷◌, get_or, set, replicate}
use Rattle.cube.specs.declared.Cube.{Cube}
use Rattle.cube.specs.Lists.{most_variables}
use Rattle.orders.specs.Orders.{no_order, follow, inverse, letter_order}
use Rattle.steps.specs.Steps.{Step, drop, join, split, turn, L, reordered}

-- no order is pending at any variable
abbrev pub none_pending : List ℕ
none_pending = replicate most_variables no_order

-- what is pending after one more step: an L step's order follows that of its variable
abbrev pub pend_step : List ℕ → Step → List ℕ
pend_step os (drop i j) = os
pend_step os (join i j) = os
pend_step os (split v i) = os
pend_step os (turn v i j) = os
pend_step os (L v b) = set os v (follow (get_or os v no_order) (letter_order b))

-- and after all steps of a script, for any kind of step, by what is pending after one
unfoldable pub pend_by : {X : Type 0} → (List ℕ → X → List ℕ) → List ℕ → List X → List ℕ
pend_by one os [] = os
pend_by one os (x ∷ xs) = pend_by one (one os x) xs

abbrev pub pend : List ℕ → List Step → List ℕ
pend os xs = pend_by pend_step os xs

-- a cube with the pending orders of its first m variables taken back
unfoldable pub restored : ℕ → List ℕ → Cube → Cube
restored zero os c = c
restored (suc m) os c = reordered m (inverse (get_or os m no_order)) (restored m os c)

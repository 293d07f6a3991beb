-- Inside: one product of a list that is gone through for those that carry bit k, where the next cube goes to place j.
-- Assumes nothing.
use Rattle.std.specs.Prelude.{cond, List, ℕ, ◌+◌}
use Rattle.records.specs.Records.{stored}
use Rattle.cube.specs.Lists.{cubes}
use Rattle.shared.specs.declared.Shared.{Shared}
use Rattle.shared.specs.Outputs.{carries}

-- the next place after it
unfoldable pub place_after : ℕ → Shared → ℕ → ℕ
place_after k s j = cond (carries k s) (j + 1) j

-- the buffer after it
unfoldable pub buffer_after : ℕ → Shared → ℕ → List ℕ → List ℕ
buffer_after k s j out = cond (carries k s) (stored cubes out j s.cube) out

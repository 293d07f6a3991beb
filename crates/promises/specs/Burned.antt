-- The list we burn, and the list that the script ends in, of a call of settle that was not refused.
-- Assumes nothing.
use Rattle.std.specs.Prelude.{◌≡◌, List, ℕ, length}
use Rattle.bits.specs.Below.{LeastThen}
use Rattle.records.specs.Records.{records}
use Rattle.cube.specs.declared.Cube.{Cube}
use Rattle.cube.specs.Lists.{cubes, cubes_of, cube_capacity}
use Rattle.polarity.specs.Cost.{cost}
use Rattle.script.specs.Run.{ended, run}
use Rattle.script.specs.Scripts.{steps_of}
use Rattle.settling.specs.declared.Settlement.{Settlement}
use Rattle.settling.specs.Candidates.{candidate_at, candidate_count}

-- "The winner fills the front of the output buffer": its first records, as many as settle answers
abbrev pub burned_in : Settlement → List ℕ → List Cube
burned_in s out' = records cubes s.burned out'

-- "Settling compares cost, then products, then the old order of candidates" (document 02, Two): of the script's result, the given list and, for at most 8
-- variables, the form of the best polarity and the list of the cheapest tree (document 02, Six), the burned list is the one with the least cost, then the
-- fewest products, then the lowest number in that order
pub record BurnedFirst (n : ℕ) (result given burned : List Cube) : Type 0 where
  pub number : ℕ
  pub is : burned ≡ candidate_at n result given number
  pub first : LeastThen (λ k. cost (candidate_at n result given k)) (λ k. length (candidate_at n result given k)) (candidate_count n) number

-- "The script's result", after the undoing; settle answers its count and the peak
pub record EndsIn (n : ℕ) (list script work : List ℕ) (s : Settlement) : Type 0 where
  pub result : List Cube
  pub is : run n (cube_capacity (length work)) (steps_of script) (cubes_of list) ≡ ended result s.peak
  pub count : s.script ≡ length result

-- `steps::rewrites::OnCubesDecides::decide` meets its contract.
-- Assumes nothing.
use native.Mathlib.Omega.{arith}
use Rattle.steps.proofs.step.Stepping.{cube_decided}
use Rattle.steps.proofs.rewrites.OnCubesDecides.decide.Goals as goal

pub returns : goal.returns
returns c = cube_decided _ _ _ _ c.requires.known (omega (arith, c.requires.known.most, c.requires.no_letter)) _ _ c.requires.sound.0 c.requires.sound.1 _ c.decide.ensures

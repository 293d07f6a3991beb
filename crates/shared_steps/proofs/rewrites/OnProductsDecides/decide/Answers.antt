-- `shared_steps::rewrites::OnProductsDecides::decide` meets its contract.
-- Assumes nothing.
use Rattle.shared_steps.proofs.step.Stepping.{product_decided}
use Rattle.shared_steps.proofs.rewrites.OnProductsDecides.decide.Goals as goal

pub returns : goal.returns
returns c = product_decided _ _ _ _ c.requires.known c.requires.no_letter _ _ _ c.decide_shared.ensures

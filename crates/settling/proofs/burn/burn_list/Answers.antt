-- `burn::burn_list` meets its contract.
-- Assumes nothing.
use native.Mathlib.Omega.{arith}
use Rattle.settling.proofs.burn.Written.{list_burned}
use Rattle.settling.proofs.burn.burn_list.Goals as goal

pub returns : goal.returns
returns c =
    list_burned _ _ c.requires.record_width_len c.requires.list_len_bound (λ i. omega (arith, c.type_inv.list i)) _ c.fill.ensures

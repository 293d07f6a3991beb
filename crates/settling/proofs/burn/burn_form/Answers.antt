-- `burn::burn_form` meets its contract.
-- Assumes nothing.
use mathlib.Core.Path.{sym, ◌∙◌}
use lib.Seq.{length-take-le}
use Rattle.settling.proofs.Forming.{power_is, power_small}
use Rattle.settling.proofs.burn.Written.{front_end, front_vector, front_room, front_burned}
use Rattle.settling.proofs.burn.burn_form.Goals as goal

pub slice_bounds-put_form-end : goal.slice_bounds-put_form-end
slice_bounds-put_form-end c = sym (length-take-le _ _ (front_end _ _ _ _ c.requires.list_fits))

pub slice_bounds-coefficients-end : goal.slice_bounds-coefficients-end
slice_bounds-coefficients-end c = power_small _ c.requires.list_fits.vector.few

pub slice_bounds-put_form-end-2 : goal.slice_bounds-put_form-end-2
slice_bounds-put_form-end-2 c = sym (length-take-le _ _ (power_small _ c.requires.list_fits.vector.few))

pub put_form-requires : goal.put_form-requires
put_form-requires c = record { vector = front_vector _ _ _ _ c.requires.list_fits; p_bound = c.requires.p_bound; buffer_len = length-take-le _ _ (power_small _ c.requires.list_fits.vector.few) ∙ power_is _ c.requires.list_fits.vector.few; vector_len_bound = front_room _ _ _ _ c.requires.list_fits }

pub returns : goal.returns
returns c = front_burned _ _ _ _ c.requires.list_fits _ _ _ c.put_form.ensures

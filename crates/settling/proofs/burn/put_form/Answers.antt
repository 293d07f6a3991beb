-- `burn::put_form` meets its contract.
-- Assumes nothing.
use native.Mathlib.Omega.{arith}
use Rattle.settling.proofs.burn.Written.{coefficients_written, form_burned, form_not_refused}
use Rattle.settling.proofs.burn.put_form.Goals as goal

pub returns-in-Ok : goal.returns-in-Ok
returns-in-Ok c =
    let k = coefficients_written _ _ _ c.requires.vector c.requires.p_bound _ _ (omega (arith, c.requires.buffer_len)) c.coefficients.ensures.out_after in
    form_burned _ _ _ c.requires.vector c.requires.p_bound _ k _ c.requires.vector_len_bound _ _ c.in-Ok.is _ c.clear.ensures
    c.write_form.ensures.result_value _ c.write_form.ensures.out_after

pub returns-in-Err : goal.returns-in-Err
returns-in-Err c =
    let k = coefficients_written _ _ _ c.requires.vector c.requires.p_bound _ _ (omega (arith, c.requires.buffer_len)) c.coefficients.ensures.out_after in
    absurd (form_not_refused _ _ _ c.requires.vector c.requires.p_bound _ k c.args.out.now c.requires.vector_len_bound _ _ c.in-Err.is _ c.clear.ensures
    c.write_form.ensures.result_value)

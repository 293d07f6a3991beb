-- `check::fits` meets its contract: a row for each operation, and an unknown operation fits none.
-- Assumes nothing.
use Rattle.script.proofs.check.Rows.{fits_row, fits_unknown}
use Rattle.script.proofs.check.fits.Goals as goal

pub returns-in-1 : goal.returns-in-1
returns-in-1 c = fits_row _ _ 1 c.in-1.is

pub returns-in-2 : goal.returns-in-2
returns-in-2 c = fits_row _ _ 2 c.in-2.is

pub returns-in-3 : goal.returns-in-3
returns-in-3 c = fits_row _ _ 3 c.in-3.is

pub returns-in-4 : goal.returns-in-4
returns-in-4 c = fits_row _ _ 4 c.in-4.is

pub returns-in-5 : goal.returns-in-5
returns-in-5 c = fits_row _ _ 5 c.in-5.is

pub returns-in_default : goal.returns-in_default
returns-in_default c = let d = c.in_default.in_default-own.rest in fits_unknown _ _ d.0.0.0.0.1 d.0.0.0.1 d.0.0.1 d.0.1 d.1

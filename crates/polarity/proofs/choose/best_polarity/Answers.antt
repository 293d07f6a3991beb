-- `choose::best_polarity` meets its contract.
-- Assumes nothing.
use mathlib.Core.Path.{◌≡◌, sym}
use mathlib.Core.List.{[], ◌∷◌}
use Rattle.records.proofs.Answers.{handed_on}
use Rattle.records.specs.Answers.{accepted}
use Rattle.polarity.specs.Vectors.{check_vector}
use Rattle.polarity.proofs.Vectors.{check_accepts}
use Rattle.polarity.proofs.choose.Search.{best_refused, best_found}
use Rattle.polarity.proofs.choose.best_polarity.Goals as goal
use Rattle.polarity.proofs.choose.best_polarity.Goals.{In_ok-check_vector}

-- what the accepted check said
told : (a : In_ok-check_vector) → check_vector a.args.n a.args.vector.now ≡ accepted (a.in_ok-check_vector.field-0 ∷ [])
told a = sym a.in_ok-check_vector.ensures

pub find_best-best-requires : goal.find_best-best-requires
find_best-best-requires c = check_accepts _ _ _ (told c)

pub returns-in_err-check_vector : goal.returns-in_err-check_vector
returns-in_err-check_vector c = handed_on _ _ _ _ c.from_residual.ensures (best_refused _ _ _ (sym c.in_err-check_vector.ensures))

pub returns : goal.returns
returns c = best_found _ _ _ (told (goal.at.returns c).In_ok-check_vector) _ c.find_best-best.ensures

-- `transform::transform` meets its contract: the bytes go to the front of the buffer where every test passes, and none where one fails.
-- Assumes nothing.
use mathlib.Core.Path.{◌≡◌, sym, ◌∙◌}
use mathlib.Core.List.{[], ◌∷◌}
use lib.ListN.{length}
use lib.Seq.{length-take-le}
use Rattle.records.specs.Answers.{accepted}
use Rattle.records.proofs.Answers.{call_refused, call_accepted, handed_on}
use Rattle.polarity.specs.Calls.{coefficients_outcome}
use Rattle.polarity.proofs.transform.Room.{AcceptedTransform, room_accepts, transform_put}
use Rattle.polarity.proofs.transform.transform.Goals as goal
use Rattle.polarity.proofs.transform.transform.Goals.{In_ok-m}

told : (a : In_ok-m) → coefficients_outcome a.args.n a.args.bytes.now a.args.p (length a.args.out.now) ≡ accepted (a.in_ok-m.m ∷ [])
told a = sym a.in_ok-m.ensures

ok : (a : In_ok-m) → AcceptedTransform a.args.n a.args.bytes.now a.args.p (length a.args.out.now) a.in_ok-m.m
ok a = room_accepts _ _ _ _ _ (told a)

pub slice_bounds-put_either-end : goal.slice_bounds-put_either-end
slice_bounds-put_either-end c = (ok c).fits

pub slice_bounds-put_either-end-2 : goal.slice_bounds-put_either-end-2
slice_bounds-put_either-end-2 c = sym (length-take-le _ _ (ok (goal.at.slice_bounds-put_either-end-2 c).In_ok-m).fits)

pub put_either-requires : goal.put_either-requires
put_either-requires c =
    let R = ok (goal.at.put_either-requires c).In_ok-m in
    (R.vector, R.polarity, length-take-le _ _ R.fits ∙ R.long)

pub returns-in_err-m : goal.returns-in_err-m
returns-in_err-m c = let both = call_refused _ _ _ _ (sym c.in_err-m.ensures) in record { result_value = handed_on _ _ _ _ c.from_residual.ensures both.0; out_after = both.1 }

pub returns : goal.returns
returns c = let both = call_accepted _ _ c.args.out.now _ _ (told (goal.at.returns c).In_ok-m) (transform_put _ _ _ c.args.out.now _ (ok (goal.at.returns c).In_ok-m) _ _ c.put_either.ensures) in record { result_value = both.0; out_after = both.1 }

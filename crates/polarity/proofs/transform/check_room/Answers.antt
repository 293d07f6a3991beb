-- `transform::check_room` meets its contract: each return is the first test that fails.
-- Assumes nothing.
use mathlib.Core.Path.{◌≡◌, sym}
use mathlib.Core.List.{[], ◌∷◌}
use native.Mathlib.Omega.{arith}
use Rattle.records.proofs.Answers.{handed_on}
use Rattle.records.specs.Answers.{accepted}
use Rattle.polarity.specs.Vectors.{check_vector}
use Rattle.polarity.proofs.transform.Room.{room_refused, room_15, room_5, room_0}
use Rattle.polarity.proofs.transform.check_room.Goals as goal
use Rattle.polarity.proofs.transform.check_room.Goals.{In_ok-m}

-- what the accepted check said
told : (a : In_ok-m) → check_vector a.args.n a.args.bytes.now ≡ accepted (a.in_ok-m.m ∷ [])
told a = sym a.in_ok-m.ensures

pub returns-then-m-p : goal.returns-then-m-p
returns-then-m-p c = room_15 _ _ _ _ _ (told (goal.at.returns-then-m-p c).In_ok-m) _ c.at.ensures (omega (arith, c.if-m-p.true))

pub returns-then-room-m : goal.returns-then-room-m
returns-then-room-m c = room_5 _ _ _ _ _ (told (goal.at.returns-then-room-m c).In_ok-m) (omega (arith, c.if-m-p.false)) _ c.at-then-room-m.ensures (omega (arith, c.if-room-m.true))

pub returns-in_err-m : goal.returns-in_err-m
returns-in_err-m c = handed_on _ _ _ _ c.from_residual.ensures (room_refused _ _ _ _ _ (sym c.in_err-m.ensures))

pub returns : goal.returns
returns c = room_0 _ _ _ _ _ (told (goal.at.returns c).In_ok-m) (omega (arith, c.if-m-p.false)) (omega (arith, c.if-room-m.false))

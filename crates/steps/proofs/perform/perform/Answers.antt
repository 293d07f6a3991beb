-- `steps::perform::perform` meets its contract.
-- Assumes nothing.
use Prim.Native.Nat.{◌/◌, ◌<◌}
use native.Mathlib.Omega.{arith}
use lib.ListN.{length}
use Rattle.records.proofs.Records.{held_place}
use Rattle.steps.proofs.perform.Performing.{drop_in, join_in, split_in, turn_in, made_refuse, made_drop, made_join, made_split, made_turn, refuse_move, drop_move_lem, join_move_lem, split_move_lem, turn_move_lem}
use Rattle.steps.proofs.perform.Placing.{still_place}
use Rattle.steps.proofs.perform.perform.Goals as goal

pub drop_places-requires : goal.drop_places-requires
drop_places-requires g c = record { held = c.requires.held; two_places = drop_in _ _ _ _ _ c.requires.placed (drop_move_lem _ c.in-Drop.is) }

pub join_places-requires : goal.join_places-requires
join_places-requires g c = record { held = c.requires.held; two_places = join_in _ _ _ _ _ c.requires.placed _ (join_move_lem _ _ c.in-Join.is) }

pub put_record-requires : goal.put_record-requires
put_record-requires g c =
    held_place g.K.Decides.codec g.met.K.Decides.lawful _ _ c.requires.held _ (split_in _ _ _ _ _ c.requires.placed _ _ (split_move_lem _ _ _ c.in-Split.is)).inside

pub put_record-requires-in-Split : goal.put_record-requires-in-Split
put_record-requires-in-Split g c =
    still_place g.K.Decides.codec _ _ _ _ _ c.put_record.ensures
    (split_in _ _ _ _ _ c.requires.placed _ _ (split_move_lem _ _ _ c.in-Split.is)).more

pub overflow_add-result : goal.overflow_add-result
overflow_add-result g c =
    let room : c.args.count < length c.args.work.now / g.K.Decides.codec.width =
    (split_in _ _ _ _ _ c.requires.placed _ _ (split_move_lem _ _ _ c.in-Split.is)).more in
    omega arith

pub put_record-requires-in-Turn : goal.put_record-requires-in-Turn
put_record-requires-in-Turn g c =
    held_place g.K.Decides.codec g.met.K.Decides.lawful _ _ c.requires.held _ (turn_in _ _ _ _ _ c.requires.placed _ _ (turn_move_lem _ _ _ c.in-Turn.is)).first

pub put_record-requires-in-Turn-2 : goal.put_record-requires-in-Turn-2
put_record-requires-in-Turn-2 g c =
    let t = turn_in _ _ _ _ _ c.requires.placed _ _ (turn_move_lem _ _ _ c.in-Turn.is) in
    let first = still_place g.K.Decides.codec _ _ _ _ _ c.put_record-in-Turn.ensures (held_place g.K.Decides.codec g.met.K.Decides.lawful _ _ c.requires.held _ t.first) in
    let second = still_place g.K.Decides.codec _ _ _ _ _ c.put_record-in-Turn.ensures (held_place g.K.Decides.codec g.met.K.Decides.lawful _ _ c.requires.held _ t.second) in
    search (first, second)

pub returns-in-Refuse : goal.returns-in-Refuse
returns-in-Refuse g c = made_refuse g.K.Decides.codec g.met.K.Decides.lawful _ _ _ _ _ _ (refuse_move _ _ c.in-Refuse.is)

pub returns-in-Drop : goal.returns-in-Drop
returns-in-Drop g c =
    made_drop g.K.Decides.codec g.met.K.Decides.lawful _ _ _ _ _ (drop_move_lem _ c.in-Drop.is) _ _ c.drop_places.ensures.value c.drop_places.ensures.work_after

pub returns-in-Join : goal.returns-in-Join
returns-in-Join g c =
    made_join g.K.Decides.codec g.met.K.Decides.lawful _ _ _ _ _ _ (join_move_lem _ _ c.in-Join.is) _ _ c.join_places.ensures.value c.join_places.ensures.work_after

pub returns-in-Split : goal.returns-in-Split
returns-in-Split g c =
    made_split g.K.Decides.codec g.met.K.Decides.lawful _ _ _ _ _ c.requires.placed _ _ (split_move_lem _ _ _ c.in-Split.is) c.requires.held _ _
    c.put_record.ensures c.put_record-in-Split.ensures

pub returns-in-Turn : goal.returns-in-Turn
returns-in-Turn g c =
    made_turn g.K.Decides.codec g.met.K.Decides.lawful _ _ _ _ _ c.requires.placed _ _ (turn_move_lem _ _ _ c.in-Turn.is) c.requires.held _ _
    c.put_record-in-Turn.ensures c.put_record-in-Turn-2.ensures

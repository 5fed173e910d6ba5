use Rattle.std.proofs.Common.{◌<◌, ◌≤◌, ◌∙◌, arith, length}
use Rattle.xa_tm.proofs.Several.Room.{decided_room_all, decided_room_more}
use Rattle.xa_tm.proofs.ledger.room.reserve_decided.Goals as goal

pub loop-decision-preserved : goal.loop-decision-preserved
loop-decision-preserved c =
    let ds = c.args.decisions.now in
    let i = c.loop-decision.decision-index in
    let low : i < length ds = omega arith in
    record {
      same = λ q. c.in_ok-reserve_row.ensures.same q ∙ c.loop-decision.invariant.same q;
      room =
          decided_room_more ds i c.decision-item.result c.loop-decision.map c.reserve_row.new.map low c.decision-item.is c.in_ok-reserve_row.ensures.kept
          c.in_ok-reserve_row.ensures.room c.loop-decision.invariant.room;
    }

pub returns-clause-room : goal.returns-clause-room
returns-clause-room c =
    let ds = c.args.decisions.now in
    let i = c.loop-decision.decision-index in
    let past : length ds ≤ i = omega arith in
    c.loop-decision.invariant.room c.loop-decision.map (λ q has. has) (decided_room_all c.loop-decision.map ds i past)

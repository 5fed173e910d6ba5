use Rattle.std.proofs.Common.{◌<◌, ◌≤◌, ◌∙◌, arith, length}
use Rattle.xa_tm.proofs.Maps.ResolveOpen.{kept_both, room_all, room_more}
use Rattle.xa_tm.proofs.ledger.room.reserve_each.Goals as goal

pub loop-g-preserved : goal.loop-g-preserved
loop-g-preserved c =
    let gs = c.args.gtrids.now in
    let i = c.loop-g.g-index in
    let low : i < length gs = omega arith in
    record {
      same = λ q. c.in_ok-reserve_row.ensures.same q ∙ c.loop-g.invariant.same q;
      room =
          room_more gs i _ c.loop-g.map c.reserve_row.new.map low c.in_ok-reserve_row.ensures.kept c.in_ok-reserve_row.ensures.room
          c.loop-g.invariant.room;
      kept = kept_both c.args.map.now c.loop-g.map c.reserve_row.new.map c.loop-g.invariant.kept c.in_ok-reserve_row.ensures.kept;
    }

pub returns-clause-room : goal.returns-clause-room
returns-clause-room c =
    let gs = c.args.gtrids.now in
    let i = c.loop-g.g-index in
    let past : length gs ≤ i = omega arith in
    c.loop-g.invariant.room c.loop-g.map (λ q has. has) (room_all c.loop-g.map gs i past)

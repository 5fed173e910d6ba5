use Rattle.std.proofs.Common.{◌<◌, ◌≤◌, ◌∙◌, arith, length}
use Rattle.xa_monitor.proofs.Pages.{room_all, room_more}
use Rattle.xa_monitor.proofs.entries.reserve_all.Goals as goal

pub loop-xid-preserved : goal.loop-xid-preserved
loop-xid-preserved c =
    let xs = c.args.xids.now in
    let i = c.loop-xid.xid-index in
    let low : i < length xs = omega arith in (
      λ q. c.reserve_named.ensures.same q ∙ c.loop-xid.invariant.0 q,
      room_more xs i c.xid-item.result c.loop-xid.branches c.reserve_named.new.branches low c.xid-item.is c.reserve_named.ensures.kept
          c.in_ok-reserve_named.ensures.room
          c.loop-xid.invariant.1,
    )

pub returns-clause-room : goal.returns-clause-room
returns-clause-room c =
    let xs = c.args.xids.now in
    let i = c.loop-xid.xid-index in
    let past : length xs ≤ i = omega arith in
    c.loop-xid.invariant.1 c.loop-xid.branches (λ q has. has) (room_all c.loop-xid.branches xs i past)

use Rattle.std.proofs.Common.{◌<◌, ◌≤◌, arith, length}
use Rattle.xa_monitor.proofs.Pages.{listed_all, listed_more, room_first}
use Rattle.xa_monitor.specs.Entries.{listed_by, states_at}
use Rattle.xa_monitor.proofs.entries.list_all.Goals as goal

pub list-requires : goal.list-requires
list-requires c =
    let xs = c.args.xids.now in
    let i = c.loop-xid.xid-index in
    let low : i < length xs = omega arith in
    room_first c.loop-xid.branches xs i c.xid-item.result low c.xid-item.is c.loop-xid.invariant.0

pub loop-xid-preserved : goal.loop-xid-preserved
loop-xid-preserved c =
    let xs = c.args.xids.now in
    let i = c.loop-xid.xid-index in
    let low : i < length xs = omega arith in
    listed_more c.args.incarnation xs i c.xid-item.result c.loop-xid.branches c.list.new.branches
    (λ q. listed_by xs q (states_at c.args.incarnation c.args.branches.now q)) low c.xid-item.is c.list.ensures.kept c.list.ensures.at c.loop-xid.invariant

pub returns : goal.returns
returns c =
    let xs = c.args.xids.now in
    let i = c.loop-xid.xid-index in
    let past : length xs ≤ i = omega arith in
    listed_all c.args.incarnation xs i c.loop-xid.branches
    (λ q. listed_by xs q (states_at c.args.incarnation c.args.branches.now q)) past c.loop-xid.invariant.1

use Rattle.std.proofs.Common.{◌≡◌, drop}
use Rattle.xa_base.specs.declared.branch.Branch.{Branch}
use Rattle.xa_monitor.specs.Entries.{HasRoomForAll, listed_by, states_at}
use Rattle.xa_monitor.proofs.entries.list_all.Given as goal

abbrev pub invariant-loop-xid : goal.invariant-loop-xid
invariant-loop-xid l = HasRoomForAll l.branches (drop l.xid-index l.xids)
    × ((q : Branch) → listed_by (drop l.xid-index l.xids) q (states_at l.incarnation l.branches q)
    ≡ listed_by l.xids q (states_at l.incarnation l.fn.branches q))

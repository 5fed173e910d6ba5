use Rattle.std.proofs.Common.{◌≡◌, drop}
use Rattle.std.specs.BTreeMap.{BTreeMap}
use Rattle.xa_base.specs.declared.branch.Branch.{Branch}
use Rattle.xa_monitor.specs.Entries.{HasKeptEntries, HasRoomForAll, states_at}
use Rattle.xa_monitor.specs.declared.states.States.{States}
use Rattle.xa_monitor.proofs.entries.reserve_all.Given as goal

abbrev pub invariant-loop-xid : goal.invariant-loop-xid
invariant-loop-xid l = ((q : Branch) → states_at l.incarnation l.branches q ≡ states_at l.incarnation l.fn.branches q)
    × ((m : BTreeMap Branch States) → HasKeptEntries l.branches m → HasRoomForAll m (drop l.xid-index l.xids) → HasRoomForAll m l.xids)

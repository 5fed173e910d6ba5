use Rattle.std.proofs.Common.{drop}
use Rattle.xa_monitor.specs.Entries.{AreListable, states_at}
use Rattle.xa_monitor.proofs.entries.first_unlistable.Given as goal

abbrev pub invariant-loop-xid : goal.invariant-loop-xid
invariant-loop-xid l =
    AreListable l.rm (states_at l.incarnation l.branches) (drop l.xid-index l.xids) → AreListable l.rm (states_at l.incarnation l.branches) l.xids

use Rattle.std.proofs.Common.{◌≡◌, Option, drop}
use Rattle.std.specs.BTreeMap.{BTreeMap}
use Rattle.std.specs.Global.{Vec}
use Rattle.xa_base.specs.declared.branch.Branch.{Branch}
use Rattle.xa_base.specs.declared.branch.Gtrid.{Gtrid}
use Rattle.xa_tm.specs.LedgerBook.{HasKept, HaveRoom, gtrids_of, row_at}
use Rattle.xa_tm.proofs.ledger.room.reserve_decided.Given as goal

abbrev pub invariant-loop-decision : goal.invariant-loop-decision
invariant-loop-decision l = record {
  same : (q : Gtrid) → row_at l.map q ≡ row_at l.fn.map q;
  room : (m : BTreeMap Gtrid (Option (Vec Branch))) → HasKept l.map m → HaveRoom m (gtrids_of (drop l.decision-index l.decisions))
      → HaveRoom m (gtrids_of l.decisions);
}

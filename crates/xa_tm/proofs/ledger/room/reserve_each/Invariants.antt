use Rattle.std.proofs.Common.{◌≡◌, Option, drop}
use Rattle.std.specs.BTreeMap.{BTreeMap}
use Rattle.std.specs.Global.{Vec}
use Rattle.xa_base.specs.declared.branch.Branch.{Branch}
use Rattle.xa_base.specs.declared.branch.Gtrid.{Gtrid}
use Rattle.xa_tm.specs.LedgerBook.{HasKept, HaveRoom, row_at}
use Rattle.xa_tm.proofs.ledger.room.reserve_each.Given as goal

abbrev pub invariant-loop-g : goal.invariant-loop-g
invariant-loop-g l = record {
  same : (q : Gtrid) → row_at l.map q ≡ row_at l.fn.map q;
  room : (m : BTreeMap Gtrid (Option (Vec Branch))) → HasKept l.map m → HaveRoom m (drop l.g-index l.gtrids) → HaveRoom m l.gtrids;
  kept : HasKept l.fn.map l.map;
}

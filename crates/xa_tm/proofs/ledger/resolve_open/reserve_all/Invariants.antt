use Rattle.std.proofs.Common.{◌≡◌, drop}
use Rattle.std.specs.BTreeMap.{BTreeMap}
use Rattle.xa_base.specs.declared.branch.Gtrid.{Gtrid}
use Rattle.xa_tm.specs.LedgerBook.{HasKept, HaveRoom, transaction_at}
use Rattle.xa_tm.specs.declared.notes.Transaction.{Transaction}
use Rattle.xa_tm.proofs.ledger.resolve_open.reserve_all.Given as goal

abbrev pub invariant-loop-g : goal.invariant-loop-g
invariant-loop-g l = ((q : Gtrid) → transaction_at l.map q ≡ transaction_at l.fn.map q)
    × ((m : BTreeMap Gtrid Transaction) → HasKept l.map m → HaveRoom m (drop l.g-index l.gtrids) → HaveRoom m l.gtrids)

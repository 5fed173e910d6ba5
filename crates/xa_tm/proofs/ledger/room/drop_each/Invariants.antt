use Rattle.std.proofs.Common.{◌≡◌, drop}
use Rattle.xa_base.specs.declared.branch.Gtrid.{Gtrid}
use Rattle.xa_tm.specs.Book.{row_without}
use Rattle.xa_tm.specs.LedgerBook.{HaveRoom, row_at}
use Rattle.xa_tm.proofs.ledger.room.drop_each.Given as goal

abbrev pub invariant-loop-g : goal.invariant-loop-g
invariant-loop-g l = record {
  room : HaveRoom l.map (drop l.g-index l.gtrids);
  rows : (q : Gtrid) → row_without (drop l.g-index l.gtrids) q (row_at l.map q) ≡ row_without l.gtrids q (row_at l.fn.map q);
}

use Rattle.std.proofs.Common.{◌≡◌, map, vec_len}
use Rattle.xa_base.specs.declared.branch.Gtrid.{Gtrid}
use Rattle.xa_tm.specs.Book.{row_among}
use Rattle.xa_tm.specs.LedgerBook.{HaveRoom, decided_row, gtrids_of, row_at}
use Rattle.xa_tm.proofs.ledger.room.put_rows.Given as goal

abbrev pub invariant-loop-decision : goal.invariant-loop-decision
invariant-loop-decision l = record {
  room : HaveRoom l.map (gtrids_of l.decisions.items);
  rows : (q : Gtrid) → row_among (map decided_row l.decisions.items) q (row_at l.map q)
      ≡ row_among (map decided_row l.fn.decisions.items) q (row_at l.fn.map q);
}

abbrev pub decreases-loop-decision : goal.decreases-loop-decision
decreases-loop-decision l = vec_len l.decisions

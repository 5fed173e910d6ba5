use Rattle.std.proofs.Common.{◌≡◌, drop, map, is_some, true}
use Rattle.xa_base.specs.declared.branch.Gtrid.{Gtrid}
use Rattle.xa_model.specs.Facts.Distinct.{EachOnce}
use Rattle.xa_model.specs.Trace.{Happening.Done}
use Rattle.xa_tm.specs.Book.{after_all}
use Rattle.xa_tm.specs.LedgerBook.{as_book, row_at}
use Rattle.xa_tm.proofs.ledger.Ledger.done_all.Given as goal

abbrev pub invariant-loop-g : goal.invariant-loop-g
invariant-loop-g l = record {
  kept : EachOnce (λ (g : Gtrid). is_some (row_at l.self.rows g) ≡ true) (drop l.g-index l.gtrids);
  rest : after_all (as_book l.self) (map (λ (g : Gtrid). Done g) (drop l.g-index l.gtrids))
      ≡ after_all (as_book l.fn.self) (map (λ (g : Gtrid). Done g) l.gtrids);
}

use Rattle.std.proofs.Common.{◌≡◌, drop}
use Rattle.xa_base.specs.declared.branch.Gtrid.{Gtrid}
use Rattle.xa_model.specs.Facts.Distinct.{EachOnce}
use Rattle.xa_tm.specs.Calls.{IsOpenIn}
use Rattle.xa_tm.specs.LedgerBook.{HaveRoom, as_book, decided_by}
use Rattle.xa_tm.proofs.ledger.Ledger.decided_all.Given as goal

abbrev pub invariant-loop-g : goal.invariant-loop-g
invariant-loop-g l = record {
  others : l.self ≡ record l.fn.self { transactions = l.self.transactions };
  room : HaveRoom l.self.transactions (drop l.g-index l.gtrids);
  still_open : EachOnce (IsOpenIn (as_book l.self)) (drop l.g-index l.gtrids);
  rest : (q : Gtrid) → decided_by (as_book l.fn.self) l.outcome (drop l.g-index l.gtrids) q ((as_book l.self).transaction q)
      ≡ decided_by (as_book l.fn.self) l.outcome l.gtrids q ((as_book l.fn.self).transaction q);
}

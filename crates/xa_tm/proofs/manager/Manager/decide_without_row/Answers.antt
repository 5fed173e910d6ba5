use Rattle.std.proofs.Common.{sym, subst}
use Rattle.xa_tm.specs.LedgerBook.{as_book}
use Rattle.xa_tm.specs.BookAndLog.{IsTied}
use Rattle.xa_tm.proofs.Log.TiedSteps.{tied_plain}
use Rattle.xa_tm.proofs.manager.Manager.decide_without_row.Goals as goal

pub returns-clause-tied : goal.returns-clause-tied
returns-clause-tied g c = λ near log tied.
    subst (λ b. IsTied near b log) (sym c.in_ok-decide.ensures.ok)
    (tied_plain near (as_book c.args.self.now.ledger) c.args.g c.args.outcome log c.requires.no_row tied)

use Rattle.std.proofs.Common.{sym, subst}
use Rattle.xa_tm.specs.LedgerBook.{as_book}
use Rattle.xa_tm.specs.BookAndLog.{IsTied}
use Rattle.xa_tm.proofs.Log.TiedSteps.{tied_opened}
use Rattle.xa_tm.proofs.manager.Manager.resolve_open.Goals as goal

pub returns-clause-tied : goal.returns-clause-tied
returns-clause-tied g c = λ near log tied. subst (λ b. IsTied near b log) (sym c.in_ok-resolve_open.ensures.ok)
    (tied_opened near (as_book c.args.self.now.ledger) c.args.rm log tied)

pub returns-in_err-resolve_open-clause-tied : goal.returns-in_err-resolve_open-clause-tied
returns-in_err-resolve_open-clause-tied g c = λ near log tied. subst (λ b. IsTied near b log) (sym c.in_err-resolve_open.ensures.err) tied

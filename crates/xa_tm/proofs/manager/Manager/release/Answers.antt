use Rattle.std.proofs.Common.{sym, subst}
use Rattle.xa_tm.specs.LedgerBook.{as_book}
use Rattle.xa_tm.specs.BookAndLog.{IsTied}
use Rattle.xa_tm.proofs.Log.TiedSteps.{tied_released}
use Rattle.xa_tm.proofs.manager.Manager.release.Goals as goal

pub returns-then-is_over-clause-tied : goal.returns-then-is_over-clause-tied
returns-then-is_over-clause-tied g c = λ near log tied.
    subst (λ b. IsTied near b log) (sym c.release.ensures.book) (tied_released near (as_book c.args.self.now.ledger) c.args.g log tied)

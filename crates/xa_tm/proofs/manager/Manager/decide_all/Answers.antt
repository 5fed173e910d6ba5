use Rattle.std.proofs.Common.{sym}
use Rattle.std.proofs.lemmas.Result.{err_from_is_err_and}
use Rattle.xa_base.specs.declared.step.Step.TheVariants as Steps
use Rattle.xa_model.specs.Trace.{Happening.Decided}
use Rattle.xa_tm.specs.Book.{Doubt.Adds, rows_for}
use Rattle.xa_tm.specs.BookAndLog.{changed_by}
use Rattle.xa_tm.specs.Calls.{written_by}
use Rattle.xa_tm.specs.LedgerBook.{as_book}
use Rattle.xa_tm.proofs.Log.Asks.{asks_refused}
use Rattle.xa_tm.proofs.Several.Decisions.{all_open}
use Rattle.xa_tm.proofs.Several.Refusals.{turn_tells_no_fault}
use Rattle.xa_tm.proofs.manager.Manager.decide_all.Goals as goal

pub conclude_all-requires-clause-open : goal.conclude_all-requires-clause-open
conclude_all-requires-clause-open g c = all_open c.args.outcome (as_book c.args.self.now.ledger) c.args.gtrids.now (sym c.in_ok-check_decide_all.ensures)

pub returns-in_err-check_decide_all-clause-asks : goal.returns-in_err-check_decide_all-clause-asks
returns-in_err-check_decide_all-clause-asks g c =
    let p = err_from_is_err_and c.from_residual.result c.from_residual.ensures.1 in
    let k = as_book c.args.self.now.ledger in
    rw (p.1, p.2)
    (asks_refused (changed_by (Adds (rows_for k (written_by c.args.outcome k c.args.gtrids.now)))) _ (g.L.DecisionLog.moment c.args.self.now.log)
    (turn_tells_no_fault (λ g. Steps.Decide g c.args.outcome) (λ g. Decided g c.args.outcome) k c.args.gtrids.now _ (sym c.in_err-check_decide_all.ensures)))

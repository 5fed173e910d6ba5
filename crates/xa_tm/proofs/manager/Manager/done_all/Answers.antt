use Rattle.std.proofs.Common.{◌≡◌, ◌∙◌, Option, Some, None, ap, sym}
use Rattle.std.proofs.lemmas.Result.{err_from_is_err_and}
use Rattle.xa_base.specs.declared.refusal.Refusal.{Refusal}
use Rattle.xa_base.specs.declared.step.Step.TheVariants as Steps
use Rattle.xa_model.specs.Trace.{Happening.Done}
use Rattle.xa_tm.specs.Book.{Doubt.Drops}
use Rattle.xa_tm.specs.BookAndLog.{changed_by}
use Rattle.xa_tm.specs.InTurn.{done_refusal}
use Rattle.xa_tm.specs.LedgerBook.{as_book}
use Rattle.xa_tm.proofs.Log.Asks.{asks_refused}
use Rattle.xa_tm.proofs.Several.Refusals.{turn_tells_no_fault}
use Rattle.xa_tm.proofs.manager.Manager.done_all.Goals as goal

pub returns-in_err-check_done_all-clause-asks : goal.returns-in_err-check_done_all-clause-asks
returns-in_err-check_done_all-clause-asks g c =
    let p = err_from_is_err_and c.from_residual.result c.from_residual.ensures.1 in
    rw (p.1, p.2)
    (asks_refused (changed_by (Drops c.args.gtrids.now)) _ (g.L.DecisionLog.moment c.args.self.now.log)
    (turn_tells_no_fault (λ g. Steps.Done g) (λ g. Done g) (as_book c.args.self.now.ledger) c.args.gtrids.now _ (sym c.in_err-check_done_all.ensures)))

some_is_not_none : (n : Refusal) (o : Option Refusal) → Some n ≡ o → o ≡ None → ⊥
some_is_not_none n o some none = let no : Some n ≡ None = some ∙ none in absurd (cc)

pub returns-in_err-check_done_all-clause-asked : goal.returns-in_err-check_done_all-clause-asked
returns-in_err-check_done_all-clause-asked g c = λ is none.
    some_is_not_none _ (done_refusal (as_book c.args.self.now.ledger) c.args.gtrids.now) c.in_err-check_done_all.ensures
    (ap (done_refusal (as_book c.args.self.now.ledger)) none)

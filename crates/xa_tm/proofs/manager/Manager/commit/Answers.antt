use Rattle.std.proofs.Common.{◌≡◌, [], ◌∷◌, cond, refl, ap, subst}
use Rattle.std.specs.Prelude.{IfErr}
use Rattle.xa_base.specs.declared.step.Outcome.TheVariants as Outcomes
use Rattle.xa_model.specs.Trace.{Fault.InDecide}
use Rattle.xa_tm.specs.Book.{Doubt.Adds, rows_for}
use Rattle.xa_tm.specs.BookAndLog.{changed_by}
use Rattle.xa_tm.specs.Calls.{AsksFor, FailsBy, book_in, written_by}
use Rattle.xa_tm.specs.LedgerBook.{as_book}
use Rattle.xa_tm.proofs.manager.Manager.commit.Goals as goal

pub conclude_all-requires-clause-open : goal.conclude_all-requires-clause-open
conclude_all-requires-clause-open g c = (c.requires.open, refl, tt)

pub returns-clause-err : goal.returns-clause-err
returns-clause-err g c =
    let k = as_book c.args.self.now.ledger in
    let one : written_by Outcomes.Commit k (c.args.g ∷ []) ≡ c.args.g ∷ [] = ap (λ y. cond y (c.args.g ∷ []) []) c.requires.yes in
    subst (λ ws. IfErr c.conclude_all.result (FailsBy (Adds (rows_for k ws)) (InDecide ws) k (book_in c.conclude_all.new.self))) one c.conclude_all.ensures.err

pub returns-clause-asks : goal.returns-clause-asks
returns-clause-asks g c =
    let k = as_book c.args.self.now.ledger in
    let one : written_by Outcomes.Commit k (c.args.g ∷ []) ≡ c.args.g ∷ [] = ap (λ y. cond y (c.args.g ∷ []) []) c.requires.yes in
    subst (λ ws. AsksFor (changed_by (Adds (rows_for k ws))) (g.L.DecisionLog.moment c.args.self.now.log)
    (g.L.DecisionLog.moment c.conclude_all.new.self.log) c.conclude_all.result) one c.conclude_all.ensures.asks

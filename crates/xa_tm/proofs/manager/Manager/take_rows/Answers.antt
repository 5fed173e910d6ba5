use Rattle.std.proofs.Common.{refl, sym, ap, ◌∙◌, subst}
use Rattle.xa_log.specs.Content.{without_decisions}
use Rattle.xa_model.specs.Trace.{Fault.InDone, Happening.Failed}
use Rattle.xa_tm.specs.Book.{Doubt.Drops, book_after}
use Rattle.xa_tm.specs.BookAndLog.{IsTied}
use Rattle.xa_tm.specs.LedgerBook.{as_book}
use Rattle.xa_tm.proofs.Log.Asks.{asks_failed, asks_made}
use Rattle.xa_tm.proofs.Log.Ties.{tied_fault}
use Rattle.xa_tm.proofs.Several.FittingNumbers.{kept_fit}
use Rattle.xa_tm.proofs.Several.Decisions.{rows_dropped}
use Rattle.xa_tm.proofs.manager.Manager.take_rows.Goals as goal

pub drop_rows-requires : goal.drop_rows-requires
drop_rows-requires g c = kept_fit (as_book c.args.self.now.ledger) c.args.gtrids.now c.requires.sound c.requires.rows

pub returns-in-Ok-clause-tied : goal.returns-in-Ok-clause-tied
returns-in-Ok-clause-tied g c = λ near order honest tied.
    let new = (g.L.DecisionLog.moment c.drop_rows.new.log).content in
    subst (λ b. IsTied near b new) (sym c.done_all.ensures)
    (rows_dropped near (as_book c.args.self.now.ledger) c.args.gtrids.now (g.L.DecisionLog.moment c.args.self.now.log).content new c.requires.up c.requires.rows
    (c.in-Ok.ensures.ok order honest) tied)

pub returns-in-Ok-clause-asks : goal.returns-in-Ok-clause-asks
returns-in-Ok-clause-asks g c =
    asks_made (g.L.DecisionLog.moment c.args.self.now.log) (g.L.DecisionLog.moment c.drop_rows.new.log) (without_decisions c.args.gtrids.now) _ tt
    c.in-Ok.ensures

pub returns-in-Err-clause-err : goal.returns-in-Err-clause-err
returns-in-Err-clause-err g c = (
  refl,
  c.fail.ensures (InDone c.args.gtrids.now) refl
      ∙ ap (λ l. book_after (as_book c.args.self.now.ledger) (Drops l) (Failed (InDone c.args.gtrids.now))) (sym c.requires.all),
)

pub returns-in-Err-clause-tied : goal.returns-in-Err-clause-tied
returns-in-Err-clause-tied g c = λ near order honest tied.
    let k = as_book c.args.self.now.ledger in
    let gs = c.args.gtrids.now in
    let new = (g.L.DecisionLog.moment c.drop_rows.new.log).content in
    subst (λ b. IsTied near b new) (sym (returns-in-Err-clause-err g c).1)
    (tied_fault near k (Drops gs) (InDone gs) (g.L.DecisionLog.moment c.args.self.now.log).content new c.requires.up c.requires.rows refl
    (c.in-Err.ensures.err order) tied)

pub returns-in-Err-clause-asks : goal.returns-in-Err-clause-asks
returns-in-Err-clause-asks g c =
    asks_failed {B = Unit {0}} (g.L.DecisionLog.moment c.args.self.now.log) (g.L.DecisionLog.moment c.drop_rows.new.log) (without_decisions c.args.gtrids.now) _
    c.in-Err.ensures

use Rattle.std.proofs.Common.{◌≡◌, Result, Ok, Err, inr, refl, sym, ap, ◌∙◌, subst}
use Rattle.xa_base.specs.declared.refusal.Refusal.{Refusal}
use Rattle.xa_base.specs.declared.refusal.Refusal.TheVariants.{LogFault}
use Rattle.std.specs.List.{AllByRecursion}
use Rattle.xa_log.specs.Content.{Content, with_commits}
use Rattle.xa_log.specs.Contract.{FitsRow, Makes, MayMake}
use Rattle.xa_log.specs.declared.decision.Decision.{Decision}
use Rattle.xa_model.specs.Trace.{Fault.InDecide, Happening.Failed}
use Rattle.xa_tm.specs.Book.{Doubt.Adds, book_after, rows_for}
use Rattle.xa_tm.specs.BookAndLog.{IsTied, changed_by}
use Rattle.xa_tm.specs.Calls.{AsksFor, written_by}
use Rattle.xa_tm.specs.LedgerBook.{NamesOwn, as_book}
use Rattle.xa_tm.proofs.Log.Asks.{asks_failed, asks_made, asks_none}
use Rattle.xa_tm.proofs.Log.Ties.{tied_fault}
use Rattle.xa_tm.proofs.Several.Decisions.{commits_change, decided_unwritten, decided_written, none_written, some_written, written_new, written_up}
use Rattle.xa_tm.proofs.Several.FittingNumbers.{written_fit}
use Rattle.xa_tm.proofs.Several.Lists.{no_items, some_items}
use Rattle.xa_tm.proofs.manager.Manager.write_decisions.Goals as goal

pub write_rows-requires-clause-fits : goal.write_rows-requires-clause-fits
write_rows-requires-clause-fits g c =
    subst (AllByRecursion (λ (d : Decision). FitsRow d.gtrid)) (sym c.as_slice.ensures.value)
    (written_fit c.args.self.now.ledger c.args.outcome c.args.gtrids.now c.args.decisions.items c.requires.sound c.requires.open c.requires.all)

pub write_rows-requires-clause-own : goal.write_rows-requires-clause-own
write_rows-requires-clause-own g c = subst (AllByRecursion NamesOwn) (sym c.as_slice.ensures.value) c.requires.own

pub fail-requires : goal.fail-requires
fail-requires g c =
    let k = as_book c.args.self.now.ledger in
    let ds = c.args.decisions in
    written_up k c.args.outcome c.args.gtrids.now c.requires.open
    (some_written k c.args.outcome c.args.gtrids.now ds.items c.requires.all (some_items ds (sym c.if-is_empty.ensures)))

pub returns-then-is_empty : goal.returns-then-is_empty
returns-then-is_empty g c =
    let k = as_book c.args.self.now.ledger in
    let log = c.args.self.now.log in
    let ds = c.args.decisions in
    let none = none_written k c.args.outcome c.args.gtrids.now ds.items c.requires.all (no_items ds (sym c.if-is_empty.ensures)) in
    record {
      ok = c.note_decisions.ensures;
      err = tt;
      asked = λ is. absurd (cc);
      tied = λ near order honest tied.
          subst (λ b. IsTied near b (g.L.DecisionLog.moment log).content) (sym c.note_decisions.ensures)
          (decided_unwritten near k c.args.outcome c.args.gtrids.now (g.L.DecisionLog.moment log).content none tied);
      kept = tt;
      without_row = λ none. refl;
      asks = asks_none (changed_by (Adds (rows_for k (written_by c.args.outcome k c.args.gtrids.now)))) tt (g.L.DecisionLog.moment log);
    }

pub returns-in-Ok : goal.returns-in-Ok
returns-in-Ok g c =
    let k = as_book c.args.self.now.ledger in
    let o = c.args.outcome in
    let gs = c.args.gtrids.now in
    let ds = c.args.decisions in
    let old = g.L.DecisionLog.moment c.args.self.now.log in
    let new = g.L.DecisionLog.moment c.write_rows.new.log in
    let some = some_written k o gs ds.items c.requires.all (some_items ds (sym c.if-is_empty.ensures)) in
    let change : with_commits c.as_slice.result.now ≡ changed_by (Adds (rows_for k (written_by o k gs))) =
    ap with_commits c.as_slice.ensures.value ∙ commits_change k o gs ds.items c.requires.all in
    record {
      ok = c.note_decisions-in-Ok.ensures;
      err = tt;
      asked = λ is. absurd (cc);
      tied = λ near order honest tied.
          subst (λ b. IsTied near b new.content) (sym c.note_decisions-in-Ok.ensures)
          (decided_written near k o gs old.content new.content (written_up k o gs c.requires.open some)
          (written_new k o gs c.requires.sound.no_row c.requires.open)
          (subst (λ (f : Content → Content). Makes f old.content new.content) change (c.in-Ok.ensures.ok order honest)) tied);
      kept = tt;
      without_row = λ none. absurd (some none);
      asks = subst (λ (f : Content → Content). AsksFor f old new (let r : Result (Unit {0}) Refusal = Ok tt in r)) change
          (asks_made old new (with_commits c.as_slice.result.now) _ tt c.in-Ok.ensures);
    }

pub returns-in-Err : goal.returns-in-Err
returns-in-Err g c =
    let k = as_book c.args.self.now.ledger in
    let o = c.args.outcome in
    let gs = c.args.gtrids.now in
    let ds = c.args.decisions in
    let old = g.L.DecisionLog.moment c.args.self.now.log in
    let new = g.L.DecisionLog.moment c.write_rows.new.log in
    let some = some_written k o gs ds.items c.requires.all (some_items ds (sym c.if-is_empty.ensures)) in
    let change : with_commits c.as_slice.result.now ≡ changed_by (Adds (rows_for k (written_by o k gs))) =
    ap with_commits c.as_slice.ensures.value ∙ commits_change k o gs ds.items c.requires.all in
    let made = c.fail.ensures (InDecide (written_by o k gs)) refl
    ∙ ap (λ xs. book_after k (Adds xs) (Failed (InDecide (written_by o k gs)))) c.requires.all in
    record {
      ok = tt;
      err = inr (refl, made);
      asked = λ is. some;
      tied = λ near order honest tied.
          subst (λ b. IsTied near b new.content) (sym made)
          (tied_fault near k (Adds (rows_for k (written_by o k gs))) (InDecide (written_by o k gs)) old.content new.content
          (written_up k o gs c.requires.open some) (written_new k o gs c.requires.sound.no_row c.requires.open) refl
          (subst (λ (f : Content → Content). MayMake f old.content new.content) change (c.in-Err.ensures.err order)) tied);
      kept = λ other. absurd (other refl);
      without_row = λ none. absurd (some none);
      asks = subst (λ (f : Content → Content). AsksFor f old new (let r : Result (Unit {0}) Refusal = Err LogFault in r)) change
          (asks_failed {B = Unit {0}} old new (with_commits c.as_slice.result.now) _ c.in-Err.ensures);
    }

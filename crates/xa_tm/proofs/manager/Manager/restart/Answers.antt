use Rattle.std.proofs.Common.{inr, refl, sym, ap, ◌∙◌, subst}
use Rattle.xa_model.specs.Trace.{Fault.InRestart, Happening.Failed, Happening.Restarted}
use Rattle.xa_tm.specs.Book.{Doubt.NoDoubt, after, book_after}
use Rattle.xa_tm.specs.LedgerBook.{as_book}
use Rattle.xa_tm.specs.BookAndLog.{IsTied, may_find}
use Rattle.xa_tm.proofs.Log.FoundContent.{is_found, never_found}
use Rattle.xa_tm.proofs.Log.Restart.{tied_restart, tied_no_restart}
use Rattle.xa_tm.proofs.manager.Manager.restart.Goals as goal

pub returns-then-try_restart-clause-tied : goal.returns-then-try_restart-clause-tied
returns-then-try_restart-clause-tied g c = λ near order honest tied.
    let k = as_book c.args.self.now.ledger in
    let f = c.in-Ok.found in
    let new = (g.L.DecisionLog.moment c.find_and_raise.new.log).content in
    subst (λ b. IsTied near b new) (sym
    (c.if-try_restart.ensures.up refl ∙ ap (λ b. after b (Restarted f.incarnation f.decisions f.heuristics)) c.prepare_restart.ensures.book))
    (tied_restart near k f.incarnation f.decisions f.heuristics (g.L.DecisionLog.moment c.args.self.now.log).content new
    (sym c.is_up.ensures ∙ c.if-is_up.false)
    (c.in-Ok.ensures.found order honest) (c.in-Ok.ensures.ok order honest) tied)

pub returns-else-try_restart-clause-tied : goal.returns-else-try_restart-clause-tied
returns-else-try_restart-clause-tied g c = λ near order honest tied.
    let k = as_book c.args.self.now.ledger in
    let new = (g.L.DecisionLog.moment c.find_and_raise.new.log).content in
    subst (λ b. IsTied near b new) (sym
    (c.if-try_restart.ensures.down refl NoDoubt ∙ ap (λ b. book_after b NoDoubt (Failed InRestart)) c.prepare_restart.ensures.book))
    (tied_no_restart near k (g.L.DecisionLog.moment c.args.self.now.log).content new (sym c.is_up.ensures ∙ c.if-is_up.false)
    (inr (inr (c.in-Ok.ensures.ok order honest))) tied)

pub returns-else-try_restart-clause-log : goal.returns-else-try_restart-clause-log
returns-else-try_restart-clause-log g c =
    let raised = c.in-Ok.ensures in
    record {
      fault = λ order honest failed. inr (inr (raised.ok order honest));
      crash = raised.crash;
      order = raised.order;
      honest = raised.honest;
      faults = λ order honest tied.
          let k = as_book c.args.self.now.ledger in
          let f = c.in-Ok.found in
          absurd (never_found k f.incarnation f.decisions f.heuristics
          (ap (λ b. may_find b f.incarnation f.decisions f.heuristics) (sym c.prepare_restart.ensures.book) ∙ sym c.if-try_restart.ensures.value)
          (is_found k f.incarnation f.decisions f.heuristics (g.L.DecisionLog.moment c.args.self.now.log).content (sym c.is_up.ensures ∙ c.if-is_up.false)
          (raised.found order honest) tied));
      counted = inr (refl, raised.faults);
    }

pub returns-in_default-clause-tied : goal.returns-in_default-clause-tied
returns-in_default-clause-tied g c = λ near order honest tied.
    let k = as_book c.args.self.now.ledger in
    let new = (g.L.DecisionLog.moment c.find_and_raise.new.log).content in
    subst (λ b. IsTied near b new) (sym (c.fail_restart.ensures NoDoubt ∙ ap (λ b. book_after b NoDoubt (Failed InRestart)) c.prepare_restart.ensures.book))
    (tied_no_restart near k (g.L.DecisionLog.moment c.args.self.now.log).content new (sym c.is_up.ensures ∙ c.if-is_up.false)
    (c.in_default.ensures.err order honest) tied)

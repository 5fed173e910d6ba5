use Rattle.std.proofs.Common.{◌∙◌, ap, refl, subst, sym}
use Rattle.std.specs.Prelude.{slice_get}
use Rattle.std.specs.Option.{option_copied}
use Rattle.xa_base.specs.declared.step.Part.TheVariants as Parts
use Rattle.xa_line.specs.Grid.{with_line}
use Rattle.xa_line.specs.Traffic.{Traffic}
use Rattle.xa_model.specs.Trace.{Happening.Crashed, line}
use Rattle.xa_monitor.specs.Monitor.{Loses}
use Rattle.xa_tm.specs.Book.{Doubt.NoDoubt}
use Rattle.xa_session.proofs.Lines.{all_with, may_tell, waiting_if}
use Rattle.xa_session.proofs.Sessions.{has_few, step_leaves}
use Rattle.xa_session.proofs.LostLines.{lost_follows}
use Rattle.xa_tm.specs.Calls.{book_in}
use Rattle.xa_session.proofs.Logging.{quiet_keeps, same_lost}
use Rattle.xa_session.proofs.StepLemmas.{ok_obeys}
use Rattle.xa_session.specs.Session.{line_refusal}
use Rattle.xa_session.proofs.session.Session.lose_line.Goals as goal

pub returns-clause-ready : goal.returns-clause-ready
returns-clause-ready g c =
    let s = c.args.self.now in
    let t = c.args.thread in
    let r = c.args.rm in
    let may = may_tell s t r (sym c.in_ok-check_line.ensures) in
    step_leaves s _ NoDoubt (Crashed (Parts.Line t r)) c.requires (has_few s may.free) tt refl c.crash.ensures.book
    (all_with s.lines t r c.renew.new.self c.line_mut.ensures.whole may.has (ap (λ (l : Traffic). l.answers.waiting) c.renew.ensures) c.requires.heard)

pub returns-clause-keeps : goal.returns-clause-keeps
returns-clause-keeps g c =
    let s = c.args.self.now in
    quiet_keeps g.L.DecisionLog.moment s.manager c.crash.new.self c.crash.ensures.log
    (same_lost (book_in s.manager) (book_in c.crash.new.self) c.args.thread c.args.rm c.crash.ensures.book)

pub returns-clause-loses : goal.returns-clause-loses
returns-clause-loses g c =
    let s = c.args.self.now in
    let t = c.args.thread in
    let r = c.args.rm in
    let none = sym c.in_ok-check_line.ensures in
    let may = may_tell s t r none in
    record {
      rules = ok_obeys (line_refusal s t r) s _ tt none;
      memory = λ none. tt;
      lost = record {
        book = c.crash.ensures.book;
        follows = record {
          leads = lost_follows s _ t r may c.crash.ensures.book (ap (with_line s.lines t r) c.renew.ensures);
          counted = refl;
          states =
              subst (λ k. Loses (line t r) k s.monitor c.lose_line.new.self)
              (waiting_if s.lines t r (option_copied c.front-call.result) may.there
              (c.front-call.ensures ∙ ap (λ (l : Traffic). slice_get l.calls.waiting 0) c.line.ensures.value))
              c.in-Ok.ensures.ok;
        };
        lines = ap (with_line s.lines t r) c.renew.ensures;
      };
      log = c.crash.ensures.log;
    }

use Rattle.std.proofs.Common.{◌∙◌, ap, refl, sym}
use Rattle.xa_base.specs.Call.{map_call}
use Rattle.xa_line.specs.Grid.{line_at, with_line}
use Rattle.xa_line.specs.Traffic.{Traffic}
use Rattle.xa_model.specs.Replies.History.{name_of}
use Rattle.xa_model.specs.Trace.{Happening.Issued, line}
use Rattle.xa_tm.specs.Book.{Doubt.NoDoubt}
use Rattle.xa_tm.specs.Calls.{book_in}
use Rattle.xa_session.proofs.Lines.{all_with, may_issue_so}
use Rattle.xa_line.proofs.SeveralCalls.{line_took}
use Rattle.xa_session.proofs.Refusals.{known_issue}
use Rattle.xa_session.proofs.Sessions.{has_few, sized_after, step_leaves}
use Rattle.xa_session.proofs.IssuedCalls.{issued_follows}
use Rattle.xa_session.proofs.Logging.{quiet_keeps, same_book, same_issued}
use Rattle.xa_session.proofs.StepLemmas.{ok_obeys}
use Rattle.xa_session.specs.Session.{issue_refusal}
use Rattle.xa_session.proofs.session.Session.issue.Goals as goal

pub returns-clause-ready : goal.returns-clause-ready
returns-clause-ready g c =
    let s = c.args.self.now in
    let t = c.args.thread in
    let r = c.args.rm in
    let may = may_issue_so s t r c.args.call.now (sym c.in_ok-check_issue.ensures) in
    let known = known_issue (book_in s.manager) t r (map_call name_of c.args.call.now) may.book in
    let put =
    line_took (line_at s.lines t r) c.line_mut.result.now c.args.call.now c.copy.result c.issue.result c.issue.new.self c.line_mut.ensures.value c.copy.ensures
    c.issue.ensures.reason c.issue.ensures.accepted may.bar may.room in
    step_leaves s _ NoDoubt (Issued (line t r) known.0) c.requires (has_few s may.tell.free) tt refl (c.in_ok-note_issued.ensures.ok (line t r) known.0 known.1)
    (all_with s.lines t r c.issue.new.self c.line_mut.ensures.whole may.tell.has
    (ap (λ (l : Traffic). l.answers.waiting) put ∙ c.requires.heard t r may.tell.has) c.requires.heard)

pub returns-clause-keeps : goal.returns-clause-keeps
returns-clause-keeps g c =
    let s = c.args.self.now in
    let t = c.args.thread in
    let r = c.args.rm in
    let may = may_issue_so s t r c.args.call.now (sym c.in_ok-check_issue.ensures) in
    let known = known_issue (book_in s.manager) t r (map_call name_of c.args.call.now) may.book in
    quiet_keeps g.L.DecisionLog.moment s.manager c.note_issued.new.self c.in_ok-note_issued.ensures.log
    (same_issued (book_in s.manager) (book_in c.note_issued.new.self) (line t r) known.0 (c.in_ok-note_issued.ensures.ok (line t r) known.0 known.1))

pub returns-in_err-note_issued-clause-keeps : goal.returns-in_err-note_issued-clause-keeps
returns-in_err-note_issued-clause-keeps g c =
    let s = c.args.self.now in
    quiet_keeps g.L.DecisionLog.moment s.manager c.note_issued.new.self c.in_err-note_issued.ensures.log
    (same_book (book_in s.manager) (book_in c.note_issued.new.self) c.in_err-note_issued.ensures.err.1)

pub invariant_of-self-2 : goal.invariant_of-self-2
invariant_of-self-2 g c =
    let s = c.args.self.now in
    let t = c.args.thread in
    let r = c.args.rm in
    let may = may_issue_so s t r c.args.call.now (sym c.in_ok-check_issue.ensures) in
    let known = known_issue (book_in s.manager) t r (map_call name_of c.args.call.now) may.book in
    record {
      sized = sized_after s (book_in c.note_issued.new.self) NoDoubt (Issued (line t r) known.0)
          (c.in_ok-note_issued.ensures.ok (line t r) known.0 known.1);
    }

pub returns-clause-issues : goal.returns-clause-issues
returns-clause-issues g c =
    let s = c.args.self.now in
    let t = c.args.thread in
    let r = c.args.rm in
    let none = sym c.in_ok-check_issue.ensures in
    let may = may_issue_so s t r c.args.call.now none in
    let lines = ap (with_line s.lines t r)
    (line_took (line_at s.lines t r) c.line_mut.result.now c.args.call.now c.copy.result c.issue.result c.issue.new.self c.line_mut.ensures.value
    c.copy.ensures c.issue.ensures.reason c.issue.ensures.accepted may.bar may.room) in
    record {
      rules = ok_obeys (issue_refusal s t r c.args.call.now) s _ tt none;
      issued = λ d is. record {
        book = c.in_ok-note_issued.ensures.ok (line t r) d is;
        follows = record {
          leads = issued_follows s _ t r c.args.call.now d is may (c.in_ok-note_issued.ensures.ok (line t r) d is) lines;
          counted = refl;
          states = λ b. refl;
        };
      };
      memory = λ none. tt;
      stays = tt;
      log = c.in_ok-note_issued.ensures.log;
      lines = lines;
    }

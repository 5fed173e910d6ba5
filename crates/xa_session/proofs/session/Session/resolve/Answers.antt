use Rattle.std.proofs.Common.{◌∙◌, ap, refl, sym}
use Rattle.xa_line.specs.Grid.{with_line}
use Rattle.xa_line.specs.Traffic.{Traffic, with_more}
use Rattle.xa_model.specs.Trace.{Happening.Resolved}
use Rattle.xa_tm.specs.Book.{Doubt.NoDoubt}
use Rattle.xa_tm.specs.Calls.{book_in}
use Rattle.xa_tm.specs.Refusing.{resolved_in}
use Rattle.xa_session.proofs.Lines.{all_with, may_recover, may_tell}
use Rattle.xa_session.proofs.Recoveries.{recovery_open, recovery_room, recovery_unclosed}
use Rattle.xa_session.proofs.Sessions.{has_few, step_leaves}
use Rattle.xa_session.proofs.RecoveryCalls.{resolved_follows}
use Rattle.xa_session.proofs.StepLemmas.{ok_obeys}
use Rattle.xa_session.specs.Session.{LetsWait, recovery_refusal, resolve_refusal}
use Rattle.xa_session.proofs.session.Session.resolve.Goals as goal

pub issue_all-requires-clause-open : goal.issue_all-requires-clause-open
issue_all-requires-clause-open g c =
    recovery_open c.args.self.now c.args.rm c.resolve_len-count.result c.line_mut.result.now (sym c.in_ok-check_recovery.ensures) c.line_mut.ensures.value

pub issue_all-requires-clause-room : goal.issue_all-requires-clause-room
issue_all-requires-clause-room g c =
    let s = c.args.self.now in
    let r = c.args.rm in
    recovery_room s r c.resolve_len-count.result (resolved_in (book_in s.manager) r) c.in_ok-calls.calls.items c.line_mut.result.now _
    (sym c.in_ok-check_recovery.ensures) c.in_ok-calls.ensures.ok c.line_mut.ensures.value c.in_ok-calls.calls.ok.0 c.resolve_len-count.ensures

pub issue_all-requires-clause-unclosed : goal.issue_all-requires-clause-unclosed
issue_all-requires-clause-unclosed g c =
    let s = c.args.self.now in
    let r = c.args.rm in
    recovery_unclosed s r c.resolve_len-count.result (resolved_in (book_in s.manager) r) c.in_ok-calls.calls.items c.line_mut.result.now
    (sym c.in_ok-check_recovery.ensures) c.in_ok-calls.ensures.ok c.line_mut.ensures.value (c.recoveries_are_read.ensures.closes (book_in s.manager) r).0

pub returns-clause-ready : goal.returns-clause-ready
returns-clause-ready g c =
    let s = c.args.self.now in
    let r = c.args.rm in
    let none = sym c.in_ok-check_recovery.ensures in
    let may = may_tell s 0 r (may_recover s r c.resolve_len-count.result none).0 in
    step_leaves s _ NoDoubt (Resolved r) c.requires (has_few s may.free) tt refl refl
    (all_with s.lines 0 r c.issue_all.new.self c.line_mut.ensures.whole may.has
    (ap (λ (l : Traffic). l.answers.waiting) c.issue_all.ensures ∙ ap (λ
    (l : Traffic). l.answers.waiting) c.line_mut.ensures.value ∙ c.requires.heard 0 r may.has)
    c.requires.heard)

pub returns-clause-resolves : goal.returns-clause-resolves
returns-clause-resolves g c =
    let s = c.args.self.now in
    let r = c.args.rm in
    let none = sym c.in_ok-check_recovery.ensures in
    let waits : LetsWait r (resolved_in (book_in s.manager) r) s.lines (with_line s.lines 0 r c.issue_all.new.self) = record {
      calls = c.in_ok-calls.calls.items;
      are = c.in_ok-calls.ensures.ok;
      lines = ap (with_line s.lines 0 r) (c.issue_all.ensures ∙ ap (λ
          (t : Traffic). record t { calls = with_more t.calls c.in_ok-calls.calls.items }) c.line_mut.ensures.value);
    } in
    record {
      rules = ok_obeys (resolve_refusal s r) s _ c.resolve_len-count.result (ap (recovery_refusal s r) (sym c.resolve_len-count.ensures) ∙ none);
      memory = λ none. tt;
      stays = tt;
      count = c.resolve_len-count.ensures;
      lines = waits;
      manager = refl;
      follows = record { leads = resolved_follows s _ r c.resolve_len-count.result none refl waits; counted = refl; states = λ b. refl };
    }

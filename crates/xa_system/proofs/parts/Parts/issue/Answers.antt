use Rattle.std.proofs.Common.{length, true, sym, ap, ◌∙◌}
use Rattle.std.specs.Prelude.{nat_le}
use Rattle.std.specs.Result.{result_err}
use Rattle.xa_base.specs.Call.{map_call}
use Rattle.xa_model.specs.Replies.History.{name_of}
use Rattle.xa_base.specs.declared.refusal.Refusal.TheVariants as Refusals
use Rattle.xa_base.specs.declared.reply.Reply.TheVariants as Replies
use Rattle.xa_base.specs.declared.step.Step.TheVariants as Steps
use Rattle.xa_model.proofs.Replies.Guards.{issue_why}
use Rattle.xa_model.specs.Trace.{line}
use Rattle.xa_line.specs.Grid.{line_at}
use Rattle.xa_line.specs.Traffic.{barred, calls_issued}
use Rattle.xa_line.proofs.SeveralCalls.{line_took}
use Rattle.xa_tm.specs.Calls.{book_in}
use Rattle.xa_system.specs.Parts.{sees}
use Rattle.xa_system.proofs.Steps.Issue.{has_room_at, is_full_at, issue_did, issue_found, issue_limit, issue_manager_down}
use Rattle.xa_system.proofs.Steps.OfManager.{sound_book}
use Rattle.xa_system.proofs.Histories.Standing.{site_read}
use Rattle.xa_system.proofs.Histories.RefusedSteps.{lacking_goes, refused_goes}
use Rattle.xa_tm.specs.Refusing.{refusal_in}
use Rattle.xa_system.proofs.parts.Parts.issue.Goals as goal

pub note_issued-requires : goal.note_issued-requires
note_issued-requires g c =
    let see = sees g.R.ResourceManager.look g.L.DecisionLog.moment in
    let p = c.args.self.now in
    let t = c.args.thread in
    let r = c.args.rm in
    let call = c.args.call.now in
    sound_book see p c.requires.stands

pub returns-then-not-has : goal.returns-then-not-has
returns-then-not-has g c =
    let see = sees g.R.ResourceManager.look g.L.DecisionLog.moment in
    let p = c.args.self.now in
    let t = c.args.thread in
    let r = c.args.rm in
    let call = c.args.call.now in
    refused_goes see (Steps.Issue t r call) p c.refused.result Refusals.Limit c.requires.has_xid c.refused.ensures
    (λ tr stands. issue_limit see tr p t r call (sym c.has.ensures.value ∙ c.if-not-has.true) stands)

pub returns-then-not-is_up : goal.returns-then-not-is_up
returns-then-not-is_up g c =
    let see = sees g.R.ResourceManager.look g.L.DecisionLog.moment in
    let p = c.args.self.now in
    let t = c.args.thread in
    let r = c.args.rm in
    let call = c.args.call.now in
    let there = sym c.has.ensures.value ∙ c.if-not-has.false in
    refused_goes see (Steps.Issue t r call) p c.refused-then-not-is_up.result Refusals.ManagerDown c.requires.has_xid c.refused-then-not-is_up.ensures
    (λ tr stands. issue_manager_down see tr p t r call there (sym c.is_up.ensures ∙ c.if-not-is_up.true) stands)

pub returns-then-not-index : goal.returns-then-not-index
returns-then-not-index g c =
    let see = sees g.R.ResourceManager.look g.L.DecisionLog.moment in
    let p = c.args.self.now in
    let t = c.args.thread in
    let r = c.args.rm in
    let call = c.args.call.now in
    let there = sym c.has.ensures.value ∙ c.if-not-has.false in
    let up = sym c.is_up.ensures ∙ c.if-not-is_up.false in
    refused_goes see (Steps.Issue t r call) p c.refused-then-not-index.result Refusals.RmDown c.requires.has_xid c.refused-then-not-index.ensures
    (λ tr stands. issue_found see tr p t r c.index.result.now call stands there up
    (site_read see tr p t r c.index.result.now stands there c.index.ensures)
    ∙ ap (λ u. issue_why true true u (barred (calls_issued (line_at p.lines t r)) call)
    (refusal_in (book_in p.manager) (Steps.Issue t r (map_call name_of call)))
    (nat_le 64 (length (line_at p.lines t r).calls.waiting))) c.if-not-index.true)

pub returns-in-Err : goal.returns-in-Err
returns-in-Err g c =
    let see = sees g.R.ResourceManager.look g.L.DecisionLog.moment in
    let p = c.args.self.now in
    let t = c.args.thread in
    let r = c.args.rm in
    let call = c.args.call.now in
    let there = sym c.has.ensures.value ∙ c.if-not-has.false in
    let up = sym c.is_up.ensures ∙ c.if-not-is_up.false in
    let barred_so = sym (c.check.ensures ∙ ap (λ l. barred (calls_issued l) call) c.line.ensures.value) ∙ ap result_err c.in-Err.is in
    refused_goes see (Steps.Issue t r call) p c.refused-in-Err.result c.in-Err.refusal c.requires.has_xid c.refused-in-Err.ensures
    (λ tr stands. issue_found see tr p t r c.index.result.now call stands there up
    (site_read see tr p t r c.index.result.now stands there c.index.ensures)
    ∙ λ i. issue_why true true (c.if-not-index.false i) (barred_so i)
    (refusal_in (book_in p.manager) (Steps.Issue t r (map_call name_of call))) (nat_le 64 (length (line_at p.lines t r).calls.waiting)))

pub returns-in-Err-check_issue : goal.returns-in-Err-check_issue
returns-in-Err-check_issue g c =
    let see = sees g.R.ResourceManager.look g.L.DecisionLog.moment in
    let p = c.args.self.now in
    let t = c.args.thread in
    let r = c.args.rm in
    let call = c.args.call.now in
    let there = sym c.has.ensures.value ∙ c.if-not-has.false in
    let up = sym c.is_up.ensures ∙ c.if-not-is_up.false in
    let barred_so = sym (c.check.ensures ∙ ap (λ l. barred (calls_issued l) call) c.line.ensures.value) ∙ ap result_err c.in_default.is in
    refused_goes see (Steps.Issue t r call) p c.refused-in-Err-check_issue.result c.in-Err-check_issue.refusal c.requires.has_xid
    c.refused-in-Err-check_issue.ensures
    (λ tr stands. issue_found see tr p t r c.index.result.now call stands there up
    (site_read see tr p t r c.index.result.now stands there c.index.ensures)
    ∙ λ i. issue_why true true (c.if-not-index.false i) (barred_so i) ((sym c.check_issue.ensures ∙ ap result_err c.in-Err-check_issue.is) i)
    (nat_le 64 (length (line_at p.lines t r).calls.waiting)))

pub returns-then-free_calls-eq0 : goal.returns-then-free_calls-eq0
returns-then-free_calls-eq0 g c =
    let see = sees g.R.ResourceManager.look g.L.DecisionLog.moment in
    let p = c.args.self.now in
    let t = c.args.thread in
    let r = c.args.rm in
    let call = c.args.call.now in
    let there = sym c.has.ensures.value ∙ c.if-not-has.false in
    let up = sym c.is_up.ensures ∙ c.if-not-is_up.false in
    let barred_so = sym (c.check.ensures ∙ ap (λ l. barred (calls_issued l) call) c.line.ensures.value) ∙ ap result_err c.in_default.is in
    let free = sym c.check_issue.ensures ∙ ap result_err c.in_default-check_issue.is in
    let full =
    is_full_at c.free_calls.result (length (line_at p.lines t r).calls.waiting)
    (rw c.line-2.ensures.value at c.free_calls.ensures) c.if-free_calls-eq0.true in
    refused_goes see (Steps.Issue t r call) p c.refused-then-free_calls-eq0.result Refusals.Full c.requires.has_xid c.refused-then-free_calls-eq0.ensures
    (λ tr stands. issue_found see tr p t r c.index.result.now call stands there up
    (site_read see tr p t r c.index.result.now stands there c.index.ensures)
    ∙ λ i. issue_why true true (c.if-not-index.false i) (barred_so i) (free i) (full i))

pub returns-in-Err-note_issued : goal.returns-in-Err-note_issued
returns-in-Err-note_issued g c tr stands few =
    let see = sees g.R.ResourceManager.look g.L.DecisionLog.moment in
    let p = c.args.self.now in
    let t = c.args.thread in
    let r = c.args.rm in
    let call = c.args.call.now in
    let there = sym c.has.ensures.value ∙ c.if-not-has.false in
    let up = sym c.is_up.ensures ∙ c.if-not-is_up.false in
    let barred_so = sym (c.check.ensures ∙ ap (λ l. barred (calls_issued l) call) c.line.ensures.value) ∙ ap result_err c.in_default.is in
    let free = sym c.check_issue.ensures ∙ ap result_err c.in_default-check_issue.is in
    let full =
    has_room_at c.free_calls.result (length (line_at p.lines t r).calls.waiting)
    (rw c.line-2.ensures.value at c.free_calls.ensures) c.if-free_calls-eq0.false in
    let none =
    issue_found see tr p t r c.index.result.now call stands there up (site_read see tr p t r c.index.result.now stands there c.index.ensures)
    ∙ λ i. issue_why true true (c.if-not-index.false i) (barred_so i) (free i) (full i) in
    lacking_goes see tr (Steps.Issue t r call) p c.note_issued.new.self c.refused-in-Err-note_issued.result stands c.requires.has_xid
    (c.refused-in-Err-note_issued.ensures ∙ ap (λ n. Replies.Refused n) c.in-Err-note_issued.ensures.err.0) none tt c.in-Err-note_issued.ensures.err.1
    c.in-Err-note_issued.ensures.log

pub returns : goal.returns
returns g c tr stands few =
    let see = sees g.R.ResourceManager.look g.L.DecisionLog.moment in
    let p = c.args.self.now in
    let t = c.args.thread in
    let r = c.args.rm in
    let call = c.args.call.now in
    let there = sym c.has.ensures.value ∙ c.if-not-has.false in
    let up = sym c.is_up.ensures ∙ c.if-not-is_up.false in
    let barred_so = sym (c.check.ensures ∙ ap (λ l. barred (calls_issued l) call) c.line.ensures.value) ∙ ap result_err c.in_default.is in
    let free = sym c.check_issue.ensures ∙ ap result_err c.in_default-check_issue.is in
    let full =
    has_room_at c.free_calls.result (length (line_at p.lines t r).calls.waiting)
    (rw c.line-2.ensures.value at c.free_calls.ensures) c.if-free_calls-eq0.false in
    let none =
    issue_found see tr p t r c.index.result.now call stands there up (site_read see tr p t r c.index.result.now stands there c.index.ensures)
    ∙ λ i. issue_why true true (c.if-not-index.false i) (barred_so i) (free i) (full i) in
    let put =
    line_took (line_at p.lines t r) c.line_mut.result.now call c.copy.result c.issue.result c.issue.new.self c.line_mut.ensures.value c.copy.ensures
    c.issue.ensures.reason c.issue.ensures.accepted barred_so full in
    issue_did see p t r call c.index.result.now c.issue.new.self c.note_issued.new.self c.new.result c.requires.has_xid c.new.ensures there up free
    (c.in_default-note_issued.ensures.ok (line t r)) c.in_default-note_issued.ensures.log put tr stands none

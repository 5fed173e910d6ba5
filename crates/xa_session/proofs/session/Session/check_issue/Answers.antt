use Rattle.std.proofs.Common.{◌∙◌, Some, None, ap, length, sym}
use Rattle.std.specs.Prelude.{if◌then◌else◌}
use Rattle.std.specs.Option.{option_or}
use Rattle.std.specs.Result.{result_err}
use Rattle.std.proofs.lemmas.Result.{err_from_is_err_and}
use Rattle.xa_base.specs.Call.{map_call}
use Rattle.xa_base.specs.declared.refusal.Refusal.TheVariants.{Full}
use Rattle.xa_base.specs.declared.step.Step.TheVariants as Steps
use Rattle.xa_line.specs.Grid.{line_at}
use Rattle.xa_line.specs.Traffic.{barred, calls_issued, is_full, room_refusal}
use Rattle.xa_model.specs.Replies.History.{name_of}
use Rattle.xa_tm.specs.Calls.{book_in}
use Rattle.xa_tm.specs.Refusing.{refusal_in}
use Rattle.xa_session.proofs.Lines.{full_is, issue_rule}
use Rattle.xa_session.proofs.session.Session.check_issue.Goals as goal

pub returns-in_err-check : goal.returns-in_err-check
returns-in_err-check g c =
    let s = c.args.self.now in
    let t = c.args.thread in
    let r = c.args.rm in
    let call = c.args.call.now in
    let at = line_at s.lines t r in
    let book = refusal_in (book_in s.manager) (Steps.Issue t r (map_call name_of call)) in
    let line = sym c.in_ok-check_line.ensures in
    let bar = ap (λ l. barred (calls_issued l) call) (sym c.line-line.ensures.value) ∙ sym c.in_err-check.ensures in
    let err = err_from_is_err_and c.from_residual-in_err-check.result c.from_residual-in_err-check.ensures.1 in
    ap result_err err.1 ∙ ap (λ n. Some n) err.2
    ∙ sym (issue_rule s t r call ∙ λ i. option_or (line i) (option_or (bar i) (option_or book (if is_full at then Some Full else None))))

pub returns-in_err-check_issue : goal.returns-in_err-check_issue
returns-in_err-check_issue g c =
    let s = c.args.self.now in
    let t = c.args.thread in
    let r = c.args.rm in
    let call = c.args.call.now in
    let at = line_at s.lines t r in
    let line = sym c.in_ok-check_line.ensures in
    let bar = ap (λ l. barred (calls_issued l) call) (sym c.line-line.ensures.value) ∙ sym c.in_ok-check.ensures in
    let book = sym c.in_err-check_issue.ensures in
    let err = err_from_is_err_and c.from_residual-in_err-check_issue.result c.from_residual-in_err-check_issue.ensures.1 in
    ap result_err err.1 ∙ ap (λ n. Some n) err.2
    ∙ sym (issue_rule s t r call ∙ λ i. option_or (line i) (option_or (bar i) (option_or (book i) (if is_full at then Some Full else None))))

pub returns : goal.returns
returns g c =
    let s = c.args.self.now in
    let t = c.args.thread in
    let r = c.args.rm in
    let call = c.args.call.now in
    let at = line_at s.lines t r in
    let line = sym c.in_ok-check_line.ensures in
    let bar = ap (λ l. barred (calls_issued l) call) (sym c.line-line.ensures.value) ∙ sym c.in_ok-check.ensures in
    let book = sym c.in_ok-check_issue.ensures in
    c.check_room.ensures ∙ ap (λ l. room_refusal l 1) c.line-line.ensures.value
    ∙ ap (λ b. if b then Some Full else None) (full_is (length at.calls.waiting))
    ∙ sym (issue_rule s t r call ∙ λ i. option_or (line i) (option_or (bar i) (option_or (book i) (if is_full at then Some Full else None))))

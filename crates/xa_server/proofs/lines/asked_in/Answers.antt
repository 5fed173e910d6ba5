use Rattle.std.proofs.Common.{◌≡◌, ◌∙◌, sym, ap, subst}
use Rattle.std.specs.Result.{IfOk}
use Rattle.xa_server.proofs.LineLemmas.{asked_of_none, asked_of_text}
use Rattle.xa_requests.specs.Requests.{request_of}
use Rattle.xa_server.proofs.lines.asked_in.Goals as goal

pub returns-in-Ok : goal.returns-in-Ok
returns-in-Ok c =
    let text = c.in-Ok.ensures.cases in
    subst (λ q. IfOk c.read_request.result (λ request. request ≡ q))
    (ap request_of text.0 ∙ sym (asked_of_text c.args.line.now c.if-line-gt-LINE_LIMIT.false text.1)) c.read_request.ensures

pub returns-in-Err : goal.returns-in-Err
returns-in-Err c = sym (asked_of_none c.args.line.now c.in-Err.ensures.cases.0)

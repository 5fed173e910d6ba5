use Rattle.std.proofs.Common.{◌≡◌, ◌∙◌, IfOk, ap, subst, sym}
use Rattle.xa_server.specs.Lines.{asked_in}
use Rattle.xa_server.proofs.LineLemmas.{asked_of_no_text, read_of_text}
use Rattle.xa_names.specs.Lines.{line_renamed}
use Rattle.xa_server.proofs.lines.asked_by.Goals as goal

pub returns-in_ok-meant-in-Ok : goal.returns-in_ok-meant-in-Ok
returns-in_ok-meant-in-Ok c =
    let name = c.args.name.now in
    let line = c.args.line.now in
    let text = c.in-Ok.ensures.cases in
    subst (λ l. IfOk c.asked_in-in-Ok.result (λ request. request ≡ asked_in l))
    (c.as_bytes.ensures.value ∙ c.in_ok-meant-in-Ok.ensures ∙ ap (line_renamed name) text.0
    ∙ sym (read_of_text name line c.if-line-gt-LINE_LIMIT.false text.1)) c.asked_in-in-Ok.ensures

pub returns-in-Err : goal.returns-in-Err
returns-in-Err c = sym (asked_of_no_text c.args.name.now c.args.line.now c.in-Err.ensures.cases.0)

use Rattle.std.proofs.Common.{◌≡◌, ◌∙◌, ℕ, Ok, IfErr, IfOk, ap, subst}
use Rattle.std.proofs.lemmas.Iterator.Consumers.{map_from_collect}
use Rattle.std.proofs.lemmas.Iterator.Splits.{YieldsList-from_lines}
use Rattle.std.specs.Str.Lines.{lines as lines_of}
use Rattle.xa_restore.proofs.HeadingLemmas.{texts}
use Rattle.xa_restore.specs.NamedLogs.{HasLines, IsNamedFault}
use Rattle.xa_restore.proofs.named_log.read_text.Goals as goal

pub returns-clause-lines : goal.returns-clause-lines
returns-clause-lines c =
    let read : texts c.in_ok-lines.lines.items ≡ lines_of c.args.text.now =
    map_from_collect {E = ℕ} (Ok c.in_ok-lines.lines) c.in_ok-lines.ensures.ran (YieldsList-from_lines c.args.text.now c.lines.ensures.rest) in
    subst (λ ls. IfOk c.read_lines.result (HasLines ls)) (ap texts c.deref.ensures.value ∙ read) c.read_lines.ensures.lines

pub returns-clause-fault : goal.returns-clause-fault
returns-clause-fault c =
    let read : texts c.in_ok-lines.lines.items ≡ lines_of c.args.text.now =
    map_from_collect {E = ℕ} (Ok c.in_ok-lines.lines) c.in_ok-lines.ensures.ran (YieldsList-from_lines c.args.text.now c.lines.ensures.rest) in
    subst (λ ls. IfErr c.read_lines.result (IsNamedFault ls)) (ap texts c.deref.ensures.value ∙ read) c.read_lines.ensures.fault

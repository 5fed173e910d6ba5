use Rattle.std.proofs.Common.{◌∙◌, false, refl, subst, sym}
use Rattle.std.proofs.lemmas.Result.{err_from_is_err_and}
use Rattle.std.specs.Io.Buffered.{reader_remaining}
use Rattle.xa_log.proofs.Parts.{on_err}
use Rattle.xa_server.proofs.OneLine.{at_end, off_at_once, off_behind, one_line, served_behind_flush, wholly_begun}
use Rattle.xa_server.proofs.InputFaults.{came_as_input, not_memory, not_of_writing, not_output}
use Rattle.xa_server.proofs.LineLemmas.{asks_of}
use Rattle.xa_server.specs.NamedLines.{line_written}
use Rattle.xa_server.specs.Serving.{RepliesToLine}
use Rattle.xa_server.specs.ServingLines.{BreaksOff, ServesLine}
use Rattle.xa_server.proofs.server.Server.serve_line.Goals as goal

pub returns-in_err-flush_before_waiting-clause-err : goal.returns-in_err-flush_before_waiting-clause-err
returns-in_err-flush_before_waiting-clause-err g c =
    let unread = reader_remaining g.R.Read.remaining c.args.input.now in
    let written = g.W.Write.contents c.args.output.now in
    let all = g.W.Write.contents c.flush_before_waiting.new.output in
    on_err c.from_residual.result (BreaksOff g.L.DecisionLog.moment c.args.name.now unread written all c.args.self.now c.args.self.now)
    (off_at_once g.L.DecisionLog.moment c.args.name.now unread written all c.args.self.now c.flush_before_waiting.ensures.keeps)

pub returns-in_err-line-clause-err : goal.returns-in_err-line-clause-err
returns-in_err-line-clause-err g c =
    let unread = reader_remaining g.R.Read.remaining c.args.input.now in
    let written = g.W.Write.contents c.args.output.now in
    let all = g.W.Write.contents c.flush_before_waiting.new.output in
    on_err c.from_residual-in_err-line.result (BreaksOff g.L.DecisionLog.moment c.args.name.now unread written all c.args.self.now c.args.self.now)
    (off_at_once g.L.DecisionLog.moment c.args.name.now unread written all c.args.self.now c.flush_before_waiting.ensures.keeps)

pub returns-in_err-told-clause-err : goal.returns-in_err-told-clause-err
returns-in_err-told-clause-err g c =
    let unread = reader_remaining g.R.Read.remaining c.args.input.now in
    let written = g.W.Write.contents c.args.output.now in
    let all = g.W.Write.contents c.flush_before_waiting.new.output in
    on_err c.from_residual-in_err-told.result (BreaksOff g.L.DecisionLog.moment c.args.name.now unread written all c.args.self.now c.reply_to.new.self)
    (subst (λ s. BreaksOff g.L.DecisionLog.moment c.args.name.now unread written all c.args.self.now s) (sym c.in_err-told.ensures.err)
    (off_at_once g.L.DecisionLog.moment c.args.name.now unread written all c.args.self.now c.flush_before_waiting.ensures.keeps))

pub returns-in_err-write_reply-clause-err : goal.returns-in_err-write_reply-clause-err
returns-in_err-write_reply-clause-err g c =
    let moment = g.L.DecisionLog.moment in
    let name = c.args.name.now in
    let left = reader_remaining g.R.Read.remaining in
    let contents = g.W.Write.contents in
    let written = contents c.args.output.now in
    let mid = contents c.flush_before_waiting.new.output in
    let all = contents c.write_reply.new.output in
    let line = c.in_ok-line.line in
    let told = c.in_ok-told.told in
    let old = c.args.self.now in
    let new = c.reply_to.new.self in
    on_err c.from_residual-in_err-write_reply.result (BreaksOff moment name (left c.args.input.now) written all old new)
    (off_behind moment name (left c.args.input.now) (left c.read_line.new.input) written mid all line.bytes.items line.is_ended told old new
    c.in_ok-line.ensures.ok (sym c.is_nothing.ensures ∙ c.if-is_nothing.false)
    (subst (λ l. RepliesToLine moment (asks_of name l) old told new) c.deref.ensures.value c.in_ok-told.ensures.ok)
    c.flush_before_waiting.ensures.keeps c.in_err-write_reply.ensures.err)

pub returns-then-beginnings-clause-err : goal.returns-then-beginnings-clause-err
returns-then-beginnings-clause-err g c =
    let moment = g.L.DecisionLog.moment in
    let name = c.args.name.now in
    let left = reader_remaining g.R.Read.remaining in
    let contents = g.W.Write.contents in
    let written = contents c.args.output.now in
    let mid = contents c.flush_before_waiting.new.output in
    let all = contents c.write_reply.new.output in
    let line = c.in_ok-line.line in
    let told = c.in_ok-told.told in
    let old = c.args.self.now in
    let new = c.reply_to.new.self in
    off_behind moment name (left c.args.input.now) (left c.read_line.new.input) written mid all line.bytes.items line.is_ended told old new
    c.in_ok-line.ensures.ok (sym c.is_nothing.ensures ∙ c.if-is_nothing.false)
    (subst (λ l. RepliesToLine moment (asks_of name l) old told new) c.deref.ensures.value c.in_ok-told.ensures.ok)
    c.flush_before_waiting.ensures.keeps (wholly_begun mid all (line_written name told) c.in_ok-write_reply.ensures.ok)

pub returns-then-is_nothing-clause-ok : goal.returns-then-is_nothing-clause-ok
returns-then-is_nothing-clause-ok g c =
    let moment = g.L.DecisionLog.moment in
    let name = c.args.name.now in
    let unread = reader_remaining g.R.Read.remaining c.args.input.now in
    let rest = reader_remaining g.R.Read.remaining c.read_line.new.input in
    let written = g.W.Write.contents c.args.output.now in
    let mid = g.W.Write.contents c.flush_before_waiting.new.output in
    let line = c.in_ok-line.line in
    let s = c.args.self.now in
    served_behind_flush moment name unread rest written mid mid s s false c.flush_before_waiting.ensures.keeps
    (at_end moment name unread rest mid line.bytes.items line.is_ended s c.in_ok-line.ensures.ok (sym c.is_nothing.ensures ∙ c.if-is_nothing.true))

pub returns-clause-ok : goal.returns-clause-ok
returns-clause-ok g c =
    let moment = g.L.DecisionLog.moment in
    let name = c.args.name.now in
    let left = reader_remaining g.R.Read.remaining in
    let contents = g.W.Write.contents in
    let unread = left c.args.input.now in
    let rest = left c.read_line.new.input in
    let mid = contents c.flush_before_waiting.new.output in
    let all = contents c.write_reply.new.output in
    let line = c.in_ok-line.line in
    let told = c.in_ok-told.told in
    let old = c.args.self.now in
    let new = c.reply_to.new.self in
    served_behind_flush moment name unread rest (contents c.args.output.now) mid all old new c.goes_on.result c.flush_before_waiting.ensures.keeps
    (subst (ServesLine moment name unread rest mid all old new) (sym c.goes_on.ensures)
    (one_line moment name unread rest mid all line.bytes.items line.is_ended told old new c.in_ok-line.ensures.ok
    (sym c.is_nothing.ensures ∙ c.if-is_nothing.false)
    (subst (λ l. RepliesToLine moment (asks_of name l) old told new) c.deref.ensures.value c.in_ok-told.ensures.ok) c.in_ok-write_reply.ensures.ok))

pub returns-in_err-flush_before_waiting-clause-input : goal.returns-in_err-flush_before_waiting-clause-input
returns-in_err-flush_before_waiting-clause-input g c = λ asked.
    let p = err_from_is_err_and c.from_residual.result c.from_residual.ensures.1 in
    let came = c.in_err-flush_before_waiting.field-0.0 in
    absurd (not_output came c.in_err-flush_before_waiting.ensures.fault (came_as_input c.from_residual.result p.0 came asked p.1 p.2))

pub returns-in_err-line-clause-input : goal.returns-in_err-line-clause-input
returns-in_err-line-clause-input g c = λ asked. record {
  begun = c.in_err-line.ensures.err;
  keeps = c.flush_before_waiting.ensures.keeps;
  same = refl;
}

pub returns-in_err-told-clause-input : goal.returns-in_err-told-clause-input
returns-in_err-told-clause-input g c = λ asked.
    let p = err_from_is_err_and c.from_residual-in_err-told.result c.from_residual-in_err-told.ensures.1 in
    let came = c.in_err-told.field-0.0 in
    absurd (not_memory came c.in_err-told.ensures.fault (came_as_input c.from_residual-in_err-told.result p.0 came asked p.1 p.2))

pub returns-in_err-write_reply-clause-input : goal.returns-in_err-write_reply-clause-input
returns-in_err-write_reply-clause-input g c = λ asked.
    let p = err_from_is_err_and c.from_residual-in_err-write_reply.result c.from_residual-in_err-write_reply.ensures.1 in
    let came = c.in_err-write_reply.field-0.0 in
    absurd (not_of_writing came c.in_err-write_reply.ensures.fault (came_as_input c.from_residual-in_err-write_reply.result p.0 came asked p.1 p.2))

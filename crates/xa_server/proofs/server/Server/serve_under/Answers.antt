use Rattle.std.proofs.Common.{[], ◌∙◌, ap, refl, subst}
use Rattle.std.specs.Io.Buffered.{reader_remaining}
use Rattle.std.specs.Io.KnownBytes.{Appends}
use Rattle.std.proofs.lemmas.Result.{err_from_is_err_and}
use Rattle.xa_log.proofs.Parts.{on_err}
use Rattle.xa_server.proofs.InputFaults.{came_as_input, came_so, not_of_writing}
use Rattle.xa_server.proofs.LineLemmas.{consumed_none, keeps_all}
use Rattle.xa_server.proofs.SessionParts.{broken_off, greeted, input_failed, no_line_found, no_more, not_greeted, one_more, the_last}
use Rattle.xa_server.specs.Lines.{lone_reply}
use Rattle.xa_server.specs.NamedLines.{BreaksSessionUnder, line_written}
use Rattle.xa_server.specs.Replies.{greeting_of}
use Rattle.xa_server.specs.ServingLines.{ServesLine}
use Rattle.xa_files.specs.Outputs.{AppendsBeginning}
use Rattle.xa_server.proofs.server.Server.serve_under.Goals as goal

pub returns-in_err-write_reply-clause-broken : goal.returns-in_err-write_reply-clause-broken
returns-in_err-write_reply-clause-broken g c =
    let moment = g.L.DecisionLog.moment in
    let name = c.args.name.now in
    let unread = reader_remaining g.R.Read.remaining c.args.input.now in
    let written = g.W.Write.contents c.args.output.now in
    let all = g.W.Write.contents c.write_reply.new.output in
    let s = c.args.self.now in
    on_err c.from_residual.result (BreaksSessionUnder moment name (greeting_of s) unread written all s s)
    (not_greeted moment name (greeting_of s) unread written all s
    (subst (λ r. AppendsBeginning written all (line_written name r)) (c.alone-greeting.ensures ∙ ap lone_reply c.greeting.ensures)
    c.in_err-write_reply.ensures.err))

pub loop-init : goal.loop-init
loop-init g c =
    let moment = g.L.DecisionLog.moment in
    let name = c.args.name.now in
    let unread = reader_remaining g.R.Read.remaining c.args.input.now in
    let written = g.W.Write.contents c.args.output.now in
    let all = g.W.Write.contents c.write_reply.new.output in
    let s = c.args.self.now in
    record {
      ready = c.requires;
      some = greeted moment name (greeting_of s) unread written all s
          (subst (λ r. Appends written all (line_written name r)) (c.alone-greeting.ensures ∙ ap lone_reply c.greeting.ensures)
          c.in_ok-write_reply.ensures.ok);
    }

pub returns-in_err-serve_line-clause-broken : goal.returns-in_err-serve_line-clause-broken
returns-in_err-serve_line-clause-broken g c =
    let moment = g.L.DecisionLog.moment in
    let name = c.args.name.now in
    let contents = g.W.Write.contents in
    let left = reader_remaining g.R.Read.remaining in
    let s = c.args.self.now in
    let written = contents c.args.output.now in
    let all = contents c.serve_line.new.output in
    on_err c.from_residual-in_err-serve_line.result
    (BreaksSessionUnder moment name (greeting_of s) (left c.args.input.now) written all s c.serve_line.new.self)
    (broken_off moment name (greeting_of s) (left c.args.input.now) (left c.loop.input) written (contents c.loop.output) all s c.loop.self
    c.serve_line.new.self c.loop.invariant.some c.in_err-serve_line.ensures.err)

pub returns-then-not-branch-clause-served : goal.returns-then-not-branch-clause-served
returns-then-not-branch-clause-served g c =
    let moment = g.L.DecisionLog.moment in
    let name = c.args.name.now in
    let contents = g.W.Write.contents in
    let left = reader_remaining g.R.Read.remaining in
    let s = c.args.self.now in
    let part = left c.loop.input in
    let rest = left c.serve_line.new.input in
    let mid = contents c.loop.output in
    let all = contents c.serve_line.new.output in
    the_last moment name (greeting_of s) (left c.args.input.now) part rest (contents c.args.output.now) mid all s c.loop.self
    c.serve_line.new.self c.loop.invariant.some
    (subst (ServesLine moment name part rest mid all c.loop.self c.serve_line.new.self) c.if-not-branch.true c.in_ok-serve_line.ensures.ok)

pub loop-preserved : goal.loop-preserved
loop-preserved g c =
    let moment = g.L.DecisionLog.moment in
    let name = c.args.name.now in
    let contents = g.W.Write.contents in
    let left = reader_remaining g.R.Read.remaining in
    let s = c.args.self.now in
    let part = left c.loop.input in
    let rest = left c.serve_line.new.input in
    let mid = contents c.loop.output in
    let all = contents c.serve_line.new.output in
    record {
      ready = c.serve_line.ensures.ready;
      some = one_more moment name (greeting_of s) (left c.args.input.now) part rest (contents c.args.output.now) mid all s c.loop.self
          c.serve_line.new.self c.loop.invariant.some
          (subst (ServesLine moment name part rest mid all c.loop.self c.serve_line.new.self) c.if-not-branch.false c.in_ok-serve_line.ensures.ok);
    }

pub returns-clause-broken : goal.returns-clause-broken
returns-clause-broken g c =
    let contents = g.W.Write.contents in
    let left = reader_remaining g.R.Read.remaining in
    let s = c.args.self.now in
    no_more g.L.DecisionLog.moment c.args.name.now (greeting_of s) (left c.args.input.now) (left c.loop.input) (contents c.args.output.now)
    (contents c.loop.output) s c.loop.self c.loop.invariant.some

pub returns-in_err-write_reply-clause-input : goal.returns-in_err-write_reply-clause-input
returns-in_err-write_reply-clause-input g c = λ asked.
    let p = err_from_is_err_and c.from_residual.result c.from_residual.ensures.1 in
    let came = c.in_err-write_reply.field-0.0 in
    absurd (not_of_writing came c.in_err-write_reply.ensures.fault (came_as_input c.from_residual.result p.0 came asked p.1 p.2))

pub returns-in_err-serve_line-clause-input : goal.returns-in_err-serve_line-clause-input
returns-in_err-serve_line-clause-input g c = λ asked.
    let p = err_from_is_err_and c.from_residual-in_err-serve_line.result c.from_residual-in_err-serve_line.ensures.1 in
    let contents = g.W.Write.contents in
    let left = reader_remaining g.R.Read.remaining in
    let s = c.args.self.now in
    no_line_found g.L.DecisionLog.moment c.args.name.now (greeting_of s) (left c.args.input.now) (left c.loop.input) (left c.serve_line.new.input)
    (contents c.args.output.now) (contents c.loop.output) (contents c.serve_line.new.output) s c.loop.self c.serve_line.new.self
    c.loop.invariant.some (c.in_err-serve_line.ensures.input
    (came_so c.from_residual-in_err-serve_line.result p.0 c.in_err-serve_line.field-0.0 asked p.1 p.2))

pub returns-clause-input : goal.returns-clause-input
returns-clause-input g c = λ asked.
    let contents = g.W.Write.contents in
    let left = reader_remaining g.R.Read.remaining in
    let s = c.args.self.now in
    let mid = left c.loop.input in
    input_failed g.L.DecisionLog.moment c.args.name.now (greeting_of s) (left c.args.input.now) mid mid (contents c.args.output.now)
    (contents c.loop.output) s c.loop.self c.loop.invariant.some
    (record { begun = []; plain = refl; consumed = consumed_none mid mid (keeps_all mid) })

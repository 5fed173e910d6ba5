use Rattle.std.proofs.Common.{◌≡◌, refl, subst, sym}
use Rattle.xa_base.specs.declared.step.Outcome.TheVariants as Outcomes
use Rattle.xa_server.proofs.LogLemmas.{lines_keep}
use Rattle.xa_session.proofs.Logging.{kept}
use Rattle.xa_server.proofs.UnchangedLemmas.{not_done}
use Rattle.xa_server.proofs.RowLemmas.{decided_rows}
use Rattle.xa_server.specs.Performing.{Does}
use Rattle.xa_server.specs.Rows.{LogsRows, committed_by}
use Rattle.xa_requests.specs.declared.request.Request.TheVariants as requests
use Rattle.xa_server.proofs.server.Server.act.Goals as goal

pub returns-in-Answer-clause-does : goal.returns-in-Answer-clause-does
returns-in-Answer-clause-does g c = subst (λ q. Does q c.args.self.now c.answer.result c.answer.new.self) (sym c.in-Answer.is) c.answer.ensures.performs

pub returns-in-Answer-clause-unchanged : goal.returns-in-Answer-clause-unchanged
returns-in-Answer-clause-unchanged g c = λ one undone.
    not_done c.args.self.now c.answer.new.self c.answer.result undone (requests.Answer c.in-Answer.thread c.in-Answer.rm c.in-Answer.name c.in-Answer.answer)
    c.answer.ensures.performs refl

pub returns-in-Settle-clause-unchanged : goal.returns-in-Settle-clause-unchanged
returns-in-Settle-clause-unchanged g c = λ one undone.
    not_done c.args.self.now c.settle.new.self c.settle.result undone (requests.Settle c.in-Settle.gtrid) c.settle.ensures.performs refl

pub returns-in-CrashLine-clause-unchanged : goal.returns-in-CrashLine-clause-unchanged
returns-in-CrashLine-clause-unchanged g c = λ one undone.
    not_done c.args.self.now c.crash_line.new.self c.crash_line.result undone (requests.CrashLine c.in-CrashLine.thread c.in-CrashLine.rm)
    c.crash_line.ensures.performs refl

pub returns-in-Decide-clause-rows : goal.returns-in-Decide-clause-rows
returns-in-Decide-clause-rows g c =
    let moment = g.L.DecisionLog.moment in
    let old = c.args.self.now.session in
    let new = c.decide.new.self.session in
    subst (λ q. LogsRows moment (committed_by q) old c.decide.result new) (sym c.in-Decide.is)
    (decided_rows moment old new c.in-Decide.gtrids c.in-Decide.outcome c.decide.result
    (subst (λ gs. c.in-Decide.outcome ≡ Outcomes.Commit → LogsRows moment gs old c.decide.result new) c.as_slice.ensures c.decide.ensures.rows))

pub returns-in-Settle-clause-rows : goal.returns-in-Settle-clause-rows
returns-in-Settle-clause-rows g c =
    subst (λ q. LogsRows g.L.DecisionLog.moment (committed_by q) c.args.self.now.session c.settle.result c.settle.new.self.session) (sym c.in-Settle.is)
    c.settle.ensures.rows

pub returns-in-CrashRm-clause-keeps : goal.returns-in-CrashRm-clause-keeps
returns-in-CrashRm-clause-keeps g c =
    lines_keep g.L.DecisionLog.moment c.in-CrashRm.rm 0 c.args.self.now.session.lines.threads c.crash_rm.result c.args.self.now c.crash_rm.new.self
    c.crash_rm.ensures.performs

pub returns-in-Waiting-clause-keeps : goal.returns-in-Waiting-clause-keeps
returns-in-Waiting-clause-keeps g c = kept g.L.DecisionLog.moment c.args.self.now.session.manager

pub returns-in-Owed-clause-keeps : goal.returns-in-Owed-clause-keeps
returns-in-Owed-clause-keeps g c = kept g.L.DecisionLog.moment c.args.self.now.session.manager

pub returns-in-Status-clause-keeps : goal.returns-in-Status-clause-keeps
returns-in-Status-clause-keeps g c = kept g.L.DecisionLog.moment c.args.self.now.session.manager

pub returns-in-Quit-clause-keeps : goal.returns-in-Quit-clause-keeps
returns-in-Quit-clause-keeps g c = kept g.L.DecisionLog.moment c.args.self.now.session.manager

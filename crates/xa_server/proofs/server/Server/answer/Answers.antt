use Rattle.std.proofs.Common.{◌∙◌, ap, refl, subst, sym}
use Rattle.xa_session.proofs.Logging.{kept}
use Rattle.xa_server.proofs.AnswerLemmas.{hears_it}
use Rattle.xa_server.specs.Calls.{answer_reply}
use Rattle.xa_session.specs.Steps.{Hears}
use Rattle.xa_server.proofs.server.Server.answer.Goals as goal

pub returns-clause-performs : goal.returns-clause-performs
returns-clause-performs g c =
    let old = c.args.self.now.session in
    let call = c.answer-heard in
    hears_it c.args.thread c.args.rm c.args.name.now c.args.answer.now c.args.self.now _ c.answer_reply.result
    (sym c.waits_for_other.ensures ∙ c.if-waits_for_other.false) (record {
      result = call.result;
      does = subst (λ a. Hears c.args.thread c.args.rm a old call.new.self call.result) c.in-Ok.ensures
          call.ensures.hears;
      told = c.answer_reply.ensures ∙ ap (λ r. answer_reply r call.result) c.heard_of-reply.ensures;
      rest = refl;
    })

pub returns-then-waits_for_other-clause-keeps : goal.returns-then-waits_for_other-clause-keeps
returns-then-waits_for_other-clause-keeps g c = kept g.L.DecisionLog.moment c.args.self.now.session.manager

pub returns-in_default-clause-keeps : goal.returns-in_default-clause-keeps
returns-in_default-clause-keeps g c = kept g.L.DecisionLog.moment c.args.self.now.session.manager

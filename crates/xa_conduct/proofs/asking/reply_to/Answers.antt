use Rattle.xa_conduct.proofs.ActLemmas.{one_done, one_more}
use Rattle.xa_conduct.proofs.asking.reply_to.Goals as goal

pub returns-clause-acts : goal.returns-clause-acts
returns-clause-acts g c = λ done first before.
    one_more g.L.DecisionLog.moment c.plain_requests_have_lines.ensures c.args.request.now first c.args.server.now c.perform.result c.perform.new.self
    c.requires.plain c.perform.ensures.performs done before

pub returns-clause-done : goal.returns-clause-done
returns-clause-done g c = λ is done first before.
    one_done g.L.DecisionLog.moment c.plain_requests_have_lines.ensures c.args.request.now first c.args.server.now c.perform.result c.perform.new.self
    c.requires.plain c.perform.ensures.performs is done before

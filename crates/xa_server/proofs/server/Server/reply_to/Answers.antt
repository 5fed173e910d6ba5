use Rattle.std.proofs.Common.{◌∙◌, subst}
use Rattle.xa_server.specs.Serving.{RepliesToLine}
use Rattle.xa_server.proofs.server.Server.reply_to.Goals as goal

pub returns-in-Ok-clause-ok : goal.returns-in-Ok-clause-ok
returns-in-Ok-clause-ok g c =
    subst (λ asks. RepliesToLine g.L.DecisionLog.moment asks c.args.self.now c.reply_in_turn.result c.reply_in_turn.new.self)
    (c.as_slice.ensures.value ∙ c.in-Ok.ensures.asked) c.reply_in_turn.ensures.replies

use Rattle.std.proofs.lemmas.Result.{IfOk-weaker}
use Rattle.xa_outcomes.proofs.WorkedServed.{worked_so}
use Rattle.xa_outcomes.proofs.worked.worked_sessions.Goals as goal

pub returns : goal.returns
returns g c = record {
  worked = IfOk-weaker c.second_session.result _ _
      (λ last is. worked_so g.L.DecisionLog.moment c.replies_are_tracked.ensures c.starts_are_tracked.ensures c.sessions_are_explained.ensures
      c.without_a_name_nothing_changes.ensures.lines c.args.log c.in_ok-left.left last c.in_ok-left.ensures is) c.second_session.ensures;
}

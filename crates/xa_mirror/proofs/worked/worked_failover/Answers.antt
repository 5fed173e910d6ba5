use Rattle.xa_mirror.proofs.LostDecision.{lost_decision}
use Rattle.xa_mirror.specs.Mirrors.{AreServedAnew.MadeAnew, copied}
use Rattle.std.proofs.lemmas.Result.{IfOk-weaker}
use Rattle.xa_outcomes.specs.WorkedSessions.{first_gtrid, stand_at}
use Rattle.xa_base.specs.declared.state.Standing.TheVariants.{Committed, Prepared}
use Rattle.std.specs.Prelude.{[]}
use Rattle.xa_mirror.proofs.worked.worked_failover.Goals as goal

pub returns : goal.returns
returns g c = record {
  fails_over = IfOk-weaker c.worked_sessions.result _ _
      (λ last honestly order honest empty left n leaves later.
      MadeAnew left (copied n left) (stand_at first_gtrid Committed Prepared)
      (c.mirrors_go_on.ensures.one_log [] first_gtrid left (stand_at first_gtrid Committed Prepared) ((honestly order honest empty).stand.alone left leaves))
      (c.mirrors_are_there.ensures.copies (stand_at first_gtrid Committed Prepared) left n later first_gtrid))
      c.worked_sessions.ensures.worked;
  loses = IfOk-weaker c.worked_sessions.result _ _
      (λ last honestly order honest empty.
      lost_decision g.L.DecisionLog.moment last c.made_logs_go_on.ensures.history (honestly order honest empty).told)
      c.worked_sessions.ensures.worked;
}

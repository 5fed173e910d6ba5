-- A decision in which the first of two worked sessions was left may be lost with its log.
use Rattle.std.proofs.Common.{[], ◌∷◌, Some, refl}
use Rattle.std.proofs.lemmas.List.Elements.{All-cons, All-nil}
use Rattle.xa_base.specs.declared.state.Standing.TheVariants.{Prepared}
use Rattle.xa_log.specs.Content.{without_decision}
use Rattle.xa_log.specs.Contract.{Moment}
use Rattle.xa_mirror.specs.OneHistory.{MadeLogsHaveOneHistory}
use Rattle.xa_mirror.specs.ToldMirrors.{NoCommitIssued}
use Rattle.xa_mirror.specs.WorkedFailover.{LosesDecision}
use Rattle.xa_outcomes.proofs.WorkedSessions.{first_served}
use Rattle.xa_outcomes.specs.WorkedSessions.{TellThis, first_gtrid, stand_at}
use Rattle.xa_server.specs.declared.server.Server.{Server}

pub lost_decision : {L : Type 0} (moment : L → Moment) (last : Server L) → MadeLogsHaveOneHistory moment → TellThis moment [] first_gtrid last
    → LosesDecision moment
lost_decision moment last goes_on tell = record {
  first = tell.first;
  log = tell.mid;
  left = tell.leaves_mid;
  goes_on = λ n next later from_d.
      goes_on [] (Some tell.first) (stand_at first_gtrid Prepared Prepared) tell.mid
      (without_decision first_gtrid (record tell.mid { incarnation = n })) (first_gtrid ∷ []) next
      (first_served first_gtrid moment [] last tell) tell.leaves_mid (record { rows = refl; records = refl; later = later })
      (All-cons (λ g. NoCommitIssued moment [] g (Some tell.first) (stand_at first_gtrid Prepared Prepared) (first_served first_gtrid moment [] last tell))
      first_gtrid [] (λ issued. issued, tt)
      (All-nil (λ g. NoCommitIssued moment [] g (Some tell.first) (stand_at first_gtrid Prepared Prepared) (first_served first_gtrid moment [] last tell))))
      from_d;
}

use Rattle.xa_server.proofs.ManagerLemmas.{managers_apart, replies_own}
use Rattle.xa_server.proofs.laws.managers_stay_apart.Goals as goal

pub returns : goal.returns
returns g c = record {
  own = replies_own g.L.DecisionLog.moment c.names_part_identifiers.ensures.own c.sessions_are_explained.ensures;
  apart = managers_apart g.L.DecisionLog.moment c.names_part_identifiers.ensures.own c.names_part_identifiers.ensures.apart c.sessions_are_explained.ensures;
}

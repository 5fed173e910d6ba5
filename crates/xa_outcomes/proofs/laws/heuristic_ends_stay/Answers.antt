use Rattle.xa_outcomes.proofs.HeuristicEnds.{ends_stay}
use Rattle.xa_outcomes.proofs.laws.heuristic_ends_stay.Goals as goal

pub returns : goal.returns
returns c = ends_stay

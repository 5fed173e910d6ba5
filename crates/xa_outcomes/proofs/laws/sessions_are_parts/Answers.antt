use Rattle.xa_outcomes.proofs.OneHistory.{are_parts}
use Rattle.xa_outcomes.proofs.laws.sessions_are_parts.Goals as goal

pub returns : goal.returns
returns c = are_parts

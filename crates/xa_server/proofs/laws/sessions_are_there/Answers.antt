use Rattle.xa_server.proofs.WorkedSessions.{are_there}
use Rattle.xa_server.proofs.laws.sessions_are_there.Goals as goal

pub returns : goal.returns
returns c = are_there

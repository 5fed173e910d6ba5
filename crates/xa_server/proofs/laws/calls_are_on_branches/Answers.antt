use Rattle.xa_server.proofs.BranchLemmas.{calls_on_branches}
use Rattle.xa_server.proofs.laws.calls_are_on_branches.Goals as goal

pub returns : goal.returns
returns c = calls_on_branches

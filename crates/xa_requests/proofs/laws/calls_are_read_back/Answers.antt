use Rattle.xa_requests.proofs.ReadBackLemmas.{read_back}
use Rattle.xa_requests.proofs.laws.calls_are_read_back.Goals as goal

pub returns : goal.returns
returns c = read_back

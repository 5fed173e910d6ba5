use Rattle.xa_requests.proofs.Identifiers.{requests_have}
use Rattle.xa_requests.proofs.laws.requests_have_xids.Goals as goal

pub returns : goal.returns
returns c = requests_have

use Rattle.xa_base.proofs.CallLemmas.{made_is_with, with_is_made}
use Rattle.xa_base.proofs.laws.calls_have_their_parts.Goals as goal

pub returns : goal.returns
returns c = λ kind xid flags count call. (with_is_made kind xid flags count call, made_is_with kind xid flags count call)

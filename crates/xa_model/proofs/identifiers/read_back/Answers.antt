use Rattle.xa_model.proofs.NameLemmas.ReadBackLemmas.{step_is_back, reply_is_back, allowed_ours}
use Rattle.xa_model.proofs.identifiers.read_back.Goals as goal

pub returns-clause-steps : goal.returns-clause-steps
returns-clause-steps c = step_is_back

pub returns-clause-replies : goal.returns-clause-replies
returns-clause-replies c = reply_is_back

pub returns-clause-ours : goal.returns-clause-ours
returns-clause-ours c = allowed_ours

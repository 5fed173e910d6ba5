use Rattle.xa_restore.proofs.ContentLemmas.{restored_hold}
use Rattle.xa_restore.proofs.named_log.restored_logs_hold_what_is_said.Goals as goal

pub returns : goal.returns
returns c = restored_hold

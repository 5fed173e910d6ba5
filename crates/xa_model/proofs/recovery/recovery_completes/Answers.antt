use Rattle.xa_model.proofs.RecoveryLemmas.RecoveryCalls.{recovered}
use Rattle.xa_model.proofs.recovery.recovery_completes.Goals as goal

pub returns : goal.returns
returns c tr r count names answers a m d = recovered tr r count names answers a m d

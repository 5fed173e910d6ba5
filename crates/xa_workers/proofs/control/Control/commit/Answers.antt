use Rattle.xa_workers.proofs.Sweeping.{saw_last}
use Rattle.xa_workers.proofs.control.Control.commit.Goals as goal
use Rattle.xa_workers.specs.declared.word.Word.TheVariants.{Claimed, Committed}

pub returns-clause-settled : goal.returns-clause-settled
returns-clause-settled g c = λ committed. (saw_last _ _ c.args.job Claimed Committed c.settle.ensures.entry, tt)

use Rattle.xa_base.proofs.BranchLemmas.{numbers_fit}
use Rattle.xa_base.proofs.BytesOrder.{branch_order}
use Rattle.xa_base.proofs.BranchOrder.{gtrid_numbers, branch_numbers}
use Rattle.xa_base.proofs.laws.branches_in_order.Goals as goal

pub returns-clause-fit : goal.returns-clause-fit
returns-clause-fit c x b v e = numbers_fit x b v e

pub returns-clause-order : goal.returns-clause-order
returns-clause-order c b d h k = branch_order b d h k

pub returns-clause-same_gtrid : goal.returns-clause-same_gtrid
returns-clause-same_gtrid c g h = gtrid_numbers g h

pub returns-clause-same_branch : goal.returns-clause-same_branch
returns-clause-same_branch c b d = branch_numbers b d

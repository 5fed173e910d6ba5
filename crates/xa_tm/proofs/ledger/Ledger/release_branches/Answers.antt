use Rattle.std.proofs.Common.{subst}
use Rattle.xa_tm.proofs.Maps.FirstBranches.{HasLost, lost_known}
use Rattle.xa_tm.proofs.ledger.Ledger.release_branches.Goals as goal

pub returns-clause-known : goal.returns-clause-known
returns-clause-known c =
    lost_known c.args.self.now c.loop-next.self c.args.g
    (subst (HasLost c.args.self.now c.loop-next.self c.args.g) c.in_default.is c.loop-next.invariant)

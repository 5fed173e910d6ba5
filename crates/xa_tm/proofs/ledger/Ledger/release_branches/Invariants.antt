use Rattle.std.proofs.Common.{length}
use Rattle.xa_tm.proofs.Maps.FirstBranches.{HasLost}
use Rattle.xa_tm.proofs.ledger.Ledger.release_branches.Given as goal

abbrev pub invariant-loop-next : goal.invariant-loop-next
invariant-loop-next l = HasLost l.initial.self l.self l.g l.next

abbrev pub decreases-loop-next : goal.decreases-loop-next
decreases-loop-next l = length l.self.branches.entries

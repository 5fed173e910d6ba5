use Rattle.std.proofs.Common.{ap}
use Rattle.xa_tm.specs.declared.notes.BranchNotes.{BranchNotes}
use Rattle.xa_tm.proofs.Maps.StartedBranches.{known_same, reserved_branch}
use Rattle.xa_tm.proofs.ledger.room.reserve_branch.Goals as goal

pub returns-in-Ok-clause-same : goal.returns-in-Ok-clause-same
returns-in-Ok-clause-same c = reserved_branch c.args.map.now c.insert.new.self c.args.b c.if-contains_key.ensures c.in-Ok.ensures.updates.0

pub returns-in-Ok-clause-known : goal.returns-in-Ok-clause-known
returns-in-Ok-clause-known c = known_same c.args.map.now c.insert.new.self c.insert.ensures.was_ordered c.insert.ensures.ordered
    (λ q. ap (λ (n : BranchNotes). n.is_started)
    (reserved_branch c.args.map.now c.insert.new.self c.args.b c.if-contains_key.ensures c.in-Ok.ensures.updates.0 q))

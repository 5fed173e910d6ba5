use Rattle.std.proofs.Common.{None}
use Rattle.xa_tm.proofs.Maps.Transactions.{kept_by, reserved_row}
use Rattle.xa_tm.proofs.ledger.room.reserve_row.Goals as goal

pub returns-in-Ok-clause-same : goal.returns-in-Ok-clause-same
returns-in-Ok-clause-same c = reserved_row c.args.map.now c.insert.new.self c.args.g c.if-contains_key.ensures c.in-Ok.ensures.updates.0

pub returns-in-Ok-clause-kept : goal.returns-in-Ok-clause-kept
returns-in-Ok-clause-kept c = kept_by c.args.map.now c.insert.new.self c.args.g None c.in-Ok.ensures.updates.0

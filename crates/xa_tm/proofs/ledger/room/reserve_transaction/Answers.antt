use Rattle.xa_tm.proofs.Maps.Transactions.{kept_by, reserved}
use Rattle.xa_tm.proofs.ledger.room.reserve_transaction.Goals as goal

pub returns-in-Ok-clause-same : goal.returns-in-Ok-clause-same
returns-in-Ok-clause-same c = reserved c.args.map.now c.insert.new.self c.args.g c.if-contains_key.ensures c.in-Ok.ensures.updates.0

pub returns-in-Ok-clause-kept : goal.returns-in-Ok-clause-kept
returns-in-Ok-clause-kept c = kept_by c.args.map.now c.insert.new.self c.args.g _ c.in-Ok.ensures.updates.0

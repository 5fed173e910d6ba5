use Rattle.xa_tm.proofs.Maps.Removals.{removed, taken_out}
use Rattle.xa_tm.proofs.ledger.room.remove_transaction.Goals as goal

pub returns-clause-at : goal.returns-clause-at
returns-clause-at c = removed c.args.map.now c.remove.new.self c.args.g c.remove.ensures.updates.0

pub returns-clause-gone : goal.returns-clause-gone
returns-clause-gone c = taken_out c.args.map.now c.remove.new.self c.args.g c.remove.ensures.updates.0

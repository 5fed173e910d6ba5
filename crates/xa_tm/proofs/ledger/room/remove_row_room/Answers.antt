use Rattle.xa_tm.proofs.Maps.Removals.{removed_room, taken_out}
use Rattle.xa_tm.proofs.ledger.room.remove_row_room.Goals as goal

pub returns-clause-same : goal.returns-clause-same
returns-clause-same c = removed_room c.args.map.now c.remove.new.self c.args.g c.requires c.remove.ensures.updates.0

pub returns-clause-gone : goal.returns-clause-gone
returns-clause-gone c = taken_out c.args.map.now c.remove.new.self c.args.g c.remove.ensures.updates.0

use Rattle.xa_tm.proofs.Maps.Transactions.{written}
use Rattle.xa_tm.proofs.ledger.room.set_row.Goals as goal

pub returns-clause-kept : goal.returns-clause-kept
returns-clause-kept c =
    written c.insert-done.result c.args.map.now c.insert-done.new.self c.args.g c.args.row c.insert-done.ensures.updates c.insert-done.ensures.absent
    c.requires

use Rattle.xa_tm.proofs.Maps.StartedBranches.{known_same, known_written, start_stays, written_branch, inserted}
use Rattle.xa_tm.proofs.ledger.room.set_branch.Goals as goal

pub returns-clause-known : goal.returns-clause-known
returns-clause-known c =
    known_written c.args.map.now c.insert-done.new.self c.args.b c.args.notes c.insert-done.ensures.was_ordered c.insert-done.ensures.ordered c.requires.started
    (written_branch c.args.map.now c.insert-done.new.self c.args.b c.args.notes
    (inserted c.insert-done.result c.args.map.now c.insert-done.new.self c.args.b c.args.notes c.insert-done.ensures.updates c.insert-done.ensures.absent
    c.requires.room))

pub returns-clause-same_known : goal.returns-clause-same_known
returns-clause-same_known c = λ stays.
    let m = c.args.map.now in
    let at =
    written_branch m c.insert-done.new.self c.args.b c.args.notes
    (inserted c.insert-done.result m c.insert-done.new.self c.args.b c.args.notes c.insert-done.ensures.updates c.insert-done.ensures.absent c.requires.room) in
    known_same m c.insert-done.new.self c.insert-done.ensures.was_ordered c.insert-done.ensures.ordered
    (start_stays m c.insert-done.new.self c.args.b c.args.notes at stays)

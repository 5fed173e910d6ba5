use Rattle.xa_monitor.proofs.EntryLemmas.{kept_at, reserved_at}
use Rattle.xa_monitor.proofs.entries.reserve.Goals as goal

pub returns-in-Ok-clause-same : goal.returns-in-Ok-clause-same
returns-in-Ok-clause-same c =
    reserved_at c.args.incarnation c.args.branches.now c.insert.new.self c.args.b c.states_before.result c.states_before.ensures
    c.if-contains_key.ensures c.in-Ok.ensures.updates.0

pub returns-in-Ok-clause-kept : goal.returns-in-Ok-clause-kept
returns-in-Ok-clause-kept c = kept_at c.args.branches.now c.insert.new.self c.args.b c.states_before.result c.in-Ok.ensures.updates.0

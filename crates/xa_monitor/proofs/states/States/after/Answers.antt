use Rattle.xa_base.specs.StateTable.{asks_of}
use Rattle.xa_monitor.proofs.RowLemmas.CallRows.{into_if, onto_if}
use Rattle.xa_monitor.proofs.states.States.after.Goals as goal

pub returns-clause-into : goal.returns-clause-into
returns-clause-into g c = into_if (asks_of c.args.call.now) c.args.code c.args.self c.by_row.result c.by_row.ensures

pub returns-clause-onto : goal.returns-clause-onto
returns-clause-onto g c = onto_if (asks_of c.args.call.now) c.args.code c.args.self c.by_row.result c.by_row.ensures

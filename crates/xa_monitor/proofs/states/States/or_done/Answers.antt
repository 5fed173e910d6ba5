use Rattle.xa_base.specs.StateTable.{asks_of}
use Rattle.xa_monitor.proofs.RowLemmas.AnyRows.{into_any_if, onto_any_if}
use Rattle.xa_monitor.proofs.states.States.or_done.Goals as goal

pub returns-clause-into : goal.returns-clause-into
returns-clause-into g c = into_any_if (asks_of c.args.call.now) c.args.self c.by_any_row.result c.by_any_row.ensures

pub returns-clause-onto : goal.returns-clause-onto
returns-clause-onto g c = onto_any_if (asks_of c.args.call.now) c.args.self c.by_any_row.result c.by_any_row.ensures

use Rattle.xa_monitor.proofs.RowLemmas.BreakRows.{off_into, off_onto}
use Rattle.xa_monitor.proofs.states.States.off_line.Goals as goal

pub returns-clause-into : goal.returns-clause-into
returns-clause-into c = off_into c.args.self c.by_break.result c.by_break.ensures

pub returns-clause-onto : goal.returns-clause-onto
returns-clause-onto c = off_onto c.args.self c.by_break.result c.by_break.ensures

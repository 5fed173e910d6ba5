use Rattle.xa_monitor.proofs.RowLemmas.BreakRows.{page_into, page_onto}
use Rattle.xa_monitor.proofs.states.States.in_doubt.Goals as goal

pub returns-clause-into : goal.returns-clause-into
returns-clause-into c = page_into c.args.self c.by_page.result c.by_page.ensures

pub returns-clause-onto : goal.returns-clause-onto
returns-clause-onto c = page_onto c.args.self c.by_page.result c.by_page.ensures

use Rattle.xa_session.proofs.LogStarts.{later_sessions_are_newer, logs_have_all_or_none, rows_are_handed_on}
use Rattle.xa_session.proofs.laws.later_sessions_go_on.Goals as goal

pub returns-clause-all : goal.returns-clause-all
returns-clause-all g c = logs_have_all_or_none g.L.DecisionLog.moment

pub returns-clause-newer : goal.returns-clause-newer
returns-clause-newer g c = later_sessions_are_newer g.L.DecisionLog.moment

pub returns-clause-rows : goal.returns-clause-rows
returns-clause-rows g c = rows_are_handed_on g.L.DecisionLog.moment

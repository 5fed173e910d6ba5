use Rattle.xa_log.proofs.TakenTogether.{rows_left, same_heuristics, same_incarnation}
use Rattle.xa_log.proofs.laws.rows_left_together.Goals as goal

pub returns-clause-rows : goal.returns-clause-rows
returns-clause-rows w gs c g = rows_left gs c g

pub returns-clause-heuristics : goal.returns-clause-heuristics
returns-clause-heuristics w gs c = same_heuristics gs c

pub returns-clause-incarnation : goal.returns-clause-incarnation
returns-clause-incarnation w gs c = same_incarnation gs c

use Rattle.xa_log.proofs.RowsInTurn.{answer_at, answer_each, first_row, row_there, same_heuristics, same_incarnation}
use Rattle.xa_log.proofs.laws.decisions_in_turn.Goals as goal

pub returns-clause-there : goal.returns-clause-there
returns-clause-there w ds c g set has = row_there ds c g set has

pub returns-clause-first : goal.returns-clause-first
returns-clause-first w ds c g none = first_row ds c g none

pub returns-clause-heuristics : goal.returns-clause-heuristics
returns-clause-heuristics w ds c = same_heuristics ds c

pub returns-clause-incarnation : goal.returns-clause-incarnation
returns-clause-incarnation w ds c = same_incarnation ds c

pub returns-clause-answers : goal.returns-clause-answers
returns-clause-answers w ds c = answer_each ds c

pub returns-clause-turn : goal.returns-clause-turn
returns-clause-turn w ds c i d l low = answer_at ds c i d l low

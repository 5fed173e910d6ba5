use Rattle.xa_tm.proofs.History.RowCounts.{counts_rows, doubt_of_rows, dropped_are_there, drops_counted}
use Rattle.xa_tm.proofs.laws.rows_are_counted.Goals as goal

pub returns-clause-counted : goal.returns-clause-counted
returns-clause-counted c = counts_rows

pub returns-clause-there : goal.returns-clause-there
returns-clause-there c = dropped_are_there

pub returns-clause-drops : goal.returns-clause-drops
returns-clause-drops c = drops_counted

pub returns-clause-doubt : goal.returns-clause-doubt
returns-clause-doubt c = doubt_of_rows

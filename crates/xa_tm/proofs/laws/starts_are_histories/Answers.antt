use Rattle.xa_tm.proofs.History.StartRows.{start_rows_apart}
use Rattle.xa_tm.proofs.History.Starts.{has_content, starts}
use Rattle.xa_tm.proofs.laws.starts_are_histories.Goals as goal

pub returns-clause-book : goal.returns-clause-book
returns-clause-book c = starts

pub returns-clause-content : goal.returns-clause-content
returns-clause-content c = has_content

pub returns-clause-apart : goal.returns-clause-apart
returns-clause-apart c = start_rows_apart

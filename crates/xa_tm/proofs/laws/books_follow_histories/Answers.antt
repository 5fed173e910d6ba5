use Rattle.xa_tm.proofs.History.OneMore.{one_more}
use Rattle.xa_tm.proofs.History.RowCounts.{right_book}
use Rattle.xa_tm.proofs.laws.books_follow_histories.Goals as goal

pub returns-clause-any : goal.returns-clause-any
returns-clause-any c = one_more

pub returns-clause-right : goal.returns-clause-right
returns-clause-right c = right_book

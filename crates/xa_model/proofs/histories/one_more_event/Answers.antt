use Rattle.xa_model.proofs.Replies.Pushes.{history_push, allowed_push, allowed_before, moment}
use Rattle.xa_model.proofs.histories.one_more_event.Goals as goal

pub returns-clause-history : goal.returns-clause-history
returns-clause-history c o events e = history_push o events e

pub returns-clause-allowed : goal.returns-clause-allowed
returns-clause-allowed c o events e a d = allowed_push o events e a d

pub returns-clause-before : goal.returns-clause-before
returns-clause-before c o events later a = allowed_before o events later a

pub returns-clause-moment : goal.returns-clause-moment
returns-clause-moment c o events later e = moment o events later e

use Rattle.xa_tm.proofs.History.NextAnswer.{answer_is_code, record_fits}
use Rattle.xa_tm.proofs.laws.answers_can_be_heard.Goals as goal

pub returns-clause-codes : goal.returns-clause-codes
returns-clause-codes c = answer_is_code

pub returns-clause-fits : goal.returns-clause-fits
returns-clause-fits c = λ tr l c a asked limits. record_fits tr limits l c a asked

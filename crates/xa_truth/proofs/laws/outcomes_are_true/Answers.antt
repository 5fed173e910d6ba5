use Rattle.xa_truth.proofs.OutcomeLemmas.{decisions_true, notes_true, replies_true}
use Rattle.xa_truth.proofs.laws.outcomes_are_true.Goals as goal

pub returns : goal.returns
returns g c =
    let moment = g.L.DecisionLog.moment in
    let stand = c.told_transactions_stand.ensures in
    record {
      told = replies_true moment stand.committed stand.row_stays stand.rolled_back stand.alone;
      noted = notes_true moment stand.committed stand.row_stays stand.rolled_back stand.alone;
      decided = decisions_true moment stand.committed stand.rolled_back;
    }

use Rattle.xa_tm.proofs.History.CountsAsLengths.{branches_counted, settlements_counted, votes_counted}
use Rattle.xa_tm.proofs.laws.branches_are_counted.Goals as goal

pub returns-clause-branches : goal.returns-clause-branches
returns-clause-branches c = branches_counted

pub returns-clause-votes : goal.returns-clause-votes
returns-clause-votes c = votes_counted

pub returns-clause-settlements : goal.returns-clause-settlements
returns-clause-settlements c = settlements_counted

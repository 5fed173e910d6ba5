use Rattle.xa_outcomes.proofs.Decided.{found_commits, will_commit}
use Rattle.xa_outcomes.proofs.Undecided.{never_committed, uncommitted}
use Rattle.xa_outcomes.proofs.laws.decisions_stand.Goals as goal

pub returns : goal.returns
returns c = record { never = never_committed; decided = will_commit; found = found_commits; so_far = uncommitted }

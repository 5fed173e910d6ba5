use Rattle.xa_mirror.proofs.RightWithout.{right_without}
use Rattle.xa_mirror.proofs.laws.decisions_may_be_left_out.Goals as goal

pub returns : goal.returns
returns c g tr right still = right_without g tr right still

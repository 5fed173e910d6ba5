use Rattle.xa_mirror.proofs.Copies.{copies, lacking_copies}
use Rattle.xa_mirror.proofs.laws.mirrors_are_there.Goals as goal

pub returns : goal.returns
returns c = record { copies = copies; lacking = lacking_copies }

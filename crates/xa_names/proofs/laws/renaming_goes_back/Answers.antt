use Rattle.xa_names.proofs.NameLemmas.{twice}
use Rattle.xa_names.proofs.laws.renaming_goes_back.Goals as goal

pub returns : goal.returns
returns c = twice

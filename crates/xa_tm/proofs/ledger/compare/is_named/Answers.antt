use Rattle.std.proofs.Common.{◌∙◌}
use Rattle.xa_tm.proofs.Several.Lists.{named}
use Rattle.xa_tm.proofs.ledger.compare.is_named.Goals as goal

pub returns : goal.returns
returns c = c.contains.ensures.value ∙ named c.args.g c.args.gtrids.now

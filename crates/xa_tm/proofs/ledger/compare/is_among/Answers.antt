use Rattle.std.proofs.Common.{◌∙◌}
use Rattle.xa_tm.proofs.Maps.SameBranches.{among}
use Rattle.xa_tm.proofs.ledger.compare.is_among.Goals as goal

pub returns : goal.returns
returns c = c.contains.ensures.value ∙ among c.args.branch c.args.branches.now

use Rattle.std.proofs.Common.{codes}
use Rattle.std.proofs.lemmas.Str.Pattern.{starts_text}
use Rattle.xa_diagnostics.proofs.json.tells_branch.Goals as goal

pub returns : goal.returns
returns c = starts_text _ (codes "7:") c.args.line.now c.starts_with.ensures.cases

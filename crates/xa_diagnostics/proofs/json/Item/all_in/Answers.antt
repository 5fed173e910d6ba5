use Rattle.std.proofs.Common.{◌∙◌}
use Rattle.xa_diagnostics.proofs.JsonLemmas.{items_seen}
use Rattle.xa_diagnostics.proofs.json.Item.all_in.Goals as goal

pub returns : goal.returns
returns c = c.in_ok-texts.ensures ∙ items_seen c.args.self (λ line. line.now) c.args.lines.now

use Rattle.std.proofs.Common.{◌≡◌, ◌∙◌, rules}
use Rattle.xa_conduct.proofs.NotStuckLemmas.{table_taken}
use Rattle.xa_conduct.specs.Meaning.{takes}
use Rattle.xa_conduct.proofs.place.Place.takes.Goals as goal

pub returns-then-is_asked-clause-table : goal.returns-then-is_asked-clause-table
returns-then-is_asked-clause-table c =
    let is : c.is_some.result ≡ takes c.args.self c.args.report = search rules in is ∙ table_taken c.args.self c.args.report

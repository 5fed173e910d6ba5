use Rattle.std.proofs.Common.{◌∙◌, ap}
use Rattle.xa_sql_log.specs.Layouts.{layout_in}
use Rattle.xa_sql_log.proofs.Layouts.{layout_of_none, layout_of_old, layout_of_log}
use Rattle.xa_sql_log.proofs.layout.layout_of.Goals as goal

pub returns-clause-missing : goal.returns-clause-missing
returns-clause-missing g c has = c.layout_in.ensures ∙ ap layout_in (c.schema.ensures.value ∙ has) ∙ layout_of_none

pub returns-clause-version_1 : goal.returns-clause-version_1
returns-clause-version_1 g c has = c.layout_in.ensures ∙ ap layout_in (c.schema.ensures.value ∙ has) ∙ layout_of_old

pub returns-clause-version_2 : goal.returns-clause-version_2
returns-clause-version_2 g c has = c.layout_in.ensures ∙ ap layout_in (c.schema.ensures.value ∙ has) ∙ layout_of_log

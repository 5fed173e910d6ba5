use Rattle.std.proofs.Common.{◌∙◌}
use Rattle.xa_tm.proofs.Log.FoundContent.{found}
use Rattle.xa_tm.proofs.manager.restart.find_and_raise.Goals as goal

pub returns-clause-found : goal.returns-clause-found
returns-clause-found g c = λ order honest.
    let rows = c.in-Ok.rows in
    let log = c.rows.new.self in
    let still = c.in-Ok-bump.ensures.changes.honest honest in
    found (g.L.DecisionLog.moment c.args.log.now).content
    (g.L.DecisionLog.moment log).content rows.decisions.items rows.heuristics.items c.in-Ok-bump.incarnation c.len.result c.len-in-Ok-bump.result
    (c.in-Ok.ensures.decisions order still) (c.in-Ok.ensures.heuristics order still) (c.in-Ok.ensures.reads.ok order still)
    (c.in-Ok-bump.ensures.answer (c.in-Ok.ensures.reads.order order) honest)
    (c.len.ensures ∙ rows.decisions.ok.0) (c.len-in-Ok-bump.ensures ∙ rows.heuristics.ok.0)

pub returns-clause-read : goal.returns-clause-read
returns-clause-read g c = record {
  between = c.rows.new.self;
  rows = c.in-Ok.ensures.cause;
  raised = c.in-Ok-bump.ensures.cause;
  found = returns-clause-found g c;
}

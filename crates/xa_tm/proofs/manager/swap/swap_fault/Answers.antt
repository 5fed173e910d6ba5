use Rattle.std.proofs.Common.{rules}
use Rattle.xa_tm.proofs.Log.AgreesWith.{not_held}
use Rattle.xa_tm.proofs.Log.MayHoldAgain.{held_by}
use Rattle.xa_tm.proofs.manager.swap.swap_fault.Goals as goal

pub returns-in-Ok-true-clause-none : goal.returns-in-Ok-true-clause-none
returns-in-Ok-true-clause-none g c = λ is order honest.
    held_by c.args.ledger.now c.in-Ok.rows c.in-Ok-true.field-0 c.in-Ok-true.field-0-test c.in-Ok-true.ensures
    (g.L.DecisionLog.moment c.args.log.now).content (g.L.DecisionLog.moment c.rows.new.self).content
    (c.in-Ok.ensures.decisions order honest) (c.in-Ok.ensures.participants order honest) (c.in-Ok.ensures.heuristics order honest)
    (c.in-Ok.ensures.reads.ok order honest)
    (λ content is. g.met.L.DecisionLog.own c.args.log.now content order is)

pub returns-clause-some : goal.returns-clause-some
returns-clause-some g c = record {
  looks = search rules;
  memory = λ is. absurd (cc);
  log = λ is. absurd (cc);
  read = λ is. record { says = c.in-Ok.ensures.cause; faults = c.in-Ok.ensures.reads.faults };
  other = λ is order honest content holds may.
      not_held c.args.ledger.now c.in-Ok.rows c.in-Ok-false.field-0 c.in-Ok-false.field-0-test c.in-Ok-false.ensures
      (g.L.DecisionLog.moment c.args.log.now).content
      (c.in-Ok.ensures.decisions order honest) (c.in-Ok.ensures.participants order honest) (c.in-Ok.ensures.heuristics order honest)
      (λ d held. g.met.L.DecisionLog.own c.args.log.now d order held) content holds may;
}

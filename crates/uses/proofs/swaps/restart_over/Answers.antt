use Rattle.std.proofs.Common.{◌∙◌}
use Rattle.std.specs.Prelude.{Err}
use Rattle.xa_model.specs.Facts.{up}
use Rattle.xa_system.specs.SystemView.{trace_in}
use Rattle.xa_tm.specs.Slots.{log_held}
use Rattle.uses.proofs.LogSwaps.{left_down, not_blamed, not_there_yet, same_start, was_honest, why_not}
use Rattle.uses.proofs.swaps.restart_over.Goals as goal

pub returns-in-Ok-clause-restarted : goal.returns-in-Ok-clause-restarted
returns-in-Ok-clause-restarted g c content is =
    let gave = c.in-Ok.ensures in
    let did = c.step.ensures in
    not_blamed g.R.ResourceManager.look g.L.DecisionLog c.args.system.now
    c.give_log.new.self c.step.new.self c.args.left content _
    c.step.result gave.others gave.ok is.order is.content (is.near content is.leaves) did.full did.adds did.log.honest did.log.faults

pub returns-in-Ok-clause-honest : goal.returns-in-Ok-clause-honest
returns-in-Ok-clause-honest g c honest =
    was_honest g.R.ResourceManager.look g.L.DecisionLog
    c.give_log.new.self c.args.left c.in-Ok.ensures.ok (c.step.ensures.log.honest honest)

pub returns-in-Ok-clause-start : goal.returns-in-Ok-clause-start
returns-in-Ok-clause-start g c =
    c.step.ensures.start
    ∙ same_start g.R.ResourceManager.look g.L.DecisionLog
    c.args.system.now c.give_log.new.self c.args.left c.in-Ok.ensures.others

pub returns-in-Err-clause-given : goal.returns-in-Err-clause-given
returns-in-Err-clause-given g c content is =
    let look = g.R.ResourceManager.look in
    let old = c.args.system.now in
    let tr = trace_in look old in
    let gave = c.in-Err.ensures in
    why_not {A = Unit {0}} g.L.DecisionLog.moment tr c.args.left (Err c.in-Err.fault) _ gave.back.looks gave.only_up gave.back.other
    (not_there_yet g.R.ResourceManager.look g.L.DecisionLog.moment
    (up tr) (log_held old.log) is.down is.out) is.order content is.content
    (λ honest. left_down tr content is.down (c.agree.ensures.parts.log.leaves is.was_in_order is.was_honest content is.leaves))

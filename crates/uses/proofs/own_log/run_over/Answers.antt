use Rattle.std.proofs.Common.{◌∙◌, subst, sym}
use Rattle.std.specs.Prelude.{IsSomeAnd}
use Rattle.xa_system.specs.LogInHistory.{StartsOver}
use Rattle.xa_system.specs.SystemView.{origin_in}
use Rattle.xa_tm.specs.Slots.{slot_moment}
use Rattle.uses.proofs.own_log.run_over.Goals as goal

pub returns-clause-starts : goal.returns-clause-starts
returns-clause-starts g c honest =
    let moment = g.L.DecisionLog.moment in
    let look = g.R.ResourceManager.look in
    let ran = c.run-ran.ensures in
    let made = c.in_ok-system.ensures in
    let first = ran.log.first ∙ made.log.first in
    let begun = ran.log.begun ∙ made.log.begun in
    subst (λ l. IsSomeAnd (moment l).content (StartsOver (origin_in look c.run-ran.new.self))) first
    (ran.parts.log.start (subst (λ l. (moment l).is_in_order) (sym first) c.requires)
    (subst (λ s. (slot_moment moment s).is_honest) (sym begun) (ran.log.honest honest)))

pub returns-clause-stands : goal.returns-clause-stands
returns-clause-stands g c honest =
    let ran = c.run-ran.ensures in
    ran.parts.log.stands (subst (λ l. (g.L.DecisionLog.moment l).is_in_order) (sym (ran.log.handed ∙ c.in_ok-system.ensures.log.handed)) c.requires) honest

pub returns-clause-leaves : goal.returns-clause-leaves
returns-clause-leaves g c honest =
    let ran = c.run-ran.ensures in
    ran.parts.log.leaves (subst (λ l. (g.L.DecisionLog.moment l).is_in_order) (sym (ran.log.handed ∙ c.in_ok-system.ensures.log.handed)) c.requires) honest

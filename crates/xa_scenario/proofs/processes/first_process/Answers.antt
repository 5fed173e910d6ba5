use Rattle.std.proofs.Common.{subst}
use Rattle.xa_scenario.specs.Processes.{HasPlayed}
use Rattle.xa_scenario_file.specs.Scenarios.{plan_of}
use Rattle.xa_scenario.proofs.ProcessLemmas.{first_stands, still_counted}
use Rattle.xa_system.specs.SystemView.{observes}
use Rattle.xa_scenario.proofs.processes.first_process.Goals as goal

pub returns-clause-last : goal.returns-clause-last
returns-clause-last g c =
    let look = g.R.ResourceManager.look in
    let see = observes g.R.ResourceManager.look g.L.DecisionLog.moment in
    let plan = plan_of c.args.scenario.now in
    let begun = c.in_ok-system.system in
    first_stands look g.L.DecisionLog.moment c.args.log plan begun _ c.in_ok-system.ensures.over c.new-names.ensures.items
    c.in_ok-system.ensures.empty c.in_ok-system.ensures.start c.in_ok-system.ensures.right
    (subst (λ gs. HasPlayed see plan gs c.text_of_play.new.gtrids.items begun c.text_of_play.new.system) c.new-gtrids.ensures.items
    c.in_ok-text.ensures.played)

pub returns-clause-count : goal.returns-clause-count
returns-clause-count g c =
    still_counted g.R.ResourceManager.look g.L.DecisionLog.moment (plan_of c.args.scenario.now) _ _ c.in_ok-system.system c.text_of_play.new.system
    c.args.scenario.now.rms c.in_ok-text.ensures.played c.in_ok-system.ensures.start.rms

use Rattle.std.proofs.Common.{◌∙◌}
use Rattle.xa_scenario_file.specs.Scenarios.{plan_of}
use Rattle.xa_scenario.proofs.ProcessLemmas.{next_stands, still_counted}
use Rattle.xa_scenario.proofs.processes.next_process.Goals as goal

pub returns-clause-last : goal.returns-clause-last
returns-clause-last g c = λ log plans traces counted last.
    next_stands g.R.ResourceManager.look g.L.DecisionLog.moment log c.args.number plans (plan_of c.args.scenario.now) traces c.args.before
    c.in_ok-system.system _ counted last c.in_ok-add_started.ensures.added c.in_ok-system.ensures.goes_on c.in_ok-system.ensures.empty
    c.in_ok-system.ensures.threads (c.in_ok-system.ensures.rms ∙ c.requires.count) c.in_ok-text.ensures.played

pub returns-clause-count : goal.returns-clause-count
returns-clause-count g c =
    still_counted g.R.ResourceManager.look g.L.DecisionLog.moment (plan_of c.args.scenario.now) _ _ c.in_ok-system.system c.text_of_play.new.system
    c.args.scenario.now.rms c.in_ok-text.ensures.played (c.in_ok-system.ensures.rms ∙ c.requires.count)

use Rattle.std.proofs.Common.{map, ap, ◌∙◌}
use Rattle.std.proofs.lemmas.List.{map_push}
use Rattle.xa_scenario_file.specs.Scenarios.{plan_of}
use Rattle.xa_scenario_file.proofs.files.add_scenario.Goals as goal

pub returns-clause-read : goal.returns-clause-read
returns-clause-read c =
    let scenario = c.in_ok-scenario.scenario in (
      plan_of scenario,
      c.in_ok-scenario.ensures.read,
      ap (map plan_of) c.in_ok-push.ensures.items ∙ map_push plan_of c.args.scenarios.now.items scenario,
      c.in_ok-scenario.ensures.sized,
      c.in_ok-scenario.ensures.size,
      c.in_ok-scenario.ensures.alike,
    )

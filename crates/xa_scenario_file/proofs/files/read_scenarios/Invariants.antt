use Rattle.std.proofs.Common.{◌≡◌, drop, map}
use Rattle.xa_scenario_file.specs.Files.{earlier_of, files_from, scenarios_of}
use Rattle.xa_scenario_file.specs.Scenarios.{plan_of}
use Rattle.xa_scenario_file.proofs.FileLemmas.{AreOfSize, with_plans}
use Rattle.xa_scenario_file.proofs.files.read_scenarios.Given as goal

abbrev pub invariant-loop-file : goal.invariant-loop-file
invariant-loop-file l = record {
  read : with_plans (map plan_of l.scenarios.items) (files_from l.file (earlier_of l.before) (map (λ text. text.items) (drop l.file l.texts)))
      ≡ scenarios_of (map (λ text. text.items) l.texts);
  alike : AreOfSize l.before.size (map plan_of l.scenarios.items);
}

-- What a run of a scenario prints over a log that holds a row.
use Rattle.std.specs.Prelude.{◌≡◌, ℕ, true, List, Some, Ok}
use Rattle.xa_base.specs.declared.branch.Branch.{Branch}
use Rattle.xa_base.specs.declared.branch.Gtrid.{Gtrid}
use Rattle.xa_log.specs.KeySet.{from_list}
use Rattle.xa_model.specs.Trace.{Origin, Trace.From}
use Rattle.xa_scenario.specs.Runs.{IsTextOf}
use Rattle.xa_scenario_file.specs.Scenarios.{Plan, scenario_of}
use Rattle.xa_system.specs.LogInHistory.{participants_of_row}

-- the text of a run of the scenario that starts in the second incarnation, with the row of this
-- transaction
pub record PrintsAfter (g : Gtrid) (participants : List Branch) (text out : List ℕ) : Type 0 where
  pub plan : Plan
  pub origin : Origin
  pub reads : scenario_of text ≡ Ok plan
  pub incarnation : origin.incarnation ≡ 2
  pub row : participants_of_row (From origin) g ≡ Some (from_list participants)
  pub run : IsTextOf plan true origin out

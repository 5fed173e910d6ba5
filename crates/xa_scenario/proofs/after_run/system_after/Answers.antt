use Rattle.xa_rm.specs.contracts.mem_rm.MemRmResourceManager.TheImpl as memory
use Rattle.xa_scenario.specs.Processes.{process_of}
use Rattle.xa_scenario_file.specs.Scenarios.{plan_of}
use Rattle.xa_scenario.proofs.OneProcess.{is_first, is_run}
use Rattle.xa_system.specs.SystemView.{observes}
use Rattle.xa_scenario.proofs.after_run.system_after.Goals as goal

pub returns-clause-run : goal.returns-clause-run
returns-clause-run g c =
    let moment = g.L.DecisionLog.moment in
    let plan = plan_of c.args.scenario.now in
    let last = c.in_ok-process.ensures.last in
    let process = process_of (observes (memory.ghosts).look moment) c.args.log c.in_ok-process.process in
    is_run moment c.args.log plan process (is_first moment c.args.log plan last.whole process _ last.are)

pub returns-clause-over : goal.returns-clause-over
returns-clause-over g c =
    let moment = g.L.DecisionLog.moment in
    let plan = plan_of c.args.scenario.now in
    let last = c.in_ok-process.ensures.last in
    let process = process_of (observes (memory.ghosts).look moment) c.args.log c.in_ok-process.process in
    (is_first moment c.args.log plan last.whole process _ last.are).is.over

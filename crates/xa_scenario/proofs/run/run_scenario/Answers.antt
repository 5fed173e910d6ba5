use Rattle.std.proofs.Common.{◌≡◌, ◌⊎◌, [], inr, map, subst, sym, ⊎_elim}
use Rattle.std.proofs.lemmas.Result.{err_from_is_err_and}
use Rattle.xa_rm.specs.contracts.mem_rm.MemRmResourceManager.TheImpl as memory
use Rattle.xa_scenario_file.specs.Files.{AreOfOneSize}
use Rattle.xa_scenario.specs.Processes.{LogStops, PrintsProcesses, StopsAnywhere, StopsBetween}
use Rattle.xa_scenario_file.specs.Scenarios.{plan_of, scenario_of}
use Rattle.xa_system.specs.SystemView.{observes}
use Rattle.xa_files.proofs.TablesInTurnLemmas.{same_err}
use Rattle.xa_files.proofs.ReadingLemmas.{ends_with}
use Rattle.xa_scenario.proofs.OneProcess.{begins_one, blamed, keeps_one, of_one_size, prints_one, says_read}
use Rattle.xa_scenario.proofs.RunLemmas.{explains, not_of_log, not_of_output, not_of_work}
use Rattle.xa_scenario.proofs.run.run_scenario.Goals as goal

pub returns-in_err-scenario-clause-fault : goal.returns-in_err-scenario-clause-fault
returns-in_err-scenario-clause-fault g c =
    let p = err_from_is_err_and c.from_residual.result c.from_residual.ensures.1 in
    rw (p.1, p.2) (explains c.in_err-scenario.field-0.0 c.args.text.now c.in_err-scenario.ensures.read)

pub returns-in_err-scenario-clause-refused : goal.returns-in_err-scenario-clause-refused
returns-in_err-scenario-clause-refused g c =
    let p = err_from_is_err_and c.from_residual.result c.from_residual.ensures.1 in
    λ e known. rw (p.1, p.2) (ends_with c.in_err-scenario.field-0.0 e (scenario_of c.args.text.now) c.in_err-scenario.ensures.read known)

pub returns-in_err-scenario-clause-begun : goal.returns-in_err-scenario-clause-begun
returns-in_err-scenario-clause-begun g c =
    let p = err_from_is_err_and c.from_residual.result c.from_residual.ensures.1 in
    rw (p.1, p.2) (λ e. absurd (not_of_output c.in_err-scenario.field-0.0 c.args.text.now c.in_err-scenario.ensures.read e))

pub returns-in_err-scenario-clause-work : goal.returns-in_err-scenario-clause-work
returns-in_err-scenario-clause-work g c =
    let p = err_from_is_err_and c.from_residual.result c.from_residual.ensures.1 in
    rw (p.1, p.2) (not_of_work c.in_err-scenario.field-0.0 c.args.text.now c.in_err-scenario.ensures.read)

pub returns-in_err-scenario-clause-log : goal.returns-in_err-scenario-clause-log
returns-in_err-scenario-clause-log g c =
    let p = err_from_is_err_and c.from_residual.result c.from_residual.ensures.1 in
    rw (p.1, p.2) (λ is. absurd (not_of_log c.in_err-scenario.field-0.0 c.args.text.now c.in_err-scenario.ensures.read (same_err _ _ is)))

pub run_scenarios-requires : goal.run_scenarios-requires
run_scenarios-requires g c = record {
  alike =
      subst (λ scenarios. AreOfOneSize (map plan_of scenarios)) (sym c.from_ref.ensures.value)
      (of_one_size (plan_of c.in_ok-scenario.scenario) c.in_ok-scenario.ensures.sized);
}

pub returns-in-Ok-clause-ok : goal.returns-in-Ok-clause-ok
returns-in-Ok-clause-ok g c =
    let moment = g.L.DecisionLog.moment in
    let contents = g.W.Write.contents in
    let plan = plan_of c.in_ok-scenario.scenario in
    let told = subst (λ scenarios. (scenarios ≡ []) ⊎ PrintsProcesses moment c.args.log (map plan_of scenarios) c.args.with_trace c.in-Ok._left
    (contents c.args.out.now) (contents c.run_scenarios.new.out)) c.from_ref.ensures.value c.in-Ok.ensures.ok in
    ⊎_elim (λ none. absurd (cc)) (prints_one moment c.args.log plan c.args.text.now c.args.with_trace c.in_ok-scenario.ensures.read c.in-Ok._left
    (contents c.args.out.now) (contents c.run_scenarios.new.out)) told

pub returns-clause-fault : goal.returns-clause-fault
returns-clause-fault g c =
    says_read c.in-Err.fault c.args.text.now (plan_of c.in_ok-scenario.scenario) c.in_ok-scenario.ensures.read c.in-Err.ensures.fault

pub returns-clause-log : goal.returns-clause-log
returns-clause-log g c = λ is.
    let see = observes (memory.ghosts).look g.L.DecisionLog.moment in
    blamed see c.args.log g.L.DecisionLog (plan_of c.in_ok-scenario.scenario)
    (subst (λ scenarios. LogStops see c.args.log g.L.DecisionLog (map plan_of scenarios)) c.from_ref.ensures.value (c.run_scenarios.ensures.log (cc)))

pub returns-clause-memory : goal.returns-clause-memory
returns-clause-memory g c = λ is.
    let moment = g.L.DecisionLog.moment in
    let contents = g.W.Write.contents in
    keeps_one moment c.args.log (plan_of c.in_ok-scenario.scenario) c.args.with_trace (contents c.args.out.now) (contents c.run_scenarios.new.out)
    (subst (λ scenarios. StopsBetween moment c.args.log (map plan_of scenarios) c.args.with_trace (contents c.args.out.now) (contents c.run_scenarios.new.out))
    c.from_ref.ensures.value (c.in-Err.ensures.stopped (inr is)))

pub returns-clause-begun : goal.returns-clause-begun
returns-clause-begun g c = λ is.
    let moment = g.L.DecisionLog.moment in
    let contents = g.W.Write.contents in
    begins_one moment c.args.log (plan_of c.in_ok-scenario.scenario) c.args.text.now c.args.with_trace c.in_ok-scenario.ensures.read
    (contents c.args.out.now) (contents c.run_scenarios.new.out)
    (subst (λ scenarios. StopsAnywhere moment c.args.log (map plan_of scenarios) c.args.with_trace (contents c.args.out.now) (contents c.run_scenarios.new.out))
    c.from_ref.ensures.value (c.in-Err.ensures.begun is))

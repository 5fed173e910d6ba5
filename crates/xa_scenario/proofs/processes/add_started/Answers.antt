use Rattle.std.proofs.lemmas.Result.{on_ok_weaker}
use Rattle.xa_scenario.proofs.ReportLemmas.{adds_report}
use Rattle.xa_system.specs.SystemView.{trace_in}
use Rattle.xa_scenario.proofs.processes.add_started.Goals as goal

pub returns-clause-added : goal.returns-clause-added
returns-clause-added g c =
    on_ok_weaker c.add_names.result
    (λ is. adds_report
    (trace_in g.R.ResourceManager.look c.args.system.now)
    c.in_ok-report.report.items c.in_ok-report.ensures.listed
    c.args.names.now.items c.add_names.new.names.items c.in_ok-report.ensures.in_order is)
    c.add_names.ensures.added

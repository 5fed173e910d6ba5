use Rattle.std.proofs.Common.{string_bytes}
use Rattle.xa_scenario.proofs.ReportLemmas.{adds_fates}
use Rattle.xa_system.specs.SystemView.{origin_in}
use Rattle.xa_scenario.proofs.processes.add_fates.Goals as goal

pub returns-clause-text : goal.returns-clause-text
returns-clause-text g c =
    adds_fates (origin_in g.R.ResourceManager.look c.args.system.now) c.args.system.now.events c.args.names.items (string_bytes c.args.text.now) _ _
    c.in_ok-earlier.earlier.items _ c.in_ok-own.own.items _ c.in_ok-earlier.ensures.fates
    (record { in_order = c.in_ok-own.ensures.in_order; listed = c.in_ok-own.ensures.listed }) c.deref.ensures.value c.deref-2.ensures.value
    c.in_ok-push_fates.ensures.text c.in_ok-push_fates-2.ensures.text

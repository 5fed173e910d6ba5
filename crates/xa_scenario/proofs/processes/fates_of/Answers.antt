use Rattle.std.proofs.Common.{◌++◌, ◌∷◌, [], subst, sym}
use Rattle.xa_scenario.specs.Processes.{AreFates}
use Rattle.xa_scenario.proofs.ReportLemmas.{one_fate_more}
use Rattle.xa_system.specs.SystemView.{origin_in}
use Rattle.xa_scenario.proofs.processes.fates_of.Goals as goal

pub loop-xid-preserved : goal.loop-xid-preserved
loop-xid-preserved g c =
    let o = origin_in g.R.ResourceManager.look c.args.system.now in
    let events = c.args.system.now.events in
    let xid = c.in-Some.xid in
    subst (AreFates o events (c.loop-xid.yielded ++ xid ∷ [])) (sym c.in_ok-push.ensures.items)
    (one_fate_more o events c.loop-xid.yielded c.loop-xid.fates.items xid c.fate-fate.result c.loop-xid.invariant
    (λ b fits thread rm same. c.fate-fate.ensures.own b (record { fits = fits; thread = thread; rm = rm }) same))

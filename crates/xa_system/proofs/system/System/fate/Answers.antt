use Rattle.std.proofs.Common.{◌≡◌, sym, subst, ◌∙◌}
use Rattle.xa_model.specs.Facts.{fate}
use Rattle.xa_system.specs.SystemView.{observes, trace_in}
use Rattle.xa_system.proofs.Histories.SystemView.{fate_is}
use Rattle.xa_system.proofs.Histories.Standing.{site_read}
use Rattle.xa_system.proofs.system.System.fate.Goals as goal

pub returns-in_Some-branch-clause-own : goal.returns-in_Some-branch-clause-own
returns-in_Some-branch-clause-own g c b own e =
    let see = observes g.R.ResourceManager.look g.L.DecisionLog.moment in
    let there = sym c.has.ensures.value ∙ c.if-has.true in
    let found = c.in_Some-branch.branch in
    let at = site_read _ _ c.self.inside.parts found.thread found.rm c.index.result.now c.self.invariant.stands there c.index.ensures in
    subst (λ v. c.fate.result ≡ fate (trace_in see.look v) b) c.self.view_is
    (c.fate.ensures ∙ fate_is _ _ c.self.inside c.self.invariant c.args.xid.now found b c.index.result.now
    (c.in_Some-branch.ensures.inverse b own.fits e) own.fits e at)

use Rattle.std.proofs.Common.{refl, arith}
use Rattle.xa_base.specs.declared.refusal.Refusal.TheVariants as Refusals
use Rattle.xa_base.specs.declared.step.Part.TheVariants as KnownParts
use Rattle.xa_base.specs.declared.step.Step.TheVariants as Steps
use Rattle.xa_model.specs.Trace.{Happening.Crashed}
use Rattle.xa_system.proofs.Log.Changes.{log_kept}
use Rattle.xa_system.specs.Parts.{sees}
use Rattle.xa_system.proofs.Steps.PresentRms.{rm_read, same_up}
use Rattle.xa_system.proofs.Steps.CrashRm.{crash_rm_down, crash_rm_leads, crash_rm_limit}
use Rattle.xa_system.proofs.Histories.RefusedSteps.{refused_goes}
use Rattle.xa_system.proofs.parts.Parts.crash_rm.Goals as goal

pub returns-then-rm-rms : goal.returns-then-rm-rms
returns-then-rm-rms g c =
    let see = sees g.R.ResourceManager.look g.L.DecisionLog.moment in
    let p = c.args.self.now in
    refused_goes see (Steps.Crash (KnownParts.Rm c.args.rm)) p c.refused.result Refusals.Limit tt c.refused.ensures
    (λ tr stands. crash_rm_limit see tr p c.args.rm (omega (arith, c.if-rm-rms.true, c.rms.ensures.value)) stands)

pub returns-then-not-index : goal.returns-then-not-index
returns-then-not-index g c =
    let see = sees g.R.ResourceManager.look g.L.DecisionLog.moment in
    let p = c.args.self.now in
    refused_goes see (Steps.Crash (KnownParts.Rm c.args.rm)) p c.refused-then-not-index.result Refusals.RmDown tt c.refused-then-not-index.ensures
    (λ tr stands. crash_rm_down see tr p c.args.rm c.index.result.now (omega (arith, c.if-rm-rms.false, c.rms.ensures.value))
    (rm_read see tr p c.args.rm c.index.result.now stands
    (omega (arith, c.if-rm-rms.false, c.rms.ensures.value)) c.index.ensures) c.if-not-index.true stands)

pub returns : goal.returns
returns g c tr stands few =
    let see = sees g.R.ResourceManager.look g.L.DecisionLog.moment in
    let p = c.args.self.now in
    let at =
    rm_read see tr p c.args.rm c.index_mut-site.result.now stands (omega (arith, c.if-rm-rms.false, c.rms.ensures.value)) c.index_mut-site.ensures.value in
    let up =
    same_up p.sites.items c.args.rm at (rm_read see tr p c.args.rm c.index.result.now stands (omega (arith, c.if-rm-rms.false, c.rms.ensures.value))
    c.index.ensures) c.if-not-index.false in
    crash_rm_leads see p c.args.rm c.index_mut-site.result.now c.crash.new.self c.renew_rm.new.self c.crash-2.new.self c.new.result c.new.ensures
    (omega (arith, c.if-rm-rms.false, c.rms.ensures.value)) up
    c.crash.ensures c.renew_rm.ensures c.crash-2.ensures.book
    (λ tr. log_kept see.moment (Crashed (KnownParts.Rm c.args.rm)) p.manager c.crash-2.new.self
    (λ n. refl) c.crash-2.ensures.log c.crash-2.ensures.tied) tr stands at

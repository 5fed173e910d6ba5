use Rattle.std.proofs.Common.{arith}
use Rattle.xa_base.specs.declared.refusal.Refusal.TheVariants as Refusals
use Rattle.xa_base.specs.declared.step.Side.TheVariants as Sides
use Rattle.xa_base.specs.declared.step.Step.TheVariants as Steps
use Rattle.xa_system.specs.Parts.{sees}
use Rattle.xa_system.proofs.Steps.PresentRms.{rm_read, same_up}
use Rattle.xa_system.proofs.Steps.CrashRm.{restart_busy, restart_leads, restart_limit}
use Rattle.xa_system.proofs.Histories.RefusedSteps.{refused_goes}
use Rattle.xa_system.proofs.parts.Parts.restart_rm.Goals as goal

pub returns-then-rm-rms : goal.returns-then-rm-rms
returns-then-rm-rms g c =
    let see = sees g.R.ResourceManager.look g.L.DecisionLog.moment in
    let p = c.args.self.now in
    refused_goes see (Steps.Restart (Sides.Rm c.args.rm)) p c.refused.result Refusals.Limit tt c.refused.ensures
    (λ tr stands. restart_limit see tr p c.args.rm (omega (arith, c.if-rm-rms.true, c.rms.ensures.value)) stands)

pub returns-then-index : goal.returns-then-index
returns-then-index g c =
    let see = sees g.R.ResourceManager.look g.L.DecisionLog.moment in
    let p = c.args.self.now in
    refused_goes see (Steps.Restart (Sides.Rm c.args.rm)) p c.refused-then-index.result Refusals.Busy tt c.refused-then-index.ensures
    (λ tr stands. restart_busy see tr p c.args.rm c.index.result.now (omega (arith, c.if-rm-rms.false, c.rms.ensures.value))
    (rm_read see tr p c.args.rm c.index.result.now stands (omega (arith, c.if-rm-rms.false, c.rms.ensures.value)) c.index.ensures) c.if-index.true stands)

pub returns : goal.returns
returns g c tr stands few =
    let see = sees g.R.ResourceManager.look g.L.DecisionLog.moment in
    let p = c.args.self.now in
    let at = rm_read see tr p c.args.rm c.index_mut.result.now stands (omega (arith, c.if-rm-rms.false, c.rms.ensures.value)) c.index_mut.ensures.value in
    let down =
    same_up p.sites.items c.args.rm at (rm_read see tr p c.args.rm c.index.result.now stands (omega (arith, c.if-rm-rms.false, c.rms.ensures.value))
    c.index.ensures) c.if-index.false in
    restart_leads see p c.args.rm c.index_mut.result.now c.new.result c.new.ensures (omega (arith, c.if-rm-rms.false, c.rms.ensures.value)) down tr stands at

use Rattle.std.proofs.Common.{refl}
use Rattle.xa_base.specs.declared.step.Step.TheVariants as Steps
use Rattle.xa_system.specs.Parts.{sees}
use Rattle.xa_system.proofs.Steps.ManagerAlone.{claim_did, manager_refused}
use Rattle.xa_system.proofs.parts.Parts.claim.Goals as goal

pub returns-in-Ok : goal.returns-in-Ok
returns-in-Ok g c =
    let see = sees g.R.ResourceManager.look g.L.DecisionLog.moment in
    claim_did see c.args.self.now c.claim.new.self c.args.gtrid c.new.result c.new.ensures c.in-Ok.ensures.allowed c.in-Ok.ensures.ok c.in-Ok.ensures.log

pub returns-in-Err : goal.returns-in-Err
returns-in-Err g c =
    let see = sees g.R.ResourceManager.look g.L.DecisionLog.moment in
    manager_refused see {A = Unit {0}} (Steps.Claim c.args.gtrid) c.args.self.now c.claim.new.self c.in-Err.refusal c.refused.result tt tt
    (λ tr. refl) (λ tr. tt) c.refused.ensures c.in-Err.ensures.refused c.in-Err.ensures.err
    (λ other. c.in-Err.ensures.log)

use Rattle.std.proofs.Common.{refl}
use Rattle.xa_base.specs.declared.branch.Gtrid.{Gtrid}
use Rattle.xa_base.specs.declared.step.Step.TheVariants as Steps
use Rattle.xa_system.specs.Parts.{sees}
use Rattle.xa_system.proofs.Steps.OfManager.{sound_book}
use Rattle.xa_system.proofs.Steps.ManagerAlone.{begin_did, manager_refused}
use Rattle.xa_system.proofs.parts.Parts.begin.Goals as goal

pub begin-requires : goal.begin-requires
begin-requires g c =
    let see = sees g.R.ResourceManager.look g.L.DecisionLog.moment in
    sound_book see c.args.self.now c.requires

pub returns-in-Ok : goal.returns-in-Ok
returns-in-Ok g c =
    let see = sees g.R.ResourceManager.look g.L.DecisionLog.moment in
    begin_did see c.args.self.now c.begin.new.self c.args.thread c.in-Ok.gtrid c.new.result c.new.ensures c.in-Ok.ensures.allowed c.in-Ok.ensures.value
    c.in-Ok.ensures.ok c.in-Ok.ensures.log

pub returns-in-Err : goal.returns-in-Err
returns-in-Err g c =
    let see = sees g.R.ResourceManager.look g.L.DecisionLog.moment in
    manager_refused see {A = Gtrid} (Steps.Begin c.args.thread) c.args.self.now c.begin.new.self c.in-Err.refusal c.refused.result tt tt
    (λ tr. refl) (λ tr. tt) c.refused.ensures c.in-Err.ensures.refused c.in-Err.ensures.err
    (λ other. c.in-Err.ensures.log)

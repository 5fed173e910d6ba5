use Rattle.std.proofs.Common.{subst}
use Rattle.std.specs.Int.{w64}
use Rattle.std.proofs.lemmas.Int.{to_z-of_z}
use Rattle.xa_base.specs.declared.call.Call.TheVariants as Calls
use Rattle.xa_base.specs.declared.step.Step.TheVariants as Steps
use Rattle.xa_system.specs.Parts.{GoesOn}
use Rattle.xa_system.specs.Parts.{sees}
use Rattle.xa_system.proofs.Steps.Recover.{recover_goes}
use Rattle.xa_system.proofs.parts.Parts.recover.Goals as goal

pub returns : goal.returns
returns g c =
    let see = sees g.R.ResourceManager.look g.L.DecisionLog.moment in
    recover_goes see c.args.rm c.args.count c.args.start_scan c.args.end_scan c.issue.result c.args.self.now c.issue.new.self
    (subst (λ n. GoesOn see (Steps.Issue 0 c.args.rm (Calls.Recover n c.args.start_scan c.args.end_scan)) c.issue.result c.args.self.now c.issue.new.self)
    (to_z-of_z w64 c.args.count c.ranges.count) c.issue.ensures)

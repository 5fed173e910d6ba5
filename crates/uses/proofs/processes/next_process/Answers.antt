use Rattle.uses.proofs.LaterProcesses.{end_of, one_more}
use Rattle.xa_system.specs.SystemView.{observes}
use Rattle.uses.proofs.processes.next_process.Goals as goal

pub returns-in-Ok-clause-headline : goal.returns-in-Ok-clause-headline
returns-in-Ok-clause-headline g c past last =
    let rm = g.R.ResourceManager in
    let left = c.in-Ok.ensures in
    c.go_on.ensures.headline past
    (end_of rm.look g.L.DecisionLog.moment past c.args.system c.in-Ok.remains last left.log left.order left.left)

pub returns-in-Ok-clause-chain : goal.returns-in-Ok-clause-chain
returns-in-Ok-clause-chain g c lists so_far =
    let rm = g.R.ResourceManager in
    let moment = g.L.DecisionLog.moment in
    let see = observes rm.look moment in
    let left = c.in-Ok.ensures in
    let went_on = c.go_on.ensures in
    let ends = end_of rm.look moment so_far.whole c.args.system c.in-Ok.remains so_far.last left.log left.order left.left in
    one_more see lists c.args.steps.now c.args.system so_far c.go_on.result went_on.does went_on.parts (went_on.follows so_far.whole ends)
    (went_on.chain so_far.whole ends)

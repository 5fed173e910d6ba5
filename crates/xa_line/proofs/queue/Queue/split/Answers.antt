use Rattle.xa_line.proofs.FlowLaws.{seen-again}
use Rattle.xa_line.proofs.queue.Queue.split.Goals as goal

pub returns-clause-seen : goal.returns-clause-seen
returns-clause-seen g c =
    seen-again _ _ _ _ _ _ _ _ c.self.view_is c.self.invariant.sees.all_seen c.look.ensures.outlet.1 c.look.ensures.inlet.1 c.look.ensures.ready.sees.all_seen

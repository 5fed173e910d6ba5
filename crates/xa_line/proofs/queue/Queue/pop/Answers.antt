use Rattle.std.proofs.Common.{length, ap, ◌∙◌}
use Rattle.rtrb.specs.Ring.{received}
use Rattle.xa_line.proofs.FlowLaws.{all_of-PassesOn, pop-flow}
use Rattle.xa_line.proofs.queue.Queue.pop.Goals as goal

pub returns-clause-some : goal.returns-clause-some
returns-clause-some g c =
    pop-flow _ _ _ _ _ _ _ _ _ _ _ (ap (λ s. length (received s.value)) c.find_room.ensures.outlet.0.1) c.self.view_is c.self.inside.outlet.started
    c.self.invariant.sees.all_seen
    c.pop_known-item.ensures.received.0 c.pop_known-item.ensures.received.1 c.find_room.ensures.outlet.1
    (c.find_room.ensures.ready.sees.all_seen ∙ c.find_room.ensures.inlet.1)

pub returns-clause-all : goal.returns-clause-all
returns-clause-all g c = all_of-PassesOn _ _ _ (returns-clause-some g c)

use Rattle.std.proofs.Common.{length, ap, ◌∙◌}
use Rattle.rtrb.specs.Ring.{received}
use Rattle.xa_line.proofs.FlowLaws.{push-flow}
use Rattle.xa_line.proofs.queue.Queue.push.Goals as goal

pub returns : goal.returns
returns g c =
    push-flow _ _ _ _ _ _ _ _ _ _
    (ap (λ s. length (received s.value)) (c.find_room.ensures.outlet.0.1 ∙ c.look.ensures.outlet.0.1))
    c.self.view_is c.self.invariant.sees.all_seen
    (c.find_room.ensures.inlet.1 ∙ c.look.ensures.inlet.1 ∙ c.put.ensures.sent)
    (c.find_room.ensures.outlet.1 ∙ c.look.ensures.outlet.1) c.find_room.ensures.ready.sees.all_seen

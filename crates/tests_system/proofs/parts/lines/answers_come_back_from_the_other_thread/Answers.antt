use denote.Param.Send.{sendable}
use Rattle.xa_line.proofs.Crossing.{issuer_send}
use Rattle.tests_system.proofs.parts.lines.answers_come_back_from_the_other_thread.Goals as goal

pub join-asked-requires-send-F : goal.join-asked-requires-send-F
join-asked-requires-send-F g c κs = search (sendable, issuer_send) depth 12

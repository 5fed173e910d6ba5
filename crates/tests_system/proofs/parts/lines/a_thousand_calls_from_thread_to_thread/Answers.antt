use denote.Param.Send.{sendable}
use Rattle.xa_line.proofs.Crossing.{issuer_send}
use Rattle.tests_system.proofs.parts.lines.a_thousand_calls_from_thread_to_thread.Goals as goal

pub join-issuer-requires-send-F : goal.join-issuer-requires-send-F
join-issuer-requires-send-F g c κs = search (sendable, issuer_send) depth 12

pub join-issuer-requires-send-A : goal.join-issuer-requires-send-A
join-issuer-requires-send-A g c κs = search (sendable, issuer_send) depth 12

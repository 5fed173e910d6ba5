use denote.Param.Send.{sendable}
use Rattle.xa_line.proofs.Crossing.{call_send, issuer_send}
use Rattle.benches.proofs.hops.hops_between_threads.Goals as goal

pub join-heard-requires-send-F : goal.join-heard-requires-send-F
join-heard-requires-send-F g c κs within = search (sendable, issuer_send, call_send) depth 12

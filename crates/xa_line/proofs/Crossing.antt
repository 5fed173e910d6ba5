-- The ends of a line may go to other threads.
use Rattle.std.proofs.Common.{[], ◌∷◌}
use denote.RattleType.{RattleType}
use denote.Struct.Tuple.{Tuple}
use denote.Param.Send.{IsSend, sendable}
use denote.Param.SendFields.{declared_send}
use Rattle.std.proofs.Crossing.{crosses, frees}
use Rattle.std.specs.contracts.alloc.Global as Global
use Rattle.rtrb.specs.contracts.AnyItems as AnyItems
use Rattle.rtrb.proofs.producer.Producer.TheSendSync as Producer
use Rattle.rtrb.proofs.consumer.Consumer.TheSendSync as Consumer
use Rattle.xa_base.specs.contracts.call.Call as Call
use Rattle.xa_base.specs.contracts.answer.Answer as Answer
use Rattle.xa_base.specs.contracts.xid.Xid as Xid
use Rattle.xa_base.proofs.call.Call.TheSendSync as CallSent
use Rattle.xa_base.proofs.answer.Answer.TheSendSync as AnswerSent
use Rattle.xa_base.proofs.xid.Xid.TheSendSync as XidSent
use Rattle.xa_line.specs.contracts.inlet.Inlet as Inlet
use Rattle.xa_line.specs.contracts.outlet.Outlet as Outlet
use Rattle.xa_line.specs.contracts.latch.Latch as Latch
use Rattle.xa_line.specs.contracts.issuer.Issuer as Issuer
use Rattle.xa_line.specs.contracts.taker.Taker as Taker

inlet_send : (T : RattleType) → IsSend T → IsSend (Inlet.the_row T)
inlet_send T s =
    declared_send (Inlet.the_type T)
    (Producer.the_send T Global.the_row AnyItems.the_row _ _ s (search (sendable, crosses)) frees, (search (sendable, crosses), tt))

outlet_send : (T : RattleType) → IsSend T → IsSend (Outlet.the_row T)
outlet_send T s =
    declared_send (Outlet.the_type T)
    (Consumer.the_send T Global.the_row AnyItems.the_row _ _ s (search (sendable, crosses)) frees, (search (sendable, crosses), tt))

abbrev call : RattleType
call = Call.the_row Xid.the_row

pub call_send : IsSend call
call_send = CallSent.the_send Xid.the_row XidSent.the_send

abbrev answer : RattleType
answer = Answer.the_row Xid.the_row

answer_send : IsSend answer
answer_send = AnswerSent.the_send Xid.the_row XidSent.the_send

abbrev pair : RattleType
pair = Tuple (call ∷ answer ∷ [])

pair_send : IsSend pair
pair_send = search (sendable, call_send, answer_send)

latch_send : IsSend Latch.the_row
latch_send = declared_send Latch.the_type (search sendable, (search sendable, tt))

pub issuer_send : IsSend Issuer.the_row
issuer_send =
    declared_send Issuer.the_type
    (inlet_send call call_send, (outlet_send pair pair_send, (latch_send, tt)))

pub taker_send : IsSend Taker.the_row
taker_send =
    declared_send Taker.the_type
    (outlet_send call call_send, (inlet_send pair pair_send, tt))

-- What the steps and replies of a system are as a history: a call on an identifier of this manager's shape is a call on its branch.
use Rattle.std.specs.Prelude.{◌≡◌, List, ◌∷◌, ◌++◌, map}
use Rattle.xa_base.specs.Xid.{Xid}
use Rattle.xa_base.specs.declared.reply.Event.{Event}
use Rattle.xa_base.specs.declared.reply.Reply as Replied
use Rattle.xa_base.specs.declared.step.Step as Asked
use Rattle.xa_model.specs.Replies.Allowed.{Allowed, with_steps, AllAllowed}
use Rattle.xa_model.specs.Replies.Steps.{Step, Reply, map_step, map_reply, happened}
pub use Rattle.xa_model.specs.Facts.InDoubt.{name_by, name_of}
use Rattle.xa_model.specs.Trace.{Happening, Origin, Trace, Trace.From}

-- ** names

-- a step, and a reply, with their identifiers read
abbrev pub step_of : Asked.Step Xid → Step
step_of step = map_step name_of step

abbrev pub reply_of : Replied.Reply Xid → Reply
reply_of reply = map_reply name_of reply

-- ** histories

-- an event as a step and a reply
abbrev pub read : Event → Step × Reply
read e = (step_of e.step, reply_of e.reply)

-- the happening that an event is
abbrev pub happening_of : Event → Happening
happening_of e = happened (step_of e.step) (reply_of e.reply)

-- a history, and what happened in these events behind it
abbrev pub and_then : Trace → List Event → Trace
and_then tr events = with_steps tr (map read events)

-- what happened in these events, from where the system began
abbrev pub history : Origin → List Event → Trace
history o events = and_then (From o) events

-- the event's reply is one that the history allows
abbrev pub IsAllowedEvent : Trace → Event → Type 0
IsAllowedEvent tr e = Allowed tr (step_of e.step) (reply_of e.reply)

-- each event's reply is one that the history before it allows
abbrev pub AreAllowed : Origin → List Event → Type 0
AreAllowed o events = AllAllowed (From o) (map read events)

-- ** moments

-- what holds of a history after each beginning of the events behind it
abbrev pub AtMomentsSince : (Trace → Type 0) → Trace → List Event → Type 0
AtMomentsSince P start events = (before later : List Event) → before ++ later ≡ events → P (and_then start before)

-- what holds of each event: of the history before it, what it comes to, and the whole history
abbrev pub AtEventsSince : (Trace → Happening → Trace → Type 0) → Trace → List Event → Type 0
AtEventsSince P start events =
    (before later : List Event) (e : Event) → before ++ e ∷ later ≡ events
    → P (and_then start before) (happening_of e) (and_then start events)

-- both of all events of a system
abbrev pub AtEachMoment : (Trace → Type 0) → Origin → List Event → Type 0
AtEachMoment P o events = AtMomentsSince P (From o) events

abbrev pub AtEachEvent : (Trace → Happening → Trace → Type 0) → Origin → List Event → Type 0
AtEachEvent P o events = AtEventsSince P (From o) events

-- Steps and replies with their identifiers read as names, and what they come to.
use Rattle.std.specs.Prelude.{[], ◌∷◌, Option, Some, None}
use Rattle.xa_base.specs.Call.{call_if, map_call}
use Rattle.xa_base.specs.Answer.{map_answer}
use Rattle.xa_base.specs.declared.call.Call as Called
use Rattle.xa_base.specs.declared.reply.Reply as Replied
use Rattle.xa_base.specs.declared.reply.Reply.TheVariants as Replies
use Rattle.xa_base.specs.declared.step.Step as Asked
use Rattle.xa_base.specs.declared.step.Step.TheVariants as Steps
use Rattle.xa_base.specs.declared.call.Call.TheVariants as Calls
use Rattle.xa_model.specs.Trace.{Branch, Name, Name.Ours, Name.Foreign, Call, Outcome, Fault.InDecide, Fault.InDone, Fault.InHear, Fault.InResolve, Fault.InRestart, Happening, line}
pub use Rattle.xa_base.specs.declared.refusal.Refusal.{Refusal}
pub use Rattle.xa_base.specs.declared.step.Side.{Side}

-- a step, and a reply to one, with their identifiers read
abbrev pub Step : Type 0
Step = Asked.Step Name

abbrev pub Reply : Type 0
Reply = Replied.Reply Name

-- a step with what f gives for its identifiers, and a reply
module _ {X Y : Type 0} where
  abbrev pub map_step : (X → Y) → Asked.Step X → Asked.Step Y
  map_step f (Steps.Begin thread) = Steps.Begin thread
  map_step f (Steps.Issue thread rm call) = Steps.Issue thread rm (map_call f call)
  map_step f (Steps.Take thread rm) = Steps.Take thread rm
  map_step f (Steps.Hear thread rm) = Steps.Hear thread rm
  map_step f (Steps.Vote rm x vote) = Steps.Vote rm (f x) vote
  map_step f (Steps.Busy rm x times) = Steps.Busy rm (f x) times
  map_step f (Steps.Heuristic rm x how) = Steps.Heuristic rm (f x) how
  map_step f (Steps.Decide gtrid outcome) = Steps.Decide gtrid outcome
  map_step f (Steps.Claim gtrid) = Steps.Claim gtrid
  map_step f (Steps.Settle gtrid) = Steps.Settle gtrid
  map_step f (Steps.Abandon gtrid) = Steps.Abandon gtrid
  map_step f (Steps.Recover rm count start end) = Steps.Recover rm count start end
  map_step f (Steps.Resolve rm) = Steps.Resolve rm
  map_step f (Steps.ResolveOpen rm) = Steps.ResolveOpen rm
  map_step f (Steps.Done gtrid) = Steps.Done gtrid
  map_step f (Steps.Crash part) = Steps.Crash part
  map_step f (Steps.Restart side) = Steps.Restart side

  abbrev pub map_reply : (X → Y) → Replied.Reply X → Replied.Reply Y
  map_reply f (Replies.Begun gtrid) = Replies.Begun gtrid
  map_reply f Replies.Issued = Replies.Issued
  map_reply f (Replies.Took call answer) = Replies.Took (map_call f call) (map_answer f answer)
  map_reply f (Replies.Heard call answer) = Replies.Heard (map_call f call) (map_answer f answer)
  map_reply f Replies.Nothing = Replies.Nothing
  map_reply f Replies.Noted = Replies.Noted
  map_reply f Replies.Claimed = Replies.Claimed
  map_reply f Replies.Decided = Replies.Decided
  map_reply f (Replies.Resolved calls) = Replies.Resolved calls
  map_reply f Replies.Crashed = Replies.Crashed
  map_reply f Replies.RmRestarted = Replies.RmRestarted
  map_reply f (Replies.Restarted incarnation decisions heuristics) = Replies.Restarted incarnation decisions heuristics
  map_reply f (Replies.Refused refusal) = Replies.Refused refusal

-- ** what happens

-- a step in which the log failed. A settlement counts as a decision to commit
abbrev pub log_failed : Step → Happening
log_failed (Steps.Hear t r) = Happening.Failed (InHear (line t r))
log_failed (Steps.Decide g o) = Happening.Failed (InDecide (g ∷ []))
log_failed (Steps.Settle g) = Happening.Failed (InDecide (g ∷ []))
log_failed (Steps.Resolve r) = Happening.Failed InResolve
log_failed (Steps.ResolveOpen r) = Happening.Failed InResolve
log_failed (Steps.Done g) = Happening.Failed (InDone (g ∷ []))
log_failed (Steps.Restart Side.Manager) = Happening.Failed InRestart
log_failed _ = Happening.Nothing

-- nothing happens in any other refused step
abbrev pub refused : Refusal → Step → Happening
refused Refusal.LogFault s = log_failed s
refused _ s = Happening.Nothing

-- the branch of this manager that a name is
abbrev pub ours_of : Name → Option Branch
ours_of (Ours b) = Some b
ours_of (Foreign x) = None

-- the call that waits where this was asked for; none is ever accepted on another manager's identifier
abbrev pub accepted : Called.Call Name → Option Call
accepted call = call_if ours_of call

-- what happens with such a call, if it is one
abbrev pub if_ours : (Call → Happening) → Option Call → Happening
if_ours happening (Some c) = happening c
if_ours happening None = Happening.Nothing

-- a call that waits
abbrev pub call_issued : Step → Happening
call_issued (Steps.Issue t r c) = if_ours (Happening.Issued (line t r)) (accepted c)
call_issued (Steps.Recover r n start end) = Happening.Issued (line 0 r) (Calls.Recover n start end)
call_issued _ = Happening.Nothing

-- what is noted
abbrev pub noted : Step → Happening
noted (Steps.Vote r (Ours b) v) = Happening.Voted b v
noted (Steps.Busy r (Ours b) n) = Happening.PutOff b n
noted (Steps.Heuristic r (Ours b) how) = Happening.CompletedAlone b how
noted (Steps.Done g) = Happening.Done g
noted _ = Happening.Nothing

-- what is decided
abbrev pub decided : Step → Happening
decided (Steps.Decide g o) = Happening.Decided g o
decided (Steps.Settle g) = Happening.Decided g Outcome.Commit
decided (Steps.Abandon g) = Happening.Decided g Outcome.Rollback
decided _ = Happening.Nothing

-- what recovery does
abbrev pub resolved : Step → Happening
resolved (Steps.Resolve r) = Happening.Resolved r
resolved (Steps.ResolveOpen r) = Happening.ResolvedOpen r
resolved _ = Happening.Nothing

-- what a step comes to, by its reply
abbrev pub comes_to : Reply → Step → Happening
comes_to (Replies.Refused n) s = refused n s
comes_to Replies.Issued s = call_issued s
comes_to Replies.Noted s = noted s
comes_to Replies.Decided s = decided s
comes_to (Replies.Resolved n) s = resolved s
comes_to (Replies.Begun g) (Steps.Begin t) = Happening.Begun g
comes_to (Replies.Took c a) (Steps.Take t r) = if_ours (λ d. Happening.Took (line t r) d a) (accepted c)
comes_to (Replies.Heard c a) (Steps.Hear t r) = if_ours (λ d. Happening.Heard (line t r) d a) (accepted c)
comes_to Replies.Claimed (Steps.Claim g) = Happening.Claimed g
comes_to Replies.Crashed (Steps.Crash p) = Happening.Crashed p
comes_to Replies.RmRestarted (Steps.Restart (Side.Rm r)) = Happening.RmRestarted r
comes_to (Replies.Restarted i d h) (Steps.Restart Side.Manager) = Happening.Restarted i d h
comes_to _ _ = Happening.Nothing

-- what happens by a step that got this reply
abbrev pub happened : Step → Reply → Happening
happened step reply = comes_to reply step

-- The replies that a history allows.
use Rattle.std.specs.Prelude.{ℕ, ◌+◌, ◌<◌, ◌≤◌, ◌≡◌, List, [], ◌∷◌, length, true, Some, None}
use Rattle.xa_base.specs.declared.code.Code.TheVariants as Codes
use Rattle.xa_base.specs.declared.step.Outcome.TheVariants as Outcome
use Rattle.xa_base.specs.declared.step.Side.TheVariants as Side
use Rattle.xa_model.specs.Facts.{incarnation, sequence, was_told, says_yes_in, log, heuristic_rows, next_call, next_answer, page, resolving_calls}
use Rattle.xa_model.specs.Protocol.{RightAnswer}
use Rattle.xa_base.specs.Call.{map_call}
use Rattle.xa_model.specs.Replies.Rules.{must_refuse}
use Rattle.xa_base.specs.declared.reply.Reply.TheVariants as Replies
use Rattle.xa_base.specs.declared.step.Step.TheVariants as Steps
use Rattle.xa_model.specs.Replies.Steps.{Step, Reply, Refusal, happened}
use Rattle.xa_base.specs.declared.answer.Answer.TheVariants.{Ret}
use Rattle.xa_model.specs.Trace.{Gtrid, Line, Name.Ours, Call, Answer, How, Fault.InRestart, Happening.ResolvedOpen, Happening.Failed, Happening.Restarted, Trace, Trace.From, Trace.Then, line}

-- ** the value of a step

-- the oldest call with its answer; nothing exactly where no call waits
pub data Takes (tr : Trace) (l : Line) : Reply → Type 0 where
  Takes_one : (c : Call) (a : Answer) → next_call tr l ≡ Some c → RightAnswer tr l c a → Takes tr l (Replies.Took (map_call Ours c) a)
  Takes_none : next_call tr l ≡ None → Takes tr l Replies.Nothing

-- the oldest answer; nothing exactly where none waits
pub data Hears (tr : Trace) (l : Line) : Reply → Type 0 where
  Hears_one : (c : Call) (a : Answer) → next_answer tr l ≡ Some (c, a) → Hears tr l (Replies.Heard (map_call Ours c) a)
  Hears_none : next_answer tr l ≡ None → Hears tr l Replies.Nothing

-- restarts of the manager in which the log failed, since it last came up
abbrev pub failed_restarts : Trace → ℕ
failed_restarts (From o) = 0
failed_restarts (Then tr (Restarted i d h)) = 0
failed_restarts (Then tr (Failed InRestart)) = failed_restarts tr + 1
failed_restarts (Then tr _) = failed_restarts tr

-- a greater incarnation, by one where no restart failed in between, and the numbers of rows that are then in the log
pub data Restarts (tr : Trace) : Reply → Type 0 where
  Restarts_as :
      (i d h : ℕ) → incarnation tr < i → i ≤ incarnation tr + 1 + failed_restarts tr
      → d ≡ length (log (Then tr (Restarted i d h)))
      → h ≡ length (heuristic_rows (Then tr (Restarted i d h)))
      → Restarts tr (Replies.Restarted i d h)

-- the transaction that is begun next
abbrev pub next_gtrid : Trace → Gtrid
next_gtrid tr = record { incarnation = incarnation tr; sequence = sequence tr + 1 }

-- the reply of a step that nothing refuses
abbrev pub IsValue : Trace → Step → Reply → Type 0
IsValue tr (Steps.Begin t) reply = reply ≡ Replies.Begun (next_gtrid tr)
IsValue tr (Steps.Issue t r a) reply = reply ≡ Replies.Issued
IsValue tr (Steps.Take t r) reply = Takes tr (line t r) reply
IsValue tr (Steps.Hear t r) reply = Hears tr (line t r) reply
IsValue tr (Steps.Vote r x v) reply = reply ≡ Replies.Noted
IsValue tr (Steps.Busy r x n) reply = reply ≡ Replies.Noted
IsValue tr (Steps.Heuristic r x how) reply = reply ≡ Replies.Noted
IsValue tr (Steps.Decide g o) reply = reply ≡ Replies.Decided
IsValue tr (Steps.Claim g) reply = reply ≡ Replies.Claimed
IsValue tr (Steps.Settle g) reply = reply ≡ Replies.Decided
IsValue tr (Steps.Abandon g) reply = reply ≡ Replies.Decided
IsValue tr (Steps.Recover r n start end) reply = reply ≡ Replies.Issued
IsValue tr (Steps.Resolve r) reply = reply ≡ Replies.Resolved (length (resolving_calls tr (page tr r)))
IsValue tr (Steps.ResolveOpen r) reply = reply ≡ Replies.Resolved (length (resolving_calls (Then tr (ResolvedOpen r)) (page tr r)))
IsValue tr (Steps.Done g) reply = reply ≡ Replies.Noted
IsValue tr (Steps.Crash p) reply = reply ≡ Replies.Crashed
IsValue tr (Steps.Restart (Side.Rm r)) reply = reply ≡ Replies.RmRestarted
IsValue tr (Steps.Restart Side.Manager) reply = Restarts tr reply

-- the steps whose value the history determines: all but a restart of the manager, of which the log tells the numbers
abbrev pub IsDetermined : Step → Type 0
IsDetermined (Steps.Restart Side.Manager) = ⊥
IsDetermined _ = Unit

-- ** failures

-- steps in which the log may fail: they change it or read it
abbrev pub NeedsLog : Trace → Step → Type 0
NeedsLog tr (Steps.Decide g Outcome.Commit) = was_told tr (says_yes_in g) ≡ true
NeedsLog tr (Steps.Settle g) = was_told tr (says_yes_in g) ≡ true
NeedsLog tr (Steps.Hear t r) = (c : Call) × (how : How) × (next_answer tr (line t r) ≡ Some (c, Ret (Codes.Heuristic how)))
NeedsLog tr (Steps.Done g) = Unit
NeedsLog tr (Steps.Resolve r) = Unit
NeedsLog tr (Steps.ResolveOpen r) = Unit
NeedsLog tr (Steps.Restart Side.Manager) = Unit
NeedsLog tr _ = ⊥

-- steps that may want memory: not a crash, nor a restart of a resource manager, nor a Hear that finds nothing
abbrev pub MayLackMemory : Trace → Step → Type 0
MayLackMemory tr (Steps.Crash p) = ⊥
MayLackMemory tr (Steps.Restart (Side.Rm r)) = ⊥
MayLackMemory tr (Steps.Hear t r) = next_answer tr (line t r) ≡ None → ⊥
MayLackMemory tr _ = Unit

-- ** replies that are allowed

-- the reply is one that the history allows: a refusal that it forces; else the step's value, or that memory or the log failed
pub data Allowed (tr : Trace) (s : Step) (reply : Reply) : Type 0 where
  By_rule : (n : Refusal) → must_refuse tr s ≡ Some n → reply ≡ Replies.Refused n → Allowed tr s reply
  As_value : must_refuse tr s ≡ None → IsValue tr s reply → Allowed tr s reply
  For_memory : must_refuse tr s ≡ None → MayLackMemory tr s → reply ≡ Replies.Refused Refusal.Memory → Allowed tr s reply
  For_log : must_refuse tr s ≡ None → NeedsLog tr s → reply ≡ Replies.Refused Refusal.LogFault → Allowed tr s reply

-- the history with these steps and replies behind it
abbrev pub with_steps : Trace → List (Step × Reply) → Trace
with_steps tr [] = tr
with_steps tr (x ∷ xs) = with_steps (Then tr (happened x.0 x.1)) xs

-- each reply is one that the history before it allows
abbrev pub AllAllowed : Trace → List (Step × Reply) → Type 0
AllAllowed tr [] = Unit
AllAllowed tr (x ∷ xs) = Allowed tr x.0 x.1 × AllAllowed (Then tr (happened x.0 x.1)) xs

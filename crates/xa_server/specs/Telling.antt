-- What the requests of a driver and their replies tell was seen.
use Rattle.std.specs.Prelude.{◌≡◌, ◌⊎◌, ℕ, ◌+◌, zero, suc, Bool, true, false, MatchBool, List, [], ◌∷◌, map, Option, Some, None}
use Rattle.xa_base.specs.Answer.{map_answer}
use Rattle.xa_base.specs.Xid.{Xid}
use Rattle.xa_base.specs.declared.call.Call.{Call}
use Rattle.xa_base.specs.declared.refusal.Refusal.TheVariants.{LogFault}
use Rattle.xa_base.specs.declared.step.Outcome.TheVariants as Outcomes
use Rattle.xa_server.specs.Calls.{is_to}
use Rattle.xa_server.specs.Lines.{asked_in}
use Rattle.xa_line.specs.Histories.{known}
use Rattle.xa_model.specs.Replies.History.{name_of}
use Rattle.xa_model.specs.Trace.{Call as KnownCall, Happening.Begun, Happening.Claimed, Happening.Decided, Happening.Done, Happening.Issued, Happening.Resolved, Happening.ResolvedOpen, line}
use Rattle.xa_requests.specs.declared.request.CallName.{CallName}
use Rattle.xa_requests.specs.declared.request.Request.{Request}
use Rattle.xa_requests.specs.declared.request.Request.TheVariants as requests
use Rattle.xa_requests.specs.declared.response.Response.{Response}
use Rattle.xa_requests.specs.declared.response.Response.TheVariants as responses
use Rattle.xa_session.specs.Tracking.{did_all}
use Rattle.xa_monitor.specs.Seen.{Seen, Seen.Answered, Seen.Did, Seen.Lost}

-- ** one request

-- the call has this name: its kind and its branch are named
pub record HasName (name : CallName) (c : KnownCall) : Type 0 where
  pub call : Call Xid
  pub named : is_to call name ≡ true
  pub is_known : known call ≡ Some c

abbrev pub is_refusal : Response → Bool
is_refusal (responses.Refused n) = true
is_refusal reply = false

-- the lines of so many threads, from one on, were lost in turn; of a request that was refused, some of the first
abbrev pub TellsLost : (rm thread : ℕ) → (left : ℕ) → Response → (seen more : Seen) → Type 0
TellsLost rm thread zero reply seen more = more ≡ seen
TellsLost rm thread (suc left) reply seen more =
    ((is_refusal reply ≡ true) × (more ≡ seen)) ⊎ ((c : Option KnownCall) × TellsLost rm (thread + 1) left reply (Lost seen (line thread rm) c) more)

-- What is seen then, where there are so many threads. Whatever else is asked or replied tells nothing, unless the log failed.
abbrev pub Tells : (threads : ℕ) → Request → Response → (seen more : Seen) → Type 0
Tells n (requests.Begin t) (responses.Begun g) seen more = more ≡ Did seen (Begun g)
Tells n (requests.Issue t r call) (responses.Issued told) seen more = (c : KnownCall) × (known call ≡ Some c) × (more ≡ Did seen (Issued (line t r) c))
Tells n (requests.Answer t r name answer) (responses.Heard kind number) seen more =
    (c : KnownCall) × HasName name c × (more ≡ Answered seen (line t r) c (map_answer name_of answer))
Tells n (requests.Decide gs outcome) responses.Decided seen more = more ≡ did_all seen (map (λ g. Decided g outcome) gs)
Tells n (requests.Claim g) responses.Claimed seen more = more ≡ Did seen (Claimed g)
Tells n (requests.Settle g) responses.Decided seen more = more ≡ Did seen (Decided g Outcomes.Commit)
Tells n (requests.Abandon g) responses.Decided seen more = more ≡ Did seen (Decided g Outcomes.Rollback)
Tells n (requests.Done gs) responses.Noted seen more = more ≡ did_all seen (map (λ g. Done g) gs)
Tells n (requests.Resolve r) (responses.Resolved count) seen more = more ≡ Did seen (Resolved r)
Tells n (requests.ResolveOpen r) (responses.Resolved count) seen more = more ≡ Did seen (ResolvedOpen r)
Tells n (requests.CrashLine t r) responses.Crashed seen more = (c : Option KnownCall) × (more ≡ Lost seen (line t r) c)
Tells n (requests.CrashRm r) reply seen more = TellsLost r 0 n reply seen more
Tells n request reply seen more = more ≡ seen

-- ** lines of one request each, and their replies

-- a line that asks for nothing tells nothing
abbrev pub TellsBy : (threads : ℕ) → Option Request → Response → (seen more : Seen) → Type 0
TellsBy n None reply seen more = more ≡ seen
TellsBy n (Some request) reply seen more = Tells n request reply seen more

-- the log failed in what was asked for
abbrev pub is_log_fault : Response → Bool
is_log_fault (responses.Refused LogFault) = true
is_log_fault reply = false

-- what lines and their replies tell in turn, up to where the log failed
abbrev pub HaveTold : (threads : ℕ) → List (List ℕ) → List Response → (seen more : Seen) → Type 0
HaveTold n [] [] seen more = more ≡ seen
HaveTold n (line ∷ lines) (reply ∷ replies) seen more =
    MatchBool (is_log_fault reply) (more ≡ seen) ((next : Seen) × TellsBy n (asked_in line) reply seen next × HaveTold n lines replies next more)
HaveTold n lines replies seen more = ⊥

-- What is left where the log failed.
use Rattle.std.specs.Prelude.{◌≡◌, ℕ, Bool, true, false, List, [], ◌∷◌, Option, Some, None}
use Rattle.std.specs.List.{AllByRecursion}
use Rattle.xa_base.specs.declared.answer.Answer.TheVariants.{Ret}
use Rattle.xa_base.specs.declared.refusal.Refusal.TheVariants.{LogFault}
use Rattle.xa_server.specs.Lines.{asked_in}
use Rattle.xa_server.specs.Performing.{Performs}
use Rattle.xa_server.specs.Serving.{HaveReplies}
use Rattle.xa_server.specs.declared.server.Server.{Server}
use Rattle.xa_log.specs.Content.{Content}
use Rattle.xa_log.specs.Contract.{Honestly, Moment}
use Rattle.xa_model.specs.Trace.{Call, Code}
use Rattle.xa_requests.specs.declared.request.CallName.{CallName}
use Rattle.xa_requests.specs.declared.request.Request.{Request}
use Rattle.xa_requests.specs.declared.request.Request.TheVariants as requests
use Rattle.xa_requests.specs.declared.response.Response.{Response}
use Rattle.xa_requests.specs.declared.response.Response.TheVariants as responses
use Rattle.xa_session.specs.Logging.{HasAllOrNone, HoldsItsBook, LeavesContent}
use Rattle.xa_session.specs.Session.{known_waiting}
use Rattle.xa_tm.specs.Book.{Book, Doubt, Doubt.Adds, Doubt.Drops, Doubt.NoDoubt, rows_for}
use Rattle.xa_tm.specs.Calls.{book_in, log_in}
use Rattle.xa_tm.specs.InTurn.{rows_added}

-- the rows that a request asks the log to write, or to take away
abbrev pub rows_asked : Request → Book → Doubt
rows_asked (requests.Decide gs outcome) k = rows_added outcome k gs
rows_asked (requests.Settle g) k = Adds (rows_for k (g ∷ []))
rows_asked (requests.Done gs) k = Drops gs
rows_asked request k = NoDoubt

abbrev pub MayChangeRows : Request → Type 0
MayChangeRows (requests.Decide gs outcome) = Unit
MayChangeRows (requests.Settle g) = Unit
MayChangeRows (requests.Done gs) = Unit
MayChangeRows request = ⊥

-- A request is refused since the log failed. The log, if it isn't shut, then has the rows that it had, or these with all of the change that
-- the request asked for; and so has each content that a crash of its store may leave. What had its book's rows before has been honest.
abbrev pub FaultsLeaveAllOrNone : {L : Type 0} → (L → Moment) → Type 0
FaultsLeaveAllOrNone {L} moment =
    (near : Bool) (request : Request) (old new : Server L) (c : Content) → MayChangeRows request
    → Performs moment request old (responses.Refused LogFault) new
    → Honestly (moment (log_in old.session.manager)) (moment (log_in new.session.manager))
    ((book_in old.session.manager).up ≡ true → HoldsItsBook moment near old.session.manager → LeavesContent moment new.session.manager c
    → HasAllOrNone (rows_asked request (book_in old.session.manager)) (book_in old.session.manager).row c)

-- ** behind it

-- a request that decides transactions, or takes their rows away, names one
abbrev pub IsOfSome : Request → Type 0
IsOfSome (requests.Decide [] outcome) = ⊥
IsOfSome (requests.Done []) = ⊥
IsOfSome request = Unit

abbrev pub IsOfSomeIn : Option Request → Type 0
IsOfSomeIn None = Unit
IsOfSomeIn (Some request) = IsOfSome request

-- so does each of these lines that asks for that
abbrev pub AllAreOfSome : List (List ℕ) → Type 0
AllAreOfSome lines = AllByRecursion (λ line. IsOfSomeIn (asked_in line)) lines

-- The log failed in a request, as it does in a `decide`, a `settle` or a `done`, or in the answer to the call that waits first on a line.
pub data LogFails {L : Type 0} (moment : L → Moment) (old down : Server L) : Type 0 where
  InRequest : (request : Request) → MayChangeRows request → Performs moment request old (responses.Refused LogFault) down → LogFails moment old down
  InAnswer :
      (thread rm : ℕ) (name : CallName) (code : Code) (call : Call) → known_waiting old.session.lines thread rm ≡ Some call
      → Performs moment (requests.Answer thread rm name (Ret code)) old (responses.Refused LogFault) down → LogFails moment old down

-- The manager is down from then on: whatever lines ask for, the server stays just as it is, and so does its log.
abbrev pub NothingBehindFaults : {L : Type 0} → (L → Moment) → Type 0
NothingBehindFaults {L} moment =
    (old down new : Server L) (lines : List (List ℕ)) (replies : List Response) → LogFails moment old down → AllAreOfSome lines
    → HaveReplies moment lines replies down new → ((book_in down.session.manager).up ≡ false) × (new ≡ down)

-- Transactions that are over are forgotten.
use Rattle.std.specs.Prelude.{◌≡◌, ◌⊎◌, Bool, true, false, if◌then◌else◌, List, [], ◌∷◌, Option, Some, None, option_and_then, option_map}
use Rattle.xa_base.specs.Branch.{branch_of_xid}
use Rattle.xa_base.specs.declared.branch.Gtrid.{Gtrid}
use Rattle.xa_server.specs.declared.server.Server.{Server}
use Rattle.xa_requests.specs.declared.request.CallName.{CallName}
use Rattle.xa_requests.specs.declared.request.Request.{Request}
use Rattle.xa_requests.specs.declared.request.Request.TheVariants as requests
use Rattle.xa_requests.specs.declared.response.Response.{Response}
use Rattle.xa_requests.specs.declared.response.Response.TheVariants as responses
use Rattle.xa_session.specs.Steps.{Forgets}
use Rattle.xa_tm.specs.Calls.{book_in}
use Rattle.xa_tm.specs.Release.{IsOver}

-- ** which

-- the transaction of the branch that a call is on
abbrev pub transaction_of : CallName → Option Gtrid
transaction_of name = option_map (λ b. b.gtrid) (option_and_then branch_of_xid name.xid)

-- the reply tells that an answer was heard, that decisions were taken, or that rows left the log
abbrev pub says_taken : Response → Bool
says_taken (responses.Heard kind number) = true
says_taken responses.Decided = true
says_taken responses.Noted = true
says_taken reply = false

-- these, if the reply tells so
abbrev pub all_if_taken : Response → List Gtrid → List Gtrid
all_if_taken reply gs = if says_taken reply then gs else []

-- this one, if there is one and the reply tells so
abbrev pub if_taken : Response → Option Gtrid → List Gtrid
if_taken reply None = []
if_taken reply (Some g) = all_if_taken reply (g ∷ [])

-- the transactions whose last step a request may have been: that of the branch whose call was answered, those that are decided or done
abbrev pub ended_by : Request → Response → List Gtrid
ended_by (requests.Answer thread rm name answer) reply = if_taken reply (transaction_of name)
ended_by (requests.Decide gs outcome) reply = all_if_taken reply gs
ended_by (requests.Settle g) reply = if_taken reply (Some g)
ended_by (requests.Abandon g) reply = if_taken reply (Some g)
ended_by (requests.Done gs) reply = all_if_taken reply gs
ended_by request reply = []

-- ** what a release does

module _ {L : Type 0} where
  -- a transaction is forgotten if it is over, and else stays
  abbrev pub Releases : Gtrid → (old new : Server L) → Type 0
  Releases g old new =
      (Forgets g old.session new.session × (new ≡ record old { session = new.session })) ⊎ ((IsOver (book_in old.session.manager) g → ⊥) × (new ≡ old))

  -- these in turn
  abbrev pub ReleasesAll : List Gtrid → (old new : Server L) → Type 0
  ReleasesAll [] old new = new ≡ old
  ReleasesAll (g ∷ gs) old new = (next : Server L) × Releases g old next × ReleasesAll gs next new

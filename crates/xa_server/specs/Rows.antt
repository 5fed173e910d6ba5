-- What rows of earlier incarnations owe.
use Rattle.std.specs.Prelude.{ℕ, ◌≡◌, ◌&&◌, Bool, true, not, nat_eq, List, [], ◌∷◌, Option, Some, IsSomeAnd}
use Rattle.std.specs.FinMap.{get}
use Rattle.std.specs.List.{list_any}
use Rattle.xa_base.specs.Branch.{gtrid_eq}
use Rattle.xa_base.specs.declared.branch.Branch.{Branch}
use Rattle.xa_base.specs.declared.branch.Gtrid.{Gtrid}
use Rattle.xa_base.specs.declared.step.Outcome.TheVariants as Outcomes
use Rattle.xa_log.specs.Content.{Content, participants_of}
use Rattle.xa_log.specs.Contract.{Honestly, Moment}
use Rattle.xa_log.specs.KeySet.{contains}
use Rattle.xa_requests.specs.declared.request.Request.{Request}
use Rattle.xa_requests.specs.declared.request.Request.TheVariants as requests
use Rattle.xa_requests.specs.declared.response.Response.{Response}
use Rattle.xa_requests.specs.declared.response.Response.TheVariants as responses
use Rattle.xa_session.specs.Logging.{HoldsItsBook}
use Rattle.xa_session.specs.declared.session.Session.{Session}
use Rattle.xa_tm.specs.Book.{Book, Waiting, voted_yes}
use Rattle.xa_tm.specs.Calls.{book_in, log_in}
use Rattle.xa_tm.specs.Owed.{owes}

-- it is one of these transactions
abbrev pub is_gtrid_among : List Gtrid → Gtrid → Bool
is_gtrid_among gs g = list_any (λ h. gtrid_eq h g) gs

-- what was owed still is, except for the branches of these transactions, and nothing more is
abbrev pub OwesAllBut : List Gtrid → (old new : Book) → Type 0
OwesAllBut gs old new = (rm : ℕ) (b : Branch) → owes new rm b ≡ (not (is_gtrid_among gs b.gtrid) && owes old rm b)

-- the transactions whose rows a request takes away, if it is done
abbrev pub finished_by : Request → Response → List Gtrid
finished_by (requests.Done gs) responses.Noted = gs
finished_by request reply = []

-- all is owed that the rows of the log wait for
abbrev pub OwesRowsOf : Book → Content → Type 0
OwesRowsOf k c = (rm : ℕ) (b : Branch) → owes k rm b ≡ (nat_eq b.rm rm && contains (participants_of c b.gtrid) b)

-- the transactions that a request commits, if it is done
abbrev pub committed_by : Request → List Gtrid
committed_by (requests.Decide gs Outcomes.Commit) = gs
committed_by (requests.Decide gs Outcomes.Rollback) = []
committed_by (requests.Settle g) = g ∷ []
committed_by _ = []

-- the log has the transaction's row, which waits for these branches
abbrev pub HasRow : Option Content → Gtrid → Waiting → Type 0
HasRow log g waiting = IsSomeAnd log (λ c. get c.decisions g ≡ Some waiting)

-- Where these are told as decided, the log has the row of each that some branch voted XA_OK for, which waits for those that did. The log
-- was in order, had what the book said, and has been honest since.
abbrev pub LogsRows : {L : Type 0} → (moment : L → Moment) → List Gtrid → (old : Session L) → Response → (new : Session L) → Type 0
LogsRows moment gs old reply new =
    (near : Bool) (g : Gtrid) → is_gtrid_among gs g ≡ true → reply ≡ responses.Decided
    → Honestly (moment (log_in old.manager)) (moment (log_in new.manager))
    (HoldsItsBook moment near old.manager → ((book_in old.manager).transaction g).has_yes ≡ true
    → HasRow (moment (log_in new.manager)).content g (voted_yes (book_in old.manager) g))

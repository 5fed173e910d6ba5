-- That the row of a transaction leaves the log once no branch needs it, as a statement of how a conductor goes on by a line. It is not proved.
use Rattle.std.specs.Prelude.{◌≡◌, ◌≤◌, ◌<◌, ◌+◌, ◌⊎◌, ◌++◌, ℕ, Bool, true, false, List, length, get_or}
use Rattle.std.specs.List.{list_any}
use Rattle.xa_base.specs.declared.branch.Gtrid.{Gtrid}
use Rattle.xa_log.specs.Contract.{Moment}
use Rattle.xa_requests.specs.declared.request.Request.{Request}
use Rattle.xa_requests.specs.declared.request.Request.TheVariants as requests
use Rattle.xa_server.specs.declared.server.Server.{Server}
use Rattle.xa_conduct.specs.Acting.{Acts}
use Rattle.xa_conduct.specs.Decided.{is_same}
use Rattle.xa_conduct.specs.Over.{has_spare_row}
use Rattle.xa_conduct.specs.declared.conductor.Conductor.{Conductor}
use Rattle.xa_conduct.specs.declared.transaction.Transaction.{Transaction}

-- the request takes the row of this transaction from the log, perhaps with others
abbrev pub is_done_of : Gtrid → Request → Bool
is_done_of g (requests.Done gtrids) = list_any (is_same g) gtrids
is_done_of g _ = false

module _ {L : Type 0} (moment : L → Moment) where
  -- its row waits to leave the log, or one of these requests, which were done, took it
  abbrev pub IsLeaving : (done : List Request) → Conductor L → Gtrid → Type 0
  IsLeaving done c g = (list_any (is_same g) c.notes.over.items ≡ true) ⊎ (list_any (is_done_of g) done ≡ true)

  -- `between` are the transactions before the next ones begin. As long as there is room for as many rows as there are threads, the row of each
  -- transaction that came to have a spare one waits to leave or has left, and so does each that waited; and fewer than 64 wait behind the line.
  pub record RowsLeave (old new : Conductor L) (between : List Transaction) (done : List Request) (first : Server L) : Type 0 where
    pub more : List Request
    pub acts : Acts moment (done ++ more) first new.server
    pub few : length new.notes.over.items < 64
    pub waiting : (g : Gtrid) → list_any (is_same g) old.notes.over.items ≡ true → IsLeaving more new g
    pub spare :
        length old.notes.over.items + length between ≤ 1024
        → (i : ℕ) (d : Transaction) → i < length between → has_spare_row (get_or old.notes.transactions.items i d) ≡ false
        → has_spare_row (get_or between i d) ≡ true → IsLeaving more new (get_or between i d).gtrid

-- The calls that end the branches of a page.
use Rattle.std.specs.Prelude.{List, [], ◌∷◌, Bool, false, not, ◌&&◌, ◌||◌, if◌then◌else◌, Option, Some, None, is_some}
use Rattle.xa_base.specs.Call.{map_call}
use Rattle.xa_model.specs.Replies.Steps.{accepted}
use Rattle.xa_model.specs.Replies.History.{name_of}
use Rattle.xa_base.specs.Branch.{branch_of_xid, gtrid_eq}
use Rattle.xa_model.specs.Trace.{Call}
use Rattle.xa_base.specs.Xid.{Xid}
use Rattle.xa_base.specs.declared.branch.Branch.{Branch}
use Rattle.xa_base.specs.declared.branch.Gtrid.{Gtrid}
use Rattle.xa_base.specs.declared.call.Call as RustCall
use Rattle.xa_base.specs.declared.call.Call.TheVariants as Calls
use Rattle.xa_base.specs.declared.step.Outcome.TheVariants.{Rollback}
use Rattle.xa_tm.specs.declared.notes.Transaction.{Transaction}
use Rattle.xa_tm.specs.Book.{Book}
use Rattle.xa_tm.specs.Refusing.{has_row_in, live_in}

-- a call, as it waits
abbrev pub waiting_call : RustCall.Call Xid → Option Call
waiting_call c = accepted (map_call name_of c)

-- the call that ends a branch
abbrev pub ending_call : Book → Xid → Branch → RustCall.Call Xid
ending_call k x b =
    if is_some (k.recorded b) then Calls.Forget x
    else (if has_row_in k b.gtrid then Calls.Commit x false else Calls.Rollback x)

abbrev pub call_by : Book → Xid → Option Branch → Option (RustCall.Call Xid)
call_by k x (Some b) = if live_in k b.gtrid then None else Some (ending_call k x b)
call_by k x None = None

-- the call that ends what a page lists, if one does
abbrev pub call_for : Book → Xid → Option (RustCall.Call Xid)
call_for k x = call_by k x (branch_of_xid x)

-- the same, with what is open and listed decided before: only what is claimed stays live
abbrev pub open_call_by : Book → Xid → Option Branch → Option (RustCall.Call Xid)
open_call_by k x (Some b) = if live_in k b.gtrid && (k.transaction b.gtrid).claimed then None else Some (ending_call k x b)
open_call_by k x None = None

abbrev pub open_call_for : Book → Xid → Option (RustCall.Call Xid)
open_call_for k x = open_call_by k x (branch_of_xid x)

-- ** what is open and listed is rolled back

-- it is begun and neither claimed, committed nor handed over
abbrev pub open_in : Book → Gtrid → Bool
open_in k g = (k.transaction g).begun && not ((k.transaction g).claimed || ((k.transaction g).committed || (k.transaction g).handed_over))

abbrev pub open_gtrid_by : Book → Option Branch → Option Gtrid
open_gtrid_by k (Some b) = if open_in k b.gtrid then Some b.gtrid else None
open_gtrid_by k None = None

-- the transaction of what a page lists, if it is open
abbrev pub open_gtrid_for : Book → Xid → Option Gtrid
open_gtrid_for k x = open_gtrid_by k (branch_of_xid x)

-- it is one of these
abbrev pub is_one_of : List Gtrid → Gtrid → Bool
is_one_of [] q = false
is_one_of (g ∷ gs) q = gtrid_eq g q || is_one_of gs q

-- what is noted of a transaction that is rolled back
abbrev pub rolled_back : Transaction → Transaction
rolled_back t = record t { outcome = Some Rollback; is_claimed = false }

-- what is noted of a transaction once these are rolled back
abbrev pub rolled_back_by : List Gtrid → Gtrid → Transaction → Transaction
rolled_back_by [] q t = t
rolled_back_by (g ∷ gs) q t = rolled_back_by gs q (if gtrid_eq g q then rolled_back t else t)

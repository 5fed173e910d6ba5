-- What a happening adds to each number of a book: one at most.
use Rattle.std.proofs.Common.{◌≡◌, ℕ, ◌+◌, ◌-◌, ◌≤◌, Bool, true, false, is_some, refl, arith}
use Rattle.std.specs.Prelude.{if◌then◌else◌}
use Rattle.xa_base.specs.declared.call.Call.TheVariants as Calls
use Rattle.xa_base.specs.declared.branch.Gtrid.{Gtrid}
use Rattle.xa_base.specs.declared.step.Outcome.TheVariants as Outcome
use Rattle.xa_base.specs.declared.step.Part.TheVariants as Part
use Rattle.xa_model.specs.Facts.{record_of}
use Rattle.xa_model.specs.Trace.{Fault.InRestart, Happening, Happening.Begun, Happening.Issued, Happening.Heard, Happening.Decided, Happening.Done, Happening.Crashed, Happening.Failed, Happening.Restarted}
use Rattle.xa_tm.specs.Book.{begins_after, Book, Doubt, Doubt.Records, doubt_of, failed_restarts_after, incarnation_after, records_after, records_with, rows_after, sequence_after, transaction_after}
use Rattle.xa_session.specs.Headroom.{MayHappen}

-- ** numbers

if_more : (t : Bool) (a : ℕ) → (if t then a + 1 else a) ≤ a + 1
if_more true a = omega arith
if_more false a = omega arith

if_less : (t : Bool) (a : ℕ) → (if t then a - 1 else a) ≤ a + 1
if_less true a = omega arith
if_less false a = omega arith

same : (a : ℕ) → a ≤ a + 1
same a = omega arith

less : (a : ℕ) → a - 1 ≤ a + 1
less a = omega arith

pub begins_kept : (k : Book) (e : Happening) → MayHappen k e → k.sequence ≤ k.begins → sequence_after e k.sequence ≤ begins_after e k.begins
begins_kept k (Begun g) m h = omega (arith, h)
begins_kept k (Restarted i d r) m h = absurd m
begins_kept k _ m h = h

pub begins_more : (k : Book) (e : Happening) → begins_after e k.begins ≤ k.begins + 1
begins_more k (Begun g) = omega arith
begins_more k _ = same k.begins

pub restarts_kept : (k : Book) (e : Happening) → MayHappen k e → failed_restarts_after e k.failed_restarts ≤ k.failed_restarts
restarts_kept k (Restarted i d r) m = absurd m
restarts_kept k (Failed InRestart) m = absurd m
restarts_kept k _ m = omega arith

pub incarnation_kept : (k : Book) (e : Happening) → MayHappen k e → incarnation_after e k.incarnation ≡ k.incarnation
incarnation_kept k (Restarted i d r) m = absurd m
incarnation_kept k _ m = refl

pub rows_more : (k : Book) (e : Happening) → MayHappen k e → rows_after k e k.rows ≤ k.rows + 1
rows_more k (Decided h Outcome.Commit) m = if_more (k.transaction h).has_yes k.rows
rows_more k (Done h) m = less k.rows
rows_more k (Restarted i d r) m = absurd m
rows_more k _ m = same k.rows

if_one : (t : Bool) (a : ℕ) → (if t then a else a + 1) ≤ a + 1
if_one true a = omega arith
if_one false a = omega arith

records_by : (k : Book) (d : Doubt) → records_with k d k.records ≤ k.records + 1
records_by k (Records c how) = if_one (is_some (k.recorded c)) k.records
records_by k _ = same k.records

pub records_more : (k : Book) (e : Happening) → MayHappen k e → records_after k e k.records ≤ k.records + 1
records_more k (Heard l c a) m = records_by k (doubt_of (record_of c a))
records_more k (Restarted i d r) m = absurd m
records_more k _ m = same k.records

-- ** transactions

pub branches_more : (k : Book) (e : Happening) (g : Gtrid) → (transaction_after k e g (k.transaction g)).branches ≤ (k.transaction g).branches + 1
branches_more k (Issued l (Calls.Start b false)) g = if_more _ (k.transaction g).branches
branches_more k (Issued l (Calls.Start b true)) g = if_more _ (k.transaction g).branches
branches_more k (Issued l (Calls.Commit b true)) g = same (k.transaction g).branches
branches_more k (Decided h Outcome.Commit) g = same (k.transaction g).branches
branches_more k (Decided h Outcome.Rollback) g = same (k.transaction g).branches
branches_more k (Crashed Part.Manager) g = same (k.transaction g).branches
branches_more k _ g = same (k.transaction g).branches

pub unvoted_more : (k : Book) (e : Happening) (g : Gtrid) → (transaction_after k e g (k.transaction g)).unvoted ≤ (k.transaction g).unvoted + 1
unvoted_more k (Issued l (Calls.Start b false)) g = if_more _ (k.transaction g).unvoted
unvoted_more k (Issued l (Calls.Start b true)) g = if_more _ (k.transaction g).unvoted
unvoted_more k (Issued l (Calls.Commit b true)) g = same (k.transaction g).unvoted
unvoted_more k (Heard l c a) g = if_less _ (k.transaction g).unvoted
unvoted_more k (Decided h Outcome.Commit) g = same (k.transaction g).unvoted
unvoted_more k (Decided h Outcome.Rollback) g = same (k.transaction g).unvoted
unvoted_more k (Crashed Part.Manager) g = same (k.transaction g).unvoted
unvoted_more k _ g = same (k.transaction g).unvoted

pub unsettled_more : (k : Book) (e : Happening) (g : Gtrid) → (transaction_after k e g (k.transaction g)).unsettled ≤ (k.transaction g).unsettled + 1
unsettled_more k (Issued l (Calls.Start b false)) g = if_more _ (k.transaction g).unsettled
unsettled_more k (Issued l (Calls.Start b true)) g = if_more _ (k.transaction g).unsettled
unsettled_more k (Issued l (Calls.Commit b true)) g = same (k.transaction g).unsettled
unsettled_more k (Heard l c a) g = if_less _ (k.transaction g).unsettled
unsettled_more k (Decided h Outcome.Commit) g = same (k.transaction g).unsettled
unsettled_more k (Decided h Outcome.Rollback) g = same (k.transaction g).unsettled
unsettled_more k (Crashed Part.Manager) g = same (k.transaction g).unsettled
unsettled_more k _ g = same (k.transaction g).unsettled

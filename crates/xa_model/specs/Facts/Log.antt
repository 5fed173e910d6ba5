-- The rows of the log, and the change of them that a failure may have left in doubt. Only decisions to commit are kept: no row
-- means rollback (presumed rollback: XA, section 2.3, Transaction Completion and Recovery). Heuristic rows are of section 2.3.3.
use Rattle.std.specs.Prelude.{List, [], ◌∷◌, ◌++◌, length, map, Bool, false, not, ◌&&◌, ◌||◌, ◌==◌, if◌then◌else◌, Option, Some, None, filter, nat_lt}
use Rattle.xa_base.specs.Branch.{gtrid_eq, branch_eq}
use Rattle.xa_base.specs.declared.code.Code.TheVariants as Codes
use Rattle.xa_base.specs.declared.step.Outcome.TheVariants as Outcome
use Rattle.xa_model.specs.Facts.LineAnswers.{next_answer}
use Rattle.xa_model.specs.Facts.Decisions.{branches, decided_so, handed_over, claimed}
use Rattle.xa_model.specs.Facts.HeardAnswers.{was_told, says_yes, says_yes_in}
use Rattle.xa_model.specs.Facts.Manager.{up, incarnation}
use Rattle.xa_base.specs.declared.call.Call.TheVariants as Calls
use Rattle.xa_base.specs.declared.answer.Answer.TheVariants.{Ret}
use Rattle.xa_model.specs.Trace.{Gtrid, Branch, Call, How, Answer, Fault, Fault.InDecide, Fault.InDone, Fault.InHear, Happening.Heard, Happening.Decided, Happening.Done, Happening.Failed, Happening.Restarted, Row, Recorded, Trace, Trace.From, Trace.Then}

-- ** lists of rows

-- whether a transaction has a row among these
abbrev pub lists_row : List Row → Gtrid → Bool
lists_row [] g = false
lists_row (x ∷ xs) g = gtrid_eq x.gtrid g || lists_row xs g

-- the rows but for that of a transaction
abbrev pub without : Gtrid → List Row → List Row
without g [] = []
without g (x ∷ xs) = if gtrid_eq x.gtrid g then without g xs else x ∷ without g xs

-- the rows but for those of some transactions
abbrev pub without_each : List Gtrid → List Row → List Row
without_each [] rows = rows
without_each (g ∷ gs) rows = without_each gs (without g rows)

-- the branches whose xa_commit the row of a transaction waits for
abbrev pub participants_in : List Row → Gtrid → List Branch
participants_in [] g = []
participants_in (x ∷ xs) g = if gtrid_eq x.gtrid g then x.participants else participants_in xs g

-- whether a transaction is among these
abbrev pub has_gtrid : List Gtrid → Gtrid → Bool
has_gtrid [] g = false
has_gtrid (h ∷ gs) g = gtrid_eq h g || has_gtrid gs g

-- whether a branch is among these
abbrev pub has_branch : List Branch → Branch → Bool
has_branch [] b = false
has_branch (c ∷ cs) b = branch_eq c b || has_branch cs b

-- how a branch is recorded, if it is
abbrev pub how_in : List Recorded → Branch → Option How
how_in [] b = None
how_in (x ∷ xs) b = if branch_eq x.branch b then Some x.how else how_in xs b

-- whether a branch is recorded among these
abbrev pub has_record : List Recorded → Branch → Bool
has_record [] b = false
has_record (x ∷ xs) b = branch_eq x.branch b || has_record xs b

-- with one record more: the first of a branch stays
abbrev pub with_record : Recorded → List Recorded → List Recorded
with_record x xs = if has_record xs x.branch then xs else x ∷ xs

-- ** changes

-- a change of the log: all of it is made, or nothing of it
pub data Change : Type 0 where
  AddRows : List Row → Change
  DropRows : List Gtrid → Change
  AddRecord : Recorded → Change
  NoChange : Change

-- the rows after a change
abbrev pub rows_changed : Change → List Row → List Row
rows_changed (AddRows xs) rows = xs ++ rows
rows_changed (DropRows gs) rows = without_each gs rows
rows_changed _ rows = rows

-- the heuristic rows after a change
abbrev pub heuristics_changed : Change → List Recorded → List Recorded
heuristics_changed (AddRecord x) xs = with_record x xs
heuristics_changed _ xs = xs

-- a branch is one of the transaction, and a yes of it was heard
abbrev pub takes_part : Trace → Gtrid → Branch → Bool
takes_part tr g b = gtrid_eq b.gtrid g && was_told tr (says_yes b)

-- the row that a decision to commit makes
abbrev pub row_for : Trace → Gtrid → Row
row_for tr g = record { gtrid = g; participants = filter (takes_part tr g) (branches tr) }

-- the record that a heuristic code makes, of a branch that was told to commit or to roll back
abbrev pub record_of : Call → Answer → Change
record_of (Calls.Commit b one_phase) (Ret (Codes.Heuristic how)) = AddRecord (record { branch = b; how = how })
record_of (Calls.Rollback b) (Ret (Codes.Heuristic how)) = AddRecord (record { branch = b; how = how })
record_of _ _ = NoChange

-- the record that hearing the next answer makes
abbrev pub record_of_next : Option (Call × Answer) → Change
record_of_next (Some p) = record_of p.0 p.1
record_of_next None = NoChange

-- ** what is in doubt

-- the change that was to be made where the log failed
abbrev pub fault_change : Trace → Fault → Change
fault_change tr (InDecide gs) = AddRows (map (row_for tr) gs)
fault_change tr (InDone gs) = DropRows gs
fault_change tr (InHear l) = record_of_next (next_answer tr l)
fault_change tr _ = NoChange

-- the change that may or may not have been made, until the next restart. A failure of a manager that is down leaves it
abbrev pub doubt : Trace → Change
doubt (From o) = NoChange
doubt (Then tr (Failed f)) = if up tr then fault_change tr f else doubt tr
doubt (Then tr (Restarted i d h)) = NoChange
doubt (Then tr _) = doubt tr

-- ** the rows

-- the rows: those of the start and of each commit with a yes, less those that left. A restart that finds another number of rows
-- tells that the change in doubt was made
abbrev pub log : Trace → List Row
log (From o) = o.rows
log (Then tr (Decided g Outcome.Commit)) = if was_told tr (says_yes_in g) then row_for tr g ∷ log tr else log tr
log (Then tr (Done g)) = without g (log tr)
log (Then tr (Restarted i d h)) = if d == length (log tr) then log tr else rows_changed (doubt tr) (log tr)
log (Then tr _) = log tr

-- whether a transaction has a row
abbrev pub has_row : Trace → Gtrid → Bool
has_row tr g = lists_row (log tr) g

-- the branches whose xa_commit its row waits for
abbrev pub participants : Trace → Gtrid → List Branch
participants tr g = participants_in (log tr) g

-- whether a change adds a row of the transaction
abbrev pub adds_row : Change → Gtrid → Bool
adds_row (AddRows xs) g = lists_row xs g
adds_row _ g = false

-- a row was there at some time, even if it has left since
abbrev pub had_row : Trace → Gtrid → Bool
had_row (From o) g = lists_row o.rows g
had_row (Then tr (Decided h Outcome.Commit)) g = (gtrid_eq h g && was_told tr (says_yes_in h)) || had_row tr g
had_row (Then tr (Restarted i d h)) g = (not (d == length (log tr)) && adds_row (doubt tr) g) || had_row tr g
had_row (Then tr _) g = had_row tr g

-- the same, or a row is in doubt. That one counts only until the next restart: if it wasn't written, a later rollback is right
abbrev pub ever : Trace → Gtrid → Bool
ever tr g = adds_row (doubt tr) g || had_row tr g

-- ** the heuristic rows

-- the branches that are recorded as heuristic: those of the start and of each heuristic code heard. None leaves
abbrev pub heuristic_rows : Trace → List Recorded
heuristic_rows (From o) = o.heuristic_rows
heuristic_rows (Then tr (Heard l c a)) = heuristics_changed (record_of c a) (heuristic_rows tr)
heuristic_rows (Then tr (Restarted i d h)) =
    if h == length (heuristic_rows tr) then heuristic_rows tr else heuristics_changed (doubt tr) (heuristic_rows tr)
heuristic_rows (Then tr _) = heuristic_rows tr

-- whether the branch is recorded as heuristic
abbrev pub recorded : Trace → Branch → Bool
recorded tr b = has_record (heuristic_rows tr) b

-- as what the branch is recorded
abbrev pub recorded_as : Trace → Branch → Option How
recorded_as tr b = how_in (heuristic_rows tr) b

-- ** rows of older incarnations

-- of an incarnation before this one
abbrev pub is_older : Trace → Gtrid → Bool
is_older tr g = nat_lt g.incarnation (incarnation tr)

-- a transaction whose row has outlived its incarnation
abbrev pub outlived : Trace → Gtrid → Bool
outlived tr g = is_older tr g && has_row tr g

-- decided to commit, in this incarnation or, as its row shows, in an older one
abbrev pub counts_as_committed : Trace → Gtrid → Bool
counts_as_committed tr g = decided_so Outcome.Commit tr g || outlived tr g

-- ** transactions that are over for those who work

-- decided or handed over
abbrev pub is_taken_up : Trace → Gtrid → Bool
is_taken_up tr g = counts_as_committed tr g || (decided_so Outcome.Rollback tr g || handed_over tr g)

-- decided, handed over or claimed
abbrev pub is_shut : Trace → Gtrid → Bool
is_shut tr g = is_taken_up tr g || claimed tr g

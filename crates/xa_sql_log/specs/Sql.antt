-- A log in the tables of a database.
use Rattle.std.specs.Prelude.{◌≡◌, ◌⊎◌, false, if◌then◌else◌, Option, Some, None, Ok, IsTrue, ℕ, List, get_or}
use Rattle.sqlite.specs.Order.{Row}
use Rattle.sqlite.specs.Tree.{Trees}
use Rattle.sqlite.specs.Store.{Ghosts}
use Rattle.sqlite.specs.Held.{Held, state}
use Rattle.sqlite.specs.State.{State, HasCleanDisk, IsUnchanged, IsRolledBack, Shown, Executes, CommitsBy}
use Rattle.std.specs.FinMap.{get}
use Rattle.xa_log.specs.KeySet.{KeySet}
use Rattle.xa_base.specs.declared.branch.Gtrid.{Gtrid}
use Rattle.xa_base.specs.declared.branch.Branch.{Branch}
use Rattle.xa_base.specs.Branch.{branch_cmp}
use Rattle.xa_log.specs.Content.{Content, logged_each, with_commits, with_decision}
use Rattle.xa_log.specs.declared.decision.Decision.{Decision}
use Rattle.xa_log.specs.declared.decision_log.Logged.{Logged}
use Rattle.xa_log.specs.declared.decision_log.Logged.TheVariants.{New, Already}
use Rattle.xa_sql_log.specs.Tables.{log_schema}
use Rattle.xa_log.specs.Contract.{MayMake, Moment, LeavesAlso, LeavesNoMore}
use Rattle.sqlite.specs.Effect.{Database}
use Rattle.xa_sql_log.specs.Rows.{IsLog, IsOldLog, content_of}
use Rattle.sqlite_catalog.specs.Listing.{IsSound}
use Rattle.sqlite.specs.Effect.{IsDatabase}

-- it has the tables of the log, and no transaction is open
pub record HasLogTables (s : State) : Type 0 where
  pub autocommit : s.in_transaction ≡ false
  pub now : IsLog s.now
  pub committed : s.committed ≡ s.now

-- unless a fault has shut it, it is ready
abbrev pub IsOrderly : State → Type 0
IsOrderly s = IsTrue s.is_open → HasLogTables s

-- nothing, once a fault has shut it
abbrev pub content_in : State → Option Content
content_in s = if s.is_open then Some (content_of s.now.trees) else None

-- what an open after a crash may find
abbrev pub MayLeave : State → Content → Type 0
MayLeave s c = (db : Trees) × s.may_leave db × (c ≡ content_of db)

-- the trees of a log of version 2: they list its tables, and each row is one of the log's
pub record AreLogTrees (trees : Trees) : Type 0 where
  pub sound : IsSound log_schema trees
  pub log : IsLog (record { schema = log_schema; trees = trees })

-- unless a fault has shut it, it is ready; and what an open after a crash may find is a log, also once a fault has shut it
pub record IsLasting (s : State) : Type 0 where
  pub order : IsOrderly s
  pub leaves : HasCleanDisk s → (db : Trees) → s.may_leave db → AreLogTrees db

-- what a log says of a connection, with its count of faults
abbrev pub sql_moment : State → ℕ → Moment
sql_moment s faults = record {
  content = content_in s;
  is_in_order = IsLasting s;
  is_honest = HasCleanDisk s;
  may_leave = MayLeave s;
  fault_count = faults;
}

-- a crash leaves what it might have left before, or a log
abbrev pub LeavesOrLog : State → State → Type 0
LeavesOrLog old new = (db : Trees) → new.may_leave db → old.may_leave db ⊎ AreLogTrees db

-- what a call that writes nothing leaves
pub record OnlyReads (old new : State) : Type 0 where
  pub honest : HasCleanDisk new → HasCleanDisk old
  pub order : IsOrderly old → IsOrderly new
  pub kept : IsOrderly old → (content_in new ≡ None) ⊎ (content_in new ≡ content_in old)
  pub crash : IsOrderly old → HasCleanDisk new → LeavesNoMore (MayLeave old) (MayLeave new)
  pub logs : IsOrderly old → HasCleanDisk new → LeavesOrLog old new

-- what a call that may make one change leaves
pub record MayChange (change : Content → Content) (old new : State) : Type 0 where
  pub honest : HasCleanDisk new → HasCleanDisk old
  pub order : IsOrderly old → IsOrderly new
  pub kept : IsOrderly old → MayMake change (content_in old) (content_in new)
  pub crash : IsOrderly old → HasCleanDisk new → LeavesAlso change (content_in old) (MayLeave old) (MayLeave new)
  pub logs : IsOrderly old → HasCleanDisk new → LeavesOrLog old new

-- the statement did nothing, or the transaction is undone
abbrev pub Rests : State → State → Type 0
Rests old new = IsUnchanged old new ⊎ IsRolledBack old new

-- the log is open, and the rows answer the query
abbrev pub AnswersQuery : {S : Type 0} → Ghosts S → List ℕ → Row → Held S → Held S → List Row → Type 0
AnswersQuery {S} g sql params old new rows =
    (mid : Held S) × IsUnchanged (state g old) (state g mid) × IsUnchanged (state g mid) (state g new) × Shown sql params (state g mid) (state g new) rows

-- the log is open, and the statement ran on it and changed so many rows
abbrev pub RunsChanging : {S : Type 0} → Ghosts S → List ℕ → Row → Held S → Held S → (rows : ℕ) → Type 0
RunsChanging {S} g sql params old new rows =
    (mid : Held S) × IsUnchanged (state g old) (state g mid) × Executes sql params (state g mid) (state g new) (Ok rows)

-- the same, however many
abbrev pub RunsFrom : {S : Type 0} → Ghosts S → List ℕ → Row → Held S → Held S → Type 0
RunsFrom g sql params old new = (rows : ℕ) × RunsChanging g sql params old new rows

-- a crash leaves what it might have left before, or what the statement commits
abbrev pub LeavesBy : {S : Type 0} → Ghosts S → List ℕ → Row → Held S → Held S → Type 0
LeavesBy {S} g sql params old new =
    (db : Trees) → (state g new).may_leave db
    → (state g old).may_leave db ⊎ ((mid : Held S) × IsUnchanged (state g old) (state g mid) × CommitsBy sql params (state g mid) db)

-- In a transaction that began over a log with this content, the decision has been written with these participants.
pub record HasWritten (g : Gtrid) (participants : KeySet branch_cmp) (before : Content) (s : State) : Type 0 where
  pub is_open : IsTrue s.is_open
  pub inside : IsTrue s.in_transaction
  pub now : IsLog s.now
  pub sound : IsDatabase s.now
  pub content : content_of s.now.trees ≡ with_decision g participants before

-- a transaction over a log that has no such decision
pub record MayInsert (g : Gtrid) (s : State) : Type 0 where
  pub inside : IsTrue s.in_transaction
  pub now : IsLog s.now
  pub none : get (content_of s.now.trees).decisions g ≡ None

-- each decision that is answered Already has a row at its turn
abbrev pub AreThere : List Decision → List Logged → Content → Type 0
AreThere ds answers c = (n : ℕ) → get_or answers n New ≡ Already → get_or (logged_each ds c) n Already ≡ Already

-- a transaction that began over a log, if that is open, which has the rows that are answered as there
pub record MayInsertAll (ds : List Decision) (answers : List Logged) (s : State) : Type 0 where
  pub inside : IsTrue s.in_transaction
  pub now : IsTrue s.is_open → IsLog s.now
  pub there : IsTrue s.is_open → AreThere ds answers (content_of s.now.trees)

-- a transaction that began over a log, if that is open
pub record IsInsideLog (s : State) : Type 0 where
  pub inside : IsTrue s.in_transaction
  pub now : IsTrue s.is_open → IsLog s.now

-- in a transaction over a log this change has been made, since it was as at the start
pub record HasMade (change : Content → Content) (start s : State) : Type 0 where
  pub was_open : IsTrue start.is_open
  pub is_open : IsTrue s.is_open
  pub inside : IsTrue s.in_transaction
  pub now : IsLog s.now
  pub sound : IsDatabase s.now
  pub content : content_of s.now.trees ≡ change (content_of start.now.trees)

-- in a transaction that began over a log, these decisions have been written, and the answers say whose rows are new
pub record HasWrittenAll (ds : List Decision) (answers : List Logged) (begun s : State) : Type 0 where
  pub made : HasMade (with_commits ds) begun s
  pub told : answers ≡ logged_each ds (content_of begun.now.trees)

-- it has the rows that are answered as there, if it is open
abbrev pub AreThereIn : List Decision → List Logged → State → Type 0
AreThereIn ds answers s = (c : Content) → content_in s ≡ Some c → AreThere ds answers c

-- it doesn't hold the branch as heuristic, if it is open
abbrev pub LacksHeuristic : Branch → State → Type 0
LacksHeuristic b s = (c : Content) → content_in s ≡ Some c → get c.heuristics b ≡ None

-- an open log of version 1, with no transaction
pub record IsOldReady (s : State) : Type 0 where
  pub is_open : IsTrue s.is_open
  pub now : IsOldLog s.now
  pub committed : s.committed ≡ s.now

-- a log of version 2 with this content
abbrev pub IsNewLog : Content → Database → Type 0
IsNewLog c db = IsLog db × (content_of db.trees ≡ c)

abbrev pub AreNewTrees : Content → Trees → Type 0
AreNewTrees c trees = IsNewLog c (record { schema = log_schema; trees = trees })

-- the log is open and ready, and has this content
pub record IsReadyWith (c : Content) (s : State) : Type 0 where
  pub is_open : IsTrue s.is_open
  pub ready : HasLogTables s
  pub content : content_of s.now.trees ≡ c

-- the log is shut, or is as it was
pub record IsShutOrAsBefore (old new : State) : Type 0 where
  pub was_open : IsTrue new.is_open → IsTrue old.is_open
  pub undone : IsTrue new.is_open → (new.now ≡ old.committed) × (new.committed ≡ old.committed)
  pub autocommit : new.in_transaction ≡ false

-- What a log makes of a database that it takes.
use Rattle.std.specs.Prelude.{◌≡◌, ◌⊎◌, false, Result, Ok, Err, OnOk, OnErr, IfErr}
use Rattle.sqlite.specs.Tree.{Trees}
use Rattle.sqlite.specs.State.{State, HasCleanDisk}
use Rattle.sqlite.specs.Held.{Held}
use Rattle.sqlite.specs.declared.FileStore.{FileStore}
use Rattle.sqlite.specs.Recovery.{Image}
use Rattle.sqlite.specs.Files.{file_state, over_files, IsBlankAs, IsOpened}
use Rattle.sqlite_disk.specs.declared.Disk.{Ghosts}
use Rattle.xa_log.specs.Content.{Content, nothing}
use Rattle.xa_log.specs.Contract.{IsStoreFault}
use Rattle.xa_log.specs.declared.log_fault.LogFault.{LogFault}
use Rattle.xa_log.specs.declared.log_fault.LogFault.TheVariants.{Version}
use Rattle.xa_sql_log.specs.FoundFiles.{FindsLogIn}
use Rattle.xa_sql_log.specs.Tables.{log_schema}
use Rattle.xa_sql_log.specs.Rows.{content_of, old_content_of}
use Rattle.xa_sql_log.specs.Sql.{IsOrderly, IsOldReady, IsReadyWith, IsShutOrAsBefore, AreNewTrees}
use Rattle.xa_sql_log.specs.OpenedDatabase.{IsBlank, HasTables, IsTakeable, IsKnownDatabase, IsFoundLog, NamesKnown}

-- what one transaction makes: an empty log of a blank database, and a log of version 2 with the same rows of version 1
abbrev pub AreMade : State → Trees → Type 0
AreMade old db =
    (IsBlank old × AreNewTrees nothing db)
    ⊎ (IsOldReady old × AreNewTrees (old_content_of old.now.trees) db)

-- a crash leaves what it might have left before, or such rows
abbrev pub LeavesOr : (Trees → Type 0) → State → State → Type 0
LeavesOr These old new = (db : Trees) → new.may_leave db → old.may_leave db ⊎ These db

abbrev pub LeavesTables : State → State → Type 0
LeavesTables old new = LeavesOr (AreMade old) old new

-- a crash leaves nothing new
abbrev pub LeavesSame : State → State → Type 0
LeavesSame old new = (db : Trees) → new.may_leave db → old.may_leave db

-- One transaction makes a log with this content. It is said where the disk is clean at the end.
pub record MakesLog (c : Content) (old new : State) (result : Result (Unit {0}) LogFault) : Type 0 where
  -- the log is ready
  pub ok : OnOk result (IsReadyWith c new)
  -- after a failure the database is as it was, or shut
  pub err : OnErr result (IsShutOrAsBefore old new)
  -- it fails by the store or for want of memory alone
  pub cause : IfErr result IsStoreFault
  -- a crash leaves what it might have left before, or all of the log
  pub crash : LeavesOr (AreNewTrees c) old new

-- nothing has changed, but that a fault may have shut the database
pub record IsUntouched (old new : State) : Type 0 where
  pub undone : IsShutOrAsBefore old new
  pub crash : LeavesSame old new

-- What a log makes of a database that it takes, and what it leaves of it where that fails. It is said where the disk is clean at the end.
pub record Prepares (old new : State) (result : Result (Unit {0}) LogFault) : Type 0 where
  -- the disk was clean at the start
  pub honest : HasCleanDisk old
  -- a blank database has become an empty log
  pub made : IsBlank old → OnOk result (IsReadyWith nothing new)
  -- a log of version 1 has become one of version 2 with the same rows
  pub migrated : IsOldReady old → OnOk result (IsReadyWith (old_content_of old.now.trees) new)
  -- a log of version 2 has kept its content
  pub kept : old.now.schema ≡ log_schema → IsOrderly old → OnOk result (IsReadyWith (content_of old.now.trees) new)
  -- what a crash may have left of a log has kept its content too
  pub found : IsFoundLog old → OnOk result (IsReadyWith (content_of old.now.trees) new)
  -- what a crash may have left of a log is refused by the store or for want of memory alone
  pub found_err : IsFoundLog old → IfErr result IsStoreFault
  -- a database without tables, or one that a log has left, is refused by the store or for want of memory alone
  pub known : IsKnownDatabase old → IfErr result IsStoreFault
  -- tables of which a log is made have a row of tm_meta that names version 1 or 2 and a natural incarnation
  pub version : HasTables old → OnOk result (NamesKnown old)
  -- tables without such a row stay as they are
  pub unknown : old.in_transaction ≡ false → HasTables old → ¬ NamesKnown old → IsUntouched old new
  -- tables that are refused for their version stay as they are
  pub refused : result ≡ Err Version → HasTables old → IsUntouched old new
  -- after a failure the database is as it was, or shut
  pub undone : old.in_transaction ≡ false → IsTakeable old → OnErr result (IsShutOrAsBefore old new)
  -- a crash leaves what it might have left before, or all that one transaction made
  pub crash : IsTakeable old → LeavesTables old new
  -- over tables of version 2 a crash leaves nothing new
  pub crash_kept : old.now.schema ≡ log_schema → LeavesSame old new

-- The log is over the database that was found in files with these contents.
pub record IsOverFiles {D : Type 0} {g : Ghosts D} (image : Image) (log : Held (FileStore D g)) : Type 0 where
  pub was : Held (FileStore D g)
  pub opened : IsOpened was
  pub found : FindsLogIn image (file_state was)
  -- where there was no file, its pages end in no sums of their own, so that any program of SQLite may write them
  pub plain : IsBlankAs false image → (over_files.view was.store).has_sums ≡ false
  pub taken : Prepares (file_state was) (file_state log) (Ok tt)

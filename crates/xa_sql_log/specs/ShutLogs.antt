-- A log that is shut. The row of tm_meta names a version that no open takes, and all other rows are as they were.
use Rattle.std.specs.Prelude.{◌≡◌, ℕ, false, [], ◌∷◌, IsTrue}
use Rattle.sqlite.specs.Closing.{HoldsAlone}
use Rattle.sqlite.specs.Effect.{Database}
use Rattle.sqlite.specs.Recovery.{Image}
use Rattle.sqlite.specs.State.{State}
use Rattle.sqlite.specs.Tree.{Trees}
use Rattle.sqlite_catalog.specs.Listing.{IsSound}
use Rattle.xa_log.specs.Content.{Content}
use Rattle.xa_sql_log.specs.OpenedDatabase.{version_row}
use Rattle.xa_sql_log.specs.Rows.{IsLog, content_of}
use Rattle.xa_sql_log.specs.Tables.{log_schema}

abbrev pub shut_version : ℕ
shut_version = 102

-- the rows are those of this log, and the version is that of a log that is shut
pub record IsShutOf (log db : Database) : Type 0 where
  pub schema : db.schema ≡ log_schema
  pub meta : db.trees 0 ≡ version_row 102 (content_of log.trees).incarnation ∷ []
  pub decisions : db.trees 1 ≡ log.trees 1
  pub heuristics : db.trees 3 ≡ log.trees 3
  pub participants : db.trees 5 ≡ log.trees 5

-- the trees are those of a log with this content, which is shut
pub record AreShutTrees (c : Content) (trees : Trees) : Type 0 where
  pub log : Database
  pub is : IsLog log
  pub content : content_of log.trees ≡ c
  pub sound : IsSound log_schema trees
  pub rows : IsShutOf log (record { schema = log_schema; trees = trees })

-- the database is open, and is such a log
pub record IsShutWith (c : Content) (s : State) : Type 0 where
  pub is_open : IsTrue s.is_open
  pub autocommit : s.in_transaction ≡ false
  pub schema : s.now.schema ≡ log_schema
  pub now : AreShutTrees c s.now.trees
  pub committed : s.committed ≡ s.now

-- the two files hold such a log, and so does the database file by itself
pub record HoldsShut (c : Content) (image : Image) : Type 0 where
  pub db : Trees
  pub held : HoldsAlone image db
  pub shut : AreShutTrees c db

-- What an open of a log finds in its files.
use Rattle.std.specs.Prelude.{◌≡◌, ◌⊎◌}
use Rattle.sqlite.specs.Files.{AreFoundIn, HoldsDatabase, IsEmpty}
use Rattle.sqlite.specs.Recovery.{Image}
use Rattle.sqlite.specs.State.{State}
use Rattle.sqlite.specs.Tree.{Trees}
use Rattle.sqlite_pool.specs.Opening.{IsBlankFile}
use Rattle.xa_sql_log.specs.declared.sql_log.pages.TheConstants.{PAGE_BYTES}

-- no log has been made yet: the database file is empty, or is what a first open left of a first page of a log's size
abbrev pub IsUnmade : Image → Type 0
IsUnmade = IsBlankFile PAGE_BYTES

-- the trees are those of a database that the files hold, or there was none and they are empty
abbrev pub IsFoundIn : Image → Trees → Type 0
IsFoundIn image db = AreFoundIn image db ⊎ (IsUnmade image × IsEmpty db)

-- what is open is the database that the files hold, or one that may be found in them
pub record FindsLogIn (image : Image) (s : State) : Type 0 where
  pub holds : (db : Trees) → HoldsDatabase image db → s.committed.trees ≡ db
  pub reads : IsFoundIn image s.committed.trees

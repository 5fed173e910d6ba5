-- What a log finds in a database that it takes, and in the files of one.
use Rattle.std.specs.Prelude.{◌≡◌, ◌⊎◌, ℕ, pos, List, [], ◌∷◌, length, Ok, IsTrue}
use Rattle.std.specs.List.{Contains}
use Rattle.sqlite.specs.declared.types.Value.{Value}
use Rattle.sqlite.specs.declared.types.Value.TheVariants.{Null, Int}
use Rattle.sqlite.specs.Order.{Row, column}
use Rattle.sqlite.specs.Tree.{Trees}
use Rattle.sqlite.specs.State.{State, Executes, IsLive, Opens}
use Rattle.sqlite.specs.Recovery.{Image}
use Rattle.sqlite_catalog.specs.Listing.{IsSound}
use Rattle.sqlite.specs.Files.{HoldsDatabase, IsEmpty}
use Rattle.xa_sql_log.specs.FoundFiles.{IsFoundIn}
use Rattle.xa_sql_log.specs.Tables.{no_tables, old_schema, log_schema}
use Rattle.xa_sql_log.specs.Rows.{IsOldLog}
use Rattle.xa_sql_log.specs.Sql.{AreLogTrees, IsOldReady, HasLogTables}

-- the statement ran in the transaction, which goes on
abbrev pub RunsInside : List ℕ → State → State → Type 0
RunsInside sql old new = IsTrue new.in_transaction × (count : ℕ) × Executes sql [] old new (Ok count)

-- no table, no index and no view
abbrev pub IsBlank : State → Type 0
IsBlank s = s.now.schema ≡ no_tables

-- just the tables of a log, of version 1 or 2, whatever their rows are
abbrev pub HasTables : State → Type 0
HasTables s = (s.now.schema ≡ old_schema) ⊎ (s.now.schema ≡ log_schema)

-- a database that a log can take: a blank one, or that of a log
abbrev pub IsTakeable : State → Type 0
IsTakeable s = IsBlank s ⊎ (IsOldReady s ⊎ (s.now.schema ≡ log_schema))

abbrev pub version_row : ℕ → ℕ → Row
version_row version incarnation = Int (pos 1) ∷ Null ∷ Int (pos version) ∷ Int (pos incarnation) ∷ []

-- the tables are those of a log, and tm_meta has this one row
abbrev pub HasMetaRow : ℕ → ℕ → State → Type 0
HasMetaRow version incarnation s =
    HasTables s × (s.now.trees 0 ≡ version_row version incarnation ∷ [])

-- a whole number that isn't negative
abbrev pub IsNatural : Value → Type 0
IsNatural value = (n : ℕ) × (value ≡ Int (pos n))

-- a row of tm_meta has this version, and an incarnation that is a natural number
abbrev pub NamesVersion : ℕ → State → Type 0
NamesVersion version s =
    (row : Row)
    × Contains (s.now.trees 0) row
    × (column row 2 ≡ Int (pos version))
    × IsNatural (column row 3)

abbrev pub NamesKnown : State → Type 0
NamesKnown s = NamesVersion 1 s ⊎ NamesVersion 2 s

-- a blank database, or a log of version 1 or 2
abbrev pub IsKnownDatabase : State → Type 0
IsKnownDatabase s = IsBlank s ⊎ (IsOldReady s ⊎ HasLogTables s)

-- it was just opened, and holds what a crash may have left of a log
pub record IsFoundLog (s : State) : Type 0 where
  pub opens : Opens s
  pub live : IsLive s
  pub log : AreLogTrees s.now.trees

-- ** the files that a log is in order over

-- the trees of a log of version 1: they list its tables, and each row is one of the log's
pub record AreOldLogTrees (trees : Trees) : Type 0 where
  pub sound : IsSound old_schema trees
  pub log : IsOldLog (record { schema = old_schema; trees = trees })

-- a log of version 1 or 2
abbrev pub AreAnyLogTrees : Trees → Type 0
AreAnyLogTrees db = AreOldLogTrees db ⊎ AreLogTrees db

-- the database file is empty, or the files hold a log
abbrev pub HoldsLog : Image → Type 0
HoldsLog image = (length image.db ≡ 0) ⊎ ((db : Trees) × ∥ HoldsDatabase image db ∥₁ × AreAnyLogTrees db)

-- whatever an open may find in the files is no table at all, or a log
abbrev pub HoldsLogOrNothing : Image → Type 0
HoldsLogOrNothing image = (db : Trees) → IsFoundIn image db → IsEmpty db ⊎ AreAnyLogTrees db

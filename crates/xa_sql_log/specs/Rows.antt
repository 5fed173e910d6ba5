-- What the rows of the tables stand for.
use Rattle.std.specs.Prelude.{◌≡◌, ℕ, ℤ, pos, true, false, List, [], ◌∷◌, map, filter, slice_index_or, unwrap_or}
use Rattle.std.specs.List.{AllByRecursion, list_any}
use Rattle.std.specs.FinMap.{from_entries}
use Rattle.xa_log.specs.KeySet.{KeySet, from_list, empty}
use Rattle.sqlite.specs.declared.types.Value.{Value}
use Rattle.sqlite.specs.declared.types.Value.TheVariants.{Null, Int}
use Rattle.sqlite.specs.Order.{Row, column}
use Rattle.sqlite.specs.Tree.{Trees, IsAscending, IsTable}
use Rattle.sqlite.specs.Effect.{Database}
use Rattle.sqlite_trees.specs.Objects.{number_in}
use Rattle.xa_base.specs.declared.branch.Gtrid.{Gtrid}
use Rattle.xa_base.specs.declared.branch.Branch.{Branch}
use Rattle.xa_base.specs.declared.code.How.{How}
use Rattle.xa_base.specs.declared.code.How.TheVariants.{Com}
use Rattle.xa_base.specs.Branch.{branch_cmp, branch_eq, gtrid_eq}
use Rattle.xa_base.specs.Code.{how_number, how_of_number}
use Rattle.xa_log.specs.Content.{Content}
use Rattle.xa_log.specs.Contract.{FitsRow}
use Rattle.xa_sql_log.specs.Tables.{log_schema, old_schema}

-- the rows as they are stored, behind their rowids
abbrev pub meta_row : ℕ → Row
meta_row incarnation = Int (pos 1) ∷ Null ∷ Int (pos 2) ∷ Int (pos incarnation) ∷ []

abbrev pub decision_row : ℤ → Gtrid → Row
decision_row id g = Int id ∷ Int (pos g.incarnation) ∷ Int (pos g.sequence) ∷ []

abbrev pub heuristic_row : ℤ → Branch → How → Row
heuristic_row id b how =
    Int id ∷ Int (pos b.gtrid.incarnation) ∷ Int (pos b.gtrid.sequence) ∷ Int (pos b.thread) ∷ Int (pos b.rm) ∷ Int (how_number how) ∷ []

abbrev pub IsDecisionRow : Row → Type 0
IsDecisionRow row = (id : ℤ) × (g : Gtrid) × (row ≡ decision_row id g) × FitsRow g

abbrev pub participant_row : ℤ → Branch → Row
participant_row id b = Int id ∷ Int (pos b.gtrid.incarnation) ∷ Int (pos b.gtrid.sequence) ∷ Int (pos b.thread) ∷ Int (pos b.rm) ∷ []

abbrev pub IsParticipantRow : Row → Type 0
IsParticipantRow row = (id : ℤ) × (b : Branch) × (row ≡ participant_row id b)

abbrev pub IsHeuristicRow : Row → Type 0
IsHeuristicRow row = (id : ℤ) × (b : Branch) × (how : How) × (row ≡ heuristic_row id b how) × FitsRow b.gtrid

-- what a row says
abbrev pub gtrid_of_row : Row → Gtrid
gtrid_of_row row = record { incarnation = number_in (column row 1); sequence = number_in (column row 2) }

abbrev pub branch_of_row : Row → Branch
branch_of_row row = record { gtrid = gtrid_of_row row; thread = number_in (column row 3); rm = number_in (column row 4) }

-- the number that a value is
abbrev pub integer_in : Value → ℤ
integer_in (Int n) = n
integer_in _ = pos 0

abbrev pub how_of_row : Row → How
how_of_row row = unwrap_or (how_of_number (integer_in (column row 5))) Com

-- the participants that the rows have for a transaction
abbrev pub participants_of_rows : List Row → Gtrid → KeySet branch_cmp
participants_of_rows rows g = from_list (filter (λ (b : Branch). gtrid_eq g b.gtrid) (map branch_of_row rows))

abbrev pub content_of : Trees → Content
content_of trees = record {
  decisions = from_entries (map (λ row. (gtrid_of_row row, participants_of_rows (trees 5) (gtrid_of_row row))) (trees 1));
  heuristics = from_entries (map (λ row. (branch_of_row row, how_of_row row)) (trees 3));
  incarnation = number_in (column (slice_index_or (trees 0) 0 []) 3);
}

-- ** what a row of an answer says, whose columns count from 0

abbrev pub gtrid_from : Row → Gtrid
gtrid_from row = record { incarnation = number_in (column row 0); sequence = number_in (column row 1) }

abbrev pub branch_from : Row → Branch
branch_from row = record { gtrid = gtrid_from row; thread = number_in (column row 2); rm = number_in (column row 3) }

-- a participant of a transaction that is known
abbrev pub participant_from : Gtrid → Row → Branch
participant_from g row = record { gtrid = g; thread = number_in (column row 0); rm = number_in (column row 1) }

-- a branch that is recorded as heuristic, with its end
abbrev pub heuristic_from : Row → Branch × How
heuristic_from row = (branch_from row, unwrap_or (how_of_number (integer_in (column row 4))) Com)

-- ** the log's tables

-- the rows of heuristic ends: no rowid and no branch comes twice
pub record AreHeuristicRows (rows : List Row) : Type 0 where
  pub all : AllByRecursion IsHeuristicRow rows
  pub apart : IsTable rows
  pub once : IsAscending (λ a b. branch_eq (branch_of_row a) (branch_of_row b) ≡ false) rows

-- the transaction of a participant has a row
abbrev pub HasDecision : List Row → Row → Type 0
HasDecision decisions row = list_any (λ r. gtrid_eq (gtrid_of_row row) (gtrid_of_row r)) decisions ≡ true

-- the tables are those of version 2, and each row is one of the log's
pub record IsLog (db : Database) : Type 0 where
  pub schema : db.schema ≡ log_schema
  pub meta : db.trees 0 ≡ meta_row (content_of db.trees).incarnation ∷ []
  pub decisions : AllByRecursion IsDecisionRow (db.trees 1)
  pub heuristics : AreHeuristicRows (db.trees 3)
  pub participants : AllByRecursion IsParticipantRow (db.trees 5)
  -- no rowid comes twice
  pub decisions_apart : IsTable (db.trees 1)
  pub participants_apart : IsTable (db.trees 5)
  pub parents : AllByRecursion (HasDecision (db.trees 1)) (db.trees 5)

-- ---- version 1

abbrev pub old_meta_row : ℕ → Row
old_meta_row incarnation = Int (pos 1) ∷ Null ∷ Int (pos 1) ∷ Int (pos incarnation) ∷ []

-- its decisions have no participants
abbrev pub old_content_of : Trees → Content
old_content_of trees = record {
  decisions = from_entries (map (λ row. (gtrid_of_row row, empty)) (trees 1));
  heuristics = from_entries (map (λ row. (branch_of_row row, how_of_row row)) (trees 3));
  incarnation = number_in (column (slice_index_or (trees 0) 0 []) 3);
}

pub record IsOldLog (db : Database) : Type 0 where
  pub schema : db.schema ≡ old_schema
  pub meta : db.trees 0 ≡ old_meta_row (old_content_of db.trees).incarnation ∷ []
  pub decisions : AllByRecursion IsDecisionRow (db.trees 1)
  pub heuristics : AreHeuristicRows (db.trees 3)
  pub decisions_apart : IsTable (db.trees 1)

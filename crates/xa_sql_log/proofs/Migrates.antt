-- What the two statements that migrate a log of version 1 do.
use Rattle.std.proofs.Common.{◌≡◌, ℕ, List, [], ◌∷◌, None, Ok, refl, codes, true, false, sym, ap, subst, ◌∙◌}
use Rattle.std.specs.List.{AllByRecursion}
use Rattle.sqlite.specs.Tree.{IsTable}
use Rattle.sqlite.specs.Schema.{Schema}
use Rattle.sqlite.specs.Change.{created, next_tree, KeepsRows}
use Rattle.sqlite.specs.Effect.{Database}
use Rattle.sqlite.specs.Does.{Tally, lacks_sequence}
use Rattle.sqlite.specs.State.{State, Writes, Executes}
use Rattle.sqlite.proofs.Callers.{command_of, statement_of, IsPlain, runs_as}
use Rattle.sqlite.specs.Listing.{understood}
use Rattle.sqlite.specs.Command.TheVariants.{CreateTable}
use Rattle.sqlite_tied.specs.Compute.{everything}
use Rattle.xa_log.proofs.Parts.{went, same_value}
use Rattle.xa_sql_log.proofs.Maps.{booked}
use Rattle.xa_sql_log.proofs.NamedVersions.{Names, names, naming}
use Rattle.sqlite_schema.specs.Rules.{is_key_of}
use Rattle.xa_sql_log.specs.Labels.{MakesParticipants}
use Rattle.xa_sql_log.specs.Tables.{old_schema, log_schema, participant_text, participant, of_decision}
use Rattle.xa_sql_log.specs.Rows.{IsOldLog, IsDecisionRow, AreHeuristicRows, IsParticipantRow, HasDecision, participants_of_rows, meta_row, content_of, old_content_of}
use Rattle.xa_sql_log.specs.Sql.{IsNewLog}
use Rattle.xa_log.proofs.Alike.{same_content}

pub makes_participant : MakesParticipants participant_text
unfolding understood everything
makes_participant = record { command = refl; plain = (refl, refl); whole = refl; table = refl }

uncounted : lacks_sequence (created old_schema (record participant { tree = 0 })) ≡ false
unfolding everything
uncounted = refl

pub migrated_schema : created old_schema (record participant { tree = 0 }) ≡ log_schema
unfolding everything
migrated_schema = refl

abbrev pub set_version : List ℕ
set_version = codes "UPDATE tm_meta SET version = 2"

pub set_version_is : command_of (understood log_schema set_version) ≡ naming 2
unfolding understood everything
set_version_is = refl

pub set_version_plain : IsPlain (understood log_schema set_version)
unfolding understood everything
set_version_plain = (refl, refl)

-- ---- CREATE TABLE

next_is : next_tree old_schema ≡ 5
unfolding everything
next_is = refl

-- the table is made and empty, and the rows of the others are as they were
pub record Adds (db after : Database) : Type 0 where
  pub schema : after.schema ≡ log_schema
  pub participants : after.trees 5 ≡ []
  pub meta : after.trees 0 ≡ db.trees 0
  pub decisions : after.trees 1 ≡ db.trees 1
  pub heuristics : after.trees 3 ≡ db.trees 3

pub adds : (text : List ℕ) → MakesParticipants text → (old new : State) (count : ℕ) → old.now.schema ≡ old_schema
    → Executes text [] old new (Ok count) → Adds old.now new.now
adds text makes old new count has ran =
    let table = record participant { tree = 0 } in
    let w : Writes old new None CreateTable text [] count =
    subst (λ t. Writes old new None CreateTable t [] count) makes.whole
    (runs_as text [] old new old_schema has CreateTable makes.command makes.plain count ran) in
    let all = went w.changed in
    let first = went all.1 in
    let made = first.1 in
    let both : Ok made.table ≡ Ok table = sym made.defined ∙ makes.table in
    let same : made.table ≡ table = cc in
    let is : first.0.schema ≡ created old_schema table = made.is ∙ ap (λ s. created s made.table) has ∙ ap (created old_schema) same in
    let now : new.now ≡ first.0 =
    ap (λ (p : Tally × Database). p.1) (same_value all.2) ∙ same_value (rw (ap lacks_sequence is ∙ uncounted) at first.2) in
    let others = subst (λ (s : Schema). KeepsRows s.tables old.now.trees first.0.trees) has made.others in
    let as_now = λ (at : ℕ). ap (λ (d : Database). d.trees at) now in
    record {
      schema = ap (λ (d : Database). d.schema) now ∙ is ∙ migrated_schema;
      participants = as_now 5 ∙ subst (λ t. first.0.trees t ≡ []) (ap next_tree has ∙ next_is) made.empty;
      meta = as_now 0 ∙ others.0;
      decisions = as_now 1 ∙ others.1.0;
      heuristics = as_now 3 ∙ others.1.1.0;
    }

-- ---- both

new_log : (db mid after : Database) → IsOldLog db → Adds db mid → Names 2 (old_content_of db.trees).incarnation mid after
    → IsNewLog (old_content_of db.trees) after
new_log db mid after is added set =
    let none : after.trees 5 ≡ [] = set.participants ∙ added.participants in
    let decisions = set.decisions ∙ added.decisions in
    let heuristics = set.heuristics ∙ added.heuristics in (
      record {
        schema = set.schema;
        meta = subst (λ t. t ≡ meta_row (content_of (λ _. t)).incarnation ∷ []) (sym set.meta) refl;
        decisions = subst (AllByRecursion IsDecisionRow) (sym decisions) is.decisions;
        heuristics = subst AreHeuristicRows (sym heuristics) is.heuristics;
        participants = subst (AllByRecursion IsParticipantRow) (sym none) tt;
        decisions_apart = subst IsTable (sym decisions) is.decisions_apart;
        participants_apart = subst IsTable (sym none) tt;
        parents = subst (AllByRecursion (HasDecision (after.trees 1))) (sym none) tt;
      },
      same_content _ _
          (ap (λ t. booked (participants_of_rows t) (after.trees 1)) none ∙ ap (booked (participants_of_rows [])) decisions)
          (ap (λ t. (content_of (λ _. t)).heuristics) heuristics)
          (ap (λ t. (content_of (λ _. t)).incarnation) set.meta),
    )

pub migrates : (old mid new : State) (a b : ℕ) → IsOldLog old.now → Executes participant_text [] old mid (Ok a)
    → Executes set_version [] mid new (Ok b) → IsNewLog (old_content_of old.now.trees) new.now
migrates old mid new a b is first second =
    let added = adds participant_text makes_participant old mid a is.schema first in
    let w =
    runs_as set_version [] mid new log_schema added.schema
    (naming 2) set_version_is set_version_plain b second in
    new_log old.now mid.now new.now is added
    (names 2 1 (old_content_of old.now.trees).incarnation mid.step_limit mid.now new.now
    (statement_of set_version (understood log_schema set_version)) w.tally added.schema (added.meta ∙ is.meta) w.changed)

-- ---- in a transaction that is committed

-- The key refers to a unique index, so that a write is not refused for it.
pub key_fits : is_key_of log_schema of_decision ≡ true
unfolding everything
key_fits = refl

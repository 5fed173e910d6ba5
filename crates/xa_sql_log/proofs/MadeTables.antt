-- The statements that make the tables of an empty log, run in turn.
use Rattle.std.proofs.Common.{◌≡◌, ℕ, List, [], ◌∷◌, Option, None, Ok, refl, sym, ap, subst, subst₂, ◌∙◌, codes, pos, false}
use Rattle.std.proofs.lemmas.Bool.{eqb-false}
use Rattle.std.specs.List.{AllByRecursion}
use Rattle.sqlite.specs.declared.types.Value.TheVariants.{Null, Int}
use Rattle.sqlite.specs.Tree.{Trees, IsTable, put_row}
use Rattle.sqlite.specs.Schema.{Schema}
use Rattle.sqlite.specs.Table.{Table}
use Rattle.sqlite.specs.Term.{Term, lit}
use Rattle.sqlite.specs.Command.TheVariants.{Insert, CreateTable}
use Rattle.sqlite.specs.Source.TheVariants.{Values}
use Rattle.sqlite.specs.Change.{created, next_tree, KeepsRows}
use Rattle.sqlite.specs.Compile.{table_defined_by}
use Rattle.sqlite.specs.Edit.{edit_of, put_all}
use Rattle.sqlite.specs.Rowids.TheVariants.{Chosen}
use Rattle.sqlite.specs.Effect.{Database}
use Rattle.sqlite.specs.Rows.{Written}
use Rattle.sqlite.specs.Does.{Tally, Does, lacks_sequence}
use Rattle.sqlite.specs.Listing.{understood}
use Rattle.sqlite.specs.State.{State, Writes, Executes}
use Rattle.sqlite_schema.specs.declared.schema.Keys.TheVariants.{Enforced}
use Rattle.sqlite_rules.specs.Action.{works}
use Rattle.sqlite.proofs.Callers.{IsPlain, command_of, statement_of, runs_as, one_step}
use Rattle.sqlite_tied.specs.Compute.{everything}
use Rattle.xa_sql_log.specs.Tables.{meta_text, decision_text, heuristic_text, meta, decision, heuristic, no_tables, old_schema, log_schema}
use Rattle.xa_log.specs.Content.{nothing}
use Rattle.xa_sql_log.specs.Rows.{IsDecisionRow, AreHeuristicRows, IsParticipantRow, HasDecision, participants_of_rows, meta_row, content_of}
use Rattle.xa_sql_log.specs.Sql.{IsNewLog}
use Rattle.xa_sql_log.proofs.Inserts.{at_once}
use Rattle.xa_sql_log.proofs.Maps.{booked}
use Rattle.xa_sql_log.proofs.Migrates.{adds}
use Rattle.xa_sql_log.specs.Labels.{MakesParticipants}
use Rattle.xa_log.proofs.Parts.{went, same_value}
use Rattle.xa_sql_log.proofs.Values.{cast_int, cast_null}
use Rattle.xa_log.proofs.Alike.{same_content}

-- ---- CREATE TABLE

record Creates (schema : Schema) (table : Table) (db after : Database) : Type 0 where
  schema_is : after.schema ≡ created schema table
  empty : after.trees (next_tree schema) ≡ []
  others : KeepsRows schema.tables db.trees after.trees

-- what the text means over these tables
record Means (schema : Schema) (text : List ℕ) (table : Table) : Type 0 where
  is : command_of (understood schema text) ≡ CreateTable
  plain : IsPlain (understood schema text)
  whole : statement_of text (understood schema text) ≡ text
  defined : table_defined_by text ≡ Ok table
  uncounted : lacks_sequence (created schema table) ≡ false

creates : (schema : Schema) (text : List ℕ) (table : Table) → Means schema text table → (old new : State) (count : ℕ)
    → old.now.schema ≡ schema → Executes text [] old new (Ok count) → Creates schema table old.now new.now
creates schema text table means old new count has ran =
    let w : Writes old new None CreateTable text [] count =
    subst (λ t. Writes old new None CreateTable t [] count) means.whole (runs_as text [] old new schema has CreateTable means.is means.plain count ran) in
    let all = went w.changed in
    let first = went all.1 in
    let made = first.1 in
    let both : Ok made.table ≡ Ok table = sym made.defined ∙ means.defined in
    let same : made.table ≡ table = cc in
    let is : first.0.schema ≡ created schema table = made.is ∙ ap (λ s. created s made.table) has ∙ ap (created schema) same in
    let now : new.now ≡ first.0 = ap (λ (p : Tally × Database). p.1) (same_value all.2) ∙ same_value (rw (ap lacks_sequence is ∙ means.uncounted) at first.2) in
    record {
      schema_is = ap (λ (d : Database). d.schema) now ∙ is;
      empty = ap (λ (d : Database). d.trees (next_tree schema)) now ∙ subst (λ s. first.0.trees (next_tree s) ≡ []) has made.empty;
      others = subst₂ (λ (s : Schema) (d : Database). KeepsRows s.tables old.now.trees d.trees) has (sym now) made.others;
    }

abbrev schema_1 : Schema
schema_1 = created no_tables meta

abbrev schema_2 : Schema
schema_2 = created schema_1 (record decision { tree = 0 })

makes_meta : Means no_tables meta_text meta
unfolding understood everything
makes_meta = record { is = refl; plain = (refl, refl); whole = refl; defined = refl; uncounted = refl }

makes_decision : Means schema_1 decision_text (record decision { tree = 0 })
unfolding understood everything
makes_decision = record { is = refl; plain = (refl, refl); whole = refl; defined = refl; uncounted = refl }

makes_heuristic : Means schema_2 heuristic_text (record heuristic { tree = 0 })
unfolding understood everything
makes_heuristic = record { is = refl; plain = (refl, refl); whole = refl; defined = refl; uncounted = refl }

first_three : created schema_2 (record heuristic { tree = 0 }) ≡ old_schema
unfolding everything
first_three = refl

-- ---- the row of tm_meta

abbrev pub first_meta : List ℕ
first_meta = codes "INSERT INTO tm_meta (k, version, incarnation) VALUES (1, 2, 0)"

abbrev first_terms : List Term
first_terms = lit (Int (pos 1)) ∷ lit Null ∷ lit (Int (pos 2)) ∷ lit (Int (pos 0)) ∷ []

first_meta_is : command_of (understood log_schema first_meta) ≡ Insert 0 (Values first_terms 4)
unfolding understood everything
first_meta_is = refl

first_meta_plain : IsPlain (understood log_schema first_meta)
unfolding understood everything
first_meta_plain = (refl, refl)

record PutsMeta (db after : Database) : Type 0 where
  schema : after.schema ≡ log_schema
  meta : after.trees 0 ≡ put_row (meta_row 0) (db.trees 0)
  decisions : after.trees 1 ≡ db.trees 1
  heuristics : after.trees 3 ≡ db.trees 3
  participants : after.trees 5 ≡ db.trees 5

puts_meta : (limit : Option ℕ) (db after : Database) (text : List ℕ) (tally : Tally) → db.schema ≡ log_schema
    → Does limit at_once [] db text None (Insert 0 (Values first_terms 4)) (Ok (tally, after)) → PutsMeta db after
puts_meta limit db after text tally has h =
    let command = Insert 0 (Values first_terms 4) in
    let done = went (subst (λ s. Does limit at_once [] (record db { schema = s }) text None command (Ok (tally, after))) has h) in
    let now = ap (λ (p : Tally × Database). p.1) (same_value (went (went done.2).2).2) in
    let given = went done.1 in
    let written = went (went given.2).2 in
    let counted = went written.2 in
    let trees : done.0.trees ≡ written.0 = ap (λ (it : Written). it.trees) (same_value counted.2) ∙ same_value counted.1 in
    let edit = edit_of db.trees meta [] Chosen 0 given.0 in
    let news : edit.news ≡ meta_row 0 ∷ [] =
    ap (λ all. (edit_of db.trees meta [] Chosen 0 all).news) given.1.1 ∙ rw (cast_int (pos 1), cast_null, cast_int (pos 2), cast_int (pos 0)) refl in
    let none : works log_schema Enforced 0 0 [] edit.news ≡ [] = ap (works log_schema Enforced 0 0 []) news in
    let applied = one_step log_schema Enforced db.trees written.0 edit none written.1 in
    let as_after = λ (at : ℕ). ap (λ (t : Trees). t at) (ap (λ (d : Database). d.trees) now ∙ trees) in
    record {
      schema = ap (λ (d : Database). d.schema) now;
      meta = as_after 0 ∙ applied.rows ∙ ap (put_all (db.trees 0)) news;
      decisions = as_after 1 ∙ applied.tables.1.0 (eqb-false 1 0 refl);
      heuristics = as_after 3 ∙ applied.tables.1.1.0 (eqb-false 3 0 refl);
      participants = as_after 5 ∙ applied.tables.1.1.1.0 (eqb-false 5 0 refl);
    }

-- ---- all of them, from a database with no table

empty_log : (db : Database) → db.schema ≡ log_schema → db.trees 0 ≡ meta_row 0 ∷ [] → db.trees 1 ≡ [] → db.trees 3 ≡ [] → db.trees 5 ≡ [] → IsNewLog nothing db
empty_log db schema meta decisions heuristics participants = (
  record {
    schema = schema;
    meta = subst (λ t. t ≡ meta_row (content_of (λ _. t)).incarnation ∷ []) (sym meta) refl;
    decisions = subst (AllByRecursion IsDecisionRow) (sym decisions) tt;
    heuristics = subst AreHeuristicRows (sym heuristics) (record { all = tt; apart = tt; once = tt });
    participants = subst (AllByRecursion IsParticipantRow) (sym participants) tt;
    decisions_apart = subst IsTable (sym decisions) tt;
    participants_apart = subst IsTable (sym participants) tt;
    parents = subst (AllByRecursion (HasDecision (db.trees 1))) (sym participants) tt;
  },
  same_content _ _
      (ap (booked (participants_of_rows (db.trees 5))) decisions)
      (ap (λ t. (content_of (λ _. t)).heuristics) heuristics)
      (ap (λ t. (content_of (λ _. t)).incarnation) meta),
)

pub made : (participants : List ℕ) → MakesParticipants participants → (a b c d e f : State) (k l m n o : ℕ) → a.now.schema ≡ no_tables
    → Executes meta_text [] a b (Ok k)
    → Executes decision_text [] b c (Ok l) → Executes heuristic_text [] c d (Ok m)
    → Executes participants [] d e (Ok n) → Executes first_meta [] e f (Ok o) → IsNewLog nothing f.now
made participants makes a b c d e f k l m n o has one two three four five =
    let made_1 = creates no_tables meta_text meta makes_meta a b k has one in
    let made_2 = creates schema_1 decision_text (record decision { tree = 0 }) makes_decision b c l made_1.schema_is two in
    let made_3 = creates schema_2 heuristic_text (record heuristic { tree = 0 }) makes_heuristic c d m made_2.schema_is three in
    let old = made_3.schema_is ∙ first_three in
    let made_4 = adds participants makes d e n old four in
    let w = runs_as first_meta [] e f log_schema made_4.schema (Insert 0 (Values first_terms 4)) first_meta_is first_meta_plain o five in
    let put = puts_meta e.step_limit e.now f.now (statement_of first_meta (understood log_schema first_meta)) w.tally made_4.schema w.changed in
    let none_0 : e.now.trees 0 ≡ [] = made_4.meta ∙ made_3.others.0 ∙ made_2.others.0 ∙ made_1.empty in
    let none_1 : e.now.trees 1 ≡ [] = made_4.decisions ∙ made_3.others.1.0 ∙ made_2.empty in
    let none_3 : e.now.trees 3 ≡ [] = made_4.heuristics ∙ made_3.empty in
    empty_log f.now put.schema (put.meta ∙ ap (put_row (meta_row 0)) none_0) (put.decisions ∙ none_1) (put.heuristics ∙ none_3)
    (put.participants ∙ made_4.participants)

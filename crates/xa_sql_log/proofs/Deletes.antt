-- What the DELETE of a decision does, with the participants that go with it.
use Rattle.std.proofs.Common.{◌≡◌, ℕ, ℤ, List, [], map, length, None, Option, Some, Ok, true, refl, sym, ap, subst, ◌∙◌}
use Rattle.std.proofs.lemmas.Bool.{eqb-false}
use Rattle.std.proofs.lemmas.List.{length-map}
use Rattle.std.specs.List.{list_any}
use Rattle.std.specs.List.Sorted.{IsPermutation}
use Rattle.sqlite.specs.declared.types.Value.TheVariants.{Int}
use Rattle.sqlite.specs.Order.{Row}
use Rattle.sqlite.specs.Tree.{Trees, rowid}
use Rattle.sqlite.specs.Term.{Term}
use Rattle.sqlite.specs.Command.TheVariants.{Delete}
use Rattle.sqlite.specs.Edit.{edit_of, without_all, taken_by}
use Rattle.sqlite.specs.Rowids.TheVariants.{Given}
use Rattle.sqlite.specs.Effect.{Database}
use Rattle.sqlite.specs.Rows.{Written}
use Rattle.sqlite.specs.Does.{Tally, Does}
use Rattle.sqlite_schema.specs.Rules.{Refers}
use Rattle.sqlite_schema.specs.declared.schema.Among.TheVariants.{All}
use Rattle.sqlite_rules.specs.Lists.{Has}
use Rattle.sqlite_rules.specs.Calls.{ids_of}
use Rattle.sqlite_rules.specs.Action.{pairs, is_child_of}
use Rattle.xa_sql_log.specs.Tables.{log_schema, decision}
use Rattle.xa_log.proofs.Parts.{went, same_value}
use Rattle.xa_sql_log.proofs.Texts.{over}
use Rattle.xa_sql_log.proofs.Plain.{chosen, shown, plain_rows}
use Rattle.xa_sql_log.proofs.Inserts.{at_once}
use Rattle.xa_sql_log.proofs.Cascade.{cascade, cascaded}

abbrev pub taken_rows : Trees → List Row → List Row
taken_rows db found = taken_by db (edit_of db decision (ids_of found) Given 0 [])

-- The decisions with the rowids that the query answered are gone, and counted, and of the participants only children of theirs are gone.
pub record Takes (tests project : List Term) (params : Row) (db after : Database) (rows_told : Option ℕ) : Type 0 where
  pub schema : after.schema ≡ log_schema
  pub found : List Row
  pub answer : IsPermutation (map (shown project params) (chosen tests params (db.trees 1))) found
  pub told : rows_told ≡ Some (length found)
  pub rows : after.trees 1 ≡ without_all (db.trees 1) (ids_of found)
  pub ids : List ℤ
  pub sound : (id : ℤ) → Has ids id
      → (r : Row) × Has (db.trees 5) r
      × (list_any (is_child_of (cascade (taken_rows db.trees found)) r) (pairs (taken_rows db.trees found) []) ≡ true) × (rowid r ≡ Int id)
  pub participants : after.trees 5 ≡ without_all (db.trees 5) ids
  pub meta : after.trees 0 ≡ db.trees 0
  pub heuristics : after.trees 3 ≡ db.trees 3
  pub refers : Refers All log_schema after.trees

pub takes_decision : (limit : Option ℕ) (params : Row) (tests project : List Term) (db after : Database) (text : List ℕ) (tally : Tally)
    → db.schema ≡ log_schema
    → Does limit at_once params db text None (Delete 1 (record { lets = []; body = over 1 tests project })) (Ok (tally, after))
    → Takes tests project params db after tally.rows
takes_decision limit params tests project db after text tally has h =
    let command = Delete 1 (record { lets = []; body = over 1 tests project }) in
    let done = went (subst (λ s. Does limit at_once params (record db { schema = s }) text None command (Ok (tally, after))) has h) in
    let tested = went done.2 in
    let noted = same_value (went tested.2).2 in
    let now = ap (λ (p : Tally × Database). p.1) noted in
    let found = went done.1 in
    let written = went found.2 in
    let trees : done.0.trees ≡ written.0 = ap (λ (it : Written). it.trees) (same_value written.2) in
    let both = cascaded db.trees written.0 (ids_of found.0) written.1 in
    let applied = both.1 in
    let follows = both.2 in
    let stay : both.0 5 ≡ db.trees 5 = applied.tables.1.1.1.0 (eqb-false 5 1 refl) in
    let all = ap (λ (d : Database). d.trees) now in
    let as_after = λ (at : ℕ). ap (λ (t : Trees). t at) (all ∙ trees) in
    record {
      schema = ap (λ (d : Database). d.schema) now;
      found = found.0;
      answer = plain_rows 1 tests project db.trees params found.0 found.1.answer;
      told = ap (λ (p : Tally × Database). p.0.rows) noted ∙ ap (λ (it : Written). Some (length it.rows)) (same_value written.2)
          ∙ ap Some (length-map _ _ ∙ length-map _ _);
      rows = as_after 1 ∙ follows.decisions ∙ applied.rows;
      ids = follows.ids;
      sound = λ id k. let it = follows.sound id k in (it.0, subst (λ rows. Has rows it.0) stay it.1, it.2, it.3);
      participants = as_after 5 ∙ follows.participants ∙ ap (λ rows. without_all rows follows.ids) stay;
      meta = as_after 0 ∙ follows.meta ∙ applied.tables.0 (eqb-false 0 1 refl);
      heuristics = as_after 3 ∙ follows.heuristics ∙ applied.tables.1.1.0 (eqb-false 3 1 refl);
      refers = subst (Refers All log_schema) (sym all) tested.1.0;
    }

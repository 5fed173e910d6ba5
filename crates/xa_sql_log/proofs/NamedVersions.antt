-- What a statement does that writes a version into the one row of tm_meta.
use Rattle.std.proofs.Common.{◌≡◌, ℕ, List, [], ◌∷◌, map, length, arith, Option, None, Ok, refl, pos, ap, subst, ◌∙◌}
use Rattle.std.proofs.lemmas.Bool.{eqb-false}
use Rattle.std.specs.List.Sorted.{IsPermutation}
use Rattle.sqlite.specs.Order.{Row}
use Rattle.sqlite.specs.Tree.{Trees}
use Rattle.sqlite.specs.Edit.{edit_of, edited, taken_by}
use Rattle.sqlite.specs.Rowids.TheVariants.{Given}
use Rattle.sqlite.specs.Command.{Command}
use Rattle.sqlite.specs.Command.TheVariants.{Update}
use Rattle.sqlite.specs.Effect.{Database}
use Rattle.sqlite.specs.Rows.{Written}
use Rattle.sqlite.specs.Does.{Tally, Does}
use Rattle.sqlite.specs.Term.{Term, lit, col}
use Rattle.sqlite.specs.declared.types.Value.TheVariants.{Null, Int}
use Rattle.sqlite.proofs.Callers.{one_step, one_permutation}
use Rattle.sqlite_schema.specs.declared.schema.Keys.TheVariants.{Enforced}
use Rattle.sqlite_rules.specs.Calls.{ids_of}
use Rattle.sqlite_rules.specs.Action.{works}
use Rattle.sqlite_tied.specs.Compute.{everything}
use Rattle.xa_log.proofs.Parts.{went, same_value}
use Rattle.xa_sql_log.proofs.Inserts.{at_once}
use Rattle.xa_sql_log.proofs.Plain.{chosen, shown, plain_rows}
use Rattle.xa_sql_log.proofs.Texts.{over}
use Rattle.xa_sql_log.proofs.Values.{cast_int, cast_null, same_id}
use Rattle.xa_sql_log.specs.OpenedDatabase.{version_row}
use Rattle.xa_sql_log.specs.Tables.{log_schema, meta}

-- to write the one row of tm_meta is work for no key
pub no_work : (olds news : List Row) → length news ≡ 1 → works log_schema Enforced 0 0 olds news ≡ []
unfolding everything
no_work olds [] one = absurd (omega (arith, one))
no_work olds (new ∷ []) one = refl
no_work olds (new ∷ next ∷ more) one = absurd (omega (arith, one))

abbrev pub project : ℕ → List Term
project version = col 1 0 ∷ col 1 0 ∷ lit Null ∷ lit (Int (pos version)) ∷ col 1 3 ∷ []

-- the statement writes this version, and keeps the incarnation
abbrev pub naming : ℕ → Command
naming version = Update 0 (record { lets = []; body = over 0 [] (project version) })

pub record Names (version incarnation : ℕ) (db after : Database) : Type 0 where
  pub schema : after.schema ≡ log_schema
  pub meta : after.trees 0 ≡ version_row version incarnation ∷ []
  pub decisions : after.trees 1 ≡ db.trees 1
  pub heuristics : after.trees 3 ≡ db.trees 3
  pub participants : after.trees 5 ≡ db.trees 5

pub names : (version last incarnation : ℕ) (limit : Option ℕ) (db after : Database) (text : List ℕ) (tally : Tally) → db.schema ≡ log_schema
    → db.trees 0 ≡ version_row last incarnation ∷ []
    → Does limit at_once [] db text None (naming version) (Ok (tally, after)) → Names version incarnation db after
names version last incarnation limit db after text tally has one h =
    let done = went (subst (λ s. Does limit at_once [] (record db { schema = s }) text None (naming version) (Ok (tally, after))) has h) in
    let now = ap (λ (p : Tally × Database). p.1) (same_value (went (went done.2).2).2) in
    let found = went done.1 in
    let written = went found.2 in
    let trees : done.0.trees ≡ written.0 = ap (λ (it : Written). it.trees) (same_value written.2) in
    let row : Row = Int (pos 1) ∷ Int (pos 1) ∷ Null ∷ Int (pos version) ∷ Int (pos incarnation) ∷ [] in
    let rows : found.0 ≡ row ∷ [] =
    one_permutation row found.0 (subst (λ all. IsPermutation (map (shown (project version) []) (chosen [] [] all)) found.0) one
    (plain_rows 0 [] (project version) db.trees [] found.0 found.1.answer)) in
    let none : works log_schema Enforced 0 0 (taken_by db.trees (edit_of db.trees meta (ids_of found.0) Given 1 found.0))
    (edit_of db.trees meta (ids_of found.0) Given 1 found.0).news ≡ [] =
    no_work _ _ (ap (λ all. length (edit_of db.trees meta (ids_of all) Given 1 all).news) rows) in
    let applied = one_step log_schema Enforced db.trees written.0 (edit_of db.trees meta (ids_of found.0) Given 1 found.0) none written.1 in
    let as_after = λ (at : ℕ). ap (λ (t : Trees). t at) (ap (λ (d : Database). d.trees) now ∙ trees) in
    let edit : edited db.trees (edit_of db.trees meta (ids_of found.0) Given 1 found.0) ≡ version_row version incarnation ∷ [] =
    ap (λ all. edited db.trees (edit_of db.trees meta (ids_of all) Given 1 all)) rows
    ∙ rw (one, same_id (pos 1), cast_int (pos 1), cast_null, cast_int (pos version), cast_int (pos incarnation)) refl in
    record {
      schema = ap (λ (d : Database). d.schema) now;
      meta = as_after 0 ∙ applied.rows ∙ edit;
      decisions = as_after 1 ∙ applied.tables.1.0 (eqb-false 1 0 refl);
      heuristics = as_after 3 ∙ applied.tables.1.1.0 (eqb-false 3 0 refl);
      participants = as_after 5 ∙ applied.tables.1.1.1.0 (eqb-false 5 0 refl);
    }

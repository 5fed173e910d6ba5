-- The statements on the one row of tm_meta, from their texts to the content of the log.
use Rattle.std.proofs.Common.{◌≡◌, inl, inr, ℕ, ◌+◌, pos, List, [], ◌∷◌, map, length, None, Some, Option, Ok, IsTrue, IsSomeAnd, slice_get, refl, sym, ap, subst, ◌∙◌}
use Rattle.std.proofs.lemmas.Bool.{eqb-false}
use Rattle.std.specs.List.{AllByRecursion}
use Rattle.std.specs.List.Sorted.{IsPermutation}
use Rattle.sqlite.specs.declared.types.Value.TheVariants.{Null, Int}
use Rattle.sqlite.specs.Order.{Row, column}
use Rattle.sqlite.specs.Tree.{Trees, IsTable}
use Rattle.sqlite.specs.Term.{Term, lit, col}
use Rattle.sqlite.specs.Command.{Command}
use Rattle.sqlite.specs.Command.TheVariants.{Update}
use Rattle.sqlite.specs.Edit.{edit_of, edited, taken_by}
use Rattle.sqlite.specs.Rowids.TheVariants.{Given}
use Rattle.sqlite.specs.Effect.{Database}
use Rattle.sqlite.specs.Rows.{Written}
use Rattle.sqlite.specs.Does.{Tally, Does}
use Rattle.sqlite.specs.Listing.{understood}
use Rattle.sqlite.specs.State.{State, HasCleanDisk, Executes, CommitsBy, Shown, IsUnchanged}
use Rattle.sqlite.proofs.Callers.{statement_of, runs_as, reads_as, one_step, one_permutation}
use Rattle.sqlite_schema.specs.declared.schema.Keys.TheVariants.{Enforced}
use Rattle.sqlite_rules.specs.Calls.{ids_of}
use Rattle.sqlite_rules.specs.Action.{works}
use Rattle.xa_log.specs.Content.{Content, with_bump, with_incarnation}
use Rattle.xa_sql_log.specs.Tables.{log_schema, meta}
use Rattle.xa_sql_log.specs.Rows.{IsLog, IsDecisionRow, AreHeuristicRows, IsParticipantRow, HasDecision, meta_row, content_of}
use Rattle.xa_sql_log.specs.Sql.{AreLogTrees, HasLogTables, IsOrderly, MayChange, OnlyReads, content_in}
use Rattle.xa_sql_log.proofs.Lasting.{as_log}
use Rattle.xa_sql_log.proofs.Inside.{once, told}
use Rattle.xa_log.proofs.Parts.{went, same_value}
use Rattle.xa_sql_log.proofs.Plain.{chosen, shown, plain_rows}
use Rattle.xa_sql_log.proofs.Texts.{over, find_incarnation, find_incarnation_is, find_incarnation_plain, find_incarnation_unlisted, set_incarnation, set_incarnation_is, set_incarnation_plain}
use Rattle.xa_sql_log.proofs.Values.{cast_int, cast_null, same_id}
use Rattle.xa_sql_log.proofs.Inserts.{at_once}
use Rattle.xa_sql_log.proofs.DecisionRows.{booked_as}
use Rattle.xa_sql_log.proofs.NamedVersions.{no_work}
use Rattle.xa_sql_log.proofs.States.{Did, wrote, commits_as}
use Rattle.xa_sql_log.proofs.StatesAfter.{answered, changes_as}
use Rattle.xa_log.proofs.Alike.{same_content}

-- ---- the query

pub reads_meta : (old new : State) (rows : List Row) → IsLog old.now → Shown find_incarnation [] old new rows
    → rows ≡ (Int (pos (content_of old.now.trees).incarnation) ∷ []) ∷ []
reads_meta old new rows is h =
    let read = reads_as find_incarnation [] old new log_schema is.schema _ find_incarnation_is find_incarnation_plain find_incarnation_unlisted rows h in
    let moved = plain_rows 0 [] (col 1 3 ∷ []) old.now.trees [] rows read.answer in
    one_permutation _ rows (subst (λ all. IsPermutation (map (shown (col 1 3 ∷ []) []) (chosen [] [] all)) rows) is.meta moved)

first_number : (a n : ℕ) (rows : List Row) (row : Row) → rows ≡ (Int (pos a) ∷ []) ∷ [] → slice_get rows 0 ≡ Some row → column row 0 ≡ Int (pos n) → n ≡ a
first_number a n rows row is first number =
    let same : Some (Int (pos a) ∷ []) ≡ Some row = ap (λ all. slice_get all 0) (sym is) ∙ first in
    let one : Int (pos a) ∷ [] ≡ row = cc in
    let value : Int (pos a) ≡ Int (pos n) = ap (λ r. column r 0) one ∙ number in
    cc

pub found_incarnation : (old mid new : State) (rows : List Row) (row : Row) (n : ℕ) → slice_get rows 0 ≡ Some row
    → column row 0 ≡ Int (pos n) → IsOrderly old → IsUnchanged old mid → IsUnchanged mid new
    → Shown find_incarnation [] mid new rows → IsSomeAnd (content_in old) (λ c. (content_in new ≡ Some c) × (n ≡ c.incarnation))
found_incarnation old mid new rows row n first number order before after shown =
    answered old mid new order before after (λ c. n ≡ c.incarnation) (λ log. first_number _ n rows row (reads_meta mid new rows log shown) first number)

-- ---- the write

abbrev project : List Term
project = col 1 0 ∷ col 1 0 ∷ lit Null ∷ col 1 2 ∷ col 0 0 ∷ []

abbrev update : Command
update = Update 0 (record { lets = []; body = over 0 [] project })

pub record Sets (incarnation : ℕ) (db after : Database) : Type 0 where
  pub schema : after.schema ≡ log_schema
  pub meta : after.trees 0 ≡ meta_row incarnation ∷ []
  pub decisions : after.trees 1 ≡ db.trees 1
  pub heuristics : after.trees 3 ≡ db.trees 3
  pub participants : after.trees 5 ≡ db.trees 5

sets : (limit : Option ℕ) (new last : ℕ) (db after : Database) (text : List ℕ) (tally : Tally) → db.schema ≡ log_schema → db.trees 0 ≡ meta_row last ∷ []
    → Does limit at_once (Int (pos new) ∷ []) db text None update (Ok (tally, after)) → Sets new db after
sets limit new last db after text tally has one h =
    let params : Row = Int (pos new) ∷ [] in
    let done = went (subst (λ s. Does limit at_once params (record db { schema = s }) text None update (Ok (tally, after))) has h) in
    let now = ap (λ (p : Tally × Database). p.1) (same_value (went (went done.2).2).2) in
    let found = went done.1 in
    let written = went found.2 in
    let trees : done.0.trees ≡ written.0 = ap (λ (it : Written). it.trees) (same_value written.2) in
    let row : Row = Int (pos 1) ∷ Int (pos 1) ∷ Null ∷ Int (pos 2) ∷ Int (pos new) ∷ [] in
    let rows : found.0 ≡ row ∷ [] =
    one_permutation row found.0 (subst (λ all. IsPermutation (map (shown project params) (chosen [] params all)) found.0) one
    (plain_rows 0 [] project db.trees params found.0 found.1.answer)) in
    let none : works log_schema Enforced 0 0 (taken_by db.trees (edit_of db.trees meta (ids_of found.0) Given 1 found.0))
    (edit_of db.trees meta (ids_of found.0) Given 1 found.0).news ≡ [] =
    no_work _ _ (ap (λ all. length (edit_of db.trees meta (ids_of all) Given 1 all).news) rows) in
    let applied = one_step log_schema Enforced db.trees written.0 (edit_of db.trees meta (ids_of found.0) Given 1 found.0) none written.1 in
    let as_after = λ (at : ℕ). ap (λ (t : Trees). t at) (ap (λ (d : Database). d.trees) now ∙ trees) in
    let edit : edited db.trees (edit_of db.trees meta (ids_of found.0) Given 1 found.0) ≡ meta_row new ∷ [] =
    ap (λ all. edited db.trees (edit_of db.trees meta (ids_of all) Given 1 all)) rows
    ∙ rw (one, same_id (pos 1), cast_int (pos 1), cast_null, cast_int (pos 2), cast_int (pos new)) refl in
    record {
      schema = ap (λ (d : Database). d.schema) now;
      meta = as_after 0 ∙ applied.rows ∙ edit;
      decisions = as_after 1 ∙ applied.tables.1.0 (eqb-false 1 0 refl);
      heuristics = as_after 3 ∙ applied.tables.1.1.0 (eqb-false 3 0 refl);
      participants = as_after 5 ∙ applied.tables.1.1.1.0 (eqb-false 5 0 refl);
    }

pub set_content : (db after : Database) (new : ℕ) → IsLog db → Sets new db after
    → IsLog after × (content_of after.trees ≡ with_incarnation new (content_of db.trees))
set_content db after new is set = (
  record {
    schema = set.schema;
    meta = subst (λ t. t ≡ meta_row (content_of (λ _. t)).incarnation ∷ []) (sym set.meta) refl;
    decisions = subst (AllByRecursion IsDecisionRow) (sym set.decisions) is.decisions;
    heuristics = subst AreHeuristicRows (sym set.heuristics) is.heuristics;
    participants = subst (AllByRecursion IsParticipantRow) (sym set.participants) is.participants;
    decisions_apart = subst IsTable (sym set.decisions) is.decisions_apart;
    participants_apart = subst IsTable (sym set.participants) is.participants_apart;
    parents =
        subst (λ t. AllByRecursion (HasDecision t) (after.trees 5)) (sym set.decisions)
        (subst (AllByRecursion (HasDecision (db.trees 1))) (sym set.participants) is.parents);
  },
  same_content _ _
      (booked_as _ _ _ _ set.participants set.decisions)
      (ap (λ t. (content_of (λ _. t)).heuristics) set.heuristics)
      (ap (λ t. (content_of (λ _. t)).incarnation) set.meta),
)

module _ (new : ℕ) (params : Row) (given : params ≡ Int (pos new) ∷ []) (old : State) (ready : HasLogTables old) where
  set_makes : (text : List ℕ) (tally : Tally) (after : Database) → Does old.step_limit at_once (Int (pos new) ∷ []) old.now text None update (Ok (tally, after))
      → IsLog after × (content_of after.trees ≡ with_incarnation new (content_of old.now.trees))
  set_makes text tally after h =
      set_content old.now after new ready.now
      (sets old.step_limit new (content_of old.now.trees).incarnation old.now after text tally ready.now.schema ready.now.meta h)

  pub updates : (end : State) (count : ℕ) → Executes set_incarnation params old end (Ok count) → Did (with_incarnation new) old end
  updates end count h =
      let w =
      runs_as set_incarnation (Int (pos new) ∷ []) old end log_schema ready.now.schema update set_incarnation_is set_incarnation_plain count
      (subst (λ p. Executes set_incarnation p old end (Ok count)) given h) in
      let made = set_makes (statement_of set_incarnation (understood log_schema set_incarnation)) w.tally end.now w.changed in
      wrote (with_incarnation new) old end ready w.shown made.0 made.1

  pub update_commits : IsTrue old.is_open → (db : Trees) → CommitsBy set_incarnation params old db
      → (content_of db ≡ with_incarnation new (content_of old.now.trees)) × AreLogTrees db
  update_commits is_open db h =
      elim (commits_as set_incarnation set_incarnation_plain old (λ _. ready) is_open update set_incarnation_is (Int (pos new) ∷ []) db
      (subst (λ p. CommitsBy set_incarnation p old db) given h)) [
        | inl (inl is, same) ↦ absurd (let e = is in cc)
        | inl (inr release, same) ↦ absurd (let e = release.2 in cc)
        | inr writes ↦ (
            let made = set_makes (statement_of set_incarnation (understood log_schema set_incarnation)) writes.1 writes.2 writes.3 in
            (ap content_of writes.5 ∙ made.1, subst AreLogTrees (sym writes.5) (as_log writes.2 made.0 writes.4)))
      ]

-- to read the incarnation and to write the next one is to raise it
pub raises : (last : ℕ) (a b c : State) → OnlyReads a b → (IsTrue b.is_open → HasCleanDisk b)
    → (IsOrderly a → HasCleanDisk b → IsSomeAnd (content_in a) (λ x. (content_in b ≡ Some x) × (last ≡ x.incarnation)))
    → MayChange (with_incarnation (last + 1)) b c → MayChange with_bump a c
raises last a b c reads opened found may =
    once ((x : Content) → content_in b ≡ Some x → last ≡ x.incarnation) with_bump a b c reads may.honest (told (λ x. last ≡ x.incarnation) a b opened found)
    (λ is. changes_as (with_incarnation (last + 1)) with_bump b c (λ x held. ap (λ n. with_incarnation (n + 1) x) (is x held)) may)

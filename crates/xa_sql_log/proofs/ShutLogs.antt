-- A log that is shut, what an open makes of it, and one that is opened again.
use Rattle.std.proofs.Common.{◌≡◌, inl, inr, ℕ, zero, suc, ◌<◌, pos, List, [], ◌∷◌, get_or, cond, Option, None, Some, Ok, refl, sym, ap, subst, ◌∙◌, codes, arith}
use Rattle.std.proofs.lemmas.Bool.{cases_Bool}
use Rattle.std.specs.List.{Contains}
use Rattle.sqlite.specs.Closing.{HoldsAlone}
use Rattle.sqlite.specs.Does.{Tally, Does}
use Rattle.sqlite.specs.Effect.{Database, IsDatabase}
use Rattle.sqlite.specs.Listing.{understood}
use Rattle.sqlite.specs.Order.{Row, column}
use Rattle.sqlite.specs.Recovery.{Image}
use Rattle.sqlite.specs.State.{State, CommitsBy, Executes, IsLive, IsUnchanged, Opens}
use Rattle.sqlite.specs.Tree.{Trees}
use Rattle.sqlite.specs.declared.types.Value.TheVariants.{Int}
use Rattle.sqlite.proofs.Callers.{IsPlain, command_of, runs_as, statement_of}
use Rattle.sqlite_catalog.specs.Listing.{IsSound}
use Rattle.sqlite_tied.specs.Compute.{everything}
use Rattle.xa_log.specs.Content.{Content}
use Rattle.xa_sql_log.proofs.Closing.{same_some}
use Rattle.xa_sql_log.proofs.HeldContents.{tables_of, trees_found}
use Rattle.xa_sql_log.proofs.Inserts.{at_once}
use Rattle.xa_sql_log.proofs.MetaRows.{Sets, set_content}
use Rattle.xa_sql_log.proofs.Migrates.{set_version, set_version_is, set_version_plain}
use Rattle.xa_sql_log.proofs.NamedVersions.{names, naming}
use Rattle.xa_sql_log.proofs.States.{commits_as}
use Rattle.xa_sql_log.proofs.StatesAfter.{ready_after}
use Rattle.xa_sql_log.specs.FoundFiles.{FindsLogIn}
use Rattle.xa_sql_log.specs.OpenedDatabase.{HasMetaRow, HasTables, NamesKnown, NamesVersion, version_row}
use Rattle.xa_sql_log.specs.PreparedDatabase.{Prepares}
use Rattle.xa_sql_log.specs.Rows.{IsLog, content_of}
use Rattle.xa_sql_log.specs.ShutLogs.{AreShutTrees, HoldsShut, IsShutOf, IsShutWith}
use Rattle.xa_sql_log.specs.Sql.{IsOrderly, IsReadyWith, content_in}
use Rattle.xa_sql_log.specs.Tables.{log_schema}

abbrev pub shut : List ℕ
shut = codes "UPDATE tm_meta SET version = 102"

pub shut_is : command_of (understood log_schema shut) ≡ naming 102
unfolding understood everything
shut_is = refl

pub shut_plain : IsPlain (understood log_schema shut)
unfolding understood everything
shut_plain = (refl, refl)

-- ---- the log is shut

shut_of : (limit : Option ℕ) (db after : Database) (text : List ℕ) (tally : Tally) → IsLog db
    → Does limit at_once [] db text None (naming 102) (Ok (tally, after)) → IsShutOf db after
shut_of limit db after text tally is h =
    let set = names 102 2 (content_of db.trees).incarnation limit db after text tally is.schema is.meta h in
    record { schema = set.schema; meta = set.meta; decisions = set.decisions; heuristics = set.heuristics; participants = set.participants }

shut_trees : (db after : Database) → IsLog db → IsDatabase after → IsShutOf db after → AreShutTrees (content_of db.trees) after.trees
shut_trees db after is sound shut =
    let same : after ≡ record { schema = log_schema; trees = after.trees } = λ i. record { schema = shut.schema i; trees = after.trees } in
    record { log = db; is = is; content = refl; sound = subst (λ s. IsSound s after.trees) shut.schema sound; rows = subst (IsShutOf db) same shut }

module _ (old mid : State) (order : IsOrderly old) (same : IsUnchanged old mid) where
  pub shuts : (new : State) (count : ℕ) → Executes shut [] mid new (Ok count) → IsShutWith (content_of old.now.trees) new
  shuts new count ran =
      let ready = ready_after old mid same order in
      let w = runs_as shut [] mid new log_schema ready.now.schema (naming 102) shut_is shut_plain count ran in
      let is = shut_of mid.step_limit mid.now new.now (statement_of shut (understood log_schema shut)) w.tally ready.now w.changed in
      let trees = shut_trees mid.now new.now ready.now w.sound is in
      record {
        is_open = w.shown.is_open;
        autocommit = w.shown.mode ∙ ready.autocommit;
        schema = is.schema;
        now = subst (λ (d : Database). AreShutTrees (content_of d.trees) new.now.trees) same.0.now_is trees;
        committed = w.shown.committed_is ∙ ap (λ b. cond b mid.committed new.now) ready.autocommit;
      }

  pub shut_commits : (db : Trees) → CommitsBy shut [] mid db → AreShutTrees (content_of old.now.trees) db
  shut_commits db h =
      let ready = ready_after old mid same order in
      elim (commits_as shut shut_plain mid (λ _. ready) same.0.is_open (naming 102) shut_is [] db h) [
        | inl (inl is, same) ↦ absurd (let e = is in cc)
        | inl (inr release, same) ↦ absurd (let e = release.2 in cc)
        | inr writes ↦ (
            let is = shut_of mid.step_limit mid.now writes.2 (statement_of shut (understood log_schema shut)) writes.1 ready.now writes.3 in
            let trees = shut_trees mid.now writes.2 ready.now writes.4 is in
            let as_before : AreShutTrees (content_of old.now.trees) writes.2.trees =
            subst (λ (d : Database). AreShutTrees (content_of d.trees) writes.2.trees) same.0.now_is trees in
            subst (AreShutTrees (content_of old.now.trees)) (sym writes.5) as_before)
      ]

-- its files, once they are closed
pub closed_shut : (old new : State) (image : Image) (c : Content) → content_in old ≡ Some c → IsShutWith (content_of old.now.trees) new
    → HoldsAlone image new.committed.trees → HoldsShut c image
closed_shut old new image c is shut held = elim (cases_Bool old.is_open) [
  | inl on ↦ (
      let same : content_of old.now.trees ≡ c = same_some _ c (rw on at is) in
      record {
        db = new.now.trees;
        held = subst (HoldsAlone image) (ap (λ (d : Database). d.trees) shut.committed) held;
        shut = subst (λ x. AreShutTrees x new.now.trees) same shut.now;
      })
  | inr off ↦ absurd (let none = rw off at is in cc)
]

-- ---- no open takes it

one_version : (v w i k : ℕ) (row : Row) → k < 1 → get_or (version_row v i ∷ []) k row ≡ row → column row 2 ≡ Int (pos w) → w ≡ v
one_version v w i zero row within is number =
    let value : Int (pos v) ≡ Int (pos w) = ap (λ r. column r 2) is ∙ number in
    cc
one_version v w i (suc k) row within is number = absurd (omega (arith, within))

names_one : (v w i : ℕ) (s : State) → HasMetaRow v i s → NamesVersion w s → w ≡ v
names_one v w i s has named =
    let at = subst (λ all. Contains all named.0) has.1 named.1 in
    one_version v w i at.0 named.0 at.1 at.2 named.2

pub shut_is_unknown : (i : ℕ) (s : State) → HasMetaRow 102 i s → NamesKnown s → ⊥
shut_is_unknown i s has (inl first) = let same = names_one 102 1 i s has first in omega (arith, same)
shut_is_unknown i s has (inr second) = let same = names_one 102 2 i s has second in omega (arith, same)

pub shut_unopened : (c : Content) (image : Image) (s new : State) → Opens s → IsLive s → FindsLogIn image s → HoldsShut c image
    → (HasTables s → Prepares s new (Ok tt)) → ⊥
shut_unopened c image s new opens live found shut takes =
    let trees : s.now.trees ≡ shut.db = trees_found image s opens live found shut.db shut.held.both in
    let schema = tables_of image s opens live found log_schema (subst (IsSound log_schema) (sym trees) shut.shut.sound) in
    let has : HasTables s = inr schema in
    shut_is_unknown _ s (has, ap (λ (t : Trees). t 0) trees ∙ shut.shut.rows.meta) ((takes has).version has)

-- ---- it is opened again

pub reopens : (c : Content) (old mid new : State) (count : ℕ) → IsShutWith c old → IsUnchanged old mid → Executes set_version [] mid new (Ok count)
    → IsReadyWith c new
reopens c old mid new count is same ran =
    let shut = is.now in
    let has : mid.now.schema ≡ log_schema = ap (λ (d : Database). d.schema) same.0.now_is ∙ is.schema in
    let at = λ (t : ℕ). ap (λ (d : Database). d.trees t) same.0.now_is in
    let mode = same.0.mode ∙ is.autocommit in
    let w = runs_as set_version [] mid new log_schema has (naming 2) set_version_is set_version_plain count ran in
    let set =
    names 2 102 (content_of shut.log.trees).incarnation mid.step_limit mid.now new.now
    (statement_of set_version (understood log_schema set_version)) w.tally has (at 0 ∙ shut.rows.meta) w.changed in
    let again : Sets (content_of shut.log.trees).incarnation shut.log new.now = record {
      schema = set.schema;
      meta = set.meta;
      decisions = set.decisions ∙ at 1 ∙ shut.rows.decisions;
      heuristics = set.heuristics ∙ at 3 ∙ shut.rows.heuristics;
      participants = set.participants ∙ at 5 ∙ shut.rows.participants;
    } in
    let log = set_content shut.log new.now (content_of shut.log.trees).incarnation shut.is again in
    record {
      is_open = w.shown.is_open;
      ready =
          record { autocommit = w.shown.mode ∙ mode; now = log.0; committed = w.shown.committed_is ∙ ap (λ b. cond b mid.committed new.now) mode };
      content = log.1 ∙ shut.content;
    }

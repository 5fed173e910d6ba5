-- What a crash may leave of a log is a log, and a log is what an open then finds.
use Rattle.std.proofs.Common.{◌≡◌, inl, inr, ap, sym, subst, ◌∙◌, ℕ, IsTrue, OnOk, Result}
use Rattle.sqlite.specs.Effect.{Database, IsDatabase}
use Rattle.sqlite.specs.State.{HasCleanDisk, IsLive, State}
use Rattle.sqlite.specs.Tree.{Trees}
use Rattle.sqlite_catalog.specs.Listing.{IsSound}
use Rattle.sqlite_catalog.proofs.ReadLemmas.{lists_once}
use Rattle.sqlite_trees.specs.Objects.{catalog_tree}
use Rattle.xa_log.specs.Content.{Content, unchanged}
use Rattle.xa_log.specs.Contract.{Changes, Makes, Reads, faults_after}
use Rattle.xa_log.specs.declared.log_fault.LogFault.{LogFault}
use Rattle.xa_sql_log.specs.OpenedDatabase.{IsFoundLog, IsKnownDatabase}
use Rattle.xa_sql_log.specs.Rows.{IsLog}
use Rattle.xa_sql_log.specs.Sql.{AreLogTrees, IsLasting, IsOrderly, IsReadyWith, HasLogTables, MayChange, OnlyReads, content_in, sql_moment}
use Rattle.xa_sql_log.specs.Tables.{log_schema}
use Rattle.xa_log.proofs.Parts.{on_err}

-- a database of a log is its trees
pub as_log : (db : Database) → IsLog db → IsDatabase db → AreLogTrees db.trees
as_log db is sound =
    let same : db ≡ record { schema = log_schema; trees = db.trees } = λ i. record { schema = is.schema i; trees = db.trees } in
    record { sound = subst (λ s. IsSound s db.trees) is.schema sound; log = subst IsLog same is }

lasts_reading : (old new : State) → OnlyReads old new → IsLasting old → IsLasting new
lasts_reading old new reads lasts = record {
  order = reads.order lasts.order;
  leaves = λ clean db h. elim (reads.logs lasts.order clean db h) [ inl was ↦ lasts.leaves (reads.honest clean) db was | inr is ↦ is ];
}

lasts_changing : (change : Content → Content) (old new : State) → MayChange change old new → IsLasting old → IsLasting new
lasts_changing change old new may lasts = record {
  order = may.order lasts.order;
  leaves = λ clean db h. elim (may.logs lasts.order clean db h) [ inl was ↦ lasts.leaves (may.honest clean) db was | inr is ↦ is ];
}

-- A log that is ready lasts: its rows obey the tables, and while it is open a crash leaves the last commit alone.
pub ready_lasts : (s : State) → IsLive s → ((db : Trees) → IsTrue s.is_open → s.may_leave db → db ≡ s.committed.trees)
    → (IsTrue s.is_open → HasCleanDisk s) → (HasCleanDisk s → (c : Content) × IsReadyWith c s) → IsLasting s
ready_lasts s live settled opened ready = record {
  order = λ is_open. (ready (opened is_open)).1.ready;
  leaves = λ clean db left.
      let is = (ready clean).1 in
      let same : db ≡ s.now.trees = settled db is.is_open left ∙ ap (λ (d : Database). d.trees) is.ready.committed in
      subst AreLogTrees (sym same) (as_log s.now is.ready.now (live is.is_open).0);
}

-- only a log of which the disk is clean is open, or leaves anything
pub lasts_if_clean : (s : State) → (IsTrue s.is_open → HasCleanDisk s) → (HasCleanDisk s → IsLasting s) → IsLasting s
lasts_if_clean s opened lasts = record { order = λ is_open. (lasts (opened is_open)).order is_open; leaves = λ clean. (lasts clean).leaves clean }

-- ** what a log says of a call on its connection

pub log_reads : {A : Type 0} (old new : State) (n m : ℕ) (r : Result A LogFault) → OnlyReads old new
    → (IsOrderly old → HasCleanDisk new → OnOk r (Makes unchanged (content_in old) (content_in new)))
    → m ≡ faults_after r n → Reads (sql_moment old n) (sql_moment new m) r
log_reads old new n m r reads ok faults = record {
  ok = λ lasts. ok lasts.order;
  err = λ lasts. on_err r _ (reads.kept lasts.order);
  crash = λ lasts. reads.crash lasts.order;
  order = lasts_reading old new reads;
  honest = reads.honest;
  faults = faults;
}

pub log_changes : {A : Type 0} (change : Content → Content) (old new : State) (n m : ℕ) (r : Result A LogFault) → MayChange change old new
    → (IsOrderly old → HasCleanDisk new → OnOk r (Makes change (content_in old) (content_in new)))
    → m ≡ faults_after r n → Changes change (sql_moment old n) (sql_moment new m) r
log_changes change old new n m r may ok faults = record {
  ok = λ lasts. ok lasts.order;
  err = λ lasts. on_err r _ (may.kept lasts.order);
  crash = λ lasts. may.crash lasts.order;
  order = lasts_changing change old new may;
  honest = may.honest;
  faults = faults;
}

-- the trees tell their tables, so an open finds those of the log
pub found_ready : (s : State) → IsFoundLog s → HasLogTables s
found_ready s is =
    let tables = lists_once (s.now.trees catalog_tree) s.now.schema log_schema (is.live is.opens.is_open).0.lists is.log.sound.lists in
    let same : record { schema = log_schema; trees = s.now.trees } ≡ s.now = λ i. record { schema = sym tables i; trees = s.now.trees } in
    record { autocommit = is.opens.autocommit; now = subst IsLog same is.log.log; committed = sym is.opens.clean }

-- so it is kept as a log of version 2 is, and refused for no other reasons
pub found_kept : {P : Type 0} (s : State) → (s.now.schema ≡ log_schema → IsOrderly s → P) → IsFoundLog s → P
found_kept s kept is = let ready = found_ready s is in kept ready.now.schema (λ _. ready)

pub found_known : {P : Type 0} (s : State) → (IsKnownDatabase s → P) → IsFoundLog s → P
found_known s known is = known (inr (inr (found_ready s is)))

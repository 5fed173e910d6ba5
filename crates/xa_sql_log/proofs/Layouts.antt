-- Which tables each version has, and what a look at them leaves.
use Rattle.std.proofs.Common.{◌≡◌, refl, is_some, codes, true, false, IsTrue, inl, inr, sym, subst, ◌∙◌}
use Rattle.sqlite_schema.specs.Names.{table_named}
use Rattle.sqlite_tied.specs.Compute.{everything}
use Rattle.sqlite.specs.State.{State, IsUnchanged}
use Rattle.xa_sql_log.specs.Layouts.{layout_in}
use Rattle.xa_sql_log.specs.Tables.{no_tables, old_schema, log_schema}
use Rattle.xa_sql_log.specs.declared.layout.Layout.TheVariants.{Missing, Version1, Version2}
use Rattle.xa_sql_log.specs.Rows.{IsOldLog, content_of, old_content_of}
use Rattle.xa_sql_log.specs.OpenedDatabase.{HasMetaRow}
use Rattle.xa_sql_log.specs.PreparedDatabase.{IsUntouched, LeavesSame}
use Rattle.xa_sql_log.specs.Sql.{IsOldReady, HasLogTables, IsShutOrAsBefore, Rests}

-- a blank database has no table of a log, and the tables of each version are known for it
pub layout_of_none : layout_in no_tables ≡ Missing
unfolding everything layout_in
layout_of_none = refl

pub layout_of_old : layout_in old_schema ≡ Version1
unfolding everything layout_in
layout_of_old = refl

pub layout_of_log : layout_in log_schema ≡ Version2
unfolding everything layout_in
layout_of_log = refl

pub meta_in_old : is_some (table_named old_schema (codes "tm_meta")) ≡ true
unfolding everything
meta_in_old = refl

pub no_participant_in_old : is_some (table_named old_schema (codes "participant")) ≡ false
unfolding everything
no_participant_in_old = refl

pub participant_in_log : is_some (table_named log_schema (codes "participant")) ≡ true
unfolding everything
participant_in_log = refl

pub old_ready_after : (a b : State) → IsUnchanged a b → IsOldReady a → IsOldReady b
old_ready_after a b same is = record {
  is_open = same.0.is_open;
  now = subst IsOldLog (sym same.0.now_is) is.now;
  committed = same.0.committed_is ∙ is.committed ∙ sym same.0.now_is;
}

-- outside a transaction nothing waits for a commit
pub rests_undone : (a b : State) → (IsTrue a.is_open → a.now ≡ a.committed) → a.in_transaction ≡ false → Rests a b → IsShutOrAsBefore a b
rests_undone a b settled mode (inl same) = record {
  was_open = λ _. same.0.was_open;
  undone = λ _. (same.0.now_is ∙ settled same.0.was_open, same.0.committed_is);
  autocommit = same.0.mode ∙ mode;
}
rests_undone a b settled mode (inr undone) = record { was_open = undone.was_open; undone = undone.undone; autocommit = undone.autocommit }

pub rests_untouched : (a b : State) → (IsTrue a.is_open → a.now ≡ a.committed) → a.in_transaction ≡ false
    → Rests a b × LeavesSame a b → IsUntouched a b
rests_untouched a b settled mode left = record { undone = rests_undone a b settled mode left.0; crash = left.1 }

-- a log of version 1 has the row of one
pub named_first : (s : State) → IsOldReady s → HasMetaRow 1 (old_content_of s.now.trees).incarnation s
named_first s is = (inl is.now.schema, is.now.meta)

pub named_second : (s : State) → HasLogTables s → HasMetaRow 2 (content_of s.now.trees).incarnation s
named_second s is = (inr is.now.schema, is.now.meta)

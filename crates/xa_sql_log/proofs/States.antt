-- What a statement leaves of a log, whichever it is.
use Rattle.std.proofs.Common.{◌≡◌, ◌⊎◌, inl, inr, ℕ, List, [], Bool, true, false, cond, Option, Some, None, Err, IsTrue, IsSomeAnd, refl, sym, ap, subst, subst₂, ◌∙◌, arith, append-nil}
use Rattle.std.proofs.lemmas.Bool.{cases_Bool, true≢false}
use Rattle.sqlite_trees.specs.View.{doubt}
use Rattle.sqlite_trees.proofs.Doubt.{no_doubt}
use Rattle.sqlite.specs.Order.{Row}
use Rattle.sqlite.specs.Tree.{Trees}
use Rattle.sqlite.specs.Command.{Command}
use Rattle.sqlite.specs.Effect.{Database}
use Rattle.sqlite.specs.Listing.{understood}
use Rattle.sqlite.specs.Clock.{timed}
use Rattle.sqlite.specs.declared.error.Error.{Error}
use Rattle.sqlite_schema.specs.declared.command.Returning.{Returning}
use Rattle.sqlite_resolve.specs.declared.compiled.Compiled.{Compiled}
use Rattle.sqlite.specs.State.{State, HasCleanDisk, Survives, Shows, IsUnchanged, RunsCommand, IsNotRun, ExecutesIn, Executes, CommitsBy, CommitsShowing, MayCommit, FailsToShow, FailsToQuery, Shown, ShowsRows, shows_rows}
use Rattle.sqlite.proofs.Callers.{IsPlain, command_of, statement_of, never_commits}
use Rattle.xa_log.specs.Content.{Content}
use Rattle.xa_log.specs.Contract.{Makes, MayMake}
use Rattle.xa_sql_log.specs.Tables.{log_schema}
use Rattle.xa_sql_log.specs.Rows.{IsLog, content_of}
use Rattle.xa_sql_log.specs.Sql.{HasLogTables, IsOrderly, content_in, OnlyReads, MayChange, Rests}

pub rests_not_run : (old new : State) (sql : List ℕ) (params : Row) (e : Error) → IsNotRun old new sql params e → Rests old new
unfolding IsNotRun
rests_not_run old new sql params e (inl h) = inl h.1
rests_not_run old new sql params e (inr h) = inr h.3

rests_command : (old new : State) (sql : List ℕ) (c : Compiled) (params : Row) (e : Error) → RunsCommand old new sql c params (Err e) → Rests old new
rests_command old new sql c params e (inl h) = inl h.1
rests_command old new sql c params e (inr h) = inr h.3

rests_show : (old new : State) (sql : List ℕ) (c : Compiled) (params : Row) (e : Error) (r : Option Returning)
    → FailsToShow old new sql c params e r → Rests old new
rests_show old new sql c params e None h = inl h.3
rests_show old new sql c params e (Some what) h = rests_command old new sql c params e h

pub rests_query : (sql : List ℕ) (params : Row) (old new : State) (e : Error) → FailsToQuery sql params old new e → Rests old new
unfolding FailsToQuery
rests_query sql params old new e (inl h) = rests_not_run old new sql params e h
rests_query sql params old new e (inr h) = rests_show old new sql h.0 _ e _ h.2

pub rests_execute : (sql : List ℕ) (params : Row) (old new : State) (e : Error) → Executes sql params old new (Err e) → Rests old new
unfolding ExecutesIn
rests_execute sql params old new e (inl h) = rests_not_run old new sql params e h
rests_execute sql params old new e (inr h) = elim (cases_Bool (shows_rows false h.0)) [
  | inl shows ↦ inl (rw shows at h.2).1
  | inr runs ↦ rests_command old new sql h.0 _ e (rw runs at h.2)
]

-- ---- a log after a statement that rests

module _ (old new : State) where
  was_open : Rests old new → IsTrue new.is_open → IsTrue old.is_open
  was_open (inl same) h = same.0.was_open
  was_open (inr undone) h = undone.was_open h

  rests_now : Rests old new → HasLogTables old → IsTrue new.is_open → (new.now ≡ old.now) × (new.committed ≡ old.now) × (new.in_transaction ≡ false)
  rests_now (inl same) ready h = (same.0.now_is, same.0.committed_is ∙ ready.committed, same.0.mode ∙ ready.autocommit)
  rests_now (inr undone) ready h = ((undone.undone h).0 ∙ ready.committed, (undone.undone h).1 ∙ ready.committed, undone.autocommit)

  ready_as : (db : Database) → IsLog db → (new.now ≡ db) × (new.committed ≡ db) × (new.in_transaction ≡ false) → HasLogTables new
  ready_as db is h = record { autocommit = h.2; now = subst IsLog (sym h.0) is; committed = h.1 ∙ sym h.0 }

  pub rests_order : (IsTrue new.is_open → Rests old new) → IsOrderly old → IsOrderly new
  rests_order rests order h =
      let ready = order (was_open (rests h) h) in
      ready_as old.now ready.now (rests_now (rests h) ready h)

  pub rests_content : (IsTrue new.is_open → Rests old new) → IsOrderly old → (content_in new ≡ None) ⊎ (content_in new ≡ content_in old)
  rests_content rests order = elim (cases_Bool new.is_open) [
    | inl is_open ↦ (
        let ready = order (was_open (rests is_open) is_open) in
        let now = (rests_now (rests is_open) ready is_open).0 in
        let was : old.is_open ≡ true = was_open (rests is_open) is_open in
        inr (rw (is_open, was) (ap (λ (d : Database). Some (content_of d.trees)) now)))
    | inr shut ↦ inl (rw shut refl)
  ]

pub record Did (change : Content → Content) (old new : State) : Type 0 where
  pub was_open : IsTrue old.is_open
  pub is_open : IsTrue new.is_open
  pub ready : HasLogTables new
  pub content : content_of new.now.trees ≡ change (content_of old.now.trees)

-- a write outside a transaction, by what the connection shows
pub wrote : (change : Content → Content) (old new : State) → HasLogTables old
    → Shows old new new.now (cond old.in_transaction old.committed new.now) old.in_transaction → IsLog new.now
    → content_of new.now.trees ≡ change (content_of old.now.trees) → Did change old new
wrote change old new ready shown is content = record {
  was_open = shown.was_open;
  is_open = shown.is_open;
  ready =
      record { autocommit = shown.mode ∙ ready.autocommit; now = is; committed = shown.committed_is ∙ ap (λ b. cond b old.committed new.now) ready.autocommit };
  content = content;
}

-- an open store is clean
pub opened_clean : (is_clean is_open : Bool) → (is_clean ≡ false → is_open ≡ false) → IsTrue is_open → doubt is_clean ≡ 0
opened_clean true is_open dirty h = no_doubt true refl
opened_clean false is_open dirty h = absurd (true≢false (sym h ∙ dirty refl))

pub did_makes : (change : Content → Content) (old new : State) → Did change old new → Makes change (content_in old) (content_in new)
did_makes change old new made =
    let was : old.is_open ≡ true = made.was_open in
    let is : new.is_open ≡ true = made.is_open in
    rw (was, is) (ap Some made.content)

-- what a call leaves that did nothing or undid the transaction, and commits nothing
module _ (old new : State) (P : Trees → Type 0) (opened : IsTrue new.is_open → HasCleanDisk new) (survives : Survives old new P) where
  pub reads_by : (IsOrderly old → HasCleanDisk new → Rests old new) → (IsOrderly old → HasCleanDisk new → (db : Trees) → P db → ⊥) → OnlyReads old new
  reads_by rests none = record {
    honest = λ clean. omega (arith, survives.clean);
    order = λ order. rests_order old new (λ h. rests order (opened h)) order;
    kept = λ order. rests_content old new (λ h. rests order (opened h)) order;
    crash = λ order clean c h. elim (survives.crash clean h.0 h.1) [ inl was ↦ (h.0, was, h.2) | inr commits ↦ absurd (none order clean h.0 commits) ];
    logs = λ order clean db h. elim (survives.crash clean db h) [ inl was ↦ inl was | inr commits ↦ absurd (none order clean db commits) ];
  }

-- ---- the log is open, so the text means what it means over the log's tables

module _ (sql : List ℕ) (plain : IsPlain (understood log_schema sql)) (old : State) (order : IsOrderly old) (is_open : IsTrue old.is_open) where
  plain_now : IsPlain (understood old.now.schema sql)
  plain_now = subst (λ s. IsPlain (understood s sql)) (sym (order is_open).now.schema) plain

  pub shows_rests : (params : Row) (new : State) (rows : List Row) → Shown sql params old new rows → IsUnchanged old new
  unfolding Shown
  shows_rests params new rows h =
      let none = (subst IsPlain h.1.is plain_now).0 in
      (subst (ShowsRows old new sql h.0 (timed params h.0.formats h.1.now) rows) none h.2).3

  pub commits_nothing : (params : Row) (db : Trees) → CommitsShowing sql params old db → ⊥
  commits_nothing params db h = never_commits sql params old db plain_now h

  pub commits_as : (command : Command) → command_of (understood log_schema sql) ≡ command → (params : Row) (db : Trees) → CommitsBy sql params old db
      → MayCommit old None command (statement_of sql (understood log_schema sql)) params db
  unfolding CommitsBy
  commits_as command is params db h =
      let known = sym h.1.is ∙ ap (λ s. understood s sql) (order is_open).now.schema in
      let bare = subst IsPlain (sym known) plain in
      subst₂ (λ k t. MayCommit old None k t params db) (ap command_of known ∙ is) (ap (statement_of sql) known) (rw (bare.0, bare.1, append-nil params) at h.2)

-- ---- calls in turn

module _ (a b c : State) where
  pub reads_then : OnlyReads a b → OnlyReads b c → OnlyReads a c
  reads_then p q = record {
    honest = λ clean. p.honest (q.honest clean);
    order = λ order. q.order (p.order order);
    kept = λ order. elim (q.kept (p.order order)) [
      | inl shut ↦ inl shut
      | inr same ↦ elim (p.kept order) [ inl shut ↦ inl (same ∙ shut) | inr first ↦ inr (same ∙ first) ]
    ];
    crash = λ order clean x h. p.crash order (q.honest clean) x (q.crash (p.order order) clean x h);
    logs = λ order clean db h. elim (q.logs (p.order order) clean db h) [ inl was ↦ p.logs order (q.honest clean) db was | inr is ↦ inr is ];
  }

  pub changes_then : (change : Content → Content) → OnlyReads a b → MayChange change b c → MayChange change a c
  changes_then change p q = record {
    honest = λ clean. p.honest (q.honest clean);
    order = λ order. q.order (p.order order);
    kept = λ order. elim (p.kept order) [
      | inl shut ↦ elim (q.kept (p.order order)) [
        | inl none ↦ inl none
        | inr (inl same) ↦ inl (same ∙ shut)
        | inr (inr made) ↦ absurd (subst (λ o. IsSomeAnd o (λ x. content_in c ≡ Some (change x))) shut made)
      ]
      | inr same ↦ subst (λ o. MayMake change o (content_in c)) same (q.kept (p.order order))
    ];
    crash = λ order clean x h. elim (q.crash (p.order order) clean x h) [
      | inl was ↦ inl (p.crash order (q.honest clean) x was)
      | inr made ↦ elim (p.kept order) [
        | inl shut ↦ absurd (subst (λ o. IsSomeAnd o (λ y. x ≡ change y)) shut made)
        | inr same ↦ inr (subst (λ o. IsSomeAnd o (λ y. x ≡ change y)) same made)
      ]
    ];
    logs = λ order clean db h. elim (q.logs (p.order order) clean db h) [ inl was ↦ p.logs order (q.honest clean) db was | inr is ↦ inr is ];
  }

-- ---- a statement is prepared

module _ (old new : State) (opened : IsTrue new.is_open → HasCleanDisk new) (survives : Survives old new (λ _. ⊥)) where
  pub prepare_reads : (HasCleanDisk new → IsUnchanged old new) → OnlyReads old new
  prepare_reads same = reads_by old new (λ _. ⊥) opened survives (λ _ clean. inl (same clean)) (λ _ _ _ none. none)

  pub refused_reads : (sql : List ℕ) (e : Error) → (HasCleanDisk new → (params : Row) → IsNotRun old new sql params e) → OnlyReads old new
  refused_reads sql e not_run = reads_by old new (λ _. ⊥) opened survives (λ _ clean. rests_not_run old new sql [] e (not_run clean [])) (λ _ _ _ none. none)

-- a query of a statement that was prepared
module _ (sql text : List ℕ) (plain : IsPlain (understood log_schema sql)) (params : Row) (old new : State) (opened : IsTrue new.is_open → HasCleanDisk new)
    (live : HasCleanDisk old → (text ≡ sql) × IsTrue old.is_open) (survives : Survives old new (CommitsShowing text params old)) where
  was_clean : HasCleanDisk new → HasCleanDisk old
  was_clean clean = omega (arith, survives.clean)

  nothing_new : IsOrderly old → HasCleanDisk new → (db : Trees) → CommitsShowing text params old db → ⊥
  nothing_new order clean db h =
      let l = live (was_clean clean) in commits_nothing sql plain old order l.1 params db (subst (λ t. CommitsShowing t params old db) l.0 h)

  pub asked : (rows : List Row) → (HasCleanDisk new → Shown text params old new rows) → IsOrderly old → HasCleanDisk new
      → Shown sql params old new rows × IsUnchanged old new
  asked rows shown order clean =
      let l = live (was_clean clean) in
      let here = subst (λ t. Shown t params old new rows) l.0 (shown clean) in
      (here, shows_rests sql plain old order l.1 params new rows here)

  pub asked_reads : (rows : List Row) → (HasCleanDisk new → Shown text params old new rows) → OnlyReads old new
  asked_reads rows shown = reads_by old new _ opened survives (λ order clean. inl (asked rows shown order clean).1) nothing_new

  pub failed_reads : (e : Error) → (HasCleanDisk new → FailsToQuery text params old new e) → OnlyReads old new
  failed_reads e fails = reads_by old new _ opened survives (λ order clean. rests_query text params old new e (fails clean)) nothing_new

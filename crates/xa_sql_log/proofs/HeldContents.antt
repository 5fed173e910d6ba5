-- What an open finds in files that hold a log, or nothing, and what the log that takes it holds then.
use Rattle.std.proofs.Common.{◌≡◌, ◌≢◌, ◌⊎◌, inl, inr, refl, false, is_some, codes, Ok, Some, ap, sym, subst, ◌∙◌, arith, length, ℕ, List, [], ◌∷◌}
use Rattle.std.proofs.Math.Logic.{∥∥₁_elim}
use Rattle.std.proofs.lemmas.Bool.{true≢false}
use Rattle.sqlite.specs.Files.{HoldsDatabase}
use Rattle.sqlite.specs.Recovery.{Image}
use Rattle.sqlite.specs.State.{State, IsLive, Opens}
use Rattle.sqlite.specs.Tree.{Trees}
use Rattle.sqlite.proofs.ListingLemmas.{empty_is_sound}
use Rattle.sqlite_catalog.proofs.ReadLemmas.{lists_once}
use Rattle.sqlite_catalog.specs.Listing.{IsSound}
use Rattle.sqlite_schema.specs.Names.{table_named}
use Rattle.sqlite_schema.specs.declared.schema.Schema.{Schema}
use Rattle.sqlite_tied.specs.Compute.{everything}
use Rattle.sqlite_trees.specs.Objects.{catalog_tree}
use Rattle.sqlite_trees.specs.Props.{Trees-set}
use Rattle.xa_log.specs.Content.{Content, nothing}
use Rattle.xa_sql_log.proofs.Closing.{ready_content}
use Rattle.xa_sql_log.proofs.FoundDatabase.{none_found}
use Rattle.xa_sql_log.proofs.Layouts.{meta_in_old, participant_in_log}
use Rattle.xa_sql_log.specs.FoundFiles.{FindsLogIn}
use Rattle.xa_sql_log.specs.HeldContents.{AreTreesOf, HoldsContent, MakesLabelled}
use Rattle.xa_sql_log.specs.Labels.{MakesParticipants, labelled}
use Rattle.xa_sql_log.specs.OpenedDatabase.{AreAnyLogTrees, AreOldLogTrees, HasTables, HoldsLog, IsBlank, IsFoundLog, IsKnownDatabase}
use Rattle.xa_sql_log.specs.PreparedDatabase.{Prepares}
use Rattle.xa_sql_log.specs.Rows.{IsOldLog, content_of, old_content_of}
use Rattle.xa_sql_log.specs.Sql.{AreLogTrees, IsOldReady, IsReadyWith, content_in}
use Rattle.xa_sql_log.specs.Tables.{log_schema, no_tables, old_schema}

no_meta : is_some (table_named no_tables (codes "tm_meta")) ≡ false
unfolding everything
no_meta = refl

no_participant : is_some (table_named no_tables (codes "participant")) ≡ false
unfolding everything
no_participant = refl

-- a database without tables has none of a log
pub blank_has_none : (s : State) → IsBlank s → HasTables s → ⊥
blank_has_none s blank (inl old) =
    true≢false (sym meta_in_old ∙ ap (λ t. is_some (table_named t (codes "tm_meta"))) (sym old ∙ blank) ∙ no_meta)
blank_has_none s blank (inr log) =
    true≢false (sym participant_in_log ∙ ap (λ t. is_some (table_named t (codes "participant"))) (sym log ∙ blank) ∙ no_participant)

cons_is_not_nil : (b : ℕ) (bs : List ℕ) → b ∷ bs ≡ [] → ⊥
cons_is_not_nil b bs is = let longer : length (b ∷ bs) ≡ 0 = ap length is in omega (arith, longer)

-- a log takes what a label was put on: an empty log with it, or what was there
pub known_labelled : (label : List ℕ) (old new : State) → ((label ≡ []) ⊎ HasTables old → new ≡ old)
    → (label ≢ [] → IsBlank old → IsReadyWith nothing new) → IsKnownDatabase old → IsKnownDatabase new
known_labelled [] old new kept made known = subst IsKnownDatabase (sym (kept (inl refl))) known
known_labelled (c ∷ label) old new kept made (inl blank) = inr (inr (made (cons_is_not_nil c label) blank).ready)
known_labelled (c ∷ label) old new kept made (inr (inl is)) =
    subst IsKnownDatabase (sym (kept (inr (inl is.now.schema)))) (inr (inl is))
known_labelled (c ∷ label) old new kept made (inr (inr is)) =
    subst IsKnownDatabase (sym (kept (inr (inr is.now.schema)))) (inr (inr is))

-- an empty log stays one
pub stays_nothing : (old new : State) → IsReadyWith nothing old → Prepares old new (Ok tt) → IsReadyWith nothing new
stays_nothing old new ready taken =
    subst (λ c. IsReadyWith c new) ready.content (taken.kept ready.ready.now.schema (λ _. ready.ready))

module _ (image : Image) (s : State) (opens : Opens s) (live : IsLive s) (found : FindsLogIn image s) where
  pub tables_of : (schema : Schema) → IsSound schema s.now.trees → s.now.schema ≡ schema
  tables_of schema sound = lists_once (s.now.trees catalog_tree) s.now.schema schema (live opens.is_open).0.lists sound.lists

  trees_now : s.now.trees ≡ s.committed.trees
  trees_now = λ i. (opens.clean i).trees

  pub blank_found : length image.db ≡ 0 → IsBlank s
  blank_found none =
      let empty = none_found image s.committed.trees none found.reads in
      tables_of no_tables (subst (IsSound no_tables) (sym trees_now) (empty_is_sound s.committed.trees empty.1))

  module _ (db : Trees) (held : ∥ HoldsDatabase image db ∥₁) where
    pub trees_found : s.now.trees ≡ db
    trees_found = trees_now ∙ ∥∥₁_elim held (Trees-set _ _) (found.holds db)

    old_tables : AreOldLogTrees db → s.now.schema ≡ old_schema
    old_tables old = tables_of old_schema (subst (IsSound old_schema) (sym trees_found) old.sound)

    old_found : AreOldLogTrees db → IsOldReady s
    old_found old =
        let same : record { schema = old_schema; trees = db } ≡ s.now = λ i. record { schema = sym (old_tables old) i; trees = sym trees_found i } in
        record { is_open = opens.is_open; now = subst IsOldLog same old.log; committed = sym opens.clean }

    pub tables_found : AreAnyLogTrees db → HasTables s
    tables_found (inl old) = inl (old_tables old)
    tables_found (inr log) = inr (tables_of log_schema (subst (IsSound log_schema) (sym trees_found) log.sound))

    pub any_log : (c : Content) → AreTreesOf c db → AreAnyLogTrees db
    any_log c (inl old) = inl old.0
    any_log c (inr log) = inr log.0

    -- the log that takes it holds what the files held
    pub content_found : (c : Content) → AreTreesOf c db → (new : State) → Prepares s new (Ok tt) → content_in new ≡ Some c
    content_found c (inl (old, is)) new taken =
        ready_content _ new (taken.migrated (old_found old)) ∙ ap (λ d. Some (old_content_of d)) trees_found ∙ ap Some is
    content_found c (inr (log, is)) new taken =
        let whole : IsFoundLog s = record { opens = opens; live = live; log = subst AreLogTrees (sym trees_found) log } in
        ready_content _ new (taken.found whole) ∙ ap (λ d. Some (content_of d)) trees_found ∙ ap Some is

  -- where a log has to be made with a label, its text is known to make the table
  pub makes_found : HoldsLog image → (label : List ℕ) → MakesLabelled label image → label ≢ [] → IsBlank s → MakesParticipants (labelled label)
  makes_found holds [] makes named blank = absurd (named refl)
  makes_found (inl none) (c ∷ label) makes named blank = makes none
  makes_found (inr held) (c ∷ label) makes named blank = absurd (blank_has_none s blank (tables_found held.0 held.1 held.2))

  -- without a label, or beside tables, the database is taken as it is; a blank one may get a label
  pub content_held : (c : Content) → HoldsContent c image → (label : List ℕ) → MakesLabelled label image → (new : State)
      → ((label ≡ []) ⊎ HasTables s → Prepares s new (Ok tt))
      → (label ≢ [] → IsBlank s → MakesParticipants (labelled label) → IsReadyWith nothing new) → content_in new ≡ Some c
  content_held c (inl (none, is)) [] makes new kept made =
      ready_content _ new ((kept (inl refl)).made (blank_found none)) ∙ ap Some (sym is)
  content_held c (inl (none, is)) (b ∷ label) makes new kept made =
      ready_content _ new (made (cons_is_not_nil b label) (blank_found none) (makes none)) ∙ ap Some (sym is)
  content_held c (inr (db, held, are)) label makes new kept made =
      content_found db held c are new (kept (inr (tables_found db held (any_log db held c are))))

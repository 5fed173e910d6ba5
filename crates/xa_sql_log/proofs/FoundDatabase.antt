-- What an open finds in files that hold a log, or nothing, is a database that a log knows.
use Rattle.std.proofs.Common.{◌≡◌, inl, inr, sym, subst, ◌∙◌, arith, length, refl}
use Rattle.std.proofs.Math.Logic.{∥∥₁_elim}
use Rattle.sqlite.specs.Files.{IsEmpty}
use Rattle.sqlite.specs.Recovery.{Image}
use Rattle.sqlite.specs.State.{State, IsLive, Opens}
use Rattle.sqlite.specs.Tree.{Trees}
use Rattle.sqlite.proofs.ListingLemmas.{empty_is_sound}
use Rattle.sqlite_catalog.proofs.ReadLemmas.{lists_once}
use Rattle.sqlite_catalog.specs.Listing.{IsSound}
use Rattle.sqlite_schema.specs.declared.schema.Schema.{Schema}
use Rattle.sqlite_trees.specs.Objects.{catalog_tree}
use Rattle.sqlite_trees.specs.Props.{Trees-set}
use Rattle.xa_sql_log.specs.FoundFiles.{FindsLogIn, IsFoundIn}
use Rattle.xa_sql_log.specs.OpenedDatabase.{AreAnyLogTrees, HoldsLog, HoldsLogOrNothing, IsKnownDatabase}
use Rattle.xa_sql_log.specs.Rows.{IsOldLog}
use Rattle.xa_sql_log.specs.Tables.{old_schema}
use Rattle.xa_sql_log.specs.Sql.{AreLogTrees}
use Rattle.xa_sql_log.proofs.Lasting.{found_ready}

-- an open of an empty file finds no table
pub none_found : (image : Image) (db : Trees) → length image.db ≡ 0 → IsFoundIn image db → IsEmpty db
none_found image db none (inl (inl it)) = absurd (let adopts = it.3 in omega (arith, none, adopts.found.present))
none_found image db none (inl (inr it)) = it.1
none_found image db none (inr it) = it.1

module _ (s : State) (opens : Opens s) (live : IsLive s) where
  tables_of : (schema : Schema) → IsSound schema s.now.trees → s.now.schema ≡ schema
  tables_of schema sound = lists_once (s.now.trees catalog_tree) s.now.schema schema (live opens.is_open).0.lists sound.lists

  trees_now : (db : Trees) → s.committed.trees ≡ db → s.now.trees ≡ db
  trees_now db is = let same : s.now.trees ≡ s.committed.trees = λ i. (opens.clean i).trees in same ∙ is

  known_log : (db : Trees) → s.committed.trees ≡ db → AreAnyLogTrees db → IsKnownDatabase s
  known_log db is (inl old) =
      let here = sym (trees_now db is) in
      let tables = tables_of old_schema (subst (IsSound old_schema) here old.sound) in
      let same : record { schema = old_schema; trees = db } ≡ s.now = λ i. record { schema = sym tables i; trees = here i } in
      inr (inl (record { is_open = opens.is_open; now = subst IsOldLog same old.log; committed = sym opens.clean }))
  known_log db is (inr log) =
      inr (inr (found_ready s (record { opens = opens; live = live; log = subst AreLogTrees (sym (trees_now db is)) log })))

  known_empty : (db : Trees) → s.committed.trees ≡ db → IsEmpty db → IsKnownDatabase s
  known_empty db is empty = inl (tables_of _ (subst (IsSound _) (sym (trees_now db is)) (empty_is_sound db empty.1)))

  pub known_found : (image : Image) → FindsLogIn image s → HoldsLogOrNothing image → IsKnownDatabase s
  known_found image found log = elim (log s.committed.trees found.reads) [ inl empty ↦ known_empty _ refl empty | inr is ↦ known_log _ refl is ]

  pub known_held : (image : Image) → FindsLogIn image s → HoldsLog image → IsKnownDatabase s
  known_held image found (inl none) = known_empty _ refl (none_found image s.committed.trees none found.reads)
  known_held image found (inr held) = known_log held.0 (∥∥₁_elim held.1 (Trees-set _ _) (found.holds held.0)) held.2

-- The files of a log that is closed hold it, and who opens them finds it.
use Rattle.std.proofs.Common.{◌≡◌, inr, true, Ok, Some, IsTrue, ap, sym, subst, ◌∙◌}
use Rattle.std.proofs.Math.Logic.{∥∥₁_elim}
use Rattle.sqlite.specs.Closing.{HoldsAlone}
use Rattle.sqlite.specs.Effect.{Database}
use Rattle.sqlite.specs.Recovery.{Image}
use Rattle.sqlite.specs.State.{State, IsLive, Opens}
use Rattle.sqlite_trees.specs.Props.{Trees-set}
use Rattle.xa_log.specs.Content.{Content}
use Rattle.xa_sql_log.proofs.Lasting.{as_log}
use Rattle.xa_sql_log.specs.ClosedFiles.{HoldsWhole}
use Rattle.xa_sql_log.specs.FoundFiles.{FindsLogIn}
use Rattle.xa_sql_log.specs.OpenedDatabase.{HoldsLog}
use Rattle.xa_sql_log.specs.PreparedDatabase.{Prepares}
use Rattle.xa_sql_log.specs.Rows.{content_of}
use Rattle.xa_sql_log.specs.Sql.{AreLogTrees, IsLasting, IsReadyWith, content_in}

pub same_some : (x c : Content) → Some x ≡ Some c → x ≡ c
same_some x c is = let same : x ≡ c = cc in same

pub closed_whole : (s : State) (image : Image) (c : Content) → IsLive s → IsLasting s → IsTrue s.is_open
    → HoldsAlone image s.committed.trees → content_in s ≡ Some c → HoldsWhole c image
closed_whole s image c live lasts is_open held is =
    let tables = lasts.order is_open in
    let same : s.committed.trees ≡ s.now.trees = ap (λ (d : Database). d.trees) tables.committed in
    let is_on : s.is_open ≡ true = is_open in
    record {
      db = s.now.trees;
      held = subst (HoldsAlone image) same held;
      log = as_log s.now tables.now (live is_open).0;
      content = same_some (content_of s.now.trees) c (rw is_on at is);
    }

pub whole_holds : (c : Content) (image : Image) → HoldsWhole c image → HoldsLog image
whole_holds c image whole = inr (whole.db, whole.held.both, inr whole.log)

pub ready_content : (c : Content) (s : State) → IsReadyWith c s → content_in s ≡ Some c
ready_content c s ready = let is_on : s.is_open ≡ true = ready.is_open in rw is_on (ap Some ready.content)

pub found_whole : (c : Content) (image : Image) (was new : State) → Opens was → IsLive was → FindsLogIn image was → HoldsWhole c image
    → Prepares was new (Ok tt) → content_in new ≡ Some c
found_whole c image was new opens live found whole taken =
    let held : was.committed.trees ≡ whole.db = ∥∥₁_elim whole.held.both (Trees-set _ _) (found.holds whole.db) in
    let clean : was.now.trees ≡ was.committed.trees = λ i. (opens.clean i).trees in
    let now : was.now.trees ≡ whole.db = clean ∙ held in
    let log : AreLogTrees was.now.trees = subst AreLogTrees (sym now) whole.log in
    let ready = taken.found (record { opens = opens; live = live; log = log }) in
    ready_content _ new ready ∙ ap (λ db. Some (content_of db)) now ∙ ap Some whole.content

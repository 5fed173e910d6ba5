use Rattle.std.proofs.Common.{Ok, Err, Result, IfOk, false, subst, sym}
use Rattle.sqlite.proofs.FileLemmas.{same_image}
use Rattle.sqlite.specs.Files.{IsBlankAs, file_state}
use Rattle.sqlite_wal.proofs.CleanLemmas.{both_clean}
use Rattle.xa_log.proofs.Parts.{if_ok}
use Rattle.xa_sql_log.proofs.UnmadeFiles.{finds_new, finds_old}
use Rattle.xa_sql_log.proofs.sql_log.pages.connect.Goals as goal

both_ok : {A E : Type 0} (r : Result A E) (P P′ Q : A → Type 0) → ((x : A) → P x → P′ x → Q x) → IfOk r P → IfOk r P′ → IfOk r Q
both_ok (Ok x) P P′ Q gives h h′ = gives x h h′
both_ok (Err e) P P′ Q gives h h′ = tt

pub returns-then-branch-clause-honest : goal.returns-then-branch-clause-honest
returns-then-branch-clause-honest g c =
    let read = c.is_unmade.ensures in
    if_ok c.connect_new.result _ _ (λ conn honest now. both_clean _ _ _ _ read.log.clean read.db.clean (honest now)) c.connect_new.ensures.honest

pub returns-then-branch-clause-found : goal.returns-then-branch-clause-found
returns-then-branch-clause-found g c =
    let made = c.connect_new.ensures in
    both_ok c.connect_new.result _ _ _
    (λ conn honest empty now. finds_new _ (file_state conn) ((c.in_ok-is_unmade.ensures.found (honest now)).0 c.if-branch.true) (empty now))
    made.honest made.empty

pub returns-then-branch-clause-plain : goal.returns-then-branch-clause-plain
returns-then-branch-clause-plain g c = if_ok c.connect_new.result _ _ (λ conn plain now _. plain now) c.connect_new.ensures.plain

pub returns-clause-honest : goal.returns-clause-honest
returns-clause-honest g c =
    let read = c.is_unmade.ensures in
    if_ok c.connect_old.result _ _ (λ conn found now. both_clean _ _ _ _ read.log.clean read.db.clean (found now).honest) c.connect_old.ensures.found

pub returns-clause-found : goal.returns-clause-found
returns-clause-found g c =
    let read = c.is_unmade.ensures in
    if_ok c.connect_old.result _ _ (λ conn found now. finds_old _ _ conn (same_image read.log read.db) (found now)) c.connect_old.ensures.found

pub returns-clause-plain : goal.returns-clause-plain
returns-clause-plain g c =
    let read = c.is_unmade.ensures in
    if_ok c.connect_old.result _ _ (λ conn plain now blank. plain now (subst (IsBlankAs false) (sym (same_image read.log read.db)) blank)) c.connect_old.ensures.plain

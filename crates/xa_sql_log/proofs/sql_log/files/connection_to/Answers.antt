use Rattle.std.proofs.Common.{ℕ, Bool, false, cond, List, sym, ap₂, subst}
use Rattle.sqlite_disk.specs.Events.{Event, replay}
use Rattle.sqlite_wal.specs.Recovery.{Image}
use Rattle.sqlite.specs.Files.{file_state, IsBlankAs}
use Rattle.xa_log.proofs.Parts.{if_ok}
use Rattle.xa_sql_log.specs.FoundFiles.{FindsLogIn}
use Rattle.xa_sql_log.proofs.sql_log.files.connection_to.Goals as goal

abbrev image : List ℕ → List ℕ → Image
image log db = record { log = log; db = db }

abbrev seen : List ℕ → List ℕ → Bool → List Event → List ℕ
seen log db is_log history = (replay (cond is_log log db) history).seen

pub returns-clause-found : goal.returns-clause-found
returns-clause-found g c =
    let (log, db) = c.in_ok-files.ensures.fresh in
    let same = ap₂ image (ap₂ (seen g.S.Start.log g.S.Start.db) log.0 log.1) (ap₂ (seen g.S.Start.log g.S.Start.db) db.0 db.1) in
    if_ok c.connect.result _ _ (λ conn found clean. subst (λ i. FindsLogIn i (file_state conn)) same (found clean)) c.connect.ensures.found

pub returns-clause-plain : goal.returns-clause-plain
returns-clause-plain g c =
    let (log, db) = c.in_ok-files.ensures.fresh in
    let same = ap₂ image (ap₂ (seen g.S.Start.log g.S.Start.db) log.0 log.1) (ap₂ (seen g.S.Start.log g.S.Start.db) db.0 db.1) in
    if_ok c.connect.result _ _ (λ conn plain clean blank. plain clean (subst (IsBlankAs false) (sym same) blank)) c.connect.ensures.plain

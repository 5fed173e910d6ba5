use Rattle.std.proofs.Common.{Ok, Err, Result, IfOk, inr}
use Rattle.xa_log.proofs.Parts.{if_ok}
use Rattle.sqlite.specs.Files.{file_state}
use Rattle.xa_sql_log.proofs.FoundDatabase.{known_held}
use Rattle.xa_sql_log.proofs.HeldContents.{content_held, makes_found}
use Rattle.xa_sql_log.proofs.ShutLogs.{shut_unopened}
use Rattle.xa_sql_log.proofs.sql_log.claiming.SqlLog+FileStore+FileFrom+S.open_locked.Goals as goal

pub returns-clause-order : goal.returns-clause-order
returns-clause-order g c =
    let conn = c.in_ok-conn.conn in
    if_ok c.adopt_files_as.result _ _
    (λ log lasts holds makes. lasts (λ early.
    let opened = c.in_ok-conn.ensures.opened early in
    let found = c.in_ok-conn.ensures.found early in (
      known_held (file_state conn) opened.0 opened.1 _ found holds,
      makes_found _ (file_state conn) opened.0 opened.1 found holds c.args.label.now makes,
    )))
    c.adopt_files_as.ensures.order

three_ok : {A E : Type 0} (r : Result A E) (P P′ P″ Q : A → Type 0)
    → ((x : A) → P x → P′ x → P″ x → Q x) → IfOk r P → IfOk r P′ → IfOk r P″ → IfOk r Q
three_ok (Ok x) P P′ P″ Q gives h h′ h″ = gives x h h′ h″
three_ok (Err e) P P′ P″ Q gives h h′ h″ = tt

pub returns-clause-held : goal.returns-clause-held
returns-clause-held g c =
    let conn = c.in_ok-conn.conn in
    let adopted = c.adopt_files_as.ensures in
    three_ok c.adopt_files_as.result _ _ _ _
    (λ log honest kept made content holds makes clean.
    let early = honest clean in
    let opened = c.in_ok-conn.ensures.opened early in
    let found = c.in_ok-conn.ensures.found early in
    content_held _ (file_state conn) opened.0 opened.1 found content holds c.args.label.now makes (file_state log.conn)
    (kept clean) (λ named blank sql. made named clean blank sql))
    adopted.honest adopted.kept adopted.made

pub returns-clause-shut : goal.returns-clause-shut
returns-clause-shut g c =
    let conn = c.in_ok-conn.conn in
    let adopted = c.adopt_files_as.ensures in
    three_ok c.adopt_files_as.result _ _ _ _
    (λ log honest kept made content holds clean.
    let early = honest clean in
    let opened = c.in_ok-conn.ensures.opened early in
    let found = c.in_ok-conn.ensures.found early in
    shut_unopened content _ (file_state conn) (file_state log.conn) opened.0 opened.1 found holds (λ has. kept clean (inr has)))
    adopted.honest adopted.kept adopted.made

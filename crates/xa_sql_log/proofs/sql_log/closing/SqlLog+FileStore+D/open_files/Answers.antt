use Rattle.xa_log.proofs.Parts.{if_ok}
use Rattle.sqlite.specs.Files.{file_state}
use Rattle.xa_sql_log.proofs.Closing.{found_whole}
use Rattle.xa_sql_log.proofs.FoundDatabase.{known_held}
use Rattle.xa_sql_log.proofs.sql_log.closing.SqlLog+FileStore+D.open_files.Goals as goal

pub returns-clause-honest : goal.returns-clause-honest
returns-clause-honest g c =
    if_ok c.adopt_files.result _ _ (λ log taken clean. c.in_ok-conn.ensures.honest (taken clean).honest) c.adopt_files.ensures.taken

pub returns-clause-opened : goal.returns-clause-opened
returns-clause-opened g c =
    if_ok c.adopt_files.result _ _
    (λ log taken clean.
    let early = (taken clean).honest in
    record {
      was = c.in_ok-conn.conn;
      opened = c.in_ok-conn.ensures.opened early;
      found = c.in_ok-conn.ensures.found early;
      plain = c.in_ok-conn.ensures.plain early;
      taken = taken clean;
    })
    c.adopt_files.ensures.taken

pub returns-clause-order : goal.returns-clause-order
returns-clause-order g c =
    let conn = c.in_ok-conn.conn in
    if_ok c.adopt_files.result _ _
    (λ log lasts holds. lasts (λ early.
    let opened = c.in_ok-conn.ensures.opened early in
    let found = c.in_ok-conn.ensures.found early in
    known_held (file_state conn) opened.0 opened.1 _ found holds))
    c.adopt_files.ensures.order

pub returns-clause-held : goal.returns-clause-held
returns-clause-held g c =
    let conn = c.in_ok-conn.conn in
    if_ok c.adopt_files.result _ _
    (λ log taken content whole clean.
    let early = (taken clean).honest in
    let opened = c.in_ok-conn.ensures.opened early in
    let found = c.in_ok-conn.ensures.found early in
    found_whole content _ (file_state conn) (file_state log.conn) opened.0 opened.1 found whole (taken clean))
    c.adopt_files.ensures.taken

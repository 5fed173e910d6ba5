use Rattle.xa_log.proofs.Parts.{if_ok}
use Rattle.sqlite.specs.Files.{file_state}
use Rattle.xa_sql_log.proofs.FoundDatabase.{known_found, known_held}
use Rattle.xa_sql_log.proofs.sql_log.opening.SqlLog+FileStore+FileFrom+S.open_from.Goals as goal

pub returns-clause-opened : goal.returns-clause-opened
returns-clause-opened g c =
    if_ok c.adopt_files.result _ _
    (λ log taken clean.
    let early = (taken clean).honest in
    record {
      was = c.in_ok-conn.conn;
      opened = c.in_ok-conn.ensures.opened early;
      found = c.in_ok-conn.ensures.found early;
      plain = c.in_ok-conn.ensures.plain early;
      taken = taken clean;
    })
    c.adopt_files.ensures.taken

pub returns-clause-order : goal.returns-clause-order
returns-clause-order g c =
    let conn = c.in_ok-conn.conn in
    if_ok c.adopt_files.result _ _
    (λ log lasts holds. lasts (λ early.
    let opened = c.in_ok-conn.ensures.opened early in
    known_held (file_state conn) opened.0 opened.1 _ (c.in_ok-conn.ensures.found early) holds))
    c.adopt_files.ensures.order

pub returns-clause-order_found : goal.returns-clause-order_found
returns-clause-order_found g c =
    let conn = c.in_ok-conn.conn in
    if_ok c.adopt_files.result _ _
    (λ log lasts finds. lasts (λ early.
    let opened = c.in_ok-conn.ensures.opened early in
    known_found (file_state conn) opened.0 opened.1 _ (c.in_ok-conn.ensures.found early) finds))
    c.adopt_files.ensures.order

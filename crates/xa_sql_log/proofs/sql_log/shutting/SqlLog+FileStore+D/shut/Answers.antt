use Rattle.sqlite.specs.Files.{file_state}
use Rattle.xa_sql_log.proofs.ShutLogs.{closed_shut}
use Rattle.xa_sql_log.proofs.sql_log.shutting.SqlLog+FileStore+D.shut.Goals as goal

pub returns-in-Ok-clause-shut : goal.returns-in-Ok-clause-shut
returns-in-Ok-clause-shut g c lasts clean content is =
    let copied = c.in-Ok.ensures.copied clean in
    closed_shut (file_state c.args.self.conn) (file_state c.shut.new.conn) _ content is
    (c.in_ok-shut.ensures.shut lasts.order copied.was_clean) copied.seen

use Rattle.sqlite.specs.Files.{file_state}
use Rattle.xa_sql_log.proofs.Closing.{closed_whole}
use Rattle.xa_sql_log.proofs.sql_log.closing.SqlLog+FileStore+D.close_files.Goals as goal

pub returns-in-Ok-clause-held : goal.returns-in-Ok-clause-held
returns-in-Ok-clause-held g c lasts clean content is =
    let copied = rw c.with_live_tables-conn.ensures.same at (c.in-Ok.ensures.copied clean) in
    closed_whole (file_state c.args.self.conn) _ content c.with_live_tables-conn.ensures.live lasts copied.was_open copied.seen is

pub returns-in-Ok-clause-honest : goal.returns-in-Ok-clause-honest
returns-in-Ok-clause-honest g c clean =
    let copied = rw c.with_live_tables-conn.ensures.same at (c.in-Ok.ensures.copied clean) in copied.was_clean

use Rattle.sqlite.specs.Files.{file_state}
use Rattle.uses.proofs.PathProcesses.{content_so, order_so}
use Rattle.uses.proofs.paths.process.Goals as goal

pub returns-in-Ok-session_over : goal.returns-in-Ok-session_over
returns-in-Ok-session_over g c =
    let log = c.in-Ok.log in
    let made = c.in-Ok.ensures in
    record {
      opened = log;
      order = λ content holds. order_so _ _ content made.order made.order_found holds;
      finds = λ content holds honest.
          let over = made.opened honest in
          content_so (file_state over.was) over.opened.0 over.opened.1 (file_state log.conn) _ content over.found over.taken holds;
      session = c.in-Ok-session_over.ensures;
    }

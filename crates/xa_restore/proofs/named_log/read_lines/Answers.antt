use Rattle.std.proofs.Common.{inr}
use Rattle.xa_restore.proofs.NamedLemmas.{fault_from, named_from}
use Rattle.xa_restore.proofs.named_log.read_lines.Goals as goal

pub returns-in-Ok-read_log-clause-lines : goal.returns-in-Ok-read_log-clause-lines
returns-in-Ok-read_log-clause-lines c =
    named_from c.args.lines.now c.in-Ok.heading.name c.in-Ok.heading.rms.items c.in-Ok.ensures.lines c.get.result _ c.unwrap_or-rest.result
    (rw c.line_count-count.ensures at c.get.ensures.lookup) c.unwrap_or-rest.ensures c.in-Ok-read_log.log.incarnation
    c.in-Ok-read_log.log.decisions.items c.in-Ok-read_log.ensures.lines

pub returns-clause-fault : goal.returns-clause-fault
returns-clause-fault c =
    inr (fault_from c.args.lines.now c.in-Ok.heading.name c.in-Ok.heading.rms.items c.in-Ok.ensures.lines c.get.result _ c.unwrap_or-rest.result
    (rw c.line_count-count.ensures at c.get.ensures.lookup) c.unwrap_or-rest.ensures c.in-Err-read_log.fault _
    c.in-Err-read_log.ensures.fault (rw c.line_count-count.ensures at c.behind.ensures))

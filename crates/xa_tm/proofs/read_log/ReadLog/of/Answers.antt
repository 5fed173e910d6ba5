use Rattle.std.proofs.lemmas.Result.{err_from_is_err_and}
use Rattle.xa_tm.proofs.read_log.ReadLog.of.Goals as goal

pub returns-clause-read : goal.returns-clause-read
returns-clause-read g c =
    let rows = c.in_ok-rows.ensures in
    rw c.of-handed.ensures (record {
      decisions = rows.decisions;
      participants = rows.participants;
      heuristics = rows.heuristics;
      reads = rows.reads;
      says = rows.cause;
    })

pub returns-in_err-rows-clause-fault : goal.returns-in_err-rows-clause-fault
returns-in_err-rows-clause-fault g c =
    let p = err_from_is_err_and c.from_residual.result c.from_residual.ensures.1 in
    rw p.1 ((c.rows.new.self, c.in_err-rows.ensures.reads.faults))

use Rattle.std.proofs.Common.{inr, arith}
use Rattle.sqlite.specs.Held.{state}
use Rattle.sqlite.specs.State.{HasCleanDisk}
use Rattle.xa_sql_log.proofs.ShutLogs.{reopens}
use Rattle.xa_sql_log.proofs.shutting.reopen.Goals as goal

pub returns-clause-opened : goal.returns-clause-opened
returns-clause-opened g c content is clean =
    let old = state g.S.Store c.args.conn.now in
    let mid = state g.S.Store c.check_version.new.conn in
    let new = state g.S.Store c.execute.new.self in
    let early : HasCleanDisk mid = omega (arith, c.execute.ensures.survives.clean) in
    let same = c.in_ok-check_version.ensures.same (inr is.schema) early in
    let ran = rw c.in_ok-of_store.ensures.ok at (c.execute.ensures.runs clean) in
    reopens content old mid new _ is same ran

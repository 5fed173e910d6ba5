use Rattle.std.proofs.Common.{arith}
use Rattle.sqlite.specs.Held.{state}
use Rattle.sqlite.specs.State.{HasCleanDisk}
use Rattle.xa_sql_log.proofs.Migrates.{migrates}
use Rattle.xa_sql_log.proofs.tables.make_version_2.Goals as goal

pub returns-clause-written : goal.returns-clause-written
returns-clause-written g c clean inside is =
    let old = state g.S.Store c.args.tx.now.conn.now in
    let mid = state g.S.Store c.execute.new.tx.conn.now in
    let new = state g.S.Store c.execute-2.new.tx.conn.now in
    let early : HasCleanDisk mid = omega (arith, c.execute-2.ensures.survives.clean) in
    let one = c.in_ok-execute.ensures.ran early inside in
    let two = c.in_ok-execute-2.ensures.ran clean one.0 in
    (two.0, migrates old mid new one.1 two.1 is one.2 two.2)

use Rattle.std.proofs.Common.{arith}
use Rattle.sqlite.specs.Held.{state}
use Rattle.sqlite.specs.State.{HasCleanDisk}
use Rattle.xa_sql_log.proofs.MadeTables.{made}
use Rattle.xa_sql_log.proofs.tables.create_tables.Goals as goal

pub returns-clause-written : goal.returns-clause-written
returns-clause-written g c clean inside has makes =
    let a = state g.S.Store c.args.tx.now.conn.now in
    let b = state g.S.Store c.execute.new.tx.conn.now in
    let d = state g.S.Store c.execute-2.new.tx.conn.now in
    let e = state g.S.Store c.execute-3.new.tx.conn.now in
    let f = state g.S.Store c.execute-4.new.tx.conn.now in
    let new = state g.S.Store c.execute-5.new.tx.conn.now in
    let clean_4 : HasCleanDisk f = omega (arith, c.execute-5.ensures.survives.clean) in
    let clean_3 : HasCleanDisk e = omega (arith, clean_4, c.execute-4.ensures.survives.clean) in
    let clean_2 : HasCleanDisk d = omega (arith, clean_3, c.execute-3.ensures.survives.clean) in
    let clean_1 : HasCleanDisk b = omega (arith, clean_2, c.execute-2.ensures.survives.clean) in
    let one = c.in_ok-execute.ensures.ran clean_1 inside in
    let two = c.in_ok-execute-2.ensures.ran clean_2 one.0 in
    let three = c.in_ok-execute-3.ensures.ran clean_3 two.0 in
    let four = c.in_ok-execute-4.ensures.ran clean_4 three.0 in
    let five = c.in_ok-execute-5.ensures.ran clean four.0 in
    (five.0, made c.args.participants.now makes a b d e f new one.1 two.1 three.1 four.1 five.1 has one.2 two.2 three.2 four.2 five.2)

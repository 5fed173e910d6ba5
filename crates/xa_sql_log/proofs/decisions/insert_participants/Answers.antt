use Rattle.std.proofs.Common.{arith}
use Rattle.sqlite.specs.Held.{state}
use Rattle.xa_sql_log.proofs.Inside.{written_both}
use Rattle.xa_sql_log.proofs.decisions.insert_participants.Goals as goal

pub returns-in-len2-clause-written : goal.returns-in-len2-clause-written
returns-in-len2-clause-written g c clean before has =
    written_both c.args.g c.args.participants.now _ _ c.insert_two.result (omega (arith, c.in-len2.len_at_least)) (omega (arith, c.in-len2.len_below))
    c.requires.own before (state g.S.Store c.args.tx.now.conn.now) (state g.S.Store c.insert_two.new.tx.conn.now) has
    (c.insert_two.ensures.written clean before)

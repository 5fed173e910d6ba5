use Rattle.sqlite.specs.Held.{state}
use Rattle.xa_sql_log.proofs.States.{reads_then}
use Rattle.xa_sql_log.proofs.rows.rows.Goals as goal

pub returns-in_err-heuristics-clause-reads : goal.returns-in_err-heuristics-clause-reads
returns-in_err-heuristics-clause-reads g c =
    let b = state g.S.Store c.all_decisions.new.conn in
    let d = state g.S.Store c.all_participants.new.conn in
    let e = state g.S.Store c.all_heuristics.new.conn in
    reads_then (state g.S.Store c.args.conn.now) b e c.all_decisions.ensures.reads
    (reads_then b d e c.all_participants.ensures.reads c.all_heuristics.ensures.reads)

pub returns-clause-reads : goal.returns-clause-reads
returns-clause-reads g c =
    let b = state g.S.Store c.all_decisions.new.conn in
    let d = state g.S.Store c.all_participants.new.conn in
    let e = state g.S.Store c.all_heuristics.new.conn in
    reads_then (state g.S.Store c.args.conn.now) b e c.all_decisions.ensures.reads
    (reads_then b d e c.all_participants.ensures.reads c.all_heuristics.ensures.reads)

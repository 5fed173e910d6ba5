use Rattle.std.proofs.Common.{arith}
use Rattle.sqlite.specs.Held.{state}
use Rattle.sqlite.specs.State.{HasCleanDisk}
use Rattle.sqlite.proofs.InsideLemmas.{keeps_then}
use Rattle.xa_sql_log.specs.Rows.{content_of}
use Rattle.xa_sql_log.proofs.Inside.{survives_none}
use Rattle.xa_log.proofs.Parts.{on_ok}
use Rattle.xa_sql_log.proofs.groups.insert_one.Goals as goal

pub returns-clause-written : goal.returns-clause-written
returns-clause-written g c begins clean =
    let old = state g.S.Store c.args.tx.now.conn.now in
    let first = state g.S.Store c.insert_decision.new.tx.conn.now in
    let early : HasCleanDisk first = omega (arith, c.insert_participants.ensures.survives.clean) in
    rw c.as_slice.ensures.value at (c.insert_participants.ensures.written clean (content_of old.now.trees)
    (c.in_ok-insert_decision.ensures.written begins early))

pub returns-clause-live : goal.returns-clause-live
returns-clause-live g c clean =
    let first = state g.S.Store c.insert_decision.new.tx.conn.now in
    let early : HasCleanDisk first = omega (arith, c.insert_participants.ensures.survives.clean) in
    on_ok _ _ (c.in_ok-insert_decision.ensures.live early)

pub returns-clause-absent : goal.returns-clause-absent
returns-clause-absent g c log inside clean =
    let first = state g.S.Store c.insert_decision.new.tx.conn.now in
    let early : HasCleanDisk first = omega (arith, c.insert_participants.ensures.survives.clean) in
    on_ok _ _ (c.in_ok-insert_decision.ensures.absent log inside early)

pub returns-clause-kept : goal.returns-clause-kept
returns-clause-kept g c clean =
    let first = state g.S.Store c.insert_decision.new.tx.conn.now in
    let early : HasCleanDisk first = omega (arith, c.insert_participants.ensures.survives.clean) in
    keeps_then (state g.S.Store c.args.tx.now.conn.now) first (state g.S.Store c.insert_participants.new.tx.conn.now)
    (c.insert_decision.ensures.kept early) (c.insert_participants.ensures.kept clean)

pub returns-clause-survives : goal.returns-clause-survives
returns-clause-survives g c =
    survives_none (state g.S.Store c.args.tx.now.conn.now) (state g.S.Store c.insert_decision.new.tx.conn.now)
    (state g.S.Store c.insert_participants.new.tx.conn.now) c.insert_decision.ensures.survives c.insert_participants.ensures.survives

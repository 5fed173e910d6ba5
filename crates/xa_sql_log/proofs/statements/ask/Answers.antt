use Rattle.std.proofs.Common.{arith, inl}
use Rattle.sqlite.specs.State.{HasCleanDisk}
use Rattle.sqlite.specs.Held.{state}
use Rattle.sqlite.specs.Values.{bound}
use Rattle.xa_sql_log.proofs.States.{opened_clean, prepare_reads, refused_reads, asked, asked_reads, failed_reads, reads_then, rests_order}
use Rattle.xa_sql_log.proofs.statements.ask.Goals as goal

pub returns-in_err-statement-clause-reads : goal.returns-in_err-statement-clause-reads
returns-in_err-statement-clause-reads g c =
    let new = c.prepare.new.self in
    refused_reads _ (state g.S.Store new)
    (opened_clean _ _ (g.met.S.Store.shut_if_dirty new.store)) c.prepare.ensures.survives c.args.sql.now c.in_err-statement.ensures.err.1.0
    (λ clean. rw c.in_err-statement.ensures.err.1.1 at (c.prepare.ensures.err clean))

pub returns-in_err-rows-clause-reads : goal.returns-in_err-rows-clause-reads
returns-in_err-rows-clause-reads g c =
    let mid = c.prepare.new.self in
    let new = c.query_all.new.conn in
    let same = λ (clean : HasCleanDisk (state g.S.Store mid)). rw c.in_ok-statement.ensures.ok at (c.prepare.ensures.ok clean) in
    reads_then _ (state g.S.Store mid) (state g.S.Store new)
    (prepare_reads _ _ (opened_clean _ _ (g.met.S.Store.shut_if_dirty mid.store)) c.prepare.ensures.survives (λ clean. (same clean).1))
    (failed_reads c.args.sql.now c.in_ok-statement.statement.text c.requires (bound c.args.params.now) _ _
    (opened_clean _ _ (g.met.S.Store.shut_if_dirty new.store))
    (λ clean. ((same clean).0, (same clean).1.0.is_open)) c.query_all.ensures.survives c.in_err-rows.ensures.err.1.0
    (λ clean. rw c.in_err-rows.ensures.err.1.1 at (c.query_all.ensures.err clean)))

pub returns-clause-reads : goal.returns-clause-reads
returns-clause-reads g c =
    let mid = c.prepare.new.self in
    let new = c.query_all.new.conn in
    let same = λ (clean : HasCleanDisk (state g.S.Store mid)). rw c.in_ok-statement.ensures.ok at (c.prepare.ensures.ok clean) in
    reads_then _ (state g.S.Store mid) (state g.S.Store new)
    (prepare_reads _ _ (opened_clean _ _ (g.met.S.Store.shut_if_dirty mid.store)) c.prepare.ensures.survives (λ clean. (same clean).1))
    (asked_reads c.args.sql.now c.in_ok-statement.statement.text c.requires (bound c.args.params.now) _ _
    (opened_clean _ _ (g.met.S.Store.shut_if_dirty new.store))
    (λ clean. ((same clean).0, (same clean).1.0.is_open)) c.query_all.ensures.survives c.in_ok-rows.rows.items
    (λ clean. rw c.in_ok-rows.ensures.ok at (c.query_all.ensures.ok clean)))

pub returns-clause-shown : goal.returns-clause-shown
returns-clause-shown g c order clean =
    let mid = c.prepare.new.self in
    let new = c.query_all.new.conn in
    let same = λ (clean : HasCleanDisk (state g.S.Store mid)). rw c.in_ok-statement.ensures.ok at (c.prepare.ensures.ok clean) in
    let early : HasCleanDisk (state g.S.Store mid) = omega (arith, c.query_all.ensures.survives.clean) in
    let ready = rests_order _ (state g.S.Store mid) (λ _. inl (same early).1) order in
    let told =
    asked c.args.sql.now c.in_ok-statement.statement.text c.requires (bound c.args.params.now) _ _
    (opened_clean _ _ (g.met.S.Store.shut_if_dirty new.store))
    (λ clean. ((same clean).0, (same clean).1.0.is_open)) c.query_all.ensures.survives c.in_ok-rows.rows.items
    (λ clean. rw c.in_ok-rows.ensures.ok at (c.query_all.ensures.ok clean)) ready clean in
    (mid, (same early).1, told.1, told.0)

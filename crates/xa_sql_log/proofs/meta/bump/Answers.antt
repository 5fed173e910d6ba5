use Rattle.sqlite.specs.Held.{state}
use Rattle.xa_sql_log.proofs.States.{opened_clean}
use Rattle.xa_sql_log.proofs.MetaRows.{raises}
use Rattle.xa_sql_log.proofs.meta.bump.Goals as goal

pub returns-in_err-set_incarnation-clause-changes : goal.returns-in_err-set_incarnation-clause-changes
returns-in_err-set_incarnation-clause-changes g c =
    raises c.in_ok-last.last (state g.S.Store c.args.conn.now) (state g.S.Store c.find_incarnation.new.conn)
    (state g.S.Store c.set_incarnation.new.conn) c.find_incarnation.ensures.reads
    (opened_clean _ _ (g.met.S.Store.shut_if_dirty c.find_incarnation.new.conn.store)) c.in_ok-last.ensures.ok c.set_incarnation.ensures.changes

pub returns-clause-changes : goal.returns-clause-changes
returns-clause-changes g c =
    raises c.in_ok-last.last (state g.S.Store c.args.conn.now) (state g.S.Store c.find_incarnation.new.conn)
    (state g.S.Store c.set_incarnation.new.conn) c.find_incarnation.ensures.reads
    (opened_clean _ _ (g.met.S.Store.shut_if_dirty c.find_incarnation.new.conn.store)) c.in_ok-last.ensures.ok c.set_incarnation.ensures.changes

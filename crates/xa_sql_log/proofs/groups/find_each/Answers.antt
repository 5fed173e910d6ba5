use Rattle.std.proofs.Common.{◌<◌, ◌∙◌, arith, length, sym}
use Rattle.sqlite.specs.Held.{state}
use Rattle.xa_sql_log.proofs.FoundDecisions.{found_all, found_more, some_asked}
use Rattle.xa_sql_log.proofs.groups.find_each.Goals as goal

pub loop-i-preserved : goal.loop-i-preserved
loop-i-preserved g c = record {
  room = omega (arith, c.push_reserved.ensures.capacity, c.loop-i.invariant.room);
  count = omega (arith, c.push_reserved.ensures.len, c.loop-i.invariant.count);
  found =
      found_more c.args.decisions.now c.loop-i.i c.index-decisions-i.result c.loop-i.answers.items c.push_reserved.new.self.items
      c.in_ok-find_after.field-0 (state g.S.Store c.args.conn.now) (state g.S.Store c.loop-i.conn)
      (state g.S.Store c.find_after.new.conn) c.loop-i-test.true c.index-decisions-i.is c.push_reserved.ensures.items c.loop-i.invariant.found
      c.find_after.ensures.reads c.in_ok-find_after.ensures.ok;
}

pub returns-clause-ok : goal.returns-clause-ok
returns-clause-ok g c order clean =
    let some : 0 < length c.args.decisions.now = some_asked (length c.args.decisions.now) (sym c.if-is_empty.false ∙ c.is_empty.ensures) in
    let asked : 0 < c.loop-i.i = omega (arith, some, c.loop-i-test.false) in
    found_all c.args.decisions.now c.loop-i.i c.loop-i.answers.items (state g.S.Store c.args.conn.now)
    (state g.S.Store c.loop-i.conn) c.loop-i-test.false asked c.loop-i.invariant.found order clean

use Rattle.std.proofs.Common.{◌∙◌}
use Rattle.sqlite.specs.Held.{state}
use Rattle.xa_sql_log.proofs.Versions.{looks_at}
use Rattle.xa_sql_log.proofs.shutting.find_meta.Goals as goal

pub returns : goal.returns
returns g c v i row clean =
    let shown = rw c.in_ok-rows.ensures.ok at (c.query_all.ensures.ok clean) in
    let is = looks_at v i (state g.S.Store c.args.conn.now) (state g.S.Store c.query_all.new.self) c.in_ok-rows.rows.items row shown in
    c.numbers_in.ensures v i (c.as_slice.ensures.value ∙ is)

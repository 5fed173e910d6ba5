use Rattle.std.proofs.Common.{inl, inr}
use Rattle.sqlite.specs.Held.{state}
use Rattle.xa_base.proofs.Options.{on_ok}
use Rattle.xa_sql_log.proofs.ShutLogs.{shut_plain, shuts, shut_commits}
use Rattle.xa_sql_log.proofs.shutting.shut.Goals as goal

pub run-requires : goal.run-requires
run-requires g c = shut_plain

pub returns-clause-shut : goal.returns-clause-shut
returns-clause-shut g c order clean =
    on_ok c.run.result _ _
    (λ ran. shuts (state g.S.Store c.args.conn.now) (state g.S.Store ran.1.0) order ran.1.1 (state g.S.Store c.run.new.conn) ran.0 ran.1.2)
    (c.run.ensures.ran order clean)

pub returns-clause-crash : goal.returns-clause-crash
returns-clause-crash g c order clean db left = elim (c.run.ensures.crash order clean db left) [
  | inl was ↦ inl was
  | inr by ↦ inr (shut_commits (state g.S.Store c.args.conn.now) (state g.S.Store by.0) order by.1 db by.2)
]

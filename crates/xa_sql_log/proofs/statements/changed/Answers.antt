use Rattle.std.proofs.Common.{arith, inl, inr, subst, Ok}
use Rattle.sqlite.specs.State.{HasCleanDisk, Executes, CommitsBy}
use Rattle.sqlite.specs.Held.{state}
use Rattle.sqlite.specs.Values.{bound}
use Rattle.xa_log.proofs.Parts.{on_err}
use Rattle.xa_sql_log.proofs.States.{rests_not_run, rests_execute}
use Rattle.xa_sql_log.proofs.StatesAfter.{rests_after}
use Rattle.xa_sql_log.proofs.statements.changed.Goals as goal

pub returns-in_err-statement-clause-rests : goal.returns-in_err-statement-clause-rests
returns-in_err-statement-clause-rests g c order clean =
    on_err _ _ (rests_not_run _ (state g.S.Store c.prepare.new.self) c.args.sql.now (bound c.args.params.now) c.in_err-statement.ensures.err.1.0
    ((rw c.in_err-statement.ensures.err.1.1 at (c.prepare.ensures.err clean)) (bound c.args.params.now)))

pub returns-in_err-statement-clause-crash : goal.returns-in_err-statement-clause-crash
returns-in_err-statement-clause-crash g c order clean db h = elim (c.prepare.ensures.survives.crash clean db h) [ inl was ↦ inl was | inr none ↦ absurd none ]

pub returns-in_err-rows-clause-rests : goal.returns-in_err-rows-clause-rests
returns-in_err-rows-clause-rests g c order clean =
    let mid = c.prepare.new.self in
    let new = c.execute.new.conn in
    let early : HasCleanDisk (state g.S.Store mid) = omega (arith, c.execute.ensures.survives.clean) in
    on_err _ _ (rests_after _ (state g.S.Store mid) (state g.S.Store new) (rw c.in_ok-statement.ensures.ok at (c.prepare.ensures.ok early)).1
    (rests_execute _ (bound c.args.params.now) (state g.S.Store mid) (state g.S.Store new) c.in_err-rows.ensures.err.1.0
    (rw c.in_err-rows.ensures.err.1.1 at (c.execute.ensures.runs clean))))

pub returns-in_err-rows-clause-crash : goal.returns-in_err-rows-clause-crash
returns-in_err-rows-clause-crash g c order clean db h =
    let mid = c.prepare.new.self in
    let early : HasCleanDisk (state g.S.Store mid) = omega (arith, c.execute.ensures.survives.clean) in
    let same = rw c.in_ok-statement.ensures.ok at (c.prepare.ensures.ok early) in
    elim (c.execute.ensures.survives.crash clean db h) [
      | inl was ↦ elim (c.prepare.ensures.survives.crash early db was) [ inl before ↦ inl before | inr none ↦ absurd none ]
      | inr by ↦ inr (mid, same.1, subst (λ t. CommitsBy t (bound c.args.params.now) (state g.S.Store mid) db) same.0 by)
    ]

pub returns-clause-crash : goal.returns-clause-crash
returns-clause-crash g c order clean db h =
    let mid = c.prepare.new.self in
    let early : HasCleanDisk (state g.S.Store mid) = omega (arith, c.execute.ensures.survives.clean) in
    let same = rw c.in_ok-statement.ensures.ok at (c.prepare.ensures.ok early) in
    elim (c.execute.ensures.survives.crash clean db h) [
      | inl was ↦ elim (c.prepare.ensures.survives.crash early db was) [ inl before ↦ inl before | inr none ↦ absurd none ]
      | inr by ↦ inr (mid, same.1, subst (λ t. CommitsBy t (bound c.args.params.now) (state g.S.Store mid) db) same.0 by)
    ]

pub returns-clause-ran : goal.returns-clause-ran
returns-clause-ran g c order clean =
    let mid = c.prepare.new.self in
    let new = c.execute.new.conn in
    let early : HasCleanDisk (state g.S.Store mid) = omega (arith, c.execute.ensures.survives.clean) in
    let same = rw c.in_ok-statement.ensures.ok at (c.prepare.ensures.ok early) in (
      mid,
      same.1,
      subst (λ t. Executes t (bound c.args.params.now) (state g.S.Store mid) (state g.S.Store new) (Ok c.in_ok-rows.rows)) same.0
          (rw c.in_ok-rows.ensures.ok at (c.execute.ensures.runs clean)),
    )

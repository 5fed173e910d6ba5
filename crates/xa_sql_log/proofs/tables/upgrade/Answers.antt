use Rattle.std.proofs.Common.{inl, inr, subst, rules}
use Rattle.sqlite.specs.Held.{state}
use Rattle.sqlite.specs.Effect.{Database}
use Rattle.xa_sql_log.specs.Sql.{AreNewTrees}
use Rattle.xa_sql_log.specs.Rows.{old_content_of}
use Rattle.xa_sql_log.proofs.Layouts.{old_ready_after}
use Rattle.xa_log.proofs.Parts.{on_ok}
use Rattle.xa_sql_log.proofs.tables.upgrade.Goals as goal

pub returns-clause-version : goal.returns-clause-version
returns-clause-version g c has clean = on_ok _ _ (c.in_ok-check_version.ensures.version has (c.migrate.ensures.honest clean))

pub returns-clause-refused : goal.returns-clause-refused
returns-clause-refused g c has why clean = elim why [
  | inl version ↦ search rules
  | inr unknown ↦ absurd (unknown (inl (c.in_ok-check_version.ensures.version has (c.migrate.ensures.honest clean))))
]

pub returns-clause-makes : goal.returns-clause-makes
returns-clause-makes g c clean is =
    let old = state g.S.Store c.args.conn.now in
    let mid = state g.S.Store c.check_version.new.conn in
    let early = c.migrate.ensures.honest clean in
    let same = c.in_ok-check_version.ensures.same (inl is.now.schema) early in
    let made = c.migrate.ensures.makes clean (old_ready_after old mid same is) in
    record {
      ok = search rules;
      err = search rules;
      cause = made.cause;
      crash = λ db left. elim (made.crash db left) [
        | inl was ↦ elim ((c.check_version.ensures.survives (inl is.now.schema)).crash early db was) [ inl first ↦ inl first | inr none ↦ absurd none ]
        | inr whole ↦ inr (subst (λ (d : Database). AreNewTrees (old_content_of d.trees) db) same.0.now_is whole)
      ];
    }

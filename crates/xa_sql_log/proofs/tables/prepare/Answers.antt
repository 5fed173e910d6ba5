use Rattle.std.proofs.Common.{◌≡◌, false, inl, inr, rules}
use Rattle.sqlite.specs.Held.{state}
use Rattle.xa_sql_log.proofs.Lasting.{found_kept, found_known}
use Rattle.xa_sql_log.proofs.Layouts.{rests_untouched}
use Rattle.xa_base.proofs.Options.{on_ok}
use Rattle.xa_sql_log.proofs.tables.prepare.Goals as goal

pub returns-in-Missing-clause-prepares : goal.returns-in-Missing-clause-prepares
returns-in-Missing-clause-prepares g c clean =
    let old = state g.S.Store c.args.conn.now in
    record {
      honest = c.make_plain_tables.ensures.honest clean;
      made = search rules;
      migrated = search rules;
      kept = search rules;
      found = found_kept old (search rules);
      found_err = found_known old (search rules);
      known = search rules;
      version = search rules;
      unknown = search rules;
      refused = search rules;
      undone = search rules;
      crash = search rules;
      crash_kept = search rules;
    }

pub returns-in-Version1-clause-prepares : goal.returns-in-Version1-clause-prepares
returns-in-Version1-clause-prepares g c clean =
    let old = state g.S.Store c.args.conn.now in
    let new = state g.S.Store c.upgrade.new.conn in
    let settled = c.is_autocommit.ensures.settled c.if-not-is_autocommit.false in
    let mode : old.in_transaction ≡ false = search rules in
    record {
      honest = c.upgrade.ensures.honest clean;
      made = search rules;
      migrated = search rules;
      kept = search rules;
      found = found_kept old (search rules);
      found_err = found_known old (search rules);
      known = search rules;
      version = λ has. on_ok c.upgrade.result _ _ inl (c.upgrade.ensures.version has clean);
      unknown = λ _ has unknown. rests_untouched old new settled mode (c.upgrade.ensures.refused has (inr unknown) clean);
      refused = λ version has. rests_untouched old new settled mode (c.upgrade.ensures.refused has (inl version) clean);
      undone = search rules;
      crash = search rules;
      crash_kept = search rules;
    }

pub returns-in-Version2-clause-prepares : goal.returns-in-Version2-clause-prepares
returns-in-Version2-clause-prepares g c clean =
    let old = state g.S.Store c.args.conn.now in
    record {
      honest = c.check_version.ensures.honest clean;
      made = search rules;
      migrated = search rules;
      kept = search rules;
      found = found_kept old (search rules);
      found_err = found_known old (search rules);
      known = search rules;
      version = λ has. on_ok c.check_version.result _ _ inr (c.check_version.ensures.version has clean);
      unknown = search rules;
      refused = search rules;
      undone = search rules;
      crash = search rules;
      crash_kept = search rules;
    }

pub returns-in-Other-clause-prepares : goal.returns-in-Other-clause-prepares
returns-in-Other-clause-prepares g c clean =
    let old = state g.S.Store c.args.conn.now in
    record {
      honest = clean;
      made = search rules;
      migrated = search rules;
      kept = search rules;
      found = found_kept old (search rules);
      found_err = found_known old (search rules);
      known = search rules;
      version = search rules;
      unknown = search rules;
      refused = search rules;
      undone = search rules;
      crash = search rules;
      crash_kept = search rules;
    }

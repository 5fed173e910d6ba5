use Rattle.std.proofs.Common.{ap, sym, ◌∙◌}
use Rattle.xa_base.specs.StateTable.{asks_of, Kind.End, Kind.Prepare, Kind.Commit, Kind.OnePhase, Kind.Rollback, Kind.Forget}
use Rattle.xa_rm.proofs.CallLemmas.{called_as, commit_asks}
use Rattle.xa_rm.specs.TableEntries.{held_branch}
use Rattle.xa_rm.proofs.table_entry.TableEntry.apply.Goals as goal

pub returns-in-End-clause-held : goal.returns-in-End-clause-held
returns-in-End-clause-held c =
    called_as (asks_of c.args.call.now) (End c.in-End.fail) c.in-End.xid (ap asks_of c.in-End.is) c.args.thread
    (held_branch c.args.self.now) (held_branch c.end.new.self) c.end.ensures.held

pub returns-in-Prepare-clause-held : goal.returns-in-Prepare-clause-held
returns-in-Prepare-clause-held c =
    called_as (asks_of c.args.call.now) Prepare c.in-Prepare.xid (ap asks_of c.in-Prepare.is) c.args.thread (held_branch c.args.self.now)
    (held_branch c.prepare.new.self) c.prepare.ensures.held

pub returns-in-Commit-default-true-clause-held : goal.returns-in-Commit-default-true-clause-held
returns-in-Commit-default-true-clause-held c =
    called_as (asks_of c.args.call.now) OnePhase c.in-Commit-default-true.xid
    (commit_asks c.args.call.now c.in-Commit-default-true.xid c.in-Commit-default-true.one_phase c.in-Commit-default-true.is _
    (sym c.in-Commit-default-true.one_phase-is ∙ c.in-Commit-default-true.one_phase-test)) c.args.thread (held_branch c.args.self.now)
    (held_branch c.commit_one_phase.new.self) c.commit_one_phase.ensures.held

pub returns-in-Commit-default-false-clause-held : goal.returns-in-Commit-default-false-clause-held
returns-in-Commit-default-false-clause-held c =
    called_as (asks_of c.args.call.now) Commit c.in-Commit-default-false.xid
    (commit_asks c.args.call.now c.in-Commit-default-false.xid c.in-Commit-default-false.one_phase c.in-Commit-default-false.is _
    (sym c.in-Commit-default-false.one_phase-is ∙ c.in-Commit-default-false.one_phase-test)) c.args.thread (held_branch c.args.self.now)
    (held_branch c.commit.new.self) c.commit.ensures.held

pub returns-in-Rollback-clause-held : goal.returns-in-Rollback-clause-held
returns-in-Rollback-clause-held c =
    called_as (asks_of c.args.call.now) Rollback c.in-Rollback.xid (ap asks_of c.in-Rollback.is) c.args.thread (held_branch c.args.self.now)
    (held_branch c.rollback.new.self) c.rollback.ensures.held

pub returns-in-Forget-clause-held : goal.returns-in-Forget-clause-held
returns-in-Forget-clause-held c =
    called_as (asks_of c.args.call.now) Forget c.in-Forget.xid (ap asks_of c.in-Forget.is) c.args.thread (held_branch c.args.self.now)
    (held_branch c.forget.new.self) c.forget.ensures.held

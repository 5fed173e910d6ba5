use Rattle.std.proofs.Common.{◌∙◌, ap}
use Rattle.std.specs.Result.{result_err}
use Rattle.xa_base.specs.declared.call.Call.TheVariants as Calls
use Rattle.xa_base.specs.Call.{map_call}
use Rattle.xa_model.specs.Replies.History.{name_of}
use Rattle.xa_model.specs.Trace.{Kind.End, Kind.Commit, Kind.Rollback, Kind.Forget}
use Rattle.xa_tm.specs.LedgerBook.{as_book}
use Rattle.xa_tm.specs.Refusing.{view_in}
use Rattle.xa_tm.proofs.Maps.Issue.{asked_ours}
use Rattle.xa_tm.proofs.ledger.Ledger.check_call.Goals as goal

pub returns-in_ok-own_branch-in-End : goal.returns-in_ok-own_branch-in-End
returns-in_ok-own_branch-in-End c =
    asked_ours (view_in (as_book c.args.self.now)) c.args.thread c.args.rm (map_call name_of c.args.call.now)
    (End c.in-End.fail) c.in-End.xid _ (result_err c.check_own.result)
    (ap (map_call name_of) c.in-End.is) c.in_ok-own_branch-in-End.ensures.own c.check_own.ensures

pub returns-else-one_phase : goal.returns-else-one_phase
returns-else-one_phase c =
    asked_ours (view_in (as_book c.args.self.now)) c.args.thread c.args.rm (map_call name_of c.args.call.now)
    Commit c.in-Commit.xid _ (result_err c.check_commit.result)
    (ap (map_call name_of) c.in-Commit.is ∙ ap (λ one. Calls.Commit (name_of c.in-Commit.xid) one) c.if-one_phase.false)
    c.in_ok-b-in-Commit.ensures.own
    (c.check_commit.ensures c.args.thread)

pub returns-in_ok-own_branch-in-Rollback : goal.returns-in_ok-own_branch-in-Rollback
returns-in_ok-own_branch-in-Rollback c =
    asked_ours (view_in (as_book c.args.self.now)) c.args.thread c.args.rm (map_call name_of c.args.call.now)
    Rollback c.in-Rollback.xid _ (result_err c.check_roll_back.result)
    (ap (map_call name_of) c.in-Rollback.is) c.in_ok-own_branch-in-Rollback.ensures.own (c.check_roll_back.ensures c.args.thread)

pub returns-in_ok-own_branch-in-Forget : goal.returns-in_ok-own_branch-in-Forget
returns-in_ok-own_branch-in-Forget c =
    asked_ours (view_in (as_book c.args.self.now)) c.args.thread c.args.rm (map_call name_of c.args.call.now)
    Forget c.in-Forget.xid _ (result_err c.check_forget.result)
    (ap (map_call name_of) c.in-Forget.is) c.in_ok-own_branch-in-Forget.ensures.own (c.check_forget.ensures c.args.thread)

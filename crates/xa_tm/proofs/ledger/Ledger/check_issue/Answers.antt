use Rattle.std.proofs.Common.{arith}
use Rattle.std.specs.Result.{result_err}
use Rattle.xa_base.specs.Call.{map_call}
use Rattle.xa_model.specs.Replies.History.{name_of}
use Rattle.xa_tm.specs.LedgerBook.{as_book}
use Rattle.xa_tm.proofs.Maps.Issue.{asked_there}
use Rattle.xa_tm.proofs.ledger.Ledger.check_issue.Goals as goal

pub returns : goal.returns
returns c =
    asked_there (as_book c.args.self.now) c.args.thread c.args.rm (map_call name_of c.args.call.now) (result_err c.check_call.result)
    (omega (arith, c.if-thread-self.false)) (omega (arith, c.if-rm-self.false)) c.if-not-self.false c.check_call.ensures

use Rattle.std.proofs.Common.{sym, ◌∙◌}
use Rattle.xa_log.specs.KeySet.{from_list}
use Rattle.xa_log.specs.Memory.{content_held}
use Rattle.xa_log.proofs.Together.{already_stays, new_taken_back}
use Rattle.xa_log.proofs.mem_log.MemLog.take_row_back.Goals as goal

pub returns-in-New-clause-undone : goal.returns-in-New-clause-undone
returns-in-New-clause-undone c before made told =
    c.remove_decision.ensures.removed
    ∙ new_taken_back c.args.decision.now.gtrid (from_list c.args.decision.now.participants.items) (content_held c.args.self.now) before made
    (sym c.in-New.is ∙ told)

pub returns-in-Already-clause-undone : goal.returns-in-Already-clause-undone
returns-in-Already-clause-undone c before made told =
    made ∙ already_stays c.args.decision.now.gtrid (from_list c.args.decision.now.participants.items) before (sym c.in-Already.is ∙ told)

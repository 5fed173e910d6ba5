use Rattle.std.proofs.Common.{sym, ◌∙◌, ap, is_some}
use Rattle.xa_log.specs.Memory.{content_held}
use Rattle.xa_log.proofs.HeldRows.{has_row, removed_row}
use Rattle.xa_log.proofs.mem_log.MemLog.remove_decision.Goals as goal

pub returns-clause-answer : goal.returns-clause-answer
returns-clause-answer c = c.is_some.ensures ∙ ap is_some c.remove.ensures.value ∙ sym (has_row c.args.self.now.decisions c.args.g)

pub returns-clause-removed : goal.returns-clause-removed
returns-clause-removed c =
    ap (λ rows. record (content_held c.args.self.now) { decisions = rows })
    (removed_row c.args.self.now.decisions c.remove.new.self c.args.g c.remove.ensures.updates.0)

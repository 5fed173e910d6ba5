use Rattle.std.proofs.Common.{sym, ◌∙◌}
use Rattle.xa_log.proofs.HeldRows.{has_row}
use Rattle.xa_log.proofs.mem_log.MemLog.has_decision.Goals as goal

pub returns : goal.returns
returns c = c.contains_key.ensures ∙ sym (has_row c.args.self.now.decisions c.args.g)

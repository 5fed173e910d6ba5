use Rattle.std.proofs.Common.{sym, ◌∙◌}
use Rattle.xa_log.proofs.HeldRows.{get_heuristics}
use Rattle.xa_log.proofs.mem_log.MemLog.record_of.Goals as goal

pub returns : goal.returns
returns c = c.copied.ensures ∙ c.get.ensures.value ∙ sym (get_heuristics c.args.self.now.heuristics c.args.b)

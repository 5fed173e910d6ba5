use Rattle.std.proofs.Common.{◌≡◌, drop}
use Rattle.xa_tm.specs.Swaps.{decided_agrees, kept_row, same_row}
use Rattle.xa_tm.proofs.ledger.Ledger.is_row_decided.Given as goal

abbrev pub invariant-loop-decision : goal.invariant-loop-decision
invariant-loop-decision l =
    decided_agrees (drop l.decision-index l.decisions) (kept_row l.read.rows l.g) l.g (same_row (kept_row l.self.rows l.g) (kept_row l.read.rows l.g))
    ≡ decided_agrees l.decisions (kept_row l.read.rows l.g) l.g (same_row (kept_row l.self.rows l.g) (kept_row l.read.rows l.g))

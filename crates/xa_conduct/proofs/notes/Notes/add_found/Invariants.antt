use Rattle.std.proofs.Common.{◌≡◌}
use Rattle.xa_conduct.proofs.notes.Notes.add_found.Given as goal

-- no transaction moves
abbrev pub invariant-loop-xid : goal.invariant-loop-xid
invariant-loop-xid l = l.self.transactions ≡ l.fn.self.transactions

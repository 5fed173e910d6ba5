use Rattle.std.proofs.Common.{◌≡◌}
use Rattle.xa_conduct.proofs.notes.Notes.finish.Given as goal

-- no transaction moves
abbrev pub invariant-loop-reply : goal.invariant-loop-reply
invariant-loop-reply l = l.self.transactions ≡ l.fn.self.transactions

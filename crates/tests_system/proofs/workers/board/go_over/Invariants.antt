use Rattle.std.proofs.Common.{◌≡◌}
use Rattle.tests_system.proofs.workers.board.go_over.Given as goal

abbrev pub invariant-loop-slot : goal.invariant-loop-slot
invariant-loop-slot l = l.seat.board ≡ l.board.table

use Rattle.std.proofs.Common.{take}
use Rattle.xa_log.proofs.InTurn.{HasRun}
use Rattle.xa_log.proofs.commands.run_commands.Given as goal

abbrev pub invariant-loop-command : goal.invariant-loop-command
invariant-loop-command g l =
    HasRun g.L.DecisionLog.moment l.fn.log l.log (take l.command-index l.fn.commands) l.told.items

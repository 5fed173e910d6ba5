use Rattle.std.specs.Option.{option_copied}
use Rattle.xa_model.specs.Trace.{line}
use Rattle.xa_monitor.proofs.Following.{by_loss}
use Rattle.xa_monitor.specs.Entries.{states_at}
use Rattle.xa_monitor.specs.Monitor.{known_if, states_of}
use Rattle.xa_monitor.proofs.monitor.Monitor.lose_line.Goals as goal

pub returns-clause-ok : goal.returns-clause-ok
returns-clause-ok c = λ o seen follows.
    by_loss o seen (line c.args.thread c.args.rm) (known_if (option_copied c.args.call)) (states_of c.args.self.now) (states_of c.doubt_first.new.self)
    (states_at c.doubt_first.new.self.incarnation c.break_line.new.branches) c.in_ok-doubt_first.ensures.ok c.break_line.ensures follows

use Rattle.std.proofs.Common.{◌≡◌, replicate}
use Rattle.xa_line.specs.Traffic.{no_traffic}
use Rattle.xa_session.proofs.session_lines.SessionLines.new.Given as goal

abbrev pub invariant-loop : goal.invariant-loop
invariant-loop l = l.lines.items ≡ replicate l.counter no_traffic

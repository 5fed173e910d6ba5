use Rattle.std.proofs.Common.{◌≡◌, replicate, take}
use Rattle.xa_line.specs.Traffic.{no_traffic}
use Rattle.xa_session.proofs.session_lines.SessionLines.renew_all.Given as goal

abbrev pub invariant-loop-line : goal.invariant-loop-line
invariant-loop-line l = take l.line-index l.line-items ≡ replicate l.line-index no_traffic

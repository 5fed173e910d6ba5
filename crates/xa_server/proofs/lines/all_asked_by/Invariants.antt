use Rattle.std.proofs.Common.{◌≡◌, ◌++◌, drop, map}
use Rattle.xa_server.specs.Lines.{asked_in}
use Rattle.xa_server.specs.NamedLines.{line_read}
use Rattle.xa_server.proofs.lines.all_asked_by.Given as goal

-- what was asked for so far, and what the requests that are left ask for, is what all of them do
abbrev pub invariant-loop-request : goal.invariant-loop-request
invariant-loop-request l =
    l.asked.items ++ map (λ request. asked_in (line_read l.name request.now)) (drop l.request-index l.request-items)
    ≡ map (λ request. asked_in (line_read l.name request.now)) l.request-items

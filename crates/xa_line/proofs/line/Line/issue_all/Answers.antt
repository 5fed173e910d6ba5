use Rattle.xa_line.proofs.SeveralCalls.{took_more}
use Rattle.xa_line.proofs.line.Line.issue_all.Goals as goal

pub loop-call-preserved : goal.loop-call-preserved
loop-call-preserved c =
    let more =
    took_more c.args.self.now c.loop-call.self c.args.calls.items c.loop-call.yielded c.loop-call.call-iterator.rest.items c.next.new.self.rest.items
    c.in-Some.call _ c.issue.result c.issue.new.self
    c.loop-call.invariant.self c.loop-call.invariant.left c.in-Some.ensures.steps.0 c.requires.room c.args.calls.ok.0 c.requires.open c.requires.unclosed
    c.issue.ensures.reason c.issue.ensures.accepted in
    record { self = more.0; left = more.1 }

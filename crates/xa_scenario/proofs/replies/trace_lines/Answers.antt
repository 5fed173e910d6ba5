use Rattle.std.proofs.Common.{◌∙◌, string_bytes}
use Rattle.xa_scenario.proofs.LineLemmas.{line_more}
use Rattle.xa_scenario.proofs.replies.trace_lines.Goals as goal

pub loop-i-preserved : goal.loop-i-preserved
loop-i-preserved c =
    c.in_ok-push_str.ensures.bytes ∙ line_more (string_bytes c.loop-i.lines) c.as_str.result.now c.args.events.now c.loop-i.i c.index-events-i.result
    c.loop-i-test.true c.index-events-i.is c.loop-i.invariant (c.as_str.ensures.value ∙ c.in_ok-line.ensures.text)

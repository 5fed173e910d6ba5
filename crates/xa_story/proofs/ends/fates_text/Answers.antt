use Rattle.std.proofs.Common.{◌∙◌, string_bytes}
use Rattle.xa_story.specs.Ends.{branch_end_line}
use Rattle.xa_story.proofs.StoryLemmas.{text_more}
use Rattle.xa_story.proofs.ends.fates_text.Goals as goal

pub loop-line-preserved : goal.loop-line-preserved
loop-line-preserved c =
    c.in_ok-push_str.ensures.bytes ∙ text_more (branch_end_line c.args.names.now) c.args.fates.now c.loop-line.line-index c.line-item.result
    (string_bytes c.loop-line.text) c.as_str.result.now c.loop-line-test.true c.line-item.is c.loop-line.invariant
    (c.as_str.ensures.value ∙ c.in_ok-line.ensures)

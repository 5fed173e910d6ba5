use Rattle.std.proofs.Common.{◌∙◌}
use Rattle.xa_story.proofs.StoryLemmas.{line_more, names_more}
use Rattle.xa_story.proofs.story.lines_of.Goals as goal

pub loop-i-preserved : goal.loop-i-preserved
loop-i-preserved c =
    let n = c.args.scene.now.names in (
      rw (c.in_ok-push.ensures.items)
          (line_more n c.loop-i.scene.names c.loop-i.lines.items c.in_ok-line.line c.args.events.now c.loop-i.i c.index-events-i.result
          c.loop-i-test.true c.index-events-i.is c.loop-i.invariant.0 c.loop-i.invariant.1 c.in_ok-line.ensures.told),
      c.in_ok-line.ensures.names
          ∙ names_more n c.loop-i.scene.names c.args.events.now c.loop-i.i c.index-events-i.result
          c.loop-i-test.true c.index-events-i.is c.loop-i.invariant.1,
    )

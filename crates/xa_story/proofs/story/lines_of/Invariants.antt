use Rattle.std.proofs.Common.{◌≡◌, take}
use Rattle.xa_story.specs.Naming.{with_events}
use Rattle.xa_story.specs.Stories.{TellEvents}
use Rattle.xa_story.proofs.story.lines_of.Given as goal

abbrev pub invariant-loop-i : goal.invariant-loop-i
invariant-loop-i l = TellEvents l.fn.scene.names 1 (take l.i l.events) l.lines.items × (l.scene.names ≡ with_events l.fn.scene.names (take l.i l.events))

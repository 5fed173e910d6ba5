use Rattle.std.proofs.Common.{codes}
use Rattle.std.specs.Fmt.{decimal}
use Rattle.xa_story.proofs.Pieces.{five_pieces}
use Rattle.xa_story.proofs.asked.puts_off_text.Goals as goal

pub returns : goal.returns
returns c =
    five_pieces (codes "will put xa_commit ") (codes " off ") (decimal c.args.times) (codes " times") c.in_ok-branch.ensures
    c.in_ok-format.ensures.ok

use Rattle.std.proofs.Common.{codes}
use Rattle.std.specs.Fmt.{decimal}
use Rattle.xa_story.proofs.Pieces.{four_pieces}
use Rattle.xa_story.proofs.replies.begun_text.Goals as goal

pub returns : goal.returns
returns c =
    four_pieces (codes "transaction ") (decimal c.args.gtrid.sequence) (codes " of incarnation ") (decimal c.args.gtrid.incarnation)
    c.in_ok-format.ensures.ok

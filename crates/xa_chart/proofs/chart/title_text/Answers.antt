use Rattle.std.proofs.Common.{codes}
use Rattle.std.specs.Fmt.{decimal}
use Rattle.xa_chart.proofs.Pieces.{six_pieces}
use Rattle.xa_chart.proofs.chart.title_text.Goals as goal

pub returns : goal.returns
returns c =
    six_pieces (codes "Sequence diagram of a run: threads ") (decimal c.args.threads) (codes ", resource managers ") (decimal c.args.rms)
    (codes ", events ") (decimal c.args.events) c.in_ok-format.ensures.ok

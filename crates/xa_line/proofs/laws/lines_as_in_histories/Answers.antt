use Rattle.std.proofs.Common.{sym, ap, ◌∙◌, ◌&&◌, not}
use Rattle.std.specs.Prelude.{nat_le}
use Rattle.xa_base.specs.Call.{map_call}
use Rattle.xa_model.specs.Facts as facts
use Rattle.xa_model.specs.Replies.History.{name_of}
use Rattle.xa_model.specs.Replies.View.{lines_of, view_of}
use Rattle.xa_model.specs.Trace.{line}
use Rattle.xa_model.proofs.Replies.Guards.{full_among}
use Rattle.xa_line.proofs.HistoryLaws.{opens_mapped, opened_known, closed_known}
use Rattle.xa_line.proofs.laws.lines_as_in_histories.Goals as goal
use Rattle.xa_line.specs.Traffic.{calls_issued, places}

pub returns-clause-not_open : goal.returns-clause-not_open
returns-clause-not_open c x t r call l e =
    λ i. not (sym (opens_mapped name_of call) i) && not (opened_known (calls_issued l) (facts.issued x (line t r)) e i)

pub returns-clause-on_closed : goal.returns-clause-on_closed
returns-clause-on_closed c x t r call l e = closed_known (calls_issued l) (facts.issued x (line t r)) e

pub returns-clause-full : goal.returns-clause-full
returns-clause-full c x t r call l e = ap (nat_le places) e ∙ sym (full_among (view_of x) (lines_of x) t r (map_call name_of call))

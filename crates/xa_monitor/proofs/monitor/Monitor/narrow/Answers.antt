use Rattle.std.proofs.Common.{sym, subst}
use Rattle.xa_base.specs.Answer.{map_answer}
use Rattle.xa_model.specs.Replies.History.{name_of}
use Rattle.xa_monitor.proofs.FollowedPages.{page_narrows}
use Rattle.xa_monitor.specs.Entries.{states_at}
use Rattle.xa_monitor.specs.Monitor.{LeadsExactly, states_of}
use Rattle.xa_monitor.specs.Standings.{Explained}
use Rattle.xa_monitor.proofs.monitor.Monitor.narrow.Goals as goal

pub returns-in-Ret : goal.returns-in-Ret
returns-in-Ret c = λ l d is can.
    subst (λ a. LeadsExactly (states_of c.args.self.now) (Explained l d (map_answer name_of a)) (states_of c.hear_code.new.self)) (sym c.in-Ret.is)
    (c.hear_code.ensures d is)

pub returns-in-Page : goal.returns-in-Page
returns-in-Page c = λ l d is can.
    page_narrows c.args.answer.now c.in-Page.page c.xids.result.now c.in-Page.is c.xids.ensures (states_of c.args.self.now)
    (states_at c.args.self.now.incarnation c.list_all.new.branches) c.list_all.ensures l d can

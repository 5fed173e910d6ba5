use Rattle.xa_base.specs.Answer.{map_answer}
use Rattle.xa_model.specs.Replies.History.{name_of}
use Rattle.xa_model.specs.Trace.{Branch}
use Rattle.xa_monitor.proofs.Following.{by_answer}
use Rattle.xa_monitor.specs.Monitor.{CanExplain, states_of}
use Rattle.xa_monitor.proofs.monitor.Monitor.follow.Goals as goal

pub returns : goal.returns
returns c = λ l d is all o seen follows.
    let can : (b : Branch) → CanExplain (states_of c.args.self.now) l d (map_answer name_of c.args.answer.now) b = λ b. all b (follows.some b) in
    by_answer o seen l d (map_answer name_of c.args.answer.now) (states_of c.args.self.now) (states_of c.narrow.new.self) (c.narrow.ensures l d is can) can
    follows

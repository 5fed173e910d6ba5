use Rattle.std.proofs.Common.{sym, subst}
use Rattle.std.proofs.lemmas.Result.{on_ok_weaker}
use Rattle.std.specs.Option.{option_copied}
use Rattle.xa_monitor.proofs.FollowedDoubts.{none_done}
use Rattle.xa_monitor.specs.Monitor.{LeadsExactly, known_if, states_of}
use Rattle.xa_monitor.specs.Standings.{MayBeDone}
use Rattle.xa_monitor.proofs.monitor.Monitor.doubt_first.Goals as goal

pub returns-in-Some-clause-ok : goal.returns-in-Some-clause-ok
returns-in-Some-clause-ok c = on_ok_weaker c.doubt.result (λ h.
    subst (λ z. LeadsExactly (states_of c.args.self.now) (MayBeDone (known_if (option_copied z))) (states_of c.doubt.new.self)) (sym c.in-Some.is) h)
    c.doubt.ensures.ok

pub returns-in-None-clause-ok : goal.returns-in-None-clause-ok
returns-in-None-clause-ok c =
    subst (λ z. LeadsExactly (states_of c.args.self.now) (MayBeDone (known_if (option_copied z))) (states_of c.args.self.now)) (sym c.in-None.is)
    (none_done (states_of c.args.self.now))

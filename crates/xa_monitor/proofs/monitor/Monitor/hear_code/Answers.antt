use Rattle.std.proofs.Common.{◌∙◌, refl, sym, subst}
use Rattle.xa_base.specs.StateTable.{asks_of}
use Rattle.xa_monitor.proofs.FollowedCodes.{code_leads, no_code_leads}
use Rattle.xa_monitor.specs.Entries.{states_at}
use Rattle.xa_monitor.specs.Monitor.{states_of}
use Rattle.xa_monitor.specs.States.{LeadsInto, LeadsOnto, MovesAsAsked}
use Rattle.xa_monitor.proofs.monitor.Monitor.hear_code.Goals as goal

pub returns-in-Some : goal.returns-in-Some
returns-in-Some c = λ d is.
    code_leads c.args.call.now c.in-Some.b c.args.code (states_of c.args.self.now) (states_at c.args.self.now.incarnation c.put.new.branches)
    c.after-states.result (sym c.in-Some.ensures)
    (subst (λ z. LeadsInto z (MovesAsAsked (asks_of c.args.call.now) c.args.code) c.after-states.result) c.states.ensures c.after-states.ensures.into)
    (subst (λ z. LeadsOnto z (MovesAsAsked (asks_of c.args.call.now) c.args.code) c.after-states.result) c.states.ensures c.after-states.ensures.onto)
    c.put.ensures.at d is

pub returns-in_default : goal.returns-in_default
returns-in_default c = λ d is.
    no_code_leads c.args.call.now c.args.code (states_of c.args.self.now) (states_of c.args.self.now) (sym c.branch_of.ensures ∙ c.in_default.is)
    (λ q. refl) d is

use Rattle.std.proofs.Common.{◌∙◌, ap, sym, subst}
use Rattle.std.specs.Prelude.{if◌then◌else◌}
use Rattle.xa_base.specs.Branch.{branch_eq}
use Rattle.xa_base.specs.StateTable.{asks_of}
use Rattle.xa_monitor.proofs.FollowedDoubts.{doubt_leads, no_doubt_leads}
use Rattle.xa_monitor.specs.Entries.{states_at}
use Rattle.xa_monitor.specs.Monitor.{states_of}
use Rattle.xa_monitor.specs.States.{AskedOrNot, LeadsInto, LeadsOnto}
use Rattle.xa_monitor.proofs.monitor.Monitor.doubt.Goals as goal

pub returns-in-Some-clause-ok : goal.returns-in-Some-clause-ok
returns-in-Some-clause-ok c =
    let b = c.in-Some.b in
    let same = c.reserve_for.ensures.same in
    let was = c.states.ensures ∙ same b in
    doubt_leads c.args.call.now b (states_of c.args.self.now) (states_at c.reserve_for.new.self.incarnation c.put.new.branches)
    c.or_done-states.result (sym c.in-Some.ensures)
    (subst (λ z. LeadsInto z (AskedOrNot (asks_of c.args.call.now)) c.or_done-states.result) was c.or_done-states.ensures.into)
    (subst (λ z. LeadsOnto z (AskedOrNot (asks_of c.args.call.now)) c.or_done-states.result) was c.or_done-states.ensures.onto)
    (λ q. c.put.ensures.at q ∙ ap (λ z. if branch_eq b q then c.or_done-states.result else z) (same q))

pub returns-in_default-clause-ok : goal.returns-in_default-clause-ok
returns-in_default-clause-ok c =
    no_doubt_leads c.args.call.now (states_of c.args.self.now) (states_of c.reserve_for.new.self) (sym c.branch_of.ensures ∙ c.in_default.is)
    c.reserve_for.ensures.same

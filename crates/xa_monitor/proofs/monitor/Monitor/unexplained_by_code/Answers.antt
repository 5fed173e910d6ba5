use Rattle.std.proofs.Common.{◌≡◌, rules, Some, None, subst}
use Rattle.xa_base.specs.StateTable.{asks_of}
use Rattle.xa_monitor.proofs.FollowedCodes.{code_can, code_stuck, no_code_can}
use Rattle.xa_monitor.proofs.RowLemmas.StateSets.{not_empty}
use Rattle.xa_monitor.specs.Entries.{branch_in_call}
use Rattle.xa_monitor.specs.Monitor.{states_of}
use Rattle.xa_monitor.specs.States.{LeadsInto, LeadsOnto, MovesAsAsked}
use Rattle.xa_monitor.proofs.monitor.Monitor.unexplained_by_code.Goals as goal

pub returns-in_err-b-clause-none : goal.returns-in_err-b-clause-none
returns-in_err-b-clause-none c = λ n l d is q some.
    let names : branch_in_call c.args.call.now ≡ None = search rules in
    no_code_can c.args.call.now c.args.code (states_of c.args.self.now) names l d is q some

pub returns-then-is_empty-clause-some : goal.returns-then-is_empty-clause-some
returns-then-is_empty-clause-some c = λ l d is can.
    let names : branch_in_call c.args.call.now ≡ Some c.in_ok-b.b = search rules in
    code_stuck c.args.call.now c.in_ok-b.b c.args.code (states_of c.args.self.now) c.after.result names
    (subst (λ z. LeadsInto z (MovesAsAsked (asks_of c.args.call.now) c.args.code) c.after.result) c.states.ensures c.after.ensures.into)
    (c.is_empty.ensures.0 c.if-is_empty.true) l d is can

pub returns-else-is_empty-clause-none : goal.returns-else-is_empty-clause-none
returns-else-is_empty-clause-none c = λ n l d is q some.
    let names : branch_in_call c.args.call.now ≡ Some c.in_ok-b.b = search rules in
    let t = not_empty c.after.result c.is_empty.result c.is_empty.ensures c.if-is_empty.false in
    code_can c.args.call.now c.in_ok-b.b c.args.code (states_of c.args.self.now) c.after.result names
    (subst (λ z. LeadsOnto z (MovesAsAsked (asks_of c.args.call.now) c.args.code) c.after.result) c.states.ensures c.after.ensures.onto)
    t.0 t.1 l d is q some

use Rattle.std.proofs.Common.{◌∙◌, subst, sym}
use Rattle.xa_model.specs.Promises.Processes.{IsNext, Resumes}
use Rattle.xa_system.specs.SystemView.{observes, origin_in}
use Rattle.uses.proofs.LaterProcesses.{of_held, resumes}
use Rattle.uses.proofs.processes.go_on.Goals as goal

pub returns-in-Ok-clause-near : goal.returns-in-Ok-clause-near
returns-in-Ok-clause-near g c order honest =
    let moment = g.L.DecisionLog.moment in
    let made = c.in-Ok.ensures in
    let ran = c.run-ran.ensures in
    let in_order = of_held (λ log. (moment log).is_in_order) c.args.remains.log c.in-Some.log c.in-Some.is order in
    ran.log.near (subst (λ l. (moment l).is_in_order) (sym made.log.handed) in_order) honest (made.log.near in_order (ran.log.honest honest))

pub returns-in-Ok-clause-follows : goal.returns-in-Ok-clause-follows
returns-in-Ok-clause-follows g c past ends honest =
    let moment = g.L.DecisionLog.moment in
    let see = observes g.R.ResourceManager.look moment in
    let made = c.in-Ok.ensures in
    let ran = c.run-ran.ensures in
    let log = c.in-Some.log in
    let in_order = of_held (λ l. (moment l).is_in_order) c.args.remains.log log c.in-Some.is ends.order in
    let began = ran.log.honest honest in
    resumes see past c.args.remains log (origin_in see.look c.in-Ok.system) (origin_in see.look c.run-ran.new.self) c.in-Some.is ends ran.start
    (made.log.honest began) (made.follows in_order began)

pub returns-in-Ok-clause-headline : goal.returns-in-Ok-clause-headline
returns-in-Ok-clause-headline g c past ends honest =
    c.run-ran.ensures.resumed past ends.right (returns-in-Ok-clause-follows g c past ends honest)

pub returns-in-Ok-clause-chain : goal.returns-in-Ok-clause-chain
returns-in-Ok-clause-chain g c past ends honest =
    let moment = g.L.DecisionLog.moment in
    let made = c.in-Ok.ensures in
    let ran = c.run-ran.ensures in
    let look = g.R.ResourceManager.look in
    let start = origin_in look c.run-ran.new.self in
    let events = c.run-ran.new.self.events in
    let resumed : Resumes past start = returns-in-Ok-clause-follows g c past ends honest in
    let is_next : IsNext past start events = record { right = ends.right; resumes = resumed; allowed = ran.parts.allowed } in
    let log_order = of_held (λ l. (moment l).is_in_order) c.args.remains.log c.in-Some.log c.in-Some.is ends.order in
    record {
      right = c.across_processes.ensures.right past start events is_next;
      passes_on = λ next own. c.across_processes.ensures.passes_on past start events next is_next own;
      order = subst (λ l. (moment l).is_in_order) (sym (ran.log.handed ∙ made.log.handed)) log_order;
      near = returns-in-Ok-clause-near g c ends.order honest;
    }

use Rattle.std.proofs.Common.{inl, refl, sym, ap, subst}
use Rattle.xa_base.specs.declared.step.Step.TheVariants as Steps
use Rattle.xa_tm.specs.Calls.{book_in, log_in}
use Rattle.xa_tm.specs.BookAndLog.{IsTied}
use Rattle.xa_system.specs.Parts.{sees}
use Rattle.xa_system.proofs.Steps.ManagerAlone.{abandon_did, manager_refused}
use Rattle.xa_system.proofs.parts.Parts.abandon.Goals as goal

pub returns-in-Ok : goal.returns-in-Ok
returns-in-Ok g c =
    let see = sees g.R.ResourceManager.look g.L.DecisionLog.moment in
    let old = c.args.self.now.manager in
    let new = c.abandon.new.self in
    let same = c.in-Ok.ensures.log in
    abandon_did see c.args.self.now new c.args.gtrid c.new.result c.new.ensures c.in-Ok.ensures.allowed c.in-Ok.ensures.ok (record {
      order = λ h. subst (λ l. (see.moment l).is_in_order) (sym same) h;
      honest = λ h. subst (λ l. (see.moment l).is_honest) same h;
      tied = λ near order honest h. subst (λ l. IsTied near (book_in new) (see.moment l).content) (sym same)
          (c.in-Ok.ensures.tied near (see.moment (log_in old)).content h);
      faults = λ order honest h. ap (λ l. (see.moment l).fault_count) same;
      counts = inl (ap (λ l. (see.moment l).fault_count) same);
    })

pub returns-in-Err : goal.returns-in-Err
returns-in-Err g c =
    let see = sees g.R.ResourceManager.look g.L.DecisionLog.moment in
    manager_refused see {A = Unit {0}} (Steps.Abandon c.args.gtrid) c.args.self.now c.abandon.new.self c.in-Err.refusal c.refused.result tt tt
    (λ tr. refl) (λ tr. tt) c.refused.ensures c.in-Err.ensures.refused c.in-Err.ensures.err
    (λ other. c.in-Err.ensures.log)

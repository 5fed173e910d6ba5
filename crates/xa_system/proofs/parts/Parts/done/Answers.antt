use Rattle.std.proofs.Common.{[], ◌∷◌, refl, inr}
use Rattle.xa_model.specs.Trace.{Fault.InDone}
use Rattle.xa_base.specs.declared.step.Step.TheVariants as Steps
use Rattle.xa_tm.specs.BookAndLog.{changed_by}
use Rattle.xa_system.specs.Parts.{sees}
use Rattle.xa_system.proofs.Steps.Decide.{manager_undone}
use Rattle.xa_system.proofs.Steps.OfManager.{sound_book, up_where}
use Rattle.xa_system.proofs.Steps.ManagerAlone.{done_did}
use Rattle.xa_system.proofs.Log.Changes.{log_called, log_undone}
use Rattle.xa_tm.specs.Book.{Doubt.Drops}
use Rattle.xa_system.proofs.parts.Parts.done.Goals as goal

pub done-requires : goal.done-requires
done-requires g c =
    let see = sees g.R.ResourceManager.look g.L.DecisionLog.moment in
    let p = c.args.self.now in
    sound_book see p c.requires

pub returns-in-Ok : goal.returns-in-Ok
returns-in-Ok g c =
    let see = sees g.R.ResourceManager.look g.L.DecisionLog.moment in
    let p = c.args.self.now in
    done_did see p c.done.new.self c.args.gtrid c.new.result c.new.ensures c.in-Ok.ensures.allowed c.in-Ok.ensures.ok
    (log_called see.moment _ _ p.manager c.done.new.self c.in-Ok.ensures.asks c.in-Ok.ensures.tied)

pub returns-in-Err : goal.returns-in-Err
returns-in-Err g c =
    let see = sees g.R.ResourceManager.look g.L.DecisionLog.moment in
    let p = c.args.self.now in
    manager_undone see {A = Unit {0}} (Steps.Done c.args.gtrid) (InDone (c.args.gtrid ∷ [])) (Drops (c.args.gtrid ∷ []))
    (changed_by (Drops (c.args.gtrid ∷ []))) p c.in-Err.refusal c.undone.new.sites c.undone.new.lines c.done.new.self c.undone.result tt tt (λ tr. refl)
    (λ tr. tt) refl
    (λ m. refl) (λ tr. up_where tr (Steps.Done c.args.gtrid) refl) (λ tr at. refl) (λ tr at free e. tt) c.undone.ensures.reply c.in-Err.ensures.refused
    (λ free. inr (c.in-Err.ensures.err free)) c.undone.ensures.failed c.undone.ensures.broken c.undone.ensures.sites_stay c.undone.ensures.lines_stay
    (λ tr d at. refl)
    (log_undone see.moment c.in-Err.refusal _ p.manager c.done.new.self c.in-Err.ensures.asks c.in-Err.ensures.tied c.in-Err.ensures.kept)

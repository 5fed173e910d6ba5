use Rattle.std.proofs.Common.{[], ◌∷◌, refl, ap, ◌∙◌}
use Rattle.std.specs.Prelude.{Result, Err}
use Rattle.xa_base.specs.declared.step.Outcome.TheVariants as Outcomes
use Rattle.xa_tm.proofs.History.Recovery.{decision_asks}
use Rattle.xa_model.specs.Trace.{Fault.InDecide}
use Rattle.xa_base.specs.declared.refusal.Refusal.{Refusal}
use Rattle.xa_base.specs.declared.step.Step.TheVariants as Steps
use Rattle.xa_tm.specs.Calls.{book_in}
use Rattle.xa_tm.specs.BookAndLog.{changed_by}
use Rattle.xa_system.specs.Parts.{sees}
use Rattle.xa_system.proofs.Steps.Decide.{row_is_asked, manager_undone}
use Rattle.xa_system.proofs.Steps.OfManager.{sound_book, up_where}
use Rattle.xa_system.proofs.Steps.ManagerAlone.{settle_did}
use Rattle.xa_system.proofs.Log.Changes.{log_called, log_undone}
use Rattle.xa_tm.specs.Book.{Book, Doubt.Adds, rows_for}
use Rattle.xa_system.proofs.parts.Parts.settle.Goals as goal

pub settle-requires : goal.settle-requires
settle-requires g c =
    let see = sees g.R.ResourceManager.look g.L.DecisionLog.moment in
    let p = c.args.self.now in
    sound_book see p c.requires

pub returns-in-Ok : goal.returns-in-Ok
returns-in-Ok g c =
    let see = sees g.R.ResourceManager.look g.L.DecisionLog.moment in
    let p = c.args.self.now in
    settle_did see p c.settle.new.self c.args.gtrid c.new.result c.new.ensures c.in-Ok.ensures.allowed c.in-Ok.ensures.ok
    (log_called see.moment _ _ p.manager c.settle.new.self c.in-Ok.ensures.asks c.in-Ok.ensures.tied)

pub returns-in-Err : goal.returns-in-Err
returns-in-Err g c =
    let see = sees g.R.ResourceManager.look g.L.DecisionLog.moment in
    let p = c.args.self.now in
    manager_undone see {A = Unit {0}} (Steps.Settle c.args.gtrid) (InDecide (c.args.gtrid ∷ []))
    (Adds (rows_for (book_in p.manager) (c.args.gtrid ∷ [])))
    (changed_by (Adds (rows_for (book_in p.manager) (c.args.gtrid ∷ [])))) p c.in-Err.refusal c.undone.new.sites c.undone.new.lines c.settle.new.self
    c.undone.result tt tt (λ tr. refl) (λ tr. tt) refl
    (λ m. refl) (λ tr. up_where tr (Steps.Settle c.args.gtrid) refl)
    (λ tr at. ap (λ (k : Book). Adds (rows_for k (c.args.gtrid ∷ []))) at ∙ decision_asks tr (c.args.gtrid ∷ []))
    (λ tr at free e. row_is_asked tr c.args.gtrid Outcomes.Commit at
    (c.in-Err.ensures.asked free (ap (λ (m : Refusal). let x : Result (Unit {0}) Refusal = Err m in x) e))) c.undone.ensures.reply c.in-Err.ensures.refused
    c.in-Err.ensures.err c.undone.ensures.failed c.undone.ensures.broken c.undone.ensures.sites_stay c.undone.ensures.lines_stay
    (λ tr d at. ap (λ (k : Book). changed_by (Adds (rows_for k (c.args.gtrid ∷ []))) d) at ∙ ap (λ e. changed_by e d) (decision_asks tr (c.args.gtrid ∷ [])))
    (log_undone see.moment c.in-Err.refusal _ p.manager c.settle.new.self c.in-Err.ensures.asks c.in-Err.ensures.tied c.in-Err.ensures.kept)

-- What the manager does if it decides transactions that no rule refuses to decide.
use Rattle.std.specs.Prelude.{◌≡◌, ◌≢◌, Bool, List, [], map, Result, Err, IfErr, OnOk}
use Rattle.xa_base.specs.declared.branch.Gtrid.{Gtrid}
use Rattle.xa_base.specs.declared.refusal.Refusal.{Refusal}
use Rattle.xa_base.specs.declared.refusal.Refusal.TheVariants.{LogFault}
use Rattle.xa_base.specs.declared.step.Outcome.{Outcome}
use Rattle.xa_log.specs.Contract.{Moment}
use Rattle.xa_model.specs.Trace.{Fault.InDecide, Happening.Decided}
use Rattle.xa_tm.specs.Book.{Book, Doubt.Adds, after_all, rows_for}
use Rattle.xa_tm.specs.BookAndLog.{IsTied, changed_by}
use Rattle.xa_tm.specs.Calls.{AsksFor, FailsBy, book_in, log_in, written_by}
use Rattle.xa_tm.specs.declared.manager.Manager.{Manager}

-- it decides them all, with one write of their rows, or none
pub record Concludes {A L : Type 0} (moment : L → Moment) (o : Outcome) (gs : List Gtrid) (k : Book) (log : L) (new : Manager L)
    (result : Result A Refusal) : Type 0 where
  -- what the book then says
  pub ok : OnOk result (book_in new ≡ after_all k (map (λ g. Decided g o) gs))
  pub err : IfErr result (FailsBy (Adds (rows_for k (written_by o k gs))) (InDecide (written_by o k gs)) k (book_in new))
  pub asked : result ≡ Err LogFault → written_by o k gs ≢ []
  -- what becomes of the log
  pub tied : (near : Bool) → (moment log).is_in_order → (moment (log_in new)).is_honest → IsTied near k (moment log).content
      → IsTied near (book_in new) (moment (log_in new)).content
  pub kept : IfErr result (λ n. n ≢ LogFault → log_in new ≡ log)
  pub without_row : written_by o k gs ≡ [] → log_in new ≡ log
  pub asks : AsksFor (changed_by (Adds (rows_for k (written_by o k gs)))) (moment log) (moment (log_in new)) result

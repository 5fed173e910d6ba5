-- How the rows of several jobs are added to a log at once.
use Rattle.std.proofs.Common.{◌≡◌, ◌<◌, ℕ, List, [], ◌∷◌, ◌++◌, length, Bool, true, Result, Ok, refl, sym, subst, ◌∙◌}
use Rattle.std.specs.Prelude.{slice_set}
use Rattle.xa_log.specs.Content.{Content, with_commit, with_commits}
use Rattle.xa_log.specs.Contract.{Changes}
use Rattle.xa_log.specs.KeySet.{from_list}
use Rattle.xa_log.specs.declared.decision.Decision.{Decision}
use Rattle.xa_log.specs.declared.decision_log.DecisionLog as DecisionLog
use Rattle.xa_log.specs.declared.log_fault.LogFault.{LogFault}
use Rattle.xa_workers.proofs.RowLaws.{lifted, row_more}
use Rattle.xa_workers.specs.Jobs.{gtrid_of, yes_branches}
use Rattle.xa_workers.specs.Rows.{Adds, HasRows, Logs, participants_of_job, written_rows}
use Rattle.xa_workers.specs.declared.jobs.Jobs.{Jobs}

-- the last decision of a list comes after the others
last_commit : (ds : List Decision) (d : Decision) (c : Content)
    → with_commits (ds ++ d ∷ []) c ≡ with_commit d.gtrid (from_list d.participants.items) (with_commits ds c)
last_commit [] d c = refl
last_commit (e ∷ ds) d c = last_commit ds d (with_commit e.gtrid (from_list e.participants.items) c)

pub adds_none : (jobs : Jobs) (n : ℕ) (noted : List Bool) → Adds jobs n noted [] noted
adds_none jobs n noted b c had = had

-- one decision more
pub adds_more : (jobs : Jobs) (n : ℕ) (noted : List Bool) (ds : List Decision) (so_far : List Bool) (j : ℕ) (d : Decision)
    → j < length so_far → d.gtrid ≡ gtrid_of n j → d.participants.items ≡ yes_branches jobs n j
    → Adds jobs n noted ds so_far → Adds jobs n noted (ds ++ d ∷ []) (slice_set so_far j true)
adds_more jobs n noted ds so_far j d in' named voted adds b c had =
    subst (λ (x : Content). HasRows n (written_rows (participants_of_job jobs n) (slice_set so_far j true)) b x)
    (sym (last_commit ds d c ∙ same))
    (row_more n (participants_of_job jobs n) so_far j in' b (with_commits ds c) (adds b c had))
  where
    same : with_commit d.gtrid (from_list d.participants.items) (with_commits ds c)
        ≡ with_commit (gtrid_of n j) (participants_of_job jobs n j) (with_commits ds c)
    same = rw (named, voted) refl

-- a log that has the rows of the jobs that were noted comes to have those of the jobs that are
pub logs_all : {L : Type 0} (g : DecisionLog.Ghosts L) (jobs : Jobs) (n : ℕ) (noted now_noted : List Bool) (ds : List Decision) (first old new : L)
    → Adds jobs n noted ds now_noted → Logs g n (written_rows (participants_of_job jobs n) noted) first old
    → {A : Type 0} (answers : A) → Changes (with_commits ds) (g.moment old) (g.moment new) (let r : Result A LogFault = Ok answers in r)
    → Logs g n (written_rows (participants_of_job jobs n) now_noted) first new
logs_all g jobs n noted now_noted ds first old new adds had answers did = record {
  order = λ o. did.order (had.order o);
  honest = λ h. had.honest (did.honest h);
  rows_are = λ o h.
      lifted n (with_commits ds) (HasRows n (written_rows (participants_of_job jobs n) noted))
      (HasRows n (written_rows (participants_of_job jobs n) now_noted)) adds
      (g.moment first).content (g.moment old).content (g.moment new).content (had.rows_are o (did.honest h)) (did.ok (had.order o) h);
}

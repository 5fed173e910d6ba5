-- What a log holds once jobs have run over it.
use Rattle.std.proofs.Common.{◌≡◌, ℕ, ◌+◌, List, [], Option, Some, IsSomeAnd, subst}
use Rattle.uses.specs.FirstRuns.{IsFirstRun}
use Rattle.xa_base.specs.declared.step.Outcome.{Outcome}
use Rattle.xa_jobs.specs.JobRuns.{RunsFile}
use Rattle.xa_log.specs.Content.{Content, nothing, with_bump}
use Rattle.xa_log.specs.declared.decision_log.DecisionLog as DecisionLog
use Rattle.xa_workers.specs.Outcomes.{IsOutcomeOf}
use Rattle.xa_workers.specs.Rows.{HasRows, Logs, rows_of_jobs}
use Rattle.xa_workers.specs.declared.jobs.Jobs.{Jobs}
use Rattle.xa_workers.specs.declared.outcomes.Outcomes.{Outcomes}

-- the rows that it held, and those of jobs that ended so
rows_over : {L : Type 0} (g : DecisionLog.Ghosts L) (jobs : Jobs) (ends : List Outcome) (incarnation : ℕ) (first log : L)
    → Logs g incarnation (rows_of_jobs jobs incarnation ends) first log
    → (g.moment first).is_in_order → (g.moment log).is_honest → (before : Content) → (g.moment first).content ≡ Some before
    → IsSomeAnd (g.moment log).content (HasRows (before.incarnation + 1) (rows_of_jobs jobs (before.incarnation + 1) ends) (with_bump before))
rows_over g jobs ends incarnation first log logs order honest before held =
    let now = (g.moment log).content in
    let had = subst (λ (c : Option Content). IsSomeAnd c (λ had. (incarnation ≡ had.incarnation + 1)
    × IsSomeAnd now (λ after. HasRows incarnation (rows_of_jobs jobs incarnation ends) (with_bump had) after))) held
    (logs.rows_are order honest) in
    subst (λ m. IsSomeAnd now (HasRows m (rows_of_jobs jobs m ends) (with_bump before))) had.0 had.1

-- the same of what jobs came to
pub has_rows_over : {L : Type 0} (g : DecisionLog.Ghosts L) (jobs : Jobs) (log : L) (o : Outcomes L) → IsOutcomeOf g jobs log o
    → (g.moment log).is_in_order → (g.moment o.log).is_honest → (before : Content) → (g.moment log).content ≡ Some before
    → IsSomeAnd (g.moment o.log).content (HasRows (before.incarnation + 1) (rows_of_jobs jobs (before.incarnation + 1) o.ends.items) (with_bump before))
has_rows_over g jobs log o is = rows_over g jobs o.ends.items is.incarnation log o.log is.logs

-- over a new log: the rows of the jobs, and nothing else
pub has_just_rows : {L : Type 0} (g : DecisionLog.Ghosts L) (jobs : Jobs) (log : L) (o : Outcomes L) → IsOutcomeOf g jobs log o
    → (g.moment log).content ≡ Some nothing → (g.moment log).is_in_order → (g.moment o.log).is_honest
    → IsSomeAnd (g.moment o.log).content (HasRows 1 (rows_of_jobs jobs 1 o.ends.items) (with_bump nothing))
has_just_rows g jobs log o is new order honest = has_rows_over g jobs log o is order honest nothing new

-- what the log that comes back rests on was honest before too
pub was_honest : {L : Type 0} (g : DecisionLog.Ghosts L) (jobs : Jobs) (log : L) (o : Outcomes L) → IsOutcomeOf g jobs log o
    → (g.moment o.log).is_honest → (g.moment log).is_honest
was_honest g jobs log o is = is.logs.honest

-- a run of a jobs file over a new log
pub is_first_run : {L : Type 0} (g : DecisionLog.Ghosts L) (text printed : List ℕ) (first log : L)
    → RunsFile g text (Some []) (Some printed) first log
    → (g.moment first).content ≡ Some nothing → (g.moment first).is_in_order → (g.moment log).is_honest
    → IsFirstRun text printed (g.moment log).content
is_first_run g text printed first log file new order honest =
    let runs = file.runs in
    record {
      jobs = file.jobs;
      ends = runs.ends;
      reads = file.reads;
      allowed = runs.allowed;
      prints = runs.writes;
      rows = rows_over g file.jobs runs.ends runs.incarnation first log runs.logs order honest nothing new;
    }

-- The ends of jobs, and of the file that they were read from.
use Rattle.std.proofs.Common.{◌≡◌, ◌∙◌, false, List, [], ◌∷◌, map, Option, Result, Ok, Err, Vec, Global, refl, sym, ap, subst}
use Rattle.std.proofs.lemmas.List.{length-map}
use Rattle.std.specs.Prelude.{IfOk}
use Rattle.xa_base.specs.declared.step.Outcome.{Outcome}
use Rattle.xa_base.specs.declared.vote.Vote.{Vote}
use Rattle.xa_jobs.specs.JobFiles.{job_plan_of, rows_in}
use Rattle.xa_jobs.specs.JobRuns.{AreEnds, planned_ends}
use Rattle.xa_workers.specs.Jobs.{AreEndsOf, MayAllEnd, planned_end, ends_of}
use Rattle.xa_workers.specs.declared.fault.WorkFault.{WorkFault}
use Rattle.xa_workers.specs.declared.jobs.Jobs.{Jobs}
use Rattle.xa_workers.specs.declared.outcomes.Outcomes.{Outcomes}

rows_end : (rows : List (Vec (Option Vote) Global)) → map (λ row. planned_end row.items) rows ≡ map planned_end (rows_in rows)
rows_end [] = refl
rows_end (row ∷ rows) = ap (λ ends. planned_end row.items ∷ ends) (rows_end rows)

planned : (jobs : Jobs) → ends_of jobs ≡ planned_ends (job_plan_of jobs)
planned jobs = rows_end jobs.votes.items

-- ends that a run allows are ends that the file allows
pub are_ends : (jobs : Jobs) (ends : List Outcome) → AreEndsOf jobs ends → (jobs.sweep ≡ false → ends ≡ ends_of jobs)
    → AreEnds (job_plan_of jobs) ends
are_ends jobs ends are plain = record {
  number = are.number ∙ sym (length-map jobs.votes.items (λ row. row.items));
  each = subst (λ (planned : List Outcome). MayAllEnd jobs.sweep planned ends) (planned jobs) are.each;
  plain = λ none. plain none ∙ planned jobs;
}

-- and so are those of a run
pub ends_of_done : {L : Type 0} (jobs : Jobs) (ran : Result (Outcomes L) WorkFault)
    → IfOk ran (λ done. AreEndsOf jobs done.ends.items) → (jobs.sweep ≡ false → IfOk ran (λ done. done.ends.items ≡ ends_of jobs))
    → IfOk ran (λ done. AreEnds (job_plan_of jobs) done.ends.items)
ends_of_done jobs (Ok done) are plain = are_ends jobs done.ends.items are plain
ends_of_done jobs (Err fault) are plain = tt

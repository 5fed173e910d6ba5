use Rattle.std.proofs.Common.{◌≡◌, drop}
use Rattle.toml.specs.View.{items_view}
use Rattle.xa_jobs.specs.JobFiles.{votes_in}
use Rattle.xa_jobs.proofs.JobLemmas.{with_votes}
use Rattle.xa_jobs.proofs.jobs.votes_of.Given as goal

abbrev pub invariant-loop-value : goal.invariant-loop-value
invariant-loop-value l = with_votes l.votes.items (votes_in (items_view (drop l.value-index l.items)))
    ≡ votes_in (items_view l.items)

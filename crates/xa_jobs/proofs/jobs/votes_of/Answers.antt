use Rattle.std.proofs.Common.{◌≡◌, ◌++◌, ◌∷◌, [], ap, sym}
use Rattle.std.specs.Option.{ok_or}
use Rattle.toml.specs.View.{items_view}
use Rattle.xa_files.specs.declared.fault.RunFault.TheVariants.{Job}
use Rattle.xa_jobs.specs.JobFiles.{votes_in}
use Rattle.xa_jobs.proofs.JobLemmas.{vote_goes_on, vote_stops, votes_end}
use Rattle.xa_jobs.proofs.jobs.votes_of.Goals as goal

pub returns-in-Err : goal.returns-in-Err
returns-in-Err c =
    sym (ap (λ votes. ok_or votes (Job c.args.number)) (vote_stops c.loop-value.votes.items c.args.items.now c.loop-value.value-index c.value-item.result
    (votes_in (items_view c.args.items.now))
    c.loop-value-test.true c.value-item.is (sym c.in-Err.ensures) c.loop-value.invariant))

pub loop-value-preserved : goal.loop-value-preserved
loop-value-preserved c =
    let grown : c.push.new.self.items ≡ c.loop-value.votes.items ++ c.in-Ok.vote ∷ [] = c.in_ok-push-in-Ok.ensures.items in
    rw grown (vote_goes_on c.loop-value.votes.items c.in-Ok.vote c.args.items.now c.loop-value.value-index
    c.value-item.result (votes_in (items_view c.args.items.now))
    c.loop-value-test.true c.value-item.is (sym c.in-Ok.ensures) c.loop-value.invariant)

pub returns : goal.returns
returns c =
    sym (ap (λ votes. ok_or votes (Job c.args.number)) (votes_end c.loop-value.votes.items c.args.items.now c.loop-value.value-index
    (votes_in (items_view c.args.items.now)) c.loop-value-test.false c.loop-value.invariant))

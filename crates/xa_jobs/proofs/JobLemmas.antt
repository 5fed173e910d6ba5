-- The votes and the jobs read so far, together with those of the items that are left.
use Rattle.std.proofs.Common.{◌≡◌, ◌∙◌, ℕ, ◌+◌, ◌<◌, ◌≤◌, List, [], ◌∷◌, ◌++◌, length, get_or, drop, Option, Some}
use Rattle.std.proofs.Common.{None, option_map, Result, Ok, Err, refl, sym, ap, append_assoc, append-nil}
use Rattle.std.proofs.Common.{drop_of_length-le}
use Rattle.std.specs.Prelude.{option_and_then}
use Rattle.toml.specs.Data.{item}
use Rattle.toml.specs.View.{view, items_view}
use Rattle.toml.specs.declared.value.Value.{Value}
use Rattle.toml.proofs.Views.{items_view-drop}
use Rattle.xa_base.specs.declared.vote.Vote.{Vote}
use Rattle.xa_files.specs.Reading.{◌>>=◌}
use Rattle.xa_files.specs.declared.fault.RunFault.{RunFault}
use Rattle.xa_jobs.specs.JobFiles.{Votes, vote_in, votes_in, job_at, jobs_from}

-- ** the votes of one job

abbrev pub with_votes : Votes → Option Votes → Option Votes
with_votes front more = option_map (λ others. front ++ others) more

votes_joined : (front : Votes) (vote : Option Vote) (more : Option Votes)
    → with_votes front (option_and_then (λ votes. Some (vote ∷ votes)) more) ≡ with_votes (front ++ vote ∷ []) more
votes_joined front vote None = refl
votes_joined front vote (Some others) = ap Some (sym (append_assoc front (vote ∷ []) others))

-- an item in the list, and those after it
at_vote : (front : Votes) (vs : List Value) (i : ℕ) (v : Value) → i < length vs → v ≡ get_or vs i v
    → with_votes front (votes_in (items_view (drop i vs)))
    ≡ with_votes front (votes_in (item (view v) (items_view (drop (i + 1) vs))))
at_vote front vs i v within is =
    ap (λ ds. with_votes front (votes_in ds)) (items_view-drop vs i v within
    ∙ ap (λ w. item (view w) (items_view (drop (i + 1) vs))) (sym is))

pub vote_goes_on : (front : Votes) (vote : Option Vote) (vs : List Value) (i : ℕ) (v : Value) (all : Option Votes)
    → i < length vs → v ≡ get_or vs i v → vote_in (view v) ≡ Some vote
    → with_votes front (votes_in (items_view (drop i vs))) ≡ all
    → with_votes (front ++ vote ∷ []) (votes_in (items_view (drop (i + 1) vs))) ≡ all
unfolding votes_in
vote_goes_on front vote vs i v all within is named so_far =
    let others = votes_in (items_view (drop (i + 1) vs)) in
    let step : votes_in (item (view v) (items_view (drop (i + 1) vs)))
    ≡ option_and_then (λ votes. Some (vote ∷ votes)) others =
    ap (option_and_then (λ vote. option_and_then (λ votes. Some (vote ∷ votes)) others)) named in
    sym (votes_joined front vote others) ∙ ap (with_votes front) (sym step) ∙ sym (at_vote front vs i v within is)
    ∙ so_far

pub vote_stops : (front : Votes) (vs : List Value) (i : ℕ) (v : Value) (all : Option Votes)
    → i < length vs → v ≡ get_or vs i v → vote_in (view v) ≡ None
    → with_votes front (votes_in (items_view (drop i vs))) ≡ all → None ≡ all
unfolding votes_in
vote_stops front vs i v all within is named so_far =
    let others = votes_in (items_view (drop (i + 1) vs)) in
    let step : votes_in (item (view v) (items_view (drop (i + 1) vs))) ≡ None =
    ap (option_and_then (λ vote. option_and_then (λ votes. Some (vote ∷ votes)) others)) named in
    ap (with_votes front) (sym step) ∙ sym (at_vote front vs i v within is) ∙ so_far

pub votes_end : (front : Votes) (vs : List Value) (i : ℕ) (all : Option Votes)
    → length vs ≤ i → with_votes front (votes_in (items_view (drop i vs))) ≡ all → Some front ≡ all
unfolding votes_in
votes_end front vs i all past so_far =
    ap Some (sym (append-nil front)) ∙ sym
    (ap (λ ds. with_votes front (votes_in (items_view ds))) (drop_of_length-le vs past)) ∙ so_far

-- ** all jobs

abbrev pub with_jobs : List Votes → Result (List Votes) RunFault → Result (List Votes) RunFault
with_jobs front read = read >>= λ others. Ok (front ++ others)

jobs_joined : (front : List Votes) (votes : Votes) (read : Result (List Votes) RunFault)
    → with_jobs front (read >>= λ others. Ok (votes ∷ others)) ≡ with_jobs (front ++ votes ∷ []) read
jobs_joined front votes (Ok others) = ap Ok (sym (append_assoc front (votes ∷ []) others))
jobs_joined front votes (Err e) = refl

at_job : (rms : ℕ) (front : List Votes) (number : ℕ) (vs : List Value) (i : ℕ) (v : Value) → i < length vs → v
    ≡ get_or vs i v
    → with_jobs front (jobs_from rms number (items_view (drop i vs)))
    ≡ with_jobs front (jobs_from rms number (item (view v) (items_view (drop (i + 1) vs))))
at_job rms front number vs i v within is =
    ap (λ ds. with_jobs front (jobs_from rms number ds)) (items_view-drop vs i v within
    ∙ ap (λ w. item (view w) (items_view (drop (i + 1) vs))) (sym is))

pub job_goes_on : (rms : ℕ) (front : List Votes) (votes : Votes) (number : ℕ) (vs : List Value) (i : ℕ) (v : Value)
    (all : Result (List Votes) RunFault)
    → i < length vs → v ≡ get_or vs i v → job_at rms number (view v) ≡ Ok votes
    → with_jobs front (jobs_from rms number (items_view (drop i vs))) ≡ all
    → with_jobs (front ++ votes ∷ []) (jobs_from rms (number + 1) (items_view (drop (i + 1) vs))) ≡ all
unfolding jobs_from
job_goes_on rms front votes number vs i v all within is asked so_far =
    let others = jobs_from rms (number + 1) (items_view (drop (i + 1) vs)) in
    let step : jobs_from rms number (item (view v) (items_view (drop (i + 1) vs)))
    ≡ (others >>= λ more. Ok (votes ∷ more)) = rw asked refl in
    sym (jobs_joined front votes others) ∙ ap (with_jobs front) (sym step)
    ∙ sym (at_job rms front number vs i v within is) ∙ so_far

pub job_stops : (rms : ℕ) (front : List Votes) (fault : RunFault) (number : ℕ) (vs : List Value) (i : ℕ) (v : Value)
    (all : Result (List Votes) RunFault)
    → i < length vs → v ≡ get_or vs i v → job_at rms number (view v) ≡ Err fault
    → with_jobs front (jobs_from rms number (items_view (drop i vs))) ≡ all → all ≡ Err fault
unfolding jobs_from
job_stops rms front fault number vs i v all within is asked so_far =
    let step : jobs_from rms number (item (view v) (items_view (drop (i + 1) vs))) ≡ Err fault = rw asked refl in
    sym so_far ∙ at_job rms front number vs i v within is ∙ ap (with_jobs front) step

pub jobs_end : (rms : ℕ) (front : List Votes) (number : ℕ) (vs : List Value) (i : ℕ)
    (all : Result (List Votes) RunFault)
    → length vs ≤ i → with_jobs front (jobs_from rms number (items_view (drop i vs))) ≡ all → all ≡ Ok front
unfolding jobs_from
jobs_end rms front number vs i all past so_far =
    sym so_far ∙ ap (λ ds. with_jobs front (jobs_from rms number (items_view ds))) (drop_of_length-le vs past)
    ∙ ap Ok (append-nil front)

-- Which texts are jobs files, and the fault of each other text.
use Rattle.std.specs.Prelude.{ℕ, ◌+◌, ◌==◌, nat_lt, Bool, if◌then◌else◌, List, [], ◌∷◌, length, map, codes, Option}
use Rattle.std.specs.Prelude.{Some, None, Result, Ok, option_map}
use Rattle.std.specs.Str.{bytes_eq}
use Rattle.std.specs.Global.{Vec}
use Rattle.std.specs.Option.{ok_or, option_and_then}
use Rattle.toml.specs.Data.{Data, Items, no_items, item, Members, as_array, as_str, as_table, get_member}
use Rattle.xa_base.specs.declared.vote.Vote.{Vote}
use Rattle.xa_files.specs.Documents.{document_of}
use Rattle.xa_files.specs.Fields.{has_only}
use Rattle.xa_files.specs.Reading.{◌>>=◌}
use Rattle.xa_files.specs.declared.fault.RunFault.{RunFault}
use Rattle.xa_files.specs.declared.fault.RunFault.TheVariants.{Job}
use Rattle.xa_workers.specs.declared.limits.TheConstants.{JOB_LIMIT}
use Rattle.xa_jobs.specs.Headers.{jobs_header_of}
use Rattle.xa_files.specs.Words.{vote_named}
use Rattle.xa_workers.specs.declared.jobs.Jobs.{Jobs}

-- the votes of a job, by the resource managers
abbrev pub Votes : Type 0
Votes = List (Option Vote)

-- how many threads and resource managers there are, whether a recovery sweeps, and the votes of
-- each job
pub record JobPlan : Type 0 where
  pub threads : ℕ
  pub rms : ℕ
  pub sweep : Bool
  pub votes : List Votes

-- the votes of jobs, without where they lie in memory
abbrev pub rows_in : List (Vec (Option Vote)) → List Votes
rows_in rows = map (λ row. row.items) rows

abbrev pub job_plan_of : Jobs → JobPlan
job_plan_of jobs = record { threads = jobs.threads; rms = jobs.rms; sweep = jobs.sweep; votes = rows_in jobs.votes.items }

-- what a word says of a branch: `none` that the job has none, another how it votes
unfoldable pub branch_vote_named : List ℕ → Option (Option Vote)
branch_vote_named word = if bytes_eq word (codes "none") then Some None else option_map Some (vote_named word)

-- the same of an item
unfoldable pub vote_in : Data → Option (Option Vote)
vote_in value = option_and_then branch_vote_named (as_str value)

-- the votes that the items name, if each names one
unfoldable pub votes_in : Items → Option Votes
votes_in no_items = Some []
votes_in (item value items) = option_and_then
    (λ vote. option_and_then (λ votes. Some (vote ∷ votes)) (votes_in items)) (vote_in value)

-- the votes if they are of this number
abbrev pub if_number : ℕ → Votes → Option Votes
if_number rms votes = if length votes == rms then Some votes else None

-- the votes that the items name, of which there is one or none for each resource manager
abbrev pub job_row_in : (rms : ℕ) → Items → Option Votes
job_row_in rms items = option_and_then (if_number rms) (votes_in items)

-- the items of the votes of a job's table, which has no other key
unfoldable pub items_in_table : Members → Option Items
items_in_table table =
    if has_only (codes "votes" ∷ []) table then option_and_then as_array (get_member (codes "votes") table) else None

-- the same of the table of a number: there are at most 1,000
abbrev pub items_at : (number : ℕ) → Data → Option Items
items_at number value = if nat_lt JOB_LIMIT number then None else option_and_then items_in_table (as_table value)

-- the votes of the job of a number
abbrev pub job_at : (rms number : ℕ) → Data → Result Votes RunFault
job_at rms number value = ok_or (option_and_then (job_row_in rms) (items_at number value)) (Job number)

-- the votes of the jobs in turn, or the first faulty one; the first has this number
unfoldable pub jobs_from : (rms number : ℕ) → Items → Result (List Votes) RunFault
jobs_from rms number no_items = Ok []
jobs_from rms number (item value items) = do
  votes ← job_at rms number value
  others ← jobs_from rms (number + 1) items
  Ok (votes ∷ others)

-- the jobs that a document asks for, or the first fault
unfoldable pub jobs_in : Members → Result JobPlan RunFault
jobs_in document = do
  header ← jobs_header_of document
  votes ← jobs_from header.1 1 header.3
  Ok (record { threads = header.0; rms = header.1; sweep = header.2; votes = votes })

-- the same of a text
unfoldable pub jobs_of : List ℕ → Result JobPlan RunFault
jobs_of text = document_of text >>= jobs_in

-- The top of a jobs file.
use Rattle.std.specs.Prelude.{ℕ, Bool, false, if◌then◌else◌, List, [], ◌∷◌, codes, Option, Some, None, Result}
use Rattle.std.specs.Option.{ok_or}
use Rattle.toml.specs.Data.{Items, Members, get_member, as_bool}
use Rattle.xa_base.specs.declared.limits.TheConstants.{MAX_RMS, MAX_THREADS}
use Rattle.xa_files.specs.Documents.{size_at, tables_at}
use Rattle.xa_files.specs.Fields.{◌>>=◌, has_only, holds}
use Rattle.xa_files.specs.declared.fault.RunFault.{RunFault}
use Rattle.xa_files.specs.declared.fault.RunFault.TheVariants.{Header}

-- whether a recovery sweeps the jobs; not if the key is missing
unfoldable pub sweep_at : Members → Option Bool
sweep_at document =
    if holds (codes "sweep") document then get_member (codes "sweep") document >>= as_bool else Some false

-- the keys that there may be
abbrev pub header_keys : List (List ℕ)
header_keys = codes "threads" ∷ codes "rms" ∷ codes "sweep" ∷ codes "job" ∷ []

-- the numbers of threads and of resource managers, from 1 to the most of a system, whether a
-- recovery sweeps, and the tables of the jobs
unfoldable pub jobs_header_at : Members → Option (ℕ × ℕ × Bool × Items)
jobs_header_at document = if has_only header_keys document then (do
  threads ← size_at MAX_THREADS (codes "threads") document
  rms ← size_at MAX_RMS (codes "rms") document
  sweep ← sweep_at document
  jobs ← tables_at (codes "job") document
  Some (threads, rms, sweep, jobs)) else None

-- the same, with its fault
abbrev pub jobs_header_of : Members → Result (ℕ × ℕ × Bool × Items) RunFault
jobs_header_of document = ok_or (jobs_header_at document) Header

-- The top of a scenario file.
use Rattle.std.specs.Prelude.{ℕ, if◌then◌else◌, [], ◌∷◌, codes, Option, Some, None}
use Rattle.toml.specs.Data.{Items, Members}
use Rattle.xa_base.specs.declared.limits.TheConstants.{MAX_RMS, MAX_THREADS}
use Rattle.xa_files.specs.Documents.{size_at, tables_at}
use Rattle.xa_files.specs.Fields.{◌>>=◌, has_only}

-- the numbers of threads and of resource managers, from 1 to the most of a system, and the tables
-- of the steps; there are no other keys
unfoldable pub header_at : Members → Option (ℕ × ℕ × Items)
header_at document = if has_only (codes "threads" ∷ codes "rms" ∷ codes "step" ∷ []) document then (do
  threads ← size_at MAX_THREADS (codes "threads") document
  rms ← size_at MAX_RMS (codes "rms") document
  steps ← tables_at (codes "step") document
  Some (threads, rms, steps)) else None

-- The requests that begin and end transactions.
use Rattle.std.specs.Prelude.{◌-◌, List, [], ◌∷◌, length, slice_get, take, Option, Some, None}
use Rattle.xa_base.specs.declared.branch.Gtrid.{Gtrid}
use Rattle.xa_files.specs.Fields.{◌>>=◌}
use Rattle.xa_files.specs.Numbers.{index_of}
use Rattle.xa_files.specs.Words.{outcome_named}
use Rattle.xa_requests.specs.Names.{gtrid_named, gtrids_named}
use Rattle.xa_requests.specs.Words.{Word}
use Rattle.xa_requests.specs.declared.request.Request.{Request}
use Rattle.xa_requests.specs.declared.request.Request.TheVariants as requests

-- begin T
abbrev pub begin_request : List Word → Option Request
begin_request (t ∷ []) = index_of t >>= λ thread. Some (requests.Begin thread)
begin_request _ = None

-- G [G ..]
abbrev pub some_gtrids : List Word → Option (List Gtrid)
some_gtrids [] = None
some_gtrids (g ∷ words) = gtrids_named (g ∷ words)

-- decide G [G ..] commit, decide G [G ..] rollback: the last word says how the transactions that
-- the others name end
unfoldable pub decide_request : List Word → Option Request
decide_request words = do
  gtrids ← some_gtrids (take (length words - 1) words)
  outcome ← slice_get words (length words - 1) >>= outcome_named
  Some (requests.Decide gtrids outcome)

-- G
abbrev pub only_gtrid : List Word → Option Gtrid
only_gtrid (g ∷ []) = gtrid_named g
only_gtrid _ = None

-- claim G
abbrev pub claim_request : List Word → Option Request
claim_request words = only_gtrid words >>= λ gtrid. Some (requests.Claim gtrid)

-- settle G
abbrev pub settle_request : List Word → Option Request
settle_request words = only_gtrid words >>= λ gtrid. Some (requests.Settle gtrid)

-- abandon G
abbrev pub abandon_request : List Word → Option Request
abandon_request words = only_gtrid words >>= λ gtrid. Some (requests.Abandon gtrid)

-- done G [G ..]
abbrev pub done_request : List Word → Option Request
done_request words = some_gtrids words >>= λ gtrids. Some (requests.Done gtrids)

-- Which transactions requests decide for commit, and which reports are votes for that.
use Rattle.std.specs.Prelude.{◌≡◌, ◌==◌, ◌&&◌, Bool, true, false, List}
use Rattle.std.specs.List.{list_any}
use Rattle.xa_base.specs.declared.branch.Gtrid.{Gtrid}
use Rattle.xa_base.specs.declared.code.Code.TheVariants.{ReadOnly, Success}
use Rattle.xa_base.specs.declared.step.Outcome.TheVariants as outcomes
use Rattle.xa_conduct.specs.declared.report.Report.{Report}
use Rattle.xa_conduct.specs.declared.report.Report.TheVariants as reports
use Rattle.xa_requests.specs.declared.request.Request.{Request}
use Rattle.xa_requests.specs.declared.request.Request.TheVariants as requests

abbrev pub is_same : Gtrid → Gtrid → Bool
is_same g h = (g.incarnation == h.incarnation) && (g.sequence == h.sequence)

-- the request decides this transaction for commit, perhaps with others
abbrev pub is_commit_of : Gtrid → Request → Bool
is_commit_of g (requests.Decide gtrids outcomes.Commit) = list_any (is_same g) gtrids
is_commit_of g _ = false

abbrev pub is_rollback_of : Gtrid → Request → Bool
is_rollback_of g (requests.Decide gtrids outcomes.Rollback) = list_any (is_same g) gtrids
is_rollback_of g _ = false

-- one of the requests decides it for commit
abbrev pub CommitIsAsked : List Request → Gtrid → Type 0
CommitIsAsked asked g = list_any (is_commit_of g) asked ≡ true

-- what is among some requests is still among these
abbrev pub AsksNoLess : (old new : List Request) → Type 0
AsksNoLess old new = (p : Request → Bool) → list_any p old ≡ true → list_any p new ≡ true

-- a report that is a vote for commit
abbrev pub is_for : Report → Bool
is_for (reports.Code Success) = true
is_for (reports.Code ReadOnly) = true
is_for _ = false

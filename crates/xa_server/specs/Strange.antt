-- Branches that no session over a log began.
use Rattle.std.specs.Prelude.{ℕ, Bool, false, not, ◌&&◌, ◌||◌, nat_eq, nat_le, nat_lt, List, Option, Some, None}
use Rattle.std.specs.List.{list_any}
use Rattle.xa_base.specs.Branch.{branch_of_xid}
use Rattle.xa_base.specs.declared.answer.Answer.TheVariants.{Page}
use Rattle.xa_base.specs.declared.branch.Branch.{Branch}
use Rattle.xa_base.specs.declared.branch.Gtrid.{Gtrid}
use Rattle.xa_base.specs.Xid.{Xid}
use Rattle.xa_requests.specs.declared.request.Request.{Request}
use Rattle.xa_requests.specs.declared.request.Request.TheVariants as requests
use Rattle.xa_requests.specs.declared.response.Response.{Response}
use Rattle.xa_requests.specs.declared.response.Response.TheVariants as responses
use Rattle.xa_requests.specs.declared.response.RequestFault.TheVariants as faults

-- the transaction is of an earlier incarnation, or of this one, whose last one so far has this
-- sequence
abbrev pub was_begun : (incarnation last : ℕ) → Gtrid → Bool
was_begun incarnation last g = nat_lt g.incarnation incarnation || (nat_eq g.incarnation incarnation && nat_le g.sequence last)

-- the branch is at this resource manager, and its transaction wasn't begun
abbrev pub is_unknown_at : (incarnation last rm : ℕ) → Option Branch → Bool
is_unknown_at incarnation last rm None = false
is_unknown_at incarnation last rm (Some b) = nat_eq b.rm rm && not (was_begun incarnation last b.gtrid)

-- an identifier of such a branch is listed
abbrev pub lists_strange : (incarnation last rm : ℕ) → List Xid → Bool
lists_strange incarnation last rm xids = list_any (λ xid. is_unknown_at incarnation last rm (branch_of_xid xid)) xids

-- the request was a page that lists one, and was refused
abbrev pub is_strange_page : (incarnation last : ℕ) → Request → Response → Bool
is_strange_page incarnation last (requests.Answer thread rm name (Page page)) (responses.Fault faults.NoSuchState) =
    lists_strange incarnation last rm page
is_strange_page incarnation last request reply = false

-- the sequence of the last transaction that the session has begun, after a reply
abbrev pub last_after : ℕ → Response → ℕ
last_after last (responses.Begun g) = g.sequence
last_after last reply = last

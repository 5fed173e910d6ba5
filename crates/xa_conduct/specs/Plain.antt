-- The requests that a conductor makes. For each of them there is a line by which a driver might have asked for it.
use Rattle.std.specs.Prelude.{◌≡◌, ℕ, ◌^◌, ◌&&◌, Bool, true, false, nat_le, nat_lt, ℤ, pos, negsuc, List, length, Option, Some, None}
use Rattle.std.specs.List.{list_all}
use Rattle.xa_base.specs.Branch.{branch_of_xid, xid_of_branch}
use Rattle.xa_base.specs.Xid.{Xid, xid_eq}
use Rattle.xa_base.specs.declared.answer.Answer.{Answer}
use Rattle.xa_base.specs.declared.answer.Answer.TheVariants.{Page, Ret}
use Rattle.xa_base.specs.declared.branch.Branch.{Branch}
use Rattle.xa_base.specs.declared.branch.Gtrid.{Gtrid}
use Rattle.xa_base.specs.declared.call.Call.{Call}
use Rattle.xa_base.specs.declared.call.Call.TheVariants as calls
use Rattle.xa_base.specs.declared.call.CallKind.{CallKind}
use Rattle.xa_base.specs.declared.call.CallKind.TheVariants as kinds
use Rattle.xa_requests.specs.declared.request.CallName.{CallName}
use Rattle.xa_requests.specs.declared.request.Request.{Request}
use Rattle.xa_requests.specs.declared.request.Request.TheVariants as requests
use Rattle.xa_server.specs.Lines.{asked_in}

-- ** parts of a request

-- so many transactions stand on one line at most
abbrev pub most_gtrids : ℕ
most_gtrids = 1200

abbrev pub is_number : ℕ → Bool
is_number n = nat_lt n (2 ^ 32)

-- the numbers of a branch fit their types
abbrev pub is_branch : Branch → Bool
is_branch b = (nat_lt b.gtrid.incarnation (2 ^ 64) && nat_lt b.gtrid.sequence (2 ^ 64)) && (is_number b.thread && is_number b.rm)

-- it is the identifier of a branch of this manager
abbrev pub is_that_of : Xid → Option Branch → Bool
is_that_of x None = false
is_that_of x (Some b) = xid_eq x (xid_of_branch b) && is_branch b

abbrev pub is_own : Xid → Bool
is_own x = is_that_of x (branch_of_xid x)

abbrev pub is_gtrid : Gtrid → Bool
is_gtrid g = nat_lt g.incarnation (2 ^ 64) && nat_lt g.sequence (2 ^ 64)

abbrev pub are_few : List Gtrid → Bool
are_few gs = nat_lt 0 (length gs) && (nat_le (length gs) most_gtrids && list_all is_gtrid gs)

abbrev pub is_count : ℤ → Bool
is_count (pos n) = nat_le n 64
is_count (negsuc n) = false

abbrev pub is_plain_call : Call Xid → Bool
is_plain_call calls.OpenRm = true
is_plain_call calls.CloseRm = false
is_plain_call (calls.Start x join) = is_own x
is_plain_call (calls.End x fail) = is_own x
is_plain_call (calls.Prepare x) = is_own x
is_plain_call (calls.Commit x one_phase) = is_own x
is_plain_call (calls.Rollback x) = is_own x
is_plain_call (calls.Forget x) = is_own x
is_plain_call (calls.Recover count start_scan end_scan) = is_count count

abbrev pub is_on_branch : CallKind → Bool
is_on_branch kinds.OpenRm = false
is_on_branch kinds.CloseRm = false
is_on_branch kinds.Recover = false
is_on_branch kind = true

abbrev pub is_open_call : CallKind → Bool
is_open_call kinds.OpenRm = true
is_open_call kind = false

abbrev pub is_recover : CallKind → Bool
is_recover kinds.Recover = true
is_recover kind = false

-- a code to a call on a branch of this manager, or to an xa_open
abbrev pub is_named : CallKind → Option Xid → Bool
is_named kind (Some x) = is_on_branch kind && is_own x
is_named kind None = is_open_call kind

abbrev pub is_none : Option Xid → Bool
is_none None = true
is_none (Some x) = false

abbrev pub is_plain_answer : CallName → Answer Xid → Bool
is_plain_answer name (Ret code) = is_named name.kind name.xid
is_plain_answer name (Page xids) = is_recover name.kind && (is_none name.xid && (nat_le (length xids) 64 && list_all is_own xids))

-- ** requests

abbrev pub is_plain : Request → Bool
is_plain (requests.Begin t) = is_number t
is_plain (requests.Issue t r call) = is_number t && (is_number r && is_plain_call call)
is_plain (requests.Answer t r name answer) = is_number t && (is_number r && is_plain_answer name answer)
is_plain (requests.Decide gs outcome) = are_few gs
is_plain (requests.Done gs) = are_few gs
is_plain (requests.Resolve r) = is_number r
is_plain (requests.Waiting t r) = is_number t && is_number r
is_plain (requests.Owed r) = is_number r
is_plain (requests.CrashLine t r) = is_number t && is_number r
is_plain _ = false

abbrev pub ArePlain : List Request → Type 0
ArePlain requests = list_all is_plain requests ≡ true

-- ** and their lines

-- a driver may ask for it by a line
abbrev pub IsAskedInLine : Request → Type 0
IsAskedInLine request = (line : List ℕ) × (asked_in line ≡ Some request)

-- each plain request has one
abbrev pub PlainRequestsHaveLines : Type 0
PlainRequestsHaveLines = (request : Request) → is_plain request ≡ true → IsAskedInLine request

-- What is written of a call, read again.
use Rattle.std.specs.Prelude.{◌≡◌, ℕ, ◌<◌, ◌^◌, List, ◌++◌, codes, Some, IfSome, FitsSigned}
use Rattle.std.specs.Fmt.{decimal}
use Rattle.std.specs.Int.{w64}
use Rattle.xa_base.specs.Call.{count_in, xid_in}
use Rattle.xa_base.specs.Xid.{Xid, IsXid}
use Rattle.xa_base.specs.declared.call.Call.{Call}
use Rattle.xa_requests.specs.Requests.{request_of}
use Rattle.xa_requests.specs.Responses.{call_text}
use Rattle.xa_requests.specs.declared.request.Request.TheVariants as requests

-- the line that issues a call on the line of a thread to a resource manager
abbrev pub issue_line : (thread rm : ℕ) → Call Xid → List ℕ
issue_line thread rm call = codes "issue " ++ decimal thread ++ codes " " ++ decimal rm ++ codes " " ++ call_text call

-- A call that is written after `issue` is read as that call.
abbrev pub CallsAreReadBack : Type 0
CallsAreReadBack = (thread rm : ℕ) (call : Call Xid) → thread < 2 ^ 32 → rm < 2 ^ 32
    → IfSome (xid_in call) IsXid → IfSome (count_in call) (FitsSigned w64)
    → request_of (issue_line thread rm call) ≡ Some (requests.Issue thread rm call)

-- The text of replies.
use Rattle.std.specs.Prelude.{ℕ, ℤ, Bool, if◌then◌else◌, List, [], ◌++◌, length, codes}
use Rattle.std.specs.Fmt.{decimal, signed_decimal}
use Rattle.xa_base.specs.Call.{kind_name}
use Rattle.xa_base.specs.Xid.{Xid, text_of}
use Rattle.xa_base.specs.declared.call.Call.{Call}
use Rattle.xa_base.specs.declared.call.Call.TheVariants.{OpenRm, CloseRm, Start, End, Prepare, Commit, Rollback, Forget, Recover}
use Rattle.xa_base.specs.declared.call.CallKind.{CallKind}
use Rattle.xa_base.specs.declared.call.CallKind.TheVariants as kinds
use Rattle.xa_files.specs.Replies.{begun_text, listed_xids, refused_text, restarted_text}
use Rattle.xa_requests.specs.declared.response.RequestFault.{RequestFault}
use Rattle.xa_requests.specs.declared.response.RequestFault.TheVariants as faults
use Rattle.xa_requests.specs.declared.response.Response.{Response}
use Rattle.xa_requests.specs.declared.response.Response.TheVariants as responses

-- a call on a branch, with its flag
abbrev pub branch_text : CallKind → Xid → (flag : List ℕ) → List ℕ
branch_text kind xid flag = kind_name kind ++ codes " " ++ text_of xid ++ flag

-- the flags of an xa_recover
abbrev pub scan_text : (start_scan end_scan : Bool) → List ℕ
scan_text start_scan end_scan = (if start_scan then codes " TMSTARTRSCAN" else []) ++ (if end_scan then codes " TMENDRSCAN" else [])

-- an xa_recover, with its count and its flags
abbrev pub recover_text : (count : ℤ) (start_scan end_scan : Bool) → List ℕ
recover_text count start_scan end_scan = kind_name kinds.Recover ++ codes " " ++ signed_decimal count ++ scan_text start_scan end_scan

-- a call, as a driver is to do it: its name, its branch or its count, and its flags
abbrev pub call_text : Call Xid → List ℕ
call_text OpenRm = kind_name kinds.OpenRm
call_text CloseRm = kind_name kinds.CloseRm
call_text (Start xid join) = branch_text kinds.Start xid (if join then codes " TMJOIN" else [])
call_text (End xid fail) = branch_text kinds.End xid (if fail then codes " TMFAIL" else codes " TMSUCCESS")
call_text (Prepare xid) = branch_text kinds.Prepare xid []
call_text (Commit xid one_phase) = branch_text kinds.Commit xid (if one_phase then codes " TMONEPHASE" else [])
call_text (Rollback xid) = branch_text kinds.Rollback xid []
call_text (Forget xid) = branch_text kinds.Forget xid []
call_text (Recover count start_scan end_scan) = recover_text count start_scan end_scan

-- how many branches are owed, and their identifiers
abbrev pub owed_text : List Xid → List ℕ
owed_text xids = codes "owed " ++ decimal (length xids) ++ listed_xids xids

-- the name of a call, and the number that it was answered by
abbrev pub heard_text : CallKind → ℤ → List ℕ
heard_text kind number = codes "heard " ++ kind_name kind ++ codes " " ++ signed_decimal number

-- whether the manager is up, and how much has happened
abbrev pub status_text : (up : Bool) (happened : ℕ) → List ℕ
status_text up happened = codes "status " ++ (if up then codes "up" else codes "down") ++ codes " " ++ decimal happened

abbrev pub error_text : RequestFault → List ℕ
error_text faults.NoRequest = codes "error not a request"
error_text faults.NothingWaits = codes "error nothing waits"
error_text faults.OtherCall = codes "error another call waits first"
error_text faults.NoSuchAnswer = codes "error no such answer"
error_text faults.NoSuchState = codes "error the branch is in no such state"

-- the line of a reply
abbrev pub response_text : Response → List ℕ
response_text (responses.Restarted incarnation decisions heuristics) = restarted_text incarnation decisions heuristics
response_text (responses.Begun gtrid) = begun_text gtrid
response_text (responses.Issued call) = codes "issued " ++ call_text call
response_text (responses.Heard kind number) = heard_text kind number
response_text (responses.Waits call) = codes "waits " ++ call_text call
response_text responses.Nothing = codes "nothing"
response_text responses.Decided = codes "decided"
response_text responses.Claimed = codes "claimed"
response_text responses.Noted = codes "noted"
response_text (responses.Resolved calls) = codes "resolved " ++ decimal calls
response_text (responses.Owed xids) = owed_text xids.items
response_text responses.Crashed = codes "crashed"
response_text (responses.Status up happened) = status_text up happened
response_text responses.Bye = codes "bye"
response_text (responses.Refused refusal) = refused_text refusal
response_text (responses.Fault fault) = error_text fault

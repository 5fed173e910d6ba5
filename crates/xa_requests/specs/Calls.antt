-- The requests to make calls.
use Rattle.std.specs.Prelude.{ℕ, ◌+◌, ◌&&◌, if◌then◌else◌, List, [], ◌∷◌, codes, Option, Some, None}
use Rattle.std.specs.Str.{bytes_eq}
use Rattle.xa_base.specs.Call.{call_with}
use Rattle.xa_base.specs.Xid.{Xid}
use Rattle.xa_base.specs.declared.call.Call.{Call}
use Rattle.xa_base.specs.declared.call.CallKind.{CallKind}
use Rattle.xa_base.specs.declared.call.CallKind.TheVariants as kinds
use Rattle.xa_base.specs.declared.flags.TheConstants.{TMENDRSCAN, TMNOFLAGS, TMSTARTRSCAN}
use Rattle.xa_files.specs.Fields.{◌>>=◌}
use Rattle.xa_files.specs.Numbers.{index_of, integer_of}
use Rattle.xa_files.specs.Words.{call_named, flag_named}
use Rattle.xa_requests.specs.Names.{branch_named}
use Rattle.xa_requests.specs.Words.{Word}
use Rattle.xa_requests.specs.declared.request.Request.{Request}
use Rattle.xa_requests.specs.declared.request.Request.TheVariants as requests

-- the flags of a whole scan
abbrev pub scan_flags : Word → Word → Option ℕ
scan_flags start end =
    if bytes_eq start (codes "TMSTARTRSCAN") && bytes_eq end (codes "TMENDRSCAN") then Some (TMSTARTRSCAN + TMENDRSCAN) else None

-- flags: none, one, or those of a whole scan
abbrev pub flags_in : List Word → Option ℕ
flags_in [] = Some TMNOFLAGS
flags_in (flag ∷ []) = flag_named flag
flags_in (start ∷ end ∷ []) = scan_flags start end
flags_in _ = None

-- [FLAG ..]
abbrev pub bare_call : CallKind → List Word → Option (Call Xid)
bare_call kind words = flags_in words >>= λ flags. call_with kind None flags None

-- B [FLAG ..]
unfoldable pub branch_call : CallKind → (thread rm : ℕ) → List Word → Option (Call Xid)
branch_call kind thread rm [] = None
branch_call kind thread rm (branch ∷ words) = do
  xid ← branch_named thread rm branch
  flags ← flags_in words
  call_with kind (Some xid) flags None

-- COUNT [FLAG ..]
unfoldable pub recover_call : List Word → Option (Call Xid)
recover_call [] = None
recover_call (number ∷ words) = do
  count ← integer_of number
  flags ← flags_in words
  call_with kinds.Recover None flags (Some count)

-- the call of a kind, by the words after its name
abbrev pub call_behind : CallKind → (thread rm : ℕ) → List Word → Option (Call Xid)
call_behind kinds.OpenRm thread rm words = bare_call kinds.OpenRm words
call_behind kinds.CloseRm thread rm words = bare_call kinds.CloseRm words
call_behind kinds.Recover thread rm words = recover_call words
call_behind kind thread rm words = branch_call kind thread rm words

-- CALL, on the line of a thread to a resource manager
unfoldable pub call_in : (thread rm : ℕ) → List Word → Option (Call Xid)
call_in thread rm [] = None
call_in thread rm (name ∷ words) = call_named name >>= λ kind. call_behind kind thread rm words

-- issue T R CALL
unfoldable pub issue_request : List Word → Option Request
issue_request (t ∷ r ∷ words) = do
  thread ← index_of t
  rm ← index_of r
  call ← call_in thread rm words
  Some (requests.Issue thread rm call)
issue_request _ = None

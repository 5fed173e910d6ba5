-- The identifiers in what a line asks for.
use Rattle.std.specs.Prelude.{◌≡◌, ℕ, All, List, Some, IfSome}
use Rattle.xa_base.specs.Call.{xid_in}
use Rattle.xa_base.specs.Xid.{Xid, IsXid}
use Rattle.xa_base.specs.declared.answer.Answer.{Answer}
use Rattle.xa_base.specs.declared.answer.Answer.TheVariants.{Page, Ret}
use Rattle.xa_requests.specs.Requests.{request_of}
use Rattle.xa_requests.specs.declared.request.Request.{Request}
use Rattle.xa_requests.specs.declared.request.Request.TheVariants as requests

-- each that a page lists is one
abbrev pub ListsXids : Answer Xid → Type 0
ListsXids (Page xids) = All IsXid xids
ListsXids (Ret code) = Unit

-- each of a request is one: of a call, of a call's name, and of a page
abbrev pub HasXids : Request → Type 0
HasXids (requests.Issue thread rm call) = IfSome (xid_in call) IsXid
HasXids (requests.Answer thread rm name answer) = IfSome name.xid IsXid × ListsXids answer
HasXids request = Unit

-- Each identifier in what a line asks for is one: its parts have the lengths and the numbers that
-- XA allows.
abbrev pub RequestsHaveXids : Type 0
RequestsHaveXids = (line : List ℕ) (request : Request) → request_of line ≡ Some request → HasXids request

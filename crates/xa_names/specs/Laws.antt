-- Laws on names.
use Rattle.std.specs.Prelude.{◌≡◌, ◌≢◌, ℕ, List, [], None, Some}
use Rattle.xa_base.specs.Branch.{IsBranch, branch_of_xid}
use Rattle.xa_base.specs.Call.{map_call, xid_in}
use Rattle.xa_base.specs.Xid.{Xid, IsXid}
use Rattle.xa_base.specs.declared.branch.Branch.{Branch}
use Rattle.xa_base.specs.declared.call.Call.{Call}
use Rattle.xa_names.specs.Lines.{line_renamed}
use Rattle.xa_names.specs.Names.{IsUnder, renamed, xid_under}
use Rattle.xa_requests.specs.Responses.{response_text}
use Rattle.xa_requests.specs.declared.response.Response.TheVariants as responses

abbrev pub RenamesBack : Type 0
RenamesBack = (name : List ℕ) (x : Xid) → renamed name (renamed name x) ≡ x

-- ** branches

abbrev pub BranchesAreRead : Type 0
BranchesAreRead = (name : List ℕ) (b : Branch) → IsBranch b → branch_of_xid (renamed name (xid_under name b)) ≡ Some b

abbrev pub BranchesHaveNames : Type 0
BranchesHaveNames = (name : List ℕ) (x : Xid) (b : Branch) → IsXid (renamed name x) → branch_of_xid (renamed name x) ≡ Some b → x ≡ xid_under name b

-- an identifier that is read as a branch is meant as one of this name
abbrev pub OwnHaveName : Type 0
OwnHaveName = (name : List ℕ) (x : Xid) (b : Branch) → branch_of_xid x ≡ Some b → IsUnder name (renamed name x)

abbrev pub NamesAreApart : Type 0
NamesAreApart = (m n : List ℕ) (x : Xid) → IsUnder m x → IsUnder n x → m ≡ n

abbrev pub OthersAreForeign : Type 0
OthersAreForeign = (m n : List ℕ) (x : Xid) → IsUnder m x → m ≢ n → branch_of_xid (renamed n x) ≡ None

-- ** no name

abbrev pub StaysWithoutName : Type 0
StaysWithoutName = (x : Xid) → renamed [] x ≡ x

abbrev pub LinesStay : Type 0
LinesStay = (line : List ℕ) → line_renamed [] line ≡ line

-- ** what is written of a call

-- A call on a branch that is told is written with the identifier that stands for its own.
abbrev pub WrittenCalls : Type 0
WrittenCalls =
    (name : List ℕ) (call : Call Xid) (x : Xid) → xid_in call ≡ Some x → IsXid x
    → (line_renamed name (response_text (responses.Issued call)) ≡ response_text (responses.Issued (map_call (renamed name) call)))
    × (line_renamed name (response_text (responses.Waits call)) ≡ response_text (responses.Waits (map_call (renamed name) call)))

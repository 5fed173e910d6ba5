-- The requests that tell what was answered.
use Rattle.std.specs.Prelude.{ℕ, ◌==◌, if◌then◌else◌, List, [], ◌∷◌, length, Option, Some, None}
use Rattle.xa_base.specs.Xid.{Xid}
use Rattle.xa_base.specs.declared.answer.Answer.{Answer}
use Rattle.xa_base.specs.declared.answer.Answer.TheVariants.{Ret, Page}
use Rattle.xa_base.specs.declared.call.CallKind.{CallKind}
use Rattle.xa_base.specs.declared.call.CallKind.TheVariants as kinds
use Rattle.xa_files.specs.Fields.{◌>>=◌}
use Rattle.xa_files.specs.Numbers.{index_of}
use Rattle.xa_files.specs.Words.{call_named, code_named}
use Rattle.xa_requests.specs.Names.{branch_named, xids_named}
use Rattle.xa_requests.specs.Words.{Word}
use Rattle.xa_requests.specs.declared.request.CallName.{CallName}
use Rattle.xa_requests.specs.declared.request.Request.{Request}
use Rattle.xa_requests.specs.declared.request.Request.TheVariants as requests

-- a call's name, and the answer to it
abbrev pub Answered : Type 0
Answered = CallName × Answer Xid

-- NUMBER
unfoldable pub bare_answer : CallKind → List Word → Option Answered
bare_answer kind (number ∷ []) = code_named number >>= λ code. Some (record { kind = kind; xid = None }, Ret code)
bare_answer kind _ = None

-- B NUMBER
unfoldable pub branch_answer : CallKind → (thread rm : ℕ) → List Word → Option Answered
branch_answer kind thread rm (branch ∷ number ∷ []) = do
  xid ← branch_named thread rm branch
  code ← code_named number
  Some (record { kind = kind; xid = Some xid }, Ret code)
branch_answer kind thread rm _ = None

-- XID ..
abbrev pub page_answered : List Word → Option Answered
page_answered words = xids_named words >>= λ xids. Some (record { kind = kinds.Recover; xid = None }, Page xids)

-- NUMBER XID .., where the number is how many identifiers follow; or a number that is below 0
unfoldable pub recover_answer : List Word → Option Answered
recover_answer [] = None
recover_answer (number ∷ words) = elim (index_of number) [
  | Some count ↦ if count == length words then page_answered words else None
  | None ↦ bare_answer kinds.Recover (number ∷ words)
]

-- the answer to a call of a kind, by the words after its name
abbrev pub answer_behind : CallKind → (thread rm : ℕ) → List Word → Option Answered
answer_behind kinds.OpenRm thread rm words = bare_answer kinds.OpenRm words
answer_behind kinds.CloseRm thread rm words = bare_answer kinds.CloseRm words
answer_behind kinds.Recover thread rm words = recover_answer words
answer_behind kind thread rm words = branch_answer kind thread rm words

-- answer T R NAME [B] NUMBER [XID ..]
unfoldable pub answer_request : List Word → Option Request
answer_request (t ∷ r ∷ name ∷ words) = do
  thread ← index_of t
  rm ← index_of r
  kind ← call_named name
  answered ← answer_behind kind thread rm words
  Some (requests.Answer thread rm answered.0 answered.1)
answer_request _ = None

-- Calls and answers as the manager reads them.
use Rattle.std.specs.Prelude.{false, true, ◌≡◌, IsSome, Option, Some, None}
use Rattle.xa_base.specs.declared.call.Call.TheVariants as Calls
use Rattle.std.specs.Option.{option_and_then}
use Rattle.xa_base.specs.Call.{xid_in}
use Rattle.xa_model.specs.Replies.Steps.{ours_of}
use Rattle.xa_base.specs.declared.answer.Answer.TheVariants.{Ret, Page}
use Rattle.xa_model.specs.Trace.{Name.Ours, Answer}
use Rattle.xa_base.specs.declared.branch.Branch.{Branch}
use Rattle.xa_log.specs.Contract.{FitsRow}
use Rattle.xa_tm.specs.News.{Asked, news_to}

-- the branch of this manager that is called, if there is one
abbrev pub branch_asked : Asked → Option Branch
branch_asked asked = option_and_then ours_of (xid_in asked)

-- the one that is started, or committed in one phase
abbrev pub branch_started : Asked → Option Branch
branch_started (Calls.Start (Ours b) false) = Some b
branch_started (Calls.Start (Ours b) true) = Some b
branch_started _ = None

abbrev pub branch_handed_over : Asked → Option Branch
branch_handed_over (Calls.Commit (Ours b) true) = Some b
branch_handed_over _ = None

-- a call on a branch is answered by a code
abbrev pub IsAnswerTo : Asked → Answer → Type 0
IsAnswerTo _ (Ret code) = Unit
IsAnswerTo Calls.OpenRm (Page names) = Unit
IsAnswerTo Calls.CloseRm (Page names) = Unit
IsAnswerTo (Calls.Recover n start end) (Page names) = Unit
IsAnswerTo _ (Page names) = ⊥

-- a branch of which an answer makes a record fits the log
abbrev pub FitsRecord : Asked → Answer → Type 0
FitsRecord a (Ret code) = (b : Branch) → branch_asked a ≡ Some b → IsSome (news_to a code).how → FitsRow b.gtrid
FitsRecord a (Page names) = Unit

-- the answer makes a record, so that the log is asked
abbrev pub MakesRecord : Asked → Answer → Type 0
MakesRecord a (Ret code) = IsSome (news_to a code).how
MakesRecord a (Page names) = ⊥

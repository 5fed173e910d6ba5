-- When a row of the log waits for nothing more: when the manager may forget the transaction (XA, section 2.3).
use Rattle.std.specs.Prelude.{List, [], ◌∷◌, Bool, true, false, not, ◌&&◌, ◌||◌, if◌then◌else◌}
use Rattle.xa_base.specs.Branch.{branch_eq}
use Rattle.xa_base.specs.declared.answer.Answer.TheVariants.{Ret}
use Rattle.xa_base.specs.declared.call.Call.TheVariants as Calls
use Rattle.xa_base.specs.declared.code.Code.TheVariants as Codes
use Rattle.xa_model.specs.Facts.HeardAnswers.{was_told, was_told_lately, says_read_only, acknowledges, is_refused, is_rollback_code, is_gone}
use Rattle.xa_model.specs.Facts.Log.{participants, recorded}
use Rattle.xa_model.specs.Facts.Decisions.{all_of, branches}
use Rattle.xa_model.specs.Facts.LineCalls.{on_line}
use Rattle.xa_model.specs.Facts.Manager.{begun}
use Rattle.xa_model.specs.Trace.{Gtrid, Branch, Line, Call, Answer, Trace, line_of, line_eq}

-- a branch of a committed transaction is settled: it voted to only read, or acknowledged its xa_commit, or is recorded
abbrev pub is_settled : Trace → Branch → Bool
is_settled tr b = recorded tr b || (was_told tr (says_read_only b) || was_told tr (acknowledges b))

-- it acknowledged its xa_commit since the manager last came up, or is recorded. An earlier acknowledgement doesn't count for a row of an
-- older incarnation: the manager sends xa_commit again, and hears XAER_NOTA from a branch that had ended
abbrev pub is_settled_lately : Trace → Branch → Bool
is_settled_lately tr b = recorded tr b || was_told_lately tr (acknowledges b)

-- each branch passes the test
abbrev pub each : (Branch → Bool) → List Branch → Bool
each test [] = true
each test (b ∷ bs) = test b && each test bs

-- each does, and there is one
abbrev pub each_of_some : (Branch → Bool) → List Branch → Bool
each_of_some test [] = false
each_of_some test (b ∷ bs) = test b && each test bs

-- a row of an older incarnation is settled: it has a participant, and each is settled lately
abbrev pub participants_settled : Trace → Gtrid → Bool
participants_settled tr g = each_of_some (is_settled_lately tr) (participants tr g)

-- a row of this incarnation waits for all branches of its transaction, one that has outlived its own for its participants
abbrev pub row_settled : Trace → Gtrid → Bool
row_settled tr g = if begun tr g then all_of g (is_settled tr) (branches tr) else participants_settled tr g

-- ** branches that are done with

-- an answer after which the manager owes the branch nothing more
abbrev pub finishes : Branch → Call → Answer → Bool
finishes b (Calls.Start c join) a = branch_eq c b && is_refused a
finishes b (Calls.Prepare c) (Ret Codes.ReadOnly) = branch_eq c b
finishes b (Calls.Prepare c) a = branch_eq c b && is_rollback_code a
finishes b (Calls.Commit c true) a = branch_eq c b && (is_gone a || is_rollback_code a)
finishes b (Calls.Rollback c) a = branch_eq c b && (is_gone a || is_rollback_code a)
finishes b (Calls.Commit c false) a = branch_eq c b && is_gone a
finishes b (Calls.Forget c) a = branch_eq c b && is_gone a
finishes b _ a = false

-- the manager owes the branch nothing more
abbrev pub finished : Trace → Branch → Bool
finished tr b = was_told tr (finishes b)

-- a branch started on this line, since it last broke, is not finished
abbrev pub has_unfinished : Trace → Line → List Branch → Bool
has_unfinished tr l [] = false
has_unfinished tr l (b ∷ bs) = (line_eq (line_of b) l && (on_line tr b && not (finished tr b))) || has_unfinished tr l bs

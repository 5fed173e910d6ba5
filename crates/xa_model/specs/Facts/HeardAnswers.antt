-- The answers that the manager heard, to xa_prepare, xa_commit and xa_recover (XA, chapter 5): `was_told` has them all.
use Rattle.std.specs.Prelude.{ℕ, List, [], ◌∷◌, Bool, true, false, ◌||◌, if◌then◌else◌}
use Rattle.xa_base.specs.Branch.{gtrid_eq, branch_eq}
use Rattle.xa_base.specs.declared.code.Code.TheVariants as Codes
use Rattle.xa_model.specs.Facts.Manager.{breaks}
use Rattle.xa_base.specs.declared.call.Call.TheVariants as Calls
use Rattle.xa_base.specs.declared.answer.Answer.TheVariants.{Ret, Page}
use Rattle.xa_model.specs.Trace.{Gtrid, Branch, Name, Name.Ours, Name.Foreign, Call, Answer, Happening, Happening.Heard, Happening.Restarted, Trace, Trace.From, Trace.Then, line, line_eq}

-- whether some answer heard passes a test
abbrev pub was_told : Trace → (Call → Answer → Bool) → Bool
was_told (From o) test = false
was_told (Then tr (Heard l c a)) test = test c a || was_told tr test
was_told (Then tr _) test = was_told tr test

-- the same, of the answers since the manager last came up
abbrev pub was_told_lately : Trace → (Call → Answer → Bool) → Bool
was_told_lately (From o) test = false
was_told_lately (Then tr (Restarted i d h)) test = false
was_told_lately (Then tr (Heard l c a)) test = test c a || was_told_lately tr test
was_told_lately (Then tr _) test = was_told_lately tr test

-- ** votes and acknowledgements

-- XA_OK to the branch's xa_prepare
abbrev pub says_yes : Branch → Call → Answer → Bool
says_yes b (Calls.Prepare c) (Ret Codes.Success) = branch_eq c b
says_yes b _ _ = false

-- XA_RDONLY to it
abbrev pub says_read_only : Branch → Call → Answer → Bool
says_read_only b (Calls.Prepare c) (Ret Codes.ReadOnly) = branch_eq c b
says_read_only b _ _ = false

-- XA_OK to the xa_prepare of some branch of the transaction
abbrev pub says_yes_in : Gtrid → Call → Answer → Bool
says_yes_in g (Calls.Prepare c) (Ret Codes.Success) = gtrid_eq c.gtrid g
says_yes_in g _ _ = false

-- XA_OK or XAER_NOTA to the branch's xa_commit in two phases
abbrev pub acknowledges : Branch → Call → Answer → Bool
acknowledges b (Calls.Commit c false) (Ret Codes.Success) = branch_eq c b
acknowledges b (Calls.Commit c false) (Ret Codes.NotAnXid) = branch_eq c b
acknowledges b _ _ = false

-- ** other answers

-- an answer to the branch's xa_start
abbrev pub answers_start : Branch → Call → Answer → Bool
answers_start b (Calls.Start c join) a = branch_eq c b
answers_start b _ a = false

-- a code other than XA_OK
abbrev pub is_refused : Answer → Bool
is_refused (Ret Codes.Success) = false
is_refused _ = true

-- one of the XA_RB codes
abbrev pub is_rollback_code : Answer → Bool
is_rollback_code (Ret (Codes.RolledBack code)) = true
is_rollback_code _ = false

-- XA_OK or XAER_NOTA
abbrev pub is_gone : Answer → Bool
is_gone (Ret Codes.Success) = true
is_gone (Ret Codes.NotAnXid) = true
is_gone _ = false

-- ** pages

-- the page after one happening more
abbrev pub page_after : List Name → Happening → (rm : ℕ) → List Name
page_after names (Heard l (Calls.Recover n s e) (Page ns)) r = if line_eq l (line 0 r) then ns else names
page_after names _ r = names

-- the last page heard on the first thread's line, since that broke
abbrev pub page : Trace → (rm : ℕ) → List Name
page (From o) r = []
page (Then tr e) r = if breaks tr e (line 0 r) then [] else page_after (page tr r) e r

-- whether a page lists a branch of the transaction
abbrev pub lists_one_of : Gtrid → List Name → Bool
lists_one_of g [] = false
lists_one_of g (Ours b ∷ names) = gtrid_eq b.gtrid g || lists_one_of g names
lists_one_of g (Foreign x ∷ names) = lists_one_of g names

-- Worked histories of lines: each reply is the demanded one, and the fates and the log at the end are as told.
use Rattle.std.proofs.Common.{◌≡◌, pos, List, [], ◌∷◌, ◌++◌, true, false, refl}
use Rattle.xa_base.specs.declared.code.Code.TheVariants as Codes
use Rattle.xa_base.specs.declared.code.How.TheVariants as How
use Rattle.xa_base.specs.declared.refusal.Refusal.TheVariants as Refusal
use Rattle.xa_base.specs.declared.state.Fate.TheVariants as Fates
use Rattle.xa_base.specs.declared.step.Outcome.TheVariants as Outcome
use Rattle.xa_base.specs.declared.step.Part.TheVariants as Part
use Rattle.xa_model.specs.Replies.Allowed.{with_steps, AllAllowed}
use Rattle.xa_model.specs.Facts.{log, heuristic_rows, fate}
use Rattle.xa_base.specs.declared.reply.Reply.TheVariants as Replies
use Rattle.xa_base.specs.declared.step.Step.TheVariants as Steps
use Rattle.xa_model.specs.Replies.Steps.{Step, Reply}
use Rattle.xa_base.specs.declared.call.Call.TheVariants as Calls
use Rattle.xa_base.specs.declared.answer.Answer.TheVariants.{Ret, Page}
use Rattle.xa_model.specs.Trace.{Name.Ours, Trace.From}
use Rattle.xa_model.proofs.Replies.ComputedReplies.{computed}
use Rattle.xa_model.proofs.WorkedHistories.{fresh, gtrid, own, recorded_so, asking, once, answered, called, ready, scanned, issued_times, taken_times}

-- A line breaks with two calls waiting: they are lost, and so is the active branch.
unfoldable pub line_crash : List (Step × Reply)
line_crash =
    once (Steps.Begin 0) (Replies.Begun (gtrid 1 1))
    ++ called 0 0 Calls.OpenRm (Ret Codes.Success)
    ++ once (Steps.Issue 0 0 (asking (Calls.Start (own 1 0 0) false))) Replies.Issued
    ++ once (Steps.Issue 0 0 (asking (Calls.End (own 1 0 0) false))) Replies.Issued
    ++ once (Steps.Issue 0 0 (asking (Calls.Prepare (own 1 0 0)))) Replies.Issued
    ++ once (Steps.Take 0 0) (Replies.Took (asking (Calls.Start (own 1 0 0) false)) (Ret Codes.Success))
    ++ once (Steps.Crash (Part.Line 0 0)) Replies.Crashed
    ++ once (Steps.Take 0 0) Replies.Nothing

line_crash-allowed : AllAllowed (From (fresh 1 1)) line_crash
unfolding line_crash
line_crash-allowed = computed (From (fresh 1 1)) line_crash refl

line_crash-fates : fate (with_steps (From (fresh 1 1)) line_crash) (own 1 0 0) ≡ Fates.Lost
unfolding line_crash
line_crash-fates = refl

line_crash-log : log (with_steps (From (fresh 1 1)) line_crash) ≡ []
unfolding line_crash
line_crash-log = refl

-- A line is closed only when its branches are finished, and takes no call afterwards.
unfoldable pub closed_line : List (Step × Reply)
closed_line =
    once (Steps.Begin 0) (Replies.Begun (gtrid 1 1))
    ++ ready 0 (own 1 0 0)
    ++ once (Steps.Issue 0 0 (asking Calls.CloseRm)) (Replies.Refused Refusal.Busy)
    ++ once (Steps.Decide (gtrid 1 1) Outcome.Rollback) Replies.Decided
    ++ called 0 0 (Calls.Rollback (own 1 0 0)) (Ret Codes.Success)
    ++ called 0 0 Calls.CloseRm (Ret Codes.Success)
    ++ once (Steps.Begin 0) (Replies.Begun (gtrid 1 2))
    ++ once (Steps.Issue 0 0 (asking (Calls.Start (own 2 0 0) false))) (Replies.Refused Refusal.Closed)

closed_line-allowed : AllAllowed (From (fresh 1 1)) closed_line
unfolding closed_line
closed_line-allowed = computed (From (fresh 1 1)) closed_line refl

closed_line-fates : fate (with_steps (From (fresh 1 1)) closed_line) (own 1 0 0) ≡ Fates.RolledBack
unfolding closed_line
closed_line-fates = refl

closed_line-log : log (with_steps (From (fresh 1 1)) closed_line) ≡ []
unfolding closed_line
closed_line-log = refl

-- A rollback from another thread waits until the answer to the xa_start was heard.
unfoldable pub rollback_elsewhere : List (Step × Reply)
rollback_elsewhere =
    called 0 0 Calls.OpenRm (Ret Codes.Success)
    ++ called 1 0 Calls.OpenRm (Ret Codes.Success)
    ++ once (Steps.Begin 0) (Replies.Begun (gtrid 1 1))
    ++ once (Steps.Issue 0 0 (asking (Calls.Start (own 1 0 0) false))) Replies.Issued
    ++ once (Steps.Decide (gtrid 1 1) Outcome.Rollback) Replies.Decided
    ++ once (Steps.Issue 1 0 (asking (Calls.Rollback (own 1 0 0)))) (Replies.Refused Refusal.Busy)
    ++ answered 0 0 (Calls.Start (own 1 0 0) false) (Ret Codes.Success)
    ++ called 1 0 (Calls.Rollback (own 1 0 0)) (Ret Codes.Protocol)
    ++ called 0 0 (Calls.End (own 1 0 0) false) (Ret Codes.Success)
    ++ called 1 0 (Calls.Rollback (own 1 0 0)) (Ret Codes.Success)

rollback_elsewhere-allowed : AllAllowed (From (fresh 2 1)) rollback_elsewhere
unfolding rollback_elsewhere
rollback_elsewhere-allowed = computed (From (fresh 2 1)) rollback_elsewhere refl

rollback_elsewhere-fates : fate (with_steps (From (fresh 2 1)) rollback_elsewhere) (own 1 0 0) ≡ Fates.RolledBack
unfolding rollback_elsewhere
rollback_elsewhere-fates = refl

rollback_elsewhere-log : log (with_steps (From (fresh 2 1)) rollback_elsewhere) ≡ []
unfolding rollback_elsewhere
rollback_elsewhere-log = refl

-- A branch may be committed, rolled back or forgotten from another thread.
unfoldable pub ended_elsewhere : List (Step × Reply)
ended_elsewhere =
    once (Steps.Begin 0) (Replies.Begun (gtrid 1 1))
    ++ ready 0 (own 1 0 0)
    ++ ready 1 (own 1 0 1)
    ++ called 0 0 (Calls.Prepare (own 1 0 0)) (Ret Codes.Success)
    ++ called 0 1 (Calls.Prepare (own 1 0 1)) (Ret Codes.Success)
    ++ called 1 0 Calls.OpenRm (Ret Codes.Success)
    ++ called 1 1 Calls.OpenRm (Ret Codes.Success)
    ++ once (Steps.Heuristic 1 (Ours (own 1 0 1)) How.Rb) Replies.Noted
    ++ once (Steps.Decide (gtrid 1 1) Outcome.Commit) Replies.Decided
    ++ called 1 0 (Calls.Commit (own 1 0 0) false) (Ret Codes.Success)
    ++ called 1 1 (Calls.Commit (own 1 0 1) false) (Ret (Codes.Heuristic How.Rb))
    ++ called 1 1 (Calls.Forget (own 1 0 1)) (Ret Codes.Success)
    ++ once (Steps.Done (gtrid 1 1)) Replies.Noted

ended_elsewhere-allowed : AllAllowed (From (fresh 2 2)) ended_elsewhere
unfolding ended_elsewhere
ended_elsewhere-allowed = computed (From (fresh 2 2)) ended_elsewhere refl

ended_elsewhere-fates : (fate (with_steps (From (fresh 2 2)) ended_elsewhere) (own 1 0 0) ≡ Fates.Committed)
    × (fate (with_steps (From (fresh 2 2)) ended_elsewhere) (own 1 0 1) ≡ Fates.Heuristic How.Rb)
unfolding ended_elsewhere
ended_elsewhere-fates = (refl, refl)

ended_elsewhere-log : log (with_steps (From (fresh 2 2)) ended_elsewhere) ≡ []
unfolding ended_elsewhere
ended_elsewhere-log = refl

ended_elsewhere-record : heuristic_rows (with_steps (From (fresh 2 2)) ended_elsewhere) ≡ (recorded_so (own 1 0 1) How.Rb ∷ [])
unfolding ended_elsewhere
ended_elsewhere-record = refl

-- A line breaks with an xa_start waiting: the branch may then be rolled back elsewhere, and its line may be closed.
unfoldable pub start_lost : List (Step × Reply)
start_lost =
    called 0 0 Calls.OpenRm (Ret Codes.Success)
    ++ called 1 0 Calls.OpenRm (Ret Codes.Success)
    ++ once (Steps.Begin 0) (Replies.Begun (gtrid 1 1))
    ++ once (Steps.Issue 0 0 (asking (Calls.Start (own 1 0 0) false))) Replies.Issued
    ++ once (Steps.Decide (gtrid 1 1) Outcome.Rollback) Replies.Decided
    ++ once (Steps.Issue 1 0 (asking (Calls.Rollback (own 1 0 0)))) (Replies.Refused Refusal.Busy)
    ++ once (Steps.Issue 0 0 (asking Calls.CloseRm)) (Replies.Refused Refusal.Busy)
    ++ once (Steps.Crash (Part.Line 0 0)) Replies.Crashed
    ++ called 1 0 (Calls.Rollback (own 1 0 0)) (Ret Codes.NotAnXid)
    ++ called 0 0 Calls.OpenRm (Ret Codes.Success)
    ++ called 0 0 Calls.CloseRm (Ret Codes.Success)

start_lost-allowed : AllAllowed (From (fresh 2 1)) start_lost
unfolding start_lost
start_lost-allowed = computed (From (fresh 2 1)) start_lost refl

start_lost-fates : fate (with_steps (From (fresh 2 1)) start_lost) (own 1 0 0) ≡ Fates.Unstarted
unfolding start_lost
start_lost-fates = refl

start_lost-log : log (with_steps (From (fresh 2 1)) start_lost) ≡ []
unfolding start_lost
start_lost-log = refl

-- An xa_start with TMJOIN is of a branch too: it is not known, and so is finished.
unfoldable pub join_refused : List (Step × Reply)
join_refused =
    called 0 0 Calls.OpenRm (Ret Codes.Success)
    ++ called 1 0 Calls.OpenRm (Ret Codes.Success)
    ++ once (Steps.Begin 0) (Replies.Begun (gtrid 1 1))
    ++ once (Steps.Issue 0 0 (asking (Calls.Start (own 1 0 0) true))) Replies.Issued
    ++ once (Steps.Issue 0 0 (asking (Calls.Start (own 1 0 0) false))) (Replies.Refused Refusal.AlreadyStarted)
    ++ once (Steps.Decide (gtrid 1 1) Outcome.Commit) (Replies.Refused Refusal.Votes)
    ++ once (Steps.Decide (gtrid 1 1) Outcome.Rollback) Replies.Decided
    ++ once (Steps.Issue 1 0 (asking (Calls.Rollback (own 1 0 0)))) (Replies.Refused Refusal.Busy)
    ++ answered 0 0 (Calls.Start (own 1 0 0) true) (Ret Codes.NotAnXid)
    ++ called 1 0 (Calls.Rollback (own 1 0 0)) (Ret Codes.NotAnXid)
    ++ called 0 0 Calls.CloseRm (Ret Codes.Success)

join_refused-allowed : AllAllowed (From (fresh 2 1)) join_refused
unfolding join_refused
join_refused-allowed = computed (From (fresh 2 1)) join_refused refl

join_refused-fates : fate (with_steps (From (fresh 2 1)) join_refused) (own 1 0 0) ≡ Fates.Unstarted
unfolding join_refused
join_refused-fates = refl

join_refused-log : log (with_steps (From (fresh 2 1)) join_refused) ≡ []
unfolding join_refused
join_refused-log = refl

-- A Take for which memory was refused changes nothing: the next one takes the call.
unfoldable pub refused_growth : List (Step × Reply)
refused_growth =
    once (Steps.Begin 0) (Replies.Begun (gtrid 1 1))
    ++ called 0 0 Calls.OpenRm (Ret Codes.Success)
    ++ once (Steps.Issue 0 0 (asking (Calls.Start (own 1 0 0) false))) Replies.Issued
    ++ once (Steps.Take 0 0) (Replies.Refused Refusal.Memory)
    ++ answered 0 0 (Calls.Start (own 1 0 0) false) (Ret Codes.Success)

refused_growth-allowed : AllAllowed (From (fresh 1 1)) refused_growth
unfolding refused_growth
refused_growth-allowed = computed (From (fresh 1 1)) refused_growth refl

refused_growth-fates : fate (with_steps (From (fresh 1 1)) refused_growth) (own 1 0 0) ≡ Fates.Active
unfolding refused_growth
refused_growth-fates = refl

refused_growth-log : log (with_steps (From (fresh 1 1)) refused_growth) ≡ []
unfolding refused_growth
refused_growth-log = refl

-- A line holds 64 calls.
unfoldable pub full_line : List (Step × Reply)
full_line =
    called 0 0 Calls.OpenRm (Ret Codes.Success)
    ++ issued_times 64 Calls.OpenRm
    ++ once (Steps.Issue 0 0 (asking Calls.OpenRm)) (Replies.Refused Refusal.Full)
    ++ once (Steps.Take 0 0) (Replies.Took (asking Calls.OpenRm) (Ret Codes.Success))
    ++ once (Steps.Issue 0 0 (asking Calls.OpenRm)) Replies.Issued

full_line-allowed : AllAllowed (From (fresh 1 1)) full_line
unfolding full_line
full_line-allowed = computed (From (fresh 1 1)) full_line refl

full_line-log : log (with_steps (From (fresh 1 1)) full_line) ≡ []
unfolding full_line
full_line-log = refl

-- A line holds 64 answers; recovery needs a free place for each of its calls.
unfoldable pub full_of_answers : List (Step × Reply)
full_of_answers =
    once (Steps.Begin 0) (Replies.Begun (gtrid 1 1))
    ++ ready 0 (own 1 0 0)
    ++ called 0 0 (Calls.Prepare (own 1 0 0)) (Ret Codes.Success)
    ++ scanned 0 (pos 8) true true (Page (Ours (own 1 0 0) ∷ []))
    ++ once (Steps.Decide (gtrid 1 1) Outcome.Rollback) Replies.Decided
    ++ issued_times 64 Calls.OpenRm
    ++ once (Steps.Recover 0 (pos 1) true true) (Replies.Refused Refusal.Full)
    ++ once (Steps.Resolve 0) (Replies.Refused Refusal.Full)
    ++ once (Steps.ResolveOpen 0) (Replies.Refused Refusal.Full)
    ++ taken_times 64 Calls.OpenRm
    ++ once (Steps.Resolve 0) (Replies.Resolved 1)
    ++ once (Steps.Take 0 0) (Replies.Refused Refusal.Full)
    ++ once (Steps.Hear 0 0) (Replies.Heard (asking Calls.OpenRm) (Ret Codes.Success))
    ++ once (Steps.Take 0 0) (Replies.Took (asking (Calls.Rollback (own 1 0 0))) (Ret Codes.Success))

full_of_answers-allowed : AllAllowed (From (fresh 1 1)) full_of_answers
unfolding full_of_answers
full_of_answers-allowed = computed (From (fresh 1 1)) full_of_answers refl

full_of_answers-fates : fate (with_steps (From (fresh 1 1)) full_of_answers) (own 1 0 0) ≡ Fates.RolledBack
unfolding full_of_answers
full_of_answers-fates = refl

full_of_answers-log : log (with_steps (From (fresh 1 1)) full_of_answers) ≡ []
unfolding full_of_answers
full_of_answers-log = refl

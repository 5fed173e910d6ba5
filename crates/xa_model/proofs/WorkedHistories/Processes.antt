-- A worked history of two processes: what the first leaves prepared the second ends as the log says. Each reply is the one that its
-- own process's events demand, and the fates and the log at the end are as told, of the whole and as the second process sees them.
use Rattle.std.proofs.Common.{◌≡◌, pos, List, [], ◌∷◌, ◌++◌, true, false, refl}
use Rattle.xa_base.specs.declared.code.Code.TheVariants as Codes
use Rattle.xa_base.specs.declared.refusal.Refusal.TheVariants as Refusal
use Rattle.xa_base.specs.declared.state.Fate.TheVariants as Fates
use Rattle.xa_base.specs.declared.step.Outcome.TheVariants as Outcome
use Rattle.xa_model.specs.Promises.Processes.{next_start, resumed}
use Rattle.xa_model.specs.Replies.Allowed.{with_steps, AllAllowed}
use Rattle.xa_model.specs.Facts.{log, fate, heuristic_rows}
use Rattle.xa_base.specs.declared.reply.Reply.TheVariants as Replies
use Rattle.xa_base.specs.declared.step.Step.TheVariants as Steps
use Rattle.xa_model.specs.Replies.Steps.{Step, Reply}
use Rattle.xa_base.specs.declared.call.Call.TheVariants as Calls
use Rattle.xa_base.specs.declared.answer.Answer.TheVariants.{Ret, Page}
use Rattle.xa_model.specs.Trace.{Name.Ours, Origin, Trace, Trace.From}
use Rattle.xa_model.proofs.Replies.ComputedReplies.{computed}
use Rattle.xa_model.proofs.WorkedHistories.{fresh, gtrid, own, once, answered, called, ready, scanned}

-- Two branches are prepared and decided to commit; one of them is committed, and the process is gone.
unfoldable pub first_process : List (Step × Reply)
first_process =
    once (Steps.Begin 0) (Replies.Begun (gtrid 1 1))
    ++ ready 0 (own 1 0 0)
    ++ ready 1 (own 1 0 1)
    ++ called 0 0 (Calls.Prepare (own 1 0 0)) (Ret Codes.Success)
    ++ called 0 1 (Calls.Prepare (own 1 0 1)) (Ret Codes.Success)
    ++ once (Steps.Decide (gtrid 1 1) Outcome.Commit) Replies.Decided
    ++ called 0 0 (Calls.Commit (own 1 0 0) false) (Ret Codes.Success)

abbrev pub before_second : Trace
before_second = with_steps (From (fresh 1 2)) first_process

-- The next process finds the other one prepared, with its row, and commits it. The row leaves once both have acknowledged anew.
abbrev pub second_start : Origin
second_start = next_start before_second 2 (log before_second) (heuristic_rows before_second)

unfoldable pub second_process : List (Step × Reply)
second_process =
    called 0 0 Calls.OpenRm (Ret Codes.Success)
    ++ scanned 0 (pos 8) true true (Page [])
    ++ called 0 1 Calls.OpenRm (Ret Codes.Success)
    ++ scanned 1 (pos 8) true true (Page (Ours (own 1 0 1) ∷ []))
    ++ once (Steps.Resolve 1) (Replies.Resolved 1)
    ++ answered 0 1 (Calls.Commit (own 1 0 1) false) (Ret Codes.Success)
    ++ once (Steps.Done (gtrid 1 1)) (Replies.Refused Refusal.Busy)
    ++ called 0 0 (Calls.Commit (own 1 0 0) false) (Ret Codes.NotAnXid)
    ++ once (Steps.Done (gtrid 1 1)) Replies.Noted

first_process-allowed : AllAllowed (From (fresh 1 2)) first_process
unfolding first_process
first_process-allowed = computed (From (fresh 1 2)) first_process refl

second_process-allowed : AllAllowed (From second_start) second_process
unfolding first_process second_process
second_process-allowed = computed (From second_start) second_process refl

-- of the whole both branches are committed; the second process saw only the one
both_processes-fates : (fate (with_steps (resumed before_second second_start) second_process) (own 1 0 0) ≡ Fates.Committed)
    × (fate (with_steps (resumed before_second second_start) second_process) (own 1 0 1) ≡ Fates.Committed)
unfolding first_process second_process
both_processes-fates = (refl, refl)

second_process-fates : fate (with_steps (From second_start) second_process) (own 1 0 1) ≡ Fates.Committed
unfolding first_process second_process
second_process-fates = refl

both_processes-log : log (with_steps (resumed before_second second_start) second_process) ≡ []
unfolding first_process second_process
both_processes-log = refl

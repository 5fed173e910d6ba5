-- Worked histories with crashes of the manager or of a resource manager: each reply is the demanded one, and the fates and the log
-- at the end are as told.
use Rattle.std.proofs.Common.{◌≡◌, pos, List, [], ◌∷◌, ◌++◌, true, refl, false}
use Rattle.xa_base.specs.declared.code.Code.TheVariants as Codes
use Rattle.xa_base.specs.declared.refusal.Refusal.TheVariants as Refusal
use Rattle.xa_base.specs.declared.state.Fate.TheVariants as Fates
use Rattle.xa_base.specs.declared.step.Outcome.TheVariants as Outcome
use Rattle.xa_base.specs.declared.step.Part.TheVariants as Part
use Rattle.xa_base.specs.declared.step.Side.TheVariants as Side
use Rattle.xa_model.specs.Replies.Allowed.{with_steps, AllAllowed}
use Rattle.xa_model.specs.Facts.{log, fate}
use Rattle.xa_base.specs.declared.reply.Reply.TheVariants as Replies
use Rattle.xa_base.specs.declared.step.Step.TheVariants as Steps
use Rattle.xa_model.specs.Replies.Steps.{Step, Reply}
use Rattle.xa_base.specs.declared.call.Call.TheVariants as Calls
use Rattle.xa_base.specs.declared.answer.Answer.TheVariants.{Ret, Page}
use Rattle.xa_model.specs.Trace.{Name.Ours, Trace.From}
use Rattle.xa_model.proofs.Replies.ComputedReplies.{computed}
use Rattle.xa_model.proofs.WorkedHistories.{fresh, gtrid, own, row, with_old_row, asking, once, answered, called, ready, scanned}

-- The answer to a commit in one phase is lost with its line; the branch is committed all the same.
unfoldable pub lost_answer : List (Step × Reply)
lost_answer =
    once (Steps.Begin 0) (Replies.Begun (gtrid 1 1))
    ++ ready 0 (own 1 0 0)
    ++ once (Steps.Issue 0 0 (asking (Calls.Commit (own 1 0 0) true))) Replies.Issued
    ++ once (Steps.Take 0 0) (Replies.Took (asking (Calls.Commit (own 1 0 0) true)) (Ret Codes.Success))
    ++ once (Steps.Crash (Part.Line 0 0)) Replies.Crashed
    ++ called 0 0 Calls.OpenRm (Ret Codes.Success)
    ++ called 0 0 (Calls.Rollback (own 1 0 0)) (Ret Codes.NotAnXid)

lost_answer-allowed : AllAllowed (From (fresh 1 1)) lost_answer
unfolding lost_answer
lost_answer-allowed = computed (From (fresh 1 1)) lost_answer refl

lost_answer-fates : fate (with_steps (From (fresh 1 1)) lost_answer) (own 1 0 0) ≡ Fates.Committed
unfolding lost_answer
lost_answer-fates = refl

lost_answer-log : log (with_steps (From (fresh 1 1)) lost_answer) ≡ []
unfolding lost_answer
lost_answer-log = refl

-- The manager crashes before it decides. No row is found, so the prepared branch is rolled back.
unfoldable pub presumed_rollback : List (Step × Reply)
presumed_rollback =
    once (Steps.Begin 0) (Replies.Begun (gtrid 1 1))
    ++ ready 0 (own 1 0 0)
    ++ called 0 0 (Calls.Prepare (own 1 0 0)) (Ret Codes.Success)
    ++ once (Steps.Crash Part.Manager) Replies.Crashed
    ++ once (Steps.Restart Side.Manager) (Replies.Restarted 2 0 0)
    ++ called 0 0 Calls.OpenRm (Ret Codes.Success)
    ++ scanned 0 (pos 8) true true (Page (Ours (own 1 0 0) ∷ []))
    ++ once (Steps.Resolve 0) (Replies.Resolved 1)
    ++ answered 0 0 (Calls.Rollback (own 1 0 0)) (Ret Codes.Success)

presumed_rollback-allowed : AllAllowed (From (fresh 1 1)) presumed_rollback
unfolding presumed_rollback
presumed_rollback-allowed = computed (From (fresh 1 1)) presumed_rollback refl

presumed_rollback-fates : fate (with_steps (From (fresh 1 1)) presumed_rollback) (own 1 0 0) ≡ Fates.RolledBack
unfolding presumed_rollback
presumed_rollback-fates = refl

presumed_rollback-log : log (with_steps (From (fresh 1 1)) presumed_rollback) ≡ []
unfolding presumed_rollback
presumed_rollback-log = refl

-- The manager crashes after it decided. The row is found, so both branches are committed. The row of the older incarnation
-- leaves once both have acknowledged anew.
unfoldable pub decided_before_crash : List (Step × Reply)
decided_before_crash =
    once (Steps.Begin 0) (Replies.Begun (gtrid 1 1))
    ++ ready 0 (own 1 0 0)
    ++ ready 1 (own 1 0 1)
    ++ called 0 0 (Calls.Prepare (own 1 0 0)) (Ret Codes.Success)
    ++ called 0 1 (Calls.Prepare (own 1 0 1)) (Ret Codes.Success)
    ++ once (Steps.Decide (gtrid 1 1) Outcome.Commit) Replies.Decided
    ++ once (Steps.Crash Part.Manager) Replies.Crashed
    ++ once (Steps.Restart Side.Manager) (Replies.Restarted 2 1 0)
    ++ called 0 0 Calls.OpenRm (Ret Codes.Success)
    ++ scanned 0 (pos 8) true true (Page (Ours (own 1 0 0) ∷ []))
    ++ once (Steps.Resolve 0) (Replies.Resolved 1)
    ++ answered 0 0 (Calls.Commit (own 1 0 0) false) (Ret Codes.Success)
    ++ called 0 1 Calls.OpenRm (Ret Codes.Success)
    ++ scanned 1 (pos 8) true true (Page (Ours (own 1 0 1) ∷ []))
    ++ once (Steps.Resolve 1) (Replies.Resolved 1)
    ++ answered 0 1 (Calls.Commit (own 1 0 1) false) (Ret Codes.Success)
    ++ once (Steps.Done (gtrid 1 1)) Replies.Noted

decided_before_crash-allowed : AllAllowed (From (fresh 1 2)) decided_before_crash
unfolding decided_before_crash
decided_before_crash-allowed = computed (From (fresh 1 2)) decided_before_crash refl

decided_before_crash-fates : (fate (with_steps (From (fresh 1 2)) decided_before_crash) (own 1 0 0) ≡ Fates.Committed)
    × (fate (with_steps (From (fresh 1 2)) decided_before_crash) (own 1 0 1) ≡ Fates.Committed)
unfolding decided_before_crash
decided_before_crash-fates = (refl, refl)

decided_before_crash-log : log (with_steps (From (fresh 1 2)) decided_before_crash) ≡ []
unfolding decided_before_crash
decided_before_crash-log = refl

-- The same with one of the two acknowledgements: the row stays, with both participants.
unfoldable pub acknowledged_later : List (Step × Reply)
acknowledged_later =
    once (Steps.Begin 0) (Replies.Begun (gtrid 1 1))
    ++ ready 0 (own 1 0 0)
    ++ ready 1 (own 1 0 1)
    ++ called 0 0 (Calls.Prepare (own 1 0 0)) (Ret Codes.Success)
    ++ called 0 1 (Calls.Prepare (own 1 0 1)) (Ret Codes.Success)
    ++ once (Steps.Decide (gtrid 1 1) Outcome.Commit) Replies.Decided
    ++ once (Steps.Crash Part.Manager) Replies.Crashed
    ++ once (Steps.Restart Side.Manager) (Replies.Restarted 2 1 0)
    ++ called 0 0 Calls.OpenRm (Ret Codes.Success)
    ++ scanned 0 (pos 8) true true (Page (Ours (own 1 0 0) ∷ []))
    ++ once (Steps.Resolve 0) (Replies.Resolved 1)
    ++ answered 0 0 (Calls.Commit (own 1 0 0) false) (Ret Codes.Success)
    ++ once (Steps.Done (gtrid 1 1)) (Replies.Refused Refusal.Busy)

acknowledged_later-allowed : AllAllowed (From (fresh 1 2)) acknowledged_later
unfolding acknowledged_later
acknowledged_later-allowed = computed (From (fresh 1 2)) acknowledged_later refl

acknowledged_later-fates : (fate (with_steps (From (fresh 1 2)) acknowledged_later) (own 1 0 0) ≡ Fates.Committed)
    × (fate (with_steps (From (fresh 1 2)) acknowledged_later) (own 1 0 1) ≡ Fates.Prepared)
unfolding acknowledged_later
acknowledged_later-fates = (refl, refl)

acknowledged_later-log : log (with_steps (From (fresh 1 2)) acknowledged_later) ≡ (row (gtrid 1 1) (own 1 0 1 ∷ own 1 0 0 ∷ []) ∷ [])
unfolding acknowledged_later
acknowledged_later-log = refl

-- An acknowledgement heard before the crash does not count after it: the branch is told to commit again, and is not known.
unfoldable pub acknowledged_anew : List (Step × Reply)
acknowledged_anew =
    once (Steps.Begin 0) (Replies.Begun (gtrid 1 1))
    ++ ready 0 (own 1 0 0)
    ++ ready 1 (own 1 0 1)
    ++ called 0 0 (Calls.Prepare (own 1 0 0)) (Ret Codes.Success)
    ++ called 0 1 (Calls.Prepare (own 1 0 1)) (Ret Codes.Success)
    ++ once (Steps.Decide (gtrid 1 1) Outcome.Commit) Replies.Decided
    ++ called 0 0 (Calls.Commit (own 1 0 0) false) (Ret Codes.Success)
    ++ once (Steps.Crash Part.Manager) Replies.Crashed
    ++ once (Steps.Restart Side.Manager) (Replies.Restarted 2 1 0)
    ++ called 0 1 Calls.OpenRm (Ret Codes.Success)
    ++ scanned 1 (pos 8) true true (Page (Ours (own 1 0 1) ∷ []))
    ++ once (Steps.Resolve 1) (Replies.Resolved 1)
    ++ answered 0 1 (Calls.Commit (own 1 0 1) false) (Ret Codes.Success)
    ++ once (Steps.Done (gtrid 1 1)) (Replies.Refused Refusal.Busy)
    ++ called 0 0 Calls.OpenRm (Ret Codes.Success)
    ++ called 0 0 (Calls.Commit (own 1 0 0) false) (Ret Codes.NotAnXid)
    ++ once (Steps.Done (gtrid 1 1)) Replies.Noted
    ++ once (Steps.Issue 0 0 (asking (Calls.Commit (own 1 0 0) false))) (Replies.Refused Refusal.UnknownTransaction)

acknowledged_anew-allowed : AllAllowed (From (fresh 1 2)) acknowledged_anew
unfolding acknowledged_anew
acknowledged_anew-allowed = computed (From (fresh 1 2)) acknowledged_anew refl

acknowledged_anew-fates : (fate (with_steps (From (fresh 1 2)) acknowledged_anew) (own 1 0 0) ≡ Fates.Committed)
    × (fate (with_steps (From (fresh 1 2)) acknowledged_anew) (own 1 0 1) ≡ Fates.Committed)
unfolding acknowledged_anew
acknowledged_anew-fates = (refl, refl)

acknowledged_anew-log : log (with_steps (From (fresh 1 2)) acknowledged_anew) ≡ []
unfolding acknowledged_anew
acknowledged_anew-log = refl

-- A row without participants, from a log of before: it is never settled. Another of its incarnation is not known.
unfoldable pub migrated_log : List (Step × Reply)
migrated_log =
    once (Steps.Done (gtrid 1 1)) (Replies.Refused Refusal.Busy)
    ++ once (Steps.Done (gtrid 1 2)) (Replies.Refused Refusal.UnknownTransaction)

migrated_log-allowed : AllAllowed (From (with_old_row)) migrated_log
unfolding migrated_log
migrated_log-allowed = computed (From (with_old_row)) migrated_log refl

migrated_log-log : log (with_steps (From (with_old_row)) migrated_log) ≡ (row (gtrid 1 1) [] ∷ [])
unfolding migrated_log
migrated_log-log = refl

-- A resource manager crashes between the two commits. The transaction is done only when it has committed too.
unfoldable pub resource_manager_crash : List (Step × Reply)
resource_manager_crash =
    once (Steps.Begin 0) (Replies.Begun (gtrid 1 1))
    ++ ready 0 (own 1 0 0)
    ++ ready 1 (own 1 0 1)
    ++ called 0 0 (Calls.Prepare (own 1 0 0)) (Ret Codes.Success)
    ++ called 0 1 (Calls.Prepare (own 1 0 1)) (Ret Codes.Success)
    ++ once (Steps.Decide (gtrid 1 1) Outcome.Commit) Replies.Decided
    ++ called 0 0 (Calls.Commit (own 1 0 0) false) (Ret Codes.Success)
    ++ once (Steps.Crash (Part.Rm 1)) Replies.Crashed
    ++ once (Steps.Done (gtrid 1 1)) (Replies.Refused Refusal.Busy)
    ++ once (Steps.Restart (Side.Rm 1)) Replies.RmRestarted
    ++ called 0 1 Calls.OpenRm (Ret Codes.Success)
    ++ scanned 1 (pos 8) true true (Page (Ours (own 1 0 1) ∷ []))
    ++ once (Steps.Resolve 1) (Replies.Resolved 1)
    ++ answered 0 1 (Calls.Commit (own 1 0 1) false) (Ret Codes.Success)
    ++ once (Steps.Done (gtrid 1 1)) Replies.Noted

resource_manager_crash-allowed : AllAllowed (From (fresh 1 2)) resource_manager_crash
unfolding resource_manager_crash
resource_manager_crash-allowed = computed (From (fresh 1 2)) resource_manager_crash refl

resource_manager_crash-fates : (fate (with_steps (From (fresh 1 2)) resource_manager_crash) (own 1 0 0) ≡ Fates.Committed)
    × (fate (with_steps (From (fresh 1 2)) resource_manager_crash) (own 1 0 1) ≡ Fates.Committed)
unfolding resource_manager_crash
resource_manager_crash-fates = (refl, refl)

resource_manager_crash-log : log (with_steps (From (fresh 1 2)) resource_manager_crash) ≡ []
unfolding resource_manager_crash
resource_manager_crash-log = refl

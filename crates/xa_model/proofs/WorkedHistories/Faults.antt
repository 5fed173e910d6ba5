-- Worked histories in which the log fails, with its change made and not made: each reply is the demanded one, and the fates and the
-- log at the end are as told.
use Rattle.std.proofs.Common.{◌≡◌, pos, List, [], ◌∷◌, ◌++◌, true, refl, false}
use Rattle.xa_base.specs.declared.code.Code.TheVariants as Codes
use Rattle.xa_base.specs.declared.code.How.TheVariants as How
use Rattle.xa_base.specs.declared.refusal.Refusal.TheVariants as Refusal
use Rattle.xa_base.specs.declared.state.Fate.TheVariants as Fates
use Rattle.xa_base.specs.declared.step.Outcome.TheVariants as Outcome
use Rattle.xa_base.specs.declared.step.Side.TheVariants as Side
use Rattle.xa_model.specs.Replies.Allowed.{with_steps, AllAllowed}
use Rattle.xa_model.specs.Facts.{log, heuristic_rows, fate}
use Rattle.xa_base.specs.declared.reply.Reply.TheVariants as Replies
use Rattle.xa_base.specs.declared.step.Step.TheVariants as Steps
use Rattle.xa_model.specs.Replies.Steps.{Step, Reply}
use Rattle.xa_base.specs.declared.call.Call.TheVariants as Calls
use Rattle.xa_base.specs.declared.answer.Answer.TheVariants.{Ret, Page}
use Rattle.xa_model.specs.Trace.{Name.Ours, Trace.From}
use Rattle.xa_model.proofs.Replies.ComputedReplies.{computed}
use Rattle.xa_model.proofs.WorkedHistories.{fresh, gtrid, own, row, recorded_so, asking, once, answered, called, ready, scanned}

-- The log fails in a decision, which was not made: the restart finds no row, and recovery rolls back.
unfoldable pub commit_fault_not_made : List (Step × Reply)
commit_fault_not_made =
    once (Steps.Begin 0) (Replies.Begun (gtrid 1 1))
    ++ ready 0 (own 1 0 0)
    ++ called 0 0 (Calls.Prepare (own 1 0 0)) (Ret Codes.Success)
    ++ once (Steps.Decide (gtrid 1 1) Outcome.Commit) (Replies.Refused Refusal.LogFault)
    ++ once (Steps.Begin 0) (Replies.Refused Refusal.ManagerDown)
    ++ once (Steps.Take 0 0) Replies.Nothing
    ++ once (Steps.Restart Side.Manager) (Replies.Restarted 2 0 0)
    ++ called 0 0 Calls.OpenRm (Ret Codes.Success)
    ++ scanned 0 (pos 8) true true (Page (Ours (own 1 0 0) ∷ []))
    ++ once (Steps.Resolve 0) (Replies.Resolved 1)
    ++ answered 0 0 (Calls.Rollback (own 1 0 0)) (Ret Codes.Success)

commit_fault_not_made-allowed : AllAllowed (From (fresh 1 1)) commit_fault_not_made
unfolding commit_fault_not_made
commit_fault_not_made-allowed = computed (From (fresh 1 1)) commit_fault_not_made refl

commit_fault_not_made-fates : fate (with_steps (From (fresh 1 1)) commit_fault_not_made) (own 1 0 0) ≡ Fates.RolledBack
unfolding commit_fault_not_made
commit_fault_not_made-fates = refl

commit_fault_not_made-log : log (with_steps (From (fresh 1 1)) commit_fault_not_made) ≡ []
unfolding commit_fault_not_made
commit_fault_not_made-log = refl

-- The log fails in a decision, which was made: the restart finds the row, and recovery commits.
unfoldable pub commit_fault_made : List (Step × Reply)
commit_fault_made =
    once (Steps.Begin 0) (Replies.Begun (gtrid 1 1))
    ++ ready 0 (own 1 0 0)
    ++ called 0 0 (Calls.Prepare (own 1 0 0)) (Ret Codes.Success)
    ++ once (Steps.Decide (gtrid 1 1) Outcome.Commit) (Replies.Refused Refusal.LogFault)
    ++ once (Steps.Begin 0) (Replies.Refused Refusal.ManagerDown)
    ++ once (Steps.Take 0 0) Replies.Nothing
    ++ once (Steps.Restart Side.Manager) (Replies.Restarted 2 1 0)
    ++ called 0 0 Calls.OpenRm (Ret Codes.Success)
    ++ scanned 0 (pos 8) true true (Page (Ours (own 1 0 0) ∷ []))
    ++ once (Steps.Resolve 0) (Replies.Resolved 1)
    ++ answered 0 0 (Calls.Commit (own 1 0 0) false) (Ret Codes.Success)

commit_fault_made-allowed : AllAllowed (From (fresh 1 1)) commit_fault_made
unfolding commit_fault_made
commit_fault_made-allowed = computed (From (fresh 1 1)) commit_fault_made refl

commit_fault_made-fates : fate (with_steps (From (fresh 1 1)) commit_fault_made) (own 1 0 0) ≡ Fates.Committed
unfolding commit_fault_made
commit_fault_made-fates = refl

commit_fault_made-log : log (with_steps (From (fresh 1 1)) commit_fault_made) ≡ (row (gtrid 1 1) (own 1 0 0 ∷ []) ∷ [])
unfolding commit_fault_made
commit_fault_made-log = refl

-- The log fails as a heuristic answer is noted, and the record was not made.
unfoldable pub heuristic_fault_not_made : List (Step × Reply)
heuristic_fault_not_made =
    once (Steps.Begin 0) (Replies.Begun (gtrid 1 1))
    ++ ready 0 (own 1 0 0)
    ++ ready 1 (own 1 0 1)
    ++ called 0 0 (Calls.Prepare (own 1 0 0)) (Ret Codes.Success)
    ++ called 0 1 (Calls.Prepare (own 1 0 1)) (Ret Codes.Success)
    ++ once (Steps.Heuristic 1 (Ours (own 1 0 1)) How.Rb) Replies.Noted
    ++ once (Steps.Decide (gtrid 1 1) Outcome.Commit) Replies.Decided
    ++ called 0 0 (Calls.Commit (own 1 0 0) false) (Ret Codes.Success)
    ++ once (Steps.Issue 0 1 (asking (Calls.Forget (own 1 0 1)))) (Replies.Refused Refusal.NotDecided)
    ++ once (Steps.Issue 0 1 (asking (Calls.Commit (own 1 0 1) false))) Replies.Issued
    ++ once (Steps.Take 0 1) (Replies.Took (asking (Calls.Commit (own 1 0 1) false)) (Ret (Codes.Heuristic How.Rb)))
    ++ once (Steps.Hear 0 1) (Replies.Refused Refusal.LogFault)
    ++ once (Steps.Restart Side.Manager) (Replies.Restarted 2 1 0)
    ++ called 0 1 Calls.OpenRm (Ret Codes.Success)
    ++ scanned 1 (pos 8) true true (Page (Ours (own 1 0 1) ∷ []))
    ++ once (Steps.Resolve 1) (Replies.Resolved 1)
    ++ answered 0 1 (Calls.Commit (own 1 0 1) false) (Ret (Codes.Heuristic How.Rb))
    ++ scanned 1 (pos 8) true true (Page (Ours (own 1 0 1) ∷ []))
    ++ once (Steps.Resolve 1) (Replies.Resolved 1)
    ++ answered 0 1 (Calls.Forget (own 1 0 1)) (Ret Codes.Success)

heuristic_fault_not_made-allowed : AllAllowed (From (fresh 1 2)) heuristic_fault_not_made
unfolding heuristic_fault_not_made
heuristic_fault_not_made-allowed = computed (From (fresh 1 2)) heuristic_fault_not_made refl

heuristic_fault_not_made-fates : (fate (with_steps (From (fresh 1 2)) heuristic_fault_not_made) (own 1 0 0) ≡ Fates.Committed)
    × (fate (with_steps (From (fresh 1 2)) heuristic_fault_not_made) (own 1 0 1) ≡ Fates.Heuristic How.Rb)
unfolding heuristic_fault_not_made
heuristic_fault_not_made-fates = (refl, refl)

heuristic_fault_not_made-log : log (with_steps (From (fresh 1 2)) heuristic_fault_not_made) ≡ (row (gtrid 1 1) (own 1 0 1 ∷ own 1 0 0 ∷ []) ∷ [])
unfolding heuristic_fault_not_made
heuristic_fault_not_made-log = refl

heuristic_fault_not_made-record : heuristic_rows (with_steps (From (fresh 1 2)) heuristic_fault_not_made) ≡ (recorded_so (own 1 0 1) How.Rb ∷ [])
unfolding heuristic_fault_not_made
heuristic_fault_not_made-record = refl

-- The log fails as a heuristic answer is noted, and the record was made.
unfoldable pub heuristic_fault_made : List (Step × Reply)
heuristic_fault_made =
    once (Steps.Begin 0) (Replies.Begun (gtrid 1 1))
    ++ ready 0 (own 1 0 0)
    ++ ready 1 (own 1 0 1)
    ++ called 0 0 (Calls.Prepare (own 1 0 0)) (Ret Codes.Success)
    ++ called 0 1 (Calls.Prepare (own 1 0 1)) (Ret Codes.Success)
    ++ once (Steps.Heuristic 1 (Ours (own 1 0 1)) How.Rb) Replies.Noted
    ++ once (Steps.Decide (gtrid 1 1) Outcome.Commit) Replies.Decided
    ++ called 0 0 (Calls.Commit (own 1 0 0) false) (Ret Codes.Success)
    ++ once (Steps.Issue 0 1 (asking (Calls.Forget (own 1 0 1)))) (Replies.Refused Refusal.NotDecided)
    ++ once (Steps.Issue 0 1 (asking (Calls.Commit (own 1 0 1) false))) Replies.Issued
    ++ once (Steps.Take 0 1) (Replies.Took (asking (Calls.Commit (own 1 0 1) false)) (Ret (Codes.Heuristic How.Rb)))
    ++ once (Steps.Hear 0 1) (Replies.Refused Refusal.LogFault)
    ++ once (Steps.Restart Side.Manager) (Replies.Restarted 2 1 1)
    ++ called 0 1 Calls.OpenRm (Ret Codes.Success)
    ++ scanned 1 (pos 8) true true (Page (Ours (own 1 0 1) ∷ []))
    ++ once (Steps.Resolve 1) (Replies.Resolved 1)
    ++ answered 0 1 (Calls.Forget (own 1 0 1)) (Ret Codes.Success)

heuristic_fault_made-allowed : AllAllowed (From (fresh 1 2)) heuristic_fault_made
unfolding heuristic_fault_made
heuristic_fault_made-allowed = computed (From (fresh 1 2)) heuristic_fault_made refl

heuristic_fault_made-fates : (fate (with_steps (From (fresh 1 2)) heuristic_fault_made) (own 1 0 0) ≡ Fates.Committed)
    × (fate (with_steps (From (fresh 1 2)) heuristic_fault_made) (own 1 0 1) ≡ Fates.Heuristic How.Rb)
unfolding heuristic_fault_made
heuristic_fault_made-fates = (refl, refl)

heuristic_fault_made-log : log (with_steps (From (fresh 1 2)) heuristic_fault_made) ≡ (row (gtrid 1 1) (own 1 0 1 ∷ own 1 0 0 ∷ []) ∷ [])
unfolding heuristic_fault_made
heuristic_fault_made-log = refl

heuristic_fault_made-record : heuristic_rows (with_steps (From (fresh 1 2)) heuristic_fault_made) ≡ (recorded_so (own 1 0 1) How.Rb ∷ [])
unfolding heuristic_fault_made
heuristic_fault_made-record = refl

-- The log fails in a settlement, which was not made.
unfoldable pub settle_fault_not_made : List (Step × Reply)
settle_fault_not_made =
    once (Steps.Begin 0) (Replies.Begun (gtrid 1 1))
    ++ ready 0 (own 1 0 0)
    ++ called 0 0 (Calls.Prepare (own 1 0 0)) (Ret Codes.Success)
    ++ once (Steps.Claim (gtrid 1 1)) Replies.Claimed
    ++ once (Steps.Settle (gtrid 1 1)) (Replies.Refused Refusal.LogFault)
    ++ once (Steps.Restart Side.Manager) (Replies.Restarted 2 0 0)
    ++ called 0 0 Calls.OpenRm (Ret Codes.Success)
    ++ scanned 0 (pos 8) true true (Page (Ours (own 1 0 0) ∷ []))
    ++ once (Steps.ResolveOpen 0) (Replies.Resolved 1)
    ++ answered 0 0 (Calls.Rollback (own 1 0 0)) (Ret Codes.Success)

settle_fault_not_made-allowed : AllAllowed (From (fresh 1 1)) settle_fault_not_made
unfolding settle_fault_not_made
settle_fault_not_made-allowed = computed (From (fresh 1 1)) settle_fault_not_made refl

settle_fault_not_made-fates : fate (with_steps (From (fresh 1 1)) settle_fault_not_made) (own 1 0 0) ≡ Fates.RolledBack
unfolding settle_fault_not_made
settle_fault_not_made-fates = refl

settle_fault_not_made-log : log (with_steps (From (fresh 1 1)) settle_fault_not_made) ≡ []
unfolding settle_fault_not_made
settle_fault_not_made-log = refl

-- The log fails in a settlement, which was made.
unfoldable pub settle_fault_made : List (Step × Reply)
settle_fault_made =
    once (Steps.Begin 0) (Replies.Begun (gtrid 1 1))
    ++ ready 0 (own 1 0 0)
    ++ called 0 0 (Calls.Prepare (own 1 0 0)) (Ret Codes.Success)
    ++ once (Steps.Claim (gtrid 1 1)) Replies.Claimed
    ++ once (Steps.Settle (gtrid 1 1)) (Replies.Refused Refusal.LogFault)
    ++ once (Steps.Restart Side.Manager) (Replies.Restarted 2 1 0)
    ++ called 0 0 Calls.OpenRm (Ret Codes.Success)
    ++ scanned 0 (pos 8) true true (Page (Ours (own 1 0 0) ∷ []))
    ++ once (Steps.ResolveOpen 0) (Replies.Resolved 1)
    ++ answered 0 0 (Calls.Commit (own 1 0 0) false) (Ret Codes.Success)
    ++ once (Steps.Done (gtrid 1 1)) Replies.Noted

settle_fault_made-allowed : AllAllowed (From (fresh 1 1)) settle_fault_made
unfolding settle_fault_made
settle_fault_made-allowed = computed (From (fresh 1 1)) settle_fault_made refl

settle_fault_made-fates : fate (with_steps (From (fresh 1 1)) settle_fault_made) (own 1 0 0) ≡ Fates.Committed
unfolding settle_fault_made
settle_fault_made-fates = refl

settle_fault_made-log : log (with_steps (From (fresh 1 1)) settle_fault_made) ≡ []
unfolding settle_fault_made
settle_fault_made-log = refl

-- The log fails as a row leaves, and it left.
unfoldable pub done_fault : List (Step × Reply)
done_fault =
    once (Steps.Begin 0) (Replies.Begun (gtrid 1 1))
    ++ ready 0 (own 1 0 0)
    ++ called 0 0 (Calls.Prepare (own 1 0 0)) (Ret Codes.Success)
    ++ once (Steps.Decide (gtrid 1 1) Outcome.Commit) Replies.Decided
    ++ called 0 0 (Calls.Commit (own 1 0 0) false) (Ret Codes.Success)
    ++ once (Steps.Done (gtrid 1 1)) (Replies.Refused Refusal.LogFault)
    ++ once (Steps.Restart Side.Manager) (Replies.Restarted 2 0 0)

done_fault-allowed : AllAllowed (From (fresh 1 1)) done_fault
unfolding done_fault
done_fault-allowed = computed (From (fresh 1 1)) done_fault refl

done_fault-fates : fate (with_steps (From (fresh 1 1)) done_fault) (own 1 0 0) ≡ Fates.Committed
unfolding done_fault
done_fault-fates = refl

done_fault-log : log (with_steps (From (fresh 1 1)) done_fault) ≡ []
unfolding done_fault
done_fault-log = refl

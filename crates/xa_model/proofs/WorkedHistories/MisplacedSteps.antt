-- Steps that come at the wrong place or time, and are refused.
use Rattle.std.proofs.Common.{◌≡◌, pos, List, [], ◌∷◌, ◌++◌, true, false, refl}
use Rattle.xa_base.specs.declared.code.Code.TheVariants as Codes
use Rattle.xa_base.specs.declared.code.How.TheVariants as How
use Rattle.xa_base.specs.declared.refusal.Refusal.TheVariants as Refusal
use Rattle.xa_base.specs.declared.state.Fate.TheVariants as Fates
use Rattle.xa_base.specs.declared.step.Outcome.TheVariants as Outcome
use Rattle.xa_base.specs.declared.step.Part.TheVariants as Part
use Rattle.xa_base.specs.declared.step.Side.TheVariants as Side
use Rattle.xa_base.specs.declared.vote.Vote.TheVariants as Votes
use Rattle.xa_model.specs.Replies.Allowed.{with_steps, AllAllowed}
use Rattle.xa_model.specs.Facts.{log, fate}
use Rattle.xa_base.specs.declared.reply.Reply.TheVariants as Replies
use Rattle.xa_base.specs.declared.step.Step.TheVariants as Steps
use Rattle.xa_model.specs.Replies.Steps.{Step, Reply}
use Rattle.xa_base.specs.declared.call.Call.TheVariants as Calls
use Rattle.xa_base.specs.declared.answer.Answer.TheVariants.{Ret}
use Rattle.xa_model.specs.Trace.{Name.Ours, Name.Foreign, Trace.From}
use Rattle.xa_model.proofs.Replies.ComputedReplies.{computed}
use Rattle.xa_model.proofs.WorkedHistories.{fresh, gtrid, own, foreign, asking, once, answered, called, ready}

-- Work of a branch from another thread, and any call on it at another resource manager.
unfoldable pub refused_elsewhere : List (Step × Reply)
refused_elsewhere =
    once (Steps.Begin 0) (Replies.Begun (gtrid 1 1))
    ++ called 1 0 Calls.OpenRm (Ret Codes.Success)
    ++ called 0 1 Calls.OpenRm (Ret Codes.Success)
    ++ once (Steps.Issue 1 0 (asking (Calls.Start (own 1 0 0) false))) (Replies.Refused Refusal.WrongThread)
    ++ once (Steps.Issue 1 0 (asking (Calls.Start (own 1 0 0) true))) (Replies.Refused Refusal.WrongThread)
    ++ once (Steps.Issue 1 0 (asking (Calls.End (own 1 0 0) false))) (Replies.Refused Refusal.WrongThread)
    ++ once (Steps.Issue 1 0 (asking (Calls.Prepare (own 1 0 0)))) (Replies.Refused Refusal.WrongThread)
    ++ once (Steps.Issue 1 0 (asking (Calls.Commit (own 1 0 0) true))) (Replies.Refused Refusal.WrongThread)
    ++ once (Steps.Issue 0 1 (asking (Calls.Start (own 1 0 0) false))) (Replies.Refused Refusal.WrongThread)
    ++ once (Steps.Issue 0 1 (asking (Calls.Start (own 1 0 0) true))) (Replies.Refused Refusal.WrongThread)
    ++ once (Steps.Issue 0 1 (asking (Calls.End (own 1 0 0) false))) (Replies.Refused Refusal.WrongThread)
    ++ once (Steps.Issue 0 1 (asking (Calls.End (own 1 0 0) true))) (Replies.Refused Refusal.WrongThread)
    ++ once (Steps.Issue 0 1 (asking (Calls.Prepare (own 1 0 0)))) (Replies.Refused Refusal.WrongThread)
    ++ once (Steps.Issue 0 1 (asking (Calls.Commit (own 1 0 0) false))) (Replies.Refused Refusal.WrongThread)
    ++ once (Steps.Issue 0 1 (asking (Calls.Commit (own 1 0 0) true))) (Replies.Refused Refusal.WrongThread)
    ++ once (Steps.Issue 0 1 (asking (Calls.Rollback (own 1 0 0)))) (Replies.Refused Refusal.WrongThread)
    ++ once (Steps.Issue 0 1 (asking (Calls.Forget (own 1 0 0)))) (Replies.Refused Refusal.WrongThread)
    ++ once (Steps.Issue 1 0 (asking (Calls.Recover (pos 1) true true))) (Replies.Refused Refusal.WrongThread)

refused_elsewhere-allowed : AllAllowed (From (fresh 2 2)) refused_elsewhere
unfolding refused_elsewhere
refused_elsewhere-allowed = computed (From (fresh 2 2)) refused_elsewhere refl

refused_elsewhere-log : log (with_steps (From (fresh 2 2)) refused_elsewhere) ≡ []
unfolding refused_elsewhere
refused_elsewhere-log = refl

-- What comes before a decision: its ends; and what comes after it: work, and another decision.
unfoldable pub refused_in_time : List (Step × Reply)
refused_in_time =
    once (Steps.Begin 0) (Replies.Begun (gtrid 1 1))
    ++ ready 0 (own 1 0 0)
    ++ called 0 0 (Calls.Prepare (own 1 0 0)) (Ret Codes.Success)
    ++ once (Steps.Issue 0 0 (asking (Calls.Start (own 1 0 0) false))) (Replies.Refused Refusal.AlreadyStarted)
    ++ once (Steps.Issue 0 0 (asking (Calls.Start (own 1 0 0) true))) (Replies.Refused Refusal.AlreadyStarted)
    ++ once (Steps.Issue 0 0 (asking (Calls.Commit (own 1 0 0) false))) (Replies.Refused Refusal.NotDecided)
    ++ once (Steps.Issue 0 0 (asking (Calls.Rollback (own 1 0 0)))) (Replies.Refused Refusal.NotDecided)
    ++ once (Steps.Issue 0 0 (asking (Calls.Forget (own 1 0 0)))) (Replies.Refused Refusal.NotDecided)
    ++ once (Steps.Settle (gtrid 1 1)) (Replies.Refused Refusal.NotDecided)
    ++ once (Steps.Abandon (gtrid 1 1)) (Replies.Refused Refusal.NotDecided)
    ++ once (Steps.Done (gtrid 1 1)) (Replies.Refused Refusal.NotDecided)
    ++ once (Steps.Decide (gtrid 1 1) Outcome.Rollback) Replies.Decided
    ++ once (Steps.Issue 0 0 (asking (Calls.Prepare (own 1 0 0)))) (Replies.Refused Refusal.Decided)
    ++ once (Steps.Issue 0 0 (asking (Calls.Commit (own 1 0 0) true))) (Replies.Refused Refusal.Decided)
    ++ once (Steps.Decide (gtrid 1 1) Outcome.Commit) (Replies.Refused Refusal.Decided)
    ++ once (Steps.Claim (gtrid 1 1)) (Replies.Refused Refusal.Decided)
    ++ once (Steps.Settle (gtrid 1 1)) (Replies.Refused Refusal.Decided)
    ++ once (Steps.Abandon (gtrid 1 1)) (Replies.Refused Refusal.Decided)
    ++ once (Steps.Decide (gtrid 1 1) Outcome.Rollback) (Replies.Refused Refusal.Decided)
    ++ once (Steps.Issue 0 0 (asking (Calls.Commit (own 1 0 0) false))) (Replies.Refused Refusal.NotDecided)
    ++ once (Steps.Issue 0 0 (asking (Calls.Forget (own 1 0 0)))) (Replies.Refused Refusal.NotDecided)
    ++ once (Steps.Done (gtrid 1 1)) (Replies.Refused Refusal.NotDecided)
    ++ called 0 0 (Calls.Rollback (own 1 0 0)) (Ret Codes.Success)

refused_in_time-allowed : AllAllowed (From (fresh 1 1)) refused_in_time
unfolding refused_in_time
refused_in_time-allowed = computed (From (fresh 1 1)) refused_in_time refl

refused_in_time-fates : fate (with_steps (From (fresh 1 1)) refused_in_time) (own 1 0 0) ≡ Fates.RolledBack
unfolding refused_in_time
refused_in_time-fates = refl

refused_in_time-log : log (with_steps (From (fresh 1 1)) refused_in_time) ≡ []
unfolding refused_in_time
refused_in_time-log = refl

-- A claimed transaction takes no branch, no vote, no commit in one phase, no decision and no other claim.
unfoldable pub refused_claimed : List (Step × Reply)
refused_claimed =
    once (Steps.Begin 0) (Replies.Begun (gtrid 1 1))
    ++ ready 0 (own 1 0 0)
    ++ called 1 0 Calls.OpenRm (Ret Codes.Success)
    ++ called 0 0 (Calls.Prepare (own 1 0 0)) (Ret Codes.Success)
    ++ once (Steps.Claim (gtrid 1 1)) Replies.Claimed
    ++ once (Steps.Issue 1 0 (asking (Calls.Start (own 1 1 0) false))) (Replies.Refused Refusal.Decided)
    ++ once (Steps.Issue 1 0 (asking (Calls.Start (own 1 1 0) true))) (Replies.Refused Refusal.Decided)
    ++ once (Steps.Issue 0 0 (asking (Calls.Prepare (own 1 0 0)))) (Replies.Refused Refusal.Decided)
    ++ once (Steps.Issue 0 0 (asking (Calls.Commit (own 1 0 0) true))) (Replies.Refused Refusal.Decided)
    ++ once (Steps.Decide (gtrid 1 1) Outcome.Commit) (Replies.Refused Refusal.Decided)
    ++ once (Steps.Decide (gtrid 1 1) Outcome.Rollback) (Replies.Refused Refusal.Decided)
    ++ once (Steps.Claim (gtrid 1 1)) (Replies.Refused Refusal.Decided)

refused_claimed-allowed : AllAllowed (From (fresh 2 1)) refused_claimed
unfolding refused_claimed
refused_claimed-allowed = computed (From (fresh 2 1)) refused_claimed refl

refused_claimed-fates : fate (with_steps (From (fresh 2 1)) refused_claimed) (own 1 0 0) ≡ Fates.Prepared
unfolding refused_claimed
refused_claimed-fates = refl

refused_claimed-log : log (with_steps (From (fresh 2 1)) refused_claimed) ≡ []
unfolding refused_claimed
refused_claimed-log = refl

-- Scripts of other managers, of another resource manager, or without sense.
unfoldable pub refused_scripts : List (Step × Reply)
refused_scripts =
    once (Steps.Begin 0) (Replies.Begun (gtrid 1 1))
    ++ ready 0 (own 1 0 0)
    ++ ready 1 (own 1 0 1)
    ++ once (Steps.Vote 0 (Foreign (foreign (pos 8) (1 ∷ []))) Votes.Yes) (Replies.Refused Refusal.Script)
    ++ once (Steps.Heuristic 0 (Foreign (foreign (pos 8) (1 ∷ []))) How.Rb) (Replies.Refused Refusal.Script)
    ++ once (Steps.Busy 0 (Foreign (foreign (pos 8) (1 ∷ []))) 1) (Replies.Refused Refusal.Script)
    ++ once (Steps.Vote 1 (Ours (own 1 0 0)) Votes.Yes) (Replies.Refused Refusal.Script)
    ++ once (Steps.Busy 1 (Ours (own 1 0 0)) 1) (Replies.Refused Refusal.Script)
    ++ once (Steps.Heuristic 0 (Ours (own 1 0 0)) How.Rb) (Replies.Refused Refusal.Script)
    ++ called 0 0 (Calls.Prepare (own 1 0 0)) (Ret Codes.Success)
    ++ once (Steps.Vote 0 (Ours (own 1 0 0)) Votes.Yes) (Replies.Refused Refusal.Script)
    ++ once (Steps.Heuristic 1 (Ours (own 1 0 0)) How.Rb) (Replies.Refused Refusal.Script)
    ++ once (Steps.Heuristic 0 (Ours (own 1 0 0)) How.Rb) Replies.Noted
    ++ once (Steps.Vote 0 (Ours (own 1 0 0)) Votes.Yes) (Replies.Refused Refusal.Script)
    ++ once (Steps.Heuristic 0 (Ours (own 1 0 0)) How.Rb) (Replies.Refused Refusal.Script)

refused_scripts-allowed : AllAllowed (From (fresh 1 2)) refused_scripts
unfolding refused_scripts
refused_scripts-allowed = computed (From (fresh 1 2)) refused_scripts refl

refused_scripts-fates : (fate (with_steps (From (fresh 1 2)) refused_scripts) (own 1 0 0) ≡ Fates.Heuristic How.Rb)
    × (fate (with_steps (From (fresh 1 2)) refused_scripts) (own 1 0 1) ≡ Fates.Idle)
unfolding refused_scripts
refused_scripts-fates = (refl, refl)

refused_scripts-log : log (with_steps (From (fresh 1 2)) refused_scripts) ≡ []
unfolding refused_scripts
refused_scripts-log = refl

-- Sequences begin again with each incarnation. Where a restart failed, the next one may skip an incarnation.
unfoldable pub restarts : List (Step × Reply)
restarts =
    once (Steps.Begin 0) (Replies.Begun (gtrid 1 1))
    ++ once (Steps.Begin 0) (Replies.Begun (gtrid 1 2))
    ++ once (Steps.Crash Part.Manager) Replies.Crashed
    ++ once (Steps.Restart Side.Manager) (Replies.Restarted 2 0 0)
    ++ once (Steps.Begin 0) (Replies.Begun (gtrid 2 1))
    ++ once (Steps.Crash Part.Manager) Replies.Crashed
    ++ once (Steps.Restart Side.Manager) (Replies.Refused Refusal.LogFault)
    ++ once (Steps.Begin 0) (Replies.Refused Refusal.ManagerDown)
    ++ once (Steps.Restart Side.Manager) (Replies.Restarted 4 0 0)
    ++ once (Steps.Begin 0) (Replies.Begun (gtrid 4 1))

restarts-allowed : AllAllowed (From (fresh 1 1)) restarts
unfolding restarts
restarts-allowed = computed (From (fresh 1 1)) restarts refl

restarts-log : log (with_steps (From (fresh 1 1)) restarts) ≡ []
unfolding restarts
restarts-log = refl

-- A transaction that was committed in one phase takes no further work and no decision.
unfoldable pub handed_over_once : List (Step × Reply)
handed_over_once =
    once (Steps.Begin 0) (Replies.Begun (gtrid 1 1))
    ++ ready 0 (own 1 0 0)
    ++ called 1 0 Calls.OpenRm (Ret Codes.Success)
    ++ once (Steps.Issue 0 0 (asking (Calls.Commit (own 2 0 0) true))) (Replies.Refused Refusal.UnknownTransaction)
    ++ once (Steps.Issue 0 0 (asking (Calls.Commit (own 1 0 0) true))) Replies.Issued
    ++ once (Steps.Issue 0 0 (asking (Calls.Prepare (own 1 0 0)))) (Replies.Refused Refusal.Decided)
    ++ once (Steps.Decide (gtrid 1 1) Outcome.Rollback) (Replies.Refused Refusal.Decided)
    ++ once (Steps.Issue 1 0 (asking (Calls.Start (own 1 1 0) false))) (Replies.Refused Refusal.Decided)
    ++ answered 0 0 (Calls.Commit (own 1 0 0) true) (Ret Codes.Success)

handed_over_once-allowed : AllAllowed (From (fresh 2 1)) handed_over_once
unfolding handed_over_once
handed_over_once-allowed = computed (From (fresh 2 1)) handed_over_once refl

handed_over_once-fates : fate (with_steps (From (fresh 2 1)) handed_over_once) (own 1 0 0) ≡ Fates.Committed
unfolding handed_over_once
handed_over_once-fates = refl

handed_over_once-log : log (with_steps (From (fresh 2 1)) handed_over_once) ≡ []
unfolding handed_over_once
handed_over_once-log = refl

-- A commit in one phase asks that the branch is the only one.
unfoldable pub two_branches_in_one_phase : List (Step × Reply)
two_branches_in_one_phase =
    once (Steps.Begin 0) (Replies.Begun (gtrid 1 1))
    ++ ready 0 (own 1 0 0)
    ++ called 1 0 Calls.OpenRm (Ret Codes.Success)
    ++ called 1 0 (Calls.Start (own 1 1 0) false) (Ret Codes.Success)
    ++ once (Steps.Issue 0 0 (asking (Calls.Commit (own 1 0 0) true))) (Replies.Refused Refusal.Votes)
    ++ once (Steps.Decide (gtrid 1 1) Outcome.Commit) (Replies.Refused Refusal.Votes)
    ++ once (Steps.Decide (gtrid 1 1) Outcome.Rollback) Replies.Decided

two_branches_in_one_phase-allowed : AllAllowed (From (fresh 2 1)) two_branches_in_one_phase
unfolding two_branches_in_one_phase
two_branches_in_one_phase-allowed = computed (From (fresh 2 1)) two_branches_in_one_phase refl

two_branches_in_one_phase-fates : (fate (with_steps (From (fresh 2 1)) two_branches_in_one_phase) (own 1 0 0) ≡ Fates.Idle)
    × (fate (with_steps (From (fresh 2 1)) two_branches_in_one_phase) (own 1 1 0) ≡ Fates.Active)
unfolding two_branches_in_one_phase
two_branches_in_one_phase-fates = (refl, refl)

two_branches_in_one_phase-log : log (with_steps (From (fresh 2 1)) two_branches_in_one_phase) ≡ []
unfolding two_branches_in_one_phase
two_branches_in_one_phase-log = refl

-- Worked histories of refused steps: each reply is the demanded one, and the fates and the log at the end are as told.
use Rattle.std.proofs.Common.{◌≡◌, pos, List, [], ◌∷◌, ◌++◌, true, false, refl}
use Rattle.xa_base.specs.declared.code.Code.TheVariants as Codes
use Rattle.xa_base.specs.declared.code.How.TheVariants as How
use Rattle.xa_base.specs.declared.refusal.Refusal.TheVariants as Refusal
use Rattle.xa_base.specs.declared.state.Fate.TheVariants as Fates
use Rattle.xa_base.specs.declared.step.Outcome.TheVariants as Outcome
use Rattle.xa_base.specs.declared.step.Part.TheVariants as Part
use Rattle.xa_base.specs.declared.step.Side.TheVariants as Side
use Rattle.xa_base.specs.declared.vote.Vote.TheVariants as Votes
use Rattle.xa_model.specs.Replies.Allowed.{with_steps, AllAllowed}
use Rattle.xa_model.specs.Facts.{log, fate}
use Rattle.xa_base.specs.declared.reply.Reply.TheVariants as Replies
use Rattle.xa_base.specs.declared.step.Step.TheVariants as Steps
use Rattle.xa_model.specs.Replies.Steps.{Step, Reply}
use Rattle.xa_base.specs.declared.call.Call.TheVariants as Calls
use Rattle.xa_base.specs.declared.answer.Answer.TheVariants.{Ret}
use Rattle.xa_model.specs.Trace.{Name.Ours, Name.Foreign, Trace.From}
use Rattle.xa_model.proofs.Replies.ComputedReplies.{computed}
use Rattle.xa_model.proofs.WorkedHistories.{fresh, gtrid, own, foreign, asking, once, called, ready}

-- Steps that come too early, too late, at the wrong place, or to what is down. None of them changes anything.
unfoldable pub refused_steps : List (Step × Reply)
refused_steps =
    once (Steps.Begin 2) (Replies.Refused Refusal.Limit)
    ++ once (Steps.Begin 0) (Replies.Begun (gtrid 1 1))
    ++ once (Steps.Issue 0 0 (asking (Calls.Start (own 1 0 0) false))) (Replies.Refused Refusal.NotOpen)
    ++ called 0 0 Calls.OpenRm (Ret Codes.Success)
    ++ called 1 0 Calls.OpenRm (Ret Codes.Success)
    ++ called 0 1 Calls.OpenRm (Ret Codes.Success)
    ++ once (Steps.Issue 0 1 (asking (Calls.Start (own 1 0 0) false))) (Replies.Refused Refusal.WrongThread)
    ++ once (Steps.Issue 1 0 (asking (Calls.Start (own 1 0 0) false))) (Replies.Refused Refusal.WrongThread)
    ++ once (Steps.Issue 1 0 (asking (Calls.Recover (pos 1) true true))) (Replies.Refused Refusal.WrongThread)
    ++ once (Steps.Issue 0 0 (asking (Calls.Start (own 2 0 0) false))) (Replies.Refused Refusal.UnknownTransaction)
    ++ called 0 0 (Calls.Start (own 1 0 0) false) (Ret Codes.Success)
    ++ once (Steps.Issue 0 0 (asking (Calls.Start (own 1 0 0) false))) (Replies.Refused Refusal.AlreadyStarted)
    ++ called 0 0 (Calls.End (own 1 0 0) false) (Ret Codes.Success)
    ++ once (Steps.Vote 1 (Ours (own 1 0 0)) Votes.Yes) (Replies.Refused Refusal.Script)
    ++ once (Steps.Heuristic 0 (Ours (own 1 0 0)) How.Rb) (Replies.Refused Refusal.Script)
    ++ once (Steps.Busy 0 (Foreign (foreign (pos 8) (1 ∷ []))) 1) (Replies.Refused Refusal.Script)
    ++ called 0 0 (Calls.Prepare (own 1 0 0)) (Ret Codes.Success)
    ++ once (Steps.Vote 0 (Ours (own 1 0 0)) Votes.Yes) (Replies.Refused Refusal.Script)
    ++ once (Steps.Restart (Side.Rm 0)) (Replies.Refused Refusal.Busy)
    ++ once (Steps.Restart Side.Manager) (Replies.Refused Refusal.Busy)
    ++ once (Steps.Take 0 2) (Replies.Refused Refusal.Limit)
    ++ once (Steps.Crash (Part.Rm 0)) Replies.Crashed
    ++ once (Steps.Take 0 0) (Replies.Refused Refusal.RmDown)
    ++ once (Steps.Issue 0 0 (asking Calls.OpenRm)) (Replies.Refused Refusal.RmDown)
    ++ once (Steps.Crash (Part.Rm 0)) (Replies.Refused Refusal.RmDown)
    ++ once (Steps.Busy 0 (Ours (own 1 0 0)) 1) (Replies.Refused Refusal.RmDown)
    ++ once (Steps.Restart (Side.Rm 0)) Replies.RmRestarted
    ++ once (Steps.Issue 0 0 (asking (Calls.Prepare (own 1 0 0)))) (Replies.Refused Refusal.NotOpen)
    ++ once (Steps.Crash Part.Manager) Replies.Crashed
    ++ once (Steps.Begin 0) (Replies.Refused Refusal.ManagerDown)
    ++ once (Steps.Crash (Part.Line 0 0)) (Replies.Refused Refusal.ManagerDown)
    ++ once (Steps.Take 0 1) Replies.Nothing

refused_steps-allowed : AllAllowed (From (fresh 2 2)) refused_steps
unfolding refused_steps
refused_steps-allowed = computed (From (fresh 2 2)) refused_steps refl

refused_steps-fates : fate (with_steps (From (fresh 2 2)) refused_steps) (own 1 0 0) ≡ Fates.Prepared
unfolding refused_steps
refused_steps-fates = refl

refused_steps-log : log (with_steps (From (fresh 2 2)) refused_steps) ≡ []
unfolding refused_steps
refused_steps-log = refl

-- Steps that ask what is down, or what the system does not have.
unfoldable pub refused_for_parts : List (Step × Reply)
refused_for_parts =
    once (Steps.Begin 0) (Replies.Begun (gtrid 1 1))
    ++ ready 0 (own 1 0 0)
    ++ once (Steps.Crash (Part.Rm 0)) Replies.Crashed
    ++ once (Steps.Issue 0 0 (asking (Calls.Prepare (own 1 0 0)))) (Replies.Refused Refusal.RmDown)
    ++ once (Steps.Recover 0 (pos 1) true true) (Replies.Refused Refusal.RmDown)
    ++ once (Steps.Resolve 0) (Replies.Refused Refusal.RmDown)
    ++ once (Steps.ResolveOpen 0) (Replies.Refused Refusal.RmDown)
    ++ once (Steps.Take 0 0) (Replies.Refused Refusal.RmDown)
    ++ once (Steps.Hear 0 0) (Replies.Refused Refusal.RmDown)
    ++ once (Steps.Vote 0 (Ours (own 1 0 0)) Votes.Yes) (Replies.Refused Refusal.RmDown)
    ++ once (Steps.Busy 0 (Ours (own 1 0 0)) 1) (Replies.Refused Refusal.RmDown)
    ++ once (Steps.Heuristic 0 (Ours (own 1 0 0)) How.Rb) (Replies.Refused Refusal.RmDown)
    ++ once (Steps.Crash (Part.Line 0 0)) (Replies.Refused Refusal.RmDown)
    ++ once (Steps.Crash (Part.Rm 0)) (Replies.Refused Refusal.RmDown)
    ++ once (Steps.Restart (Side.Rm 0)) Replies.RmRestarted
    ++ once (Steps.Crash Part.Manager) Replies.Crashed
    ++ once (Steps.Issue 0 0 (asking (Calls.Prepare (own 1 0 0)))) (Replies.Refused Refusal.ManagerDown)
    ++ once (Steps.Recover 0 (pos 1) true true) (Replies.Refused Refusal.ManagerDown)
    ++ once (Steps.Resolve 0) (Replies.Refused Refusal.ManagerDown)
    ++ once (Steps.ResolveOpen 0) (Replies.Refused Refusal.ManagerDown)
    ++ once (Steps.Decide (gtrid 1 1) Outcome.Commit) (Replies.Refused Refusal.ManagerDown)
    ++ once (Steps.Claim (gtrid 1 1)) (Replies.Refused Refusal.ManagerDown)
    ++ once (Steps.Settle (gtrid 1 1)) (Replies.Refused Refusal.ManagerDown)
    ++ once (Steps.Abandon (gtrid 1 1)) (Replies.Refused Refusal.ManagerDown)
    ++ once (Steps.Done (gtrid 1 1)) (Replies.Refused Refusal.ManagerDown)
    ++ once (Steps.Begin 0) (Replies.Refused Refusal.ManagerDown)
    ++ once (Steps.Hear 0 0) (Replies.Refused Refusal.ManagerDown)
    ++ once (Steps.Crash (Part.Line 0 0)) (Replies.Refused Refusal.ManagerDown)
    ++ once (Steps.Crash Part.Manager) (Replies.Refused Refusal.ManagerDown)
    ++ once (Steps.Begin 1) (Replies.Refused Refusal.Limit)
    ++ once (Steps.Issue 1 0 (asking Calls.OpenRm)) (Replies.Refused Refusal.Limit)
    ++ once (Steps.Issue 0 1 (asking Calls.OpenRm)) (Replies.Refused Refusal.Limit)
    ++ once (Steps.Take 1 0) (Replies.Refused Refusal.Limit)
    ++ once (Steps.Take 0 1) (Replies.Refused Refusal.Limit)
    ++ once (Steps.Hear 1 0) (Replies.Refused Refusal.Limit)
    ++ once (Steps.Hear 0 1) (Replies.Refused Refusal.Limit)
    ++ once (Steps.Vote 1 (Ours (own 1 0 0)) Votes.Yes) (Replies.Refused Refusal.Limit)
    ++ once (Steps.Busy 1 (Ours (own 1 0 0)) 1) (Replies.Refused Refusal.Limit)
    ++ once (Steps.Heuristic 1 (Ours (own 1 0 0)) How.Rb) (Replies.Refused Refusal.Limit)
    ++ once (Steps.Recover 1 (pos 1) true true) (Replies.Refused Refusal.Limit)
    ++ once (Steps.Resolve 1) (Replies.Refused Refusal.Limit)
    ++ once (Steps.ResolveOpen 1) (Replies.Refused Refusal.Limit)
    ++ once (Steps.Crash (Part.Line 1 0)) (Replies.Refused Refusal.Limit)
    ++ once (Steps.Crash (Part.Line 0 1)) (Replies.Refused Refusal.Limit)
    ++ once (Steps.Crash (Part.Rm 1)) (Replies.Refused Refusal.Limit)
    ++ once (Steps.Restart (Side.Rm 1)) (Replies.Refused Refusal.Limit)

refused_for_parts-allowed : AllAllowed (From (fresh 1 1)) refused_for_parts
unfolding refused_for_parts
refused_for_parts-allowed = computed (From (fresh 1 1)) refused_for_parts refl

refused_for_parts-fates : fate (with_steps (From (fresh 1 1)) refused_for_parts) (own 1 0 0) ≡ Fates.Lost
unfolding refused_for_parts
refused_for_parts-fates = refl

refused_for_parts-log : log (with_steps (From (fresh 1 1)) refused_for_parts) ≡ []
unfolding refused_for_parts
refused_for_parts-log = refl

-- Calls on a line that is not open, and on one that is closed.
unfoldable pub refused_on_lines : List (Step × Reply)
refused_on_lines =
    once (Steps.Begin 0) (Replies.Begun (gtrid 1 1))
    ++ once (Steps.Issue 0 0 (asking (Calls.Prepare (own 1 0 0)))) (Replies.Refused Refusal.NotOpen)
    ++ once (Steps.Recover 0 (pos 1) true true) (Replies.Refused Refusal.NotOpen)
    ++ once (Steps.Resolve 0) (Replies.Refused Refusal.NotOpen)
    ++ once (Steps.ResolveOpen 0) (Replies.Refused Refusal.NotOpen)
    ++ once (Steps.Issue 0 0 (asking Calls.CloseRm)) (Replies.Refused Refusal.NotOpen)
    ++ called 0 0 Calls.OpenRm (Ret Codes.Success)
    ++ once (Steps.Issue 0 0 (asking Calls.CloseRm)) Replies.Issued
    ++ once (Steps.Issue 0 0 (asking (Calls.Prepare (own 1 0 0)))) (Replies.Refused Refusal.Closed)
    ++ once (Steps.Recover 0 (pos 1) true true) (Replies.Refused Refusal.Closed)
    ++ once (Steps.Resolve 0) (Replies.Refused Refusal.Closed)
    ++ once (Steps.ResolveOpen 0) (Replies.Refused Refusal.Closed)
    ++ once (Steps.Issue 0 0 (asking Calls.OpenRm)) (Replies.Refused Refusal.Closed)
    ++ once (Steps.Issue 0 0 (asking Calls.CloseRm)) (Replies.Refused Refusal.Closed)

refused_on_lines-allowed : AllAllowed (From (fresh 1 1)) refused_on_lines
unfolding refused_on_lines
refused_on_lines-allowed = computed (From (fresh 1 1)) refused_on_lines refl

refused_on_lines-log : log (with_steps (From (fresh 1 1)) refused_on_lines) ≡ []
unfolding refused_on_lines
refused_on_lines-log = refl

-- Calls and decisions of a transaction that was not begun, and calls on identifiers of other managers.
unfoldable pub refused_unknown : List (Step × Reply)
refused_unknown =
    called 0 0 Calls.OpenRm (Ret Codes.Success)
    ++ once (Steps.Issue 0 0 (asking (Calls.Start (own 1 0 0) false))) (Replies.Refused Refusal.UnknownTransaction)
    ++ once (Steps.Issue 0 0 (asking (Calls.Start (own 1 0 0) true))) (Replies.Refused Refusal.UnknownTransaction)
    ++ once (Steps.Issue 0 0 (asking (Calls.End (own 1 0 0) false))) (Replies.Refused Refusal.UnknownTransaction)
    ++ once (Steps.Issue 0 0 (asking (Calls.End (own 1 0 0) true))) (Replies.Refused Refusal.UnknownTransaction)
    ++ once (Steps.Issue 0 0 (asking (Calls.Prepare (own 1 0 0)))) (Replies.Refused Refusal.UnknownTransaction)
    ++ once (Steps.Issue 0 0 (asking (Calls.Commit (own 1 0 0) false))) (Replies.Refused Refusal.UnknownTransaction)
    ++ once (Steps.Issue 0 0 (asking (Calls.Commit (own 1 0 0) true))) (Replies.Refused Refusal.UnknownTransaction)
    ++ once (Steps.Issue 0 0 (asking (Calls.Rollback (own 1 0 0)))) (Replies.Refused Refusal.UnknownTransaction)
    ++ once (Steps.Issue 0 0 (asking (Calls.Forget (own 1 0 0)))) (Replies.Refused Refusal.UnknownTransaction)
    ++ once (Steps.Issue 0 0 (Calls.Start (Foreign (foreign (pos 8) (1 ∷ []))) false)) (Replies.Refused Refusal.UnknownTransaction)
    ++ once (Steps.Issue 0 0 (Calls.Start (Foreign (foreign (pos 8) (1 ∷ []))) true)) (Replies.Refused Refusal.UnknownTransaction)
    ++ once (Steps.Issue 0 0 (Calls.End (Foreign (foreign (pos 8) (1 ∷ []))) false)) (Replies.Refused Refusal.UnknownTransaction)
    ++ once (Steps.Issue 0 0 (Calls.End (Foreign (foreign (pos 8) (1 ∷ []))) true)) (Replies.Refused Refusal.UnknownTransaction)
    ++ once (Steps.Issue 0 0 (Calls.Prepare (Foreign (foreign (pos 8) (1 ∷ []))))) (Replies.Refused Refusal.UnknownTransaction)
    ++ once (Steps.Issue 0 0 (Calls.Commit (Foreign (foreign (pos 8) (1 ∷ []))) false)) (Replies.Refused Refusal.UnknownTransaction)
    ++ once (Steps.Issue 0 0 (Calls.Commit (Foreign (foreign (pos 8) (1 ∷ []))) true)) (Replies.Refused Refusal.UnknownTransaction)
    ++ once (Steps.Issue 0 0 (Calls.Rollback (Foreign (foreign (pos 8) (1 ∷ []))))) (Replies.Refused Refusal.UnknownTransaction)
    ++ once (Steps.Issue 0 0 (Calls.Forget (Foreign (foreign (pos 8) (1 ∷ []))))) (Replies.Refused Refusal.UnknownTransaction)
    ++ once (Steps.Decide (gtrid 1 1) Outcome.Commit) (Replies.Refused Refusal.UnknownTransaction)
    ++ once (Steps.Claim (gtrid 1 1)) (Replies.Refused Refusal.UnknownTransaction)
    ++ once (Steps.Settle (gtrid 1 1)) (Replies.Refused Refusal.UnknownTransaction)
    ++ once (Steps.Abandon (gtrid 1 1)) (Replies.Refused Refusal.UnknownTransaction)
    ++ once (Steps.Done (gtrid 1 1)) (Replies.Refused Refusal.UnknownTransaction)

refused_unknown-allowed : AllAllowed (From (fresh 1 1)) refused_unknown
unfolding refused_unknown
refused_unknown-allowed = computed (From (fresh 1 1)) refused_unknown refl

refused_unknown-log : log (with_steps (From (fresh 1 1)) refused_unknown) ≡ []
unfolding refused_unknown
refused_unknown-log = refl

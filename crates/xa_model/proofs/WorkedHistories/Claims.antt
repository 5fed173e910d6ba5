-- Worked histories of claims: each reply is the demanded one, and the fates and the log at the end are as told.
use Rattle.std.proofs.Common.{◌≡◌, pos, List, [], ◌∷◌, ◌++◌, true, refl, false}
use Rattle.xa_base.specs.declared.code.Code.TheVariants as Codes
use Rattle.xa_base.specs.declared.refusal.Refusal.TheVariants as Refusal
use Rattle.xa_base.specs.declared.state.Fate.TheVariants as Fates
use Rattle.xa_base.specs.declared.step.Outcome.TheVariants as Outcome
use Rattle.xa_base.specs.declared.step.Part.TheVariants as Part
use Rattle.xa_base.specs.declared.step.Side.TheVariants as Side
use Rattle.xa_model.specs.Replies.Allowed.{with_steps, AllAllowed}
use Rattle.xa_model.specs.Facts.{log, fate}
use Rattle.xa_base.specs.declared.reply.Reply.TheVariants as Replies
use Rattle.xa_base.specs.declared.step.Step.TheVariants as Steps
use Rattle.xa_model.specs.Replies.Steps.{Step, Reply}
use Rattle.xa_base.specs.declared.call.Call.TheVariants as Calls
use Rattle.xa_base.specs.declared.answer.Answer.TheVariants.{Ret, Page}
use Rattle.xa_model.specs.Trace.{Name.Ours, Trace.From}
use Rattle.xa_model.proofs.Replies.ComputedReplies.{computed}
use Rattle.xa_model.proofs.WorkedHistories.{fresh, gtrid, own, once, answered, called, ready, scanned}

-- Recovery rolls back a transaction that nobody has claimed; a claim comes too late.
unfoldable pub open_rolled_back : List (Step × Reply)
open_rolled_back =
    once (Steps.Begin 0) (Replies.Begun (gtrid 1 1))
    ++ ready 0 (own 1 0 0)
    ++ called 0 0 (Calls.Prepare (own 1 0 0)) (Ret Codes.Success)
    ++ scanned 0 (pos 8) true true (Page (Ours (own 1 0 0) ∷ []))
    ++ once (Steps.ResolveOpen 0) (Replies.Resolved 1)
    ++ once (Steps.Claim (gtrid 1 1)) (Replies.Refused Refusal.Decided)
    ++ answered 0 0 (Calls.Rollback (own 1 0 0)) (Ret Codes.Success)

open_rolled_back-allowed : AllAllowed (From (fresh 1 1)) open_rolled_back
unfolding open_rolled_back
open_rolled_back-allowed = computed (From (fresh 1 1)) open_rolled_back refl

open_rolled_back-fates : fate (with_steps (From (fresh 1 1)) open_rolled_back) (own 1 0 0) ≡ Fates.RolledBack
unfolding open_rolled_back
open_rolled_back-fates = refl

open_rolled_back-log : log (with_steps (From (fresh 1 1)) open_rolled_back) ≡ []
unfolding open_rolled_back
open_rolled_back-log = refl

-- A claimed transaction is left alone by recovery, and settled by a commit.
unfoldable pub claimed_is_kept : List (Step × Reply)
claimed_is_kept =
    once (Steps.Begin 0) (Replies.Begun (gtrid 1 1))
    ++ ready 0 (own 1 0 0)
    ++ called 0 0 (Calls.Prepare (own 1 0 0)) (Ret Codes.Success)
    ++ once (Steps.Claim (gtrid 1 1)) Replies.Claimed
    ++ once (Steps.Decide (gtrid 1 1) Outcome.Rollback) (Replies.Refused Refusal.Decided)
    ++ scanned 0 (pos 8) true true (Page (Ours (own 1 0 0) ∷ []))
    ++ once (Steps.ResolveOpen 0) (Replies.Resolved 0)
    ++ once (Steps.Settle (gtrid 1 1)) Replies.Decided
    ++ once (Steps.Settle (gtrid 1 1)) (Replies.Refused Refusal.Decided)
    ++ called 0 0 (Calls.Commit (own 1 0 0) false) (Ret Codes.Success)
    ++ once (Steps.Done (gtrid 1 1)) Replies.Noted

claimed_is_kept-allowed : AllAllowed (From (fresh 1 1)) claimed_is_kept
unfolding claimed_is_kept
claimed_is_kept-allowed = computed (From (fresh 1 1)) claimed_is_kept refl

claimed_is_kept-fates : fate (with_steps (From (fresh 1 1)) claimed_is_kept) (own 1 0 0) ≡ Fates.Committed
unfolding claimed_is_kept
claimed_is_kept-fates = refl

claimed_is_kept-log : log (with_steps (From (fresh 1 1)) claimed_is_kept) ≡ []
unfolding claimed_is_kept
claimed_is_kept-log = refl

-- A claim ends with its incarnation: after the crash the transaction is rolled back.
unfoldable pub claim_ends_with_crash : List (Step × Reply)
claim_ends_with_crash =
    once (Steps.Begin 0) (Replies.Begun (gtrid 1 1))
    ++ ready 0 (own 1 0 0)
    ++ once (Steps.Claim (gtrid 1 1)) (Replies.Refused Refusal.Votes)
    ++ called 0 0 (Calls.Prepare (own 1 0 0)) (Ret Codes.Success)
    ++ once (Steps.Settle (gtrid 1 1)) (Replies.Refused Refusal.NotDecided)
    ++ once (Steps.Claim (gtrid 1 1)) Replies.Claimed
    ++ once (Steps.Crash Part.Manager) Replies.Crashed
    ++ once (Steps.Restart Side.Manager) (Replies.Restarted 2 0 0)
    ++ once (Steps.Settle (gtrid 1 1)) (Replies.Refused Refusal.UnknownTransaction)
    ++ called 0 0 Calls.OpenRm (Ret Codes.Success)
    ++ scanned 0 (pos 8) true true (Page (Ours (own 1 0 0) ∷ []))
    ++ once (Steps.Resolve 0) (Replies.Resolved 1)
    ++ answered 0 0 (Calls.Rollback (own 1 0 0)) (Ret Codes.Success)

claim_ends_with_crash-allowed : AllAllowed (From (fresh 1 1)) claim_ends_with_crash
unfolding claim_ends_with_crash
claim_ends_with_crash-allowed = computed (From (fresh 1 1)) claim_ends_with_crash refl

claim_ends_with_crash-fates : fate (with_steps (From (fresh 1 1)) claim_ends_with_crash) (own 1 0 0) ≡ Fates.RolledBack
unfolding claim_ends_with_crash
claim_ends_with_crash-fates = refl

claim_ends_with_crash-log : log (with_steps (From (fresh 1 1)) claim_ends_with_crash) ≡ []
unfolding claim_ends_with_crash
claim_ends_with_crash-log = refl

-- A claim is abandoned: the transaction is rolled back.
unfoldable pub claim_abandoned : List (Step × Reply)
claim_abandoned =
    once (Steps.Begin 0) (Replies.Begun (gtrid 1 1))
    ++ ready 0 (own 1 0 0)
    ++ once (Steps.Claim (gtrid 1 1)) (Replies.Refused Refusal.Votes)
    ++ called 0 0 (Calls.Prepare (own 1 0 0)) (Ret Codes.Success)
    ++ once (Steps.Settle (gtrid 1 1)) (Replies.Refused Refusal.NotDecided)
    ++ once (Steps.Claim (gtrid 1 1)) Replies.Claimed
    ++ once (Steps.Abandon (gtrid 1 1)) Replies.Decided
    ++ called 0 0 (Calls.Rollback (own 1 0 0)) (Ret Codes.Success)
    ++ once (Steps.Settle (gtrid 1 1)) (Replies.Refused Refusal.Decided)

claim_abandoned-allowed : AllAllowed (From (fresh 1 1)) claim_abandoned
unfolding claim_abandoned
claim_abandoned-allowed = computed (From (fresh 1 1)) claim_abandoned refl

claim_abandoned-fates : fate (with_steps (From (fresh 1 1)) claim_abandoned) (own 1 0 0) ≡ Fates.RolledBack
unfolding claim_abandoned
claim_abandoned-fates = refl

claim_abandoned-log : log (with_steps (From (fresh 1 1)) claim_abandoned) ≡ []
unfolding claim_abandoned
claim_abandoned-log = refl

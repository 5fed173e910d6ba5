-- Worked histories without a crash: each reply is the demanded one, and the fates and the log at the end are as told.
use Rattle.std.proofs.Common.{◌≡◌, List, [], ◌∷◌, ◌++◌, true, refl, false}
use Rattle.xa_base.specs.declared.code.Code.TheVariants as Codes
use Rattle.xa_base.specs.declared.code.How.TheVariants as How
use Rattle.xa_base.specs.declared.code.RbCode.TheVariants as Rb
use Rattle.xa_base.specs.declared.refusal.Refusal.TheVariants as Refusal
use Rattle.xa_base.specs.declared.state.Fate.TheVariants as Fates
use Rattle.xa_base.specs.declared.step.Outcome.TheVariants as Outcome
use Rattle.xa_base.specs.declared.vote.Vote.TheVariants as Votes
use Rattle.xa_model.specs.Replies.Allowed.{with_steps, AllAllowed}
use Rattle.xa_model.specs.Facts.{log, heuristic_rows, fate}
use Rattle.xa_base.specs.declared.reply.Reply.TheVariants as Replies
use Rattle.xa_base.specs.declared.step.Step.TheVariants as Steps
use Rattle.xa_model.specs.Replies.Steps.{Step, Reply}
use Rattle.xa_base.specs.declared.call.Call.TheVariants as Calls
use Rattle.xa_base.specs.declared.answer.Answer.TheVariants.{Ret}
use Rattle.xa_model.specs.Trace.{Name.Ours, Trace.From}
use Rattle.xa_model.proofs.Replies.ComputedReplies.{computed}
use Rattle.xa_model.proofs.WorkedHistories.{fresh, gtrid, own, recorded_so, asking, once, called, ready}

-- One branch, committed in one phase.
unfoldable pub first_run : List (Step × Reply)
first_run =
    once (Steps.Begin 0) (Replies.Begun (gtrid 1 1))
    ++ ready 0 (own 1 0 0)
    ++ called 0 0 (Calls.Commit (own 1 0 0) true) (Ret Codes.Success)

first_run-allowed : AllAllowed (From (fresh 1 1)) first_run
unfolding first_run
first_run-allowed = computed (From (fresh 1 1)) first_run refl

first_run-fates : fate (with_steps (From (fresh 1 1)) first_run) (own 1 0 0) ≡ Fates.Committed
unfolding first_run
first_run-fates = refl

first_run-log : log (with_steps (From (fresh 1 1)) first_run) ≡ []
unfolding first_run
first_run-log = refl

-- Two branches vote yes, a row is written, both are told to commit, and the row leaves.
unfoldable pub two_phase_commit : List (Step × Reply)
two_phase_commit =
    once (Steps.Begin 0) (Replies.Begun (gtrid 1 1))
    ++ ready 0 (own 1 0 0)
    ++ ready 1 (own 1 0 1)
    ++ called 0 0 (Calls.Prepare (own 1 0 0)) (Ret Codes.Success)
    ++ called 0 1 (Calls.Prepare (own 1 0 1)) (Ret Codes.Success)
    ++ once (Steps.Decide (gtrid 1 1) Outcome.Commit) Replies.Decided
    ++ called 0 0 (Calls.Commit (own 1 0 0) false) (Ret Codes.Success)
    ++ called 0 1 (Calls.Commit (own 1 0 1) false) (Ret Codes.Success)
    ++ once (Steps.Done (gtrid 1 1)) Replies.Noted

two_phase_commit-allowed : AllAllowed (From (fresh 1 2)) two_phase_commit
unfolding two_phase_commit
two_phase_commit-allowed = computed (From (fresh 1 2)) two_phase_commit refl

two_phase_commit-fates : (fate (with_steps (From (fresh 1 2)) two_phase_commit) (own 1 0 0) ≡ Fates.Committed)
    × (fate (with_steps (From (fresh 1 2)) two_phase_commit) (own 1 0 1) ≡ Fates.Committed)
unfolding two_phase_commit
two_phase_commit-fates = (refl, refl)

two_phase_commit-log : log (with_steps (From (fresh 1 2)) two_phase_commit) ≡ []
unfolding two_phase_commit
two_phase_commit-log = refl

-- One branch votes no, so a commit is refused; the other is rolled back.
unfoldable pub one_no : List (Step × Reply)
one_no =
    once (Steps.Begin 0) (Replies.Begun (gtrid 1 1))
    ++ ready 0 (own 1 0 0)
    ++ ready 1 (own 1 0 1)
    ++ once (Steps.Vote 1 (Ours (own 1 0 1)) (Votes.No Rb.Deadlock)) Replies.Noted
    ++ called 0 0 (Calls.Prepare (own 1 0 0)) (Ret Codes.Success)
    ++ called 0 1 (Calls.Prepare (own 1 0 1)) (Ret (Codes.RolledBack Rb.Deadlock))
    ++ once (Steps.Decide (gtrid 1 1) Outcome.Commit) (Replies.Refused Refusal.Votes)
    ++ once (Steps.Decide (gtrid 1 1) Outcome.Rollback) Replies.Decided
    ++ called 0 0 (Calls.Rollback (own 1 0 0)) (Ret Codes.Success)
    ++ called 0 1 (Calls.Rollback (own 1 0 1)) (Ret Codes.NotAnXid)

one_no-allowed : AllAllowed (From (fresh 1 2)) one_no
unfolding one_no
one_no-allowed = computed (From (fresh 1 2)) one_no refl

one_no-fates : (fate (with_steps (From (fresh 1 2)) one_no) (own 1 0 0) ≡ Fates.RolledBack)
    × (fate (with_steps (From (fresh 1 2)) one_no) (own 1 0 1) ≡ Fates.RolledBack)
unfolding one_no
one_no-fates = (refl, refl)

one_no-log : log (with_steps (From (fresh 1 2)) one_no) ≡ []
unfolding one_no
one_no-log = refl

-- Both branches only read: the commit has no row, and no xa_commit is accepted.
unfoldable pub all_read_only : List (Step × Reply)
all_read_only =
    once (Steps.Begin 0) (Replies.Begun (gtrid 1 1))
    ++ ready 0 (own 1 0 0)
    ++ ready 1 (own 1 0 1)
    ++ once (Steps.Vote 0 (Ours (own 1 0 0)) Votes.ReadOnly) Replies.Noted
    ++ once (Steps.Vote 1 (Ours (own 1 0 1)) Votes.ReadOnly) Replies.Noted
    ++ called 0 0 (Calls.Prepare (own 1 0 0)) (Ret Codes.ReadOnly)
    ++ called 0 1 (Calls.Prepare (own 1 0 1)) (Ret Codes.ReadOnly)
    ++ once (Steps.Decide (gtrid 1 1) Outcome.Commit) Replies.Decided
    ++ once (Steps.Issue 0 0 (asking (Calls.Commit (own 1 0 0) false))) (Replies.Refused Refusal.NotDecided)

all_read_only-allowed : AllAllowed (From (fresh 1 2)) all_read_only
unfolding all_read_only
all_read_only-allowed = computed (From (fresh 1 2)) all_read_only refl

all_read_only-fates : (fate (with_steps (From (fresh 1 2)) all_read_only) (own 1 0 0) ≡ Fates.ReadOnly)
    × (fate (with_steps (From (fresh 1 2)) all_read_only) (own 1 0 1) ≡ Fates.ReadOnly)
unfolding all_read_only
all_read_only-fates = (refl, refl)

all_read_only-log : log (with_steps (From (fresh 1 2)) all_read_only) ≡ []
unfolding all_read_only
all_read_only-log = refl

-- A commit is put off three times; the row leaves only after the fourth.
unfoldable pub retries : List (Step × Reply)
retries =
    once (Steps.Begin 0) (Replies.Begun (gtrid 1 1))
    ++ ready 0 (own 1 0 0)
    ++ called 0 0 (Calls.Prepare (own 1 0 0)) (Ret Codes.Success)
    ++ once (Steps.Decide (gtrid 1 1) Outcome.Commit) Replies.Decided
    ++ once (Steps.Busy 0 (Ours (own 1 0 0)) 3) Replies.Noted
    ++ called 0 0 (Calls.Commit (own 1 0 0) false) (Ret Codes.Retry)
    ++ called 0 0 (Calls.Commit (own 1 0 0) false) (Ret Codes.Retry)
    ++ called 0 0 (Calls.Commit (own 1 0 0) false) (Ret Codes.Retry)
    ++ once (Steps.Done (gtrid 1 1)) (Replies.Refused Refusal.Busy)
    ++ called 0 0 (Calls.Commit (own 1 0 0) false) (Ret Codes.Success)
    ++ once (Steps.Done (gtrid 1 1)) Replies.Noted

retries-allowed : AllAllowed (From (fresh 1 1)) retries
unfolding retries
retries-allowed = computed (From (fresh 1 1)) retries refl

retries-fates : fate (with_steps (From (fresh 1 1)) retries) (own 1 0 0) ≡ Fates.Committed
unfolding retries
retries-fates = refl

retries-log : log (with_steps (From (fresh 1 1)) retries) ≡ []
unfolding retries
retries-log = refl

-- A prepared branch is rolled back by its resource manager alone. It is recorded before it is forgotten.
unfoldable pub heuristic : List (Step × Reply)
heuristic =
    once (Steps.Begin 0) (Replies.Begun (gtrid 1 1))
    ++ ready 0 (own 1 0 0)
    ++ ready 1 (own 1 0 1)
    ++ called 0 0 (Calls.Prepare (own 1 0 0)) (Ret Codes.Success)
    ++ called 0 1 (Calls.Prepare (own 1 0 1)) (Ret Codes.Success)
    ++ once (Steps.Heuristic 1 (Ours (own 1 0 1)) How.Rb) Replies.Noted
    ++ once (Steps.Decide (gtrid 1 1) Outcome.Commit) Replies.Decided
    ++ called 0 0 (Calls.Commit (own 1 0 0) false) (Ret Codes.Success)
    ++ once (Steps.Issue 0 1 (asking (Calls.Forget (own 1 0 1)))) (Replies.Refused Refusal.NotDecided)
    ++ called 0 1 (Calls.Commit (own 1 0 1) false) (Ret (Codes.Heuristic How.Rb))
    ++ called 0 1 (Calls.Forget (own 1 0 1)) (Ret Codes.Success)
    ++ once (Steps.Done (gtrid 1 1)) Replies.Noted

heuristic-allowed : AllAllowed (From (fresh 1 2)) heuristic
unfolding heuristic
heuristic-allowed = computed (From (fresh 1 2)) heuristic refl

heuristic-fates : (fate (with_steps (From (fresh 1 2)) heuristic) (own 1 0 0) ≡ Fates.Committed)
    × (fate (with_steps (From (fresh 1 2)) heuristic) (own 1 0 1) ≡ Fates.Heuristic How.Rb)
unfolding heuristic
heuristic-fates = (refl, refl)

heuristic-log : log (with_steps (From (fresh 1 2)) heuristic) ≡ []
unfolding heuristic
heuristic-log = refl

heuristic-record : heuristic_rows (with_steps (From (fresh 1 2)) heuristic) ≡ (recorded_so (own 1 0 1) How.Rb ∷ [])
unfolding heuristic
heuristic-record = refl

-- Work that failed is for rollback only, and can not be prepared.
unfoldable pub failed_end : List (Step × Reply)
failed_end =
    once (Steps.Begin 0) (Replies.Begun (gtrid 1 1))
    ++ called 0 0 Calls.OpenRm (Ret Codes.Success)
    ++ called 0 0 (Calls.Start (own 1 0 0) false) (Ret Codes.Success)
    ++ called 0 0 (Calls.End (own 1 0 0) true) (Ret (Codes.RolledBack Rb.Rollback))
    ++ called 0 0 (Calls.Prepare (own 1 0 0)) (Ret Codes.Protocol)
    ++ once (Steps.Decide (gtrid 1 1) Outcome.Commit) (Replies.Refused Refusal.Votes)
    ++ once (Steps.Decide (gtrid 1 1) Outcome.Rollback) Replies.Decided
    ++ called 0 0 (Calls.Rollback (own 1 0 0)) (Ret (Codes.RolledBack Rb.Rollback))

failed_end-allowed : AllAllowed (From (fresh 1 1)) failed_end
unfolding failed_end
failed_end-allowed = computed (From (fresh 1 1)) failed_end refl

failed_end-fates : fate (with_steps (From (fresh 1 1)) failed_end) (own 1 0 0) ≡ Fates.RolledBack
unfolding failed_end
failed_end-fates = refl

failed_end-log : log (with_steps (From (fresh 1 1)) failed_end) ≡ []
unfolding failed_end
failed_end-log = refl

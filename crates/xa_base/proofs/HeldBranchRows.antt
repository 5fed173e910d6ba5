-- What a resource manager holds of a branch, worked: calls by several threads, retries, breaks and
-- crashes. Each row computes.
use Rattle.std.proofs.Common.{◌≡◌, ℕ, true, false, List, [], ◌∷◌, map, refl}
use Rattle.xa_base.specs.Branch.{xid_of_branch}
use Rattle.xa_base.specs.HeldBranch.{HeldBranch, new_branch, answer_of, called, held_after, code_for, broken_by, crashed, completed_by}
use Rattle.xa_base.specs.StateTable.{Kind, Kind.Start, Kind.Join, Kind.End, Kind.Prepare, Kind.Commit, Kind.Rollback}
use Rattle.xa_base.specs.Xid.{Xid}
use Rattle.xa_base.specs.declared.call.Call.TheVariants as Calls
use Rattle.xa_base.specs.declared.code.Code.{Code}
use Rattle.xa_base.specs.declared.code.Code.TheVariants as Codes
use Rattle.xa_base.specs.declared.code.How.TheVariants.{Mix}
use Rattle.xa_base.specs.declared.state.Standing.{Standing}
use Rattle.xa_base.specs.declared.state.Standing.TheVariants.{Unstarted, Active, Idle, Prepared, RollbackOnly, Completed, Committed, RolledBack, Lost}
use Rattle.xa_base.specs.declared.vote.Vote.TheVariants as Votes
use Rattle.xa_base.specs.declared.branch.Branch.{Branch}

-- a branch of one transaction, by its resource manager
abbrev own : (rm : ℕ) → Branch
own rm = record { gtrid = record { incarnation = 1; sequence = 1 }; thread = 0; rm = rm }

-- a branch that would vote yes
abbrev held : Standing → (starter retries : ℕ) → HeldBranch
held standing starter retries = record { standing = standing; starter = starter; vote = Votes.Yes; retries = retries }

-- what is answered to calls on a branch, each by a thread, and what is then held
told : List (ℕ × Kind) → HeldBranch → List (Code × HeldBranch)
told [] b = []
told ((thread, kind) ∷ calls) b = (answer_of b kind, called thread kind b) ∷ told calls (called thread kind b)

-- ** calls

-- three retries are answered XA_RETRY three times, and the fourth xa_commit commits
three_retries : told ((0, Commit) ∷ (0, Commit) ∷ (0, Commit) ∷ (0, Commit) ∷ []) (held Prepared 0 3)
    ≡ (Codes.Retry, held Prepared 0 2) ∷ (Codes.Retry, held Prepared 0 1) ∷ (Codes.Retry, held Prepared 0 0) ∷ (Codes.Success, held Committed 0 0) ∷ []
unfolding told
three_retries = refl

-- only XA_RETRY uses up a retry
retries_stay : told ((0, Start) ∷ (0, End false) ∷ (0, Commit) ∷ (0, Prepare) ∷ (0, Rollback) ∷ []) (held Unstarted 0 2)
    ≡ (Codes.Success, held Active 0 2) ∷ (Codes.Success, held Idle 0 2) ∷ (Codes.Protocol, held Idle 0 2)
    ∷ (Codes.Success, held Prepared 0 2) ∷ (Codes.Success, held RolledBack 0 2) ∷ []
unfolding told
retries_stay = refl

-- the starter is the thread of the xa_start that made the branch: no refused one, no join, no other
-- call and no earlier branch
starters : told ((1, Start) ∷ (2, Start) ∷ (2, Join) ∷ (2, End false) ∷ (0, Rollback) ∷ (2, Start) ∷ []) new_branch
    ≡ (Codes.Success, held Active 1 0) ∷ (Codes.DuplicateXid, held Active 1 0) ∷ (Codes.Protocol, held Active 1 0) ∷ (Codes.Success, held Idle 1 0)
    ∷ (Codes.Success, held RolledBack 1 0) ∷ (Codes.Success, held Active 2 0) ∷ []
unfolding told
starters = refl

-- ** the branch that a call names

named : Xid
named = xid_of_branch (own 0)

other : Xid
other = xid_of_branch (own 1)

-- a call changes the branch that it names, and no other
one_changed : held_after 1 (Calls.Start named false) named new_branch ∷ held_after 1 (Calls.Start named false) other new_branch
    ∷ held_after 1 Calls.OpenRm named new_branch ∷ []
    ≡ held Active 1 0 ∷ new_branch ∷ new_branch ∷ []
unfolding named other
one_changed = refl

-- xa_open and xa_close are answered XA_OK whatever is held, and a call on a branch as the table
-- says of that branch
codes : (b : HeldBranch) → code_for (λ x. b) Calls.OpenRm ∷ code_for (λ x. b) Calls.CloseRm ∷ [] ≡ Codes.Success ∷ Codes.Success ∷ []
codes b = refl

code_of_branch : map (λ b. code_for (λ x. b) (Calls.Commit named false)) (held Prepared 0 1 ∷ held Prepared 0 0 ∷ held Idle 0 0 ∷ new_branch ∷ [])
    ≡ Codes.Retry ∷ Codes.Success ∷ Codes.Protocol ∷ Codes.NotAnXid ∷ []
code_of_branch = refl

-- ** breaks

-- a branch that thread 1 started is lost with a line of thread 1, and with no line of thread 0 or 2
breaks : map (λ thread. broken_by thread (called 1 Start new_branch)) (0 ∷ 1 ∷ 2 ∷ []) ≡ held Active 1 0 ∷ held Lost 1 0 ∷ held Active 1 0 ∷ []
breaks = refl

-- whoever works on it, and also when it waits to be rolled back; a prepared or a completed one
-- stays
later_breaks : map (broken_by 1) (called 2 (End true) (held Active 1 0) ∷ held Idle 1 0 ∷ held Prepared 1 3 ∷ held (Completed Mix) 1 0 ∷ [])
    ≡ held Lost 1 0 ∷ held Lost 1 0 ∷ held Prepared 1 3 ∷ held (Completed Mix) 1 0 ∷ []
later_breaks = refl

-- a crash loses what any thread started
crashes : map crashed (held Active 0 0 ∷ held Idle 1 0 ∷ held RollbackOnly 2 0 ∷ held Prepared 1 3 ∷ []) ≡ held Lost 0 0
    ∷ held Lost 1 0 ∷ held Lost 2 0 ∷ held Prepared 1 3 ∷ []
crashes = refl

-- ** heuristic ends

-- only a prepared branch is ended alone, and it keeps its starter and its retries
ended_alone : map (completed_by Mix) (held Prepared 1 2 ∷ held Idle 1 2 ∷ []) ≡ held (Completed Mix) 1 2 ∷ held Idle 1 2 ∷ []
ended_alone = refl

-- Scripts and answers of a resource manager, worked. Each row computes.
use Rattle.std.proofs.Common.{◌≡◌, ℕ, pos, negsuc, true, false, List, [], ◌∷◌, map, refl}
use Rattle.std.specs.Prelude.{Some}
use Rattle.xa_base.specs.HeldBranch.{HeldBranch, called}
use Rattle.xa_base.specs.Scan.{Scan.NotOpen, Scan.Behind}
use Rattle.xa_base.specs.StateTable.{Kind.Commit, Kind.Prepare}
use Rattle.xa_base.specs.Xid.{Xid}
use Rattle.xa_base.specs.declared.answer.Answer.TheVariants.{Ret, Page}
use Rattle.xa_base.specs.declared.call.Call.TheVariants as Calls
use Rattle.xa_base.specs.declared.code.Code.TheVariants as Codes
use Rattle.xa_base.specs.declared.code.RbCode.TheVariants.{Deadlock}
use Rattle.xa_base.specs.declared.state.Standing.{Standing}
use Rattle.xa_base.specs.declared.state.Standing.TheVariants.{Idle, Prepared, RolledBack}
use Rattle.xa_base.specs.declared.vote.Vote.{Vote}
use Rattle.xa_base.specs.declared.vote.Vote.TheVariants as Votes
use Rattle.xa_rm.specs.Look.{Look}
use Rattle.xa_rm.specs.ResourceManager.{answer_to, changed_at, retrying, scan_after_call, voting}

-- a branch that thread 1 started
abbrev held : Standing → Vote → (retries : ℕ) → HeldBranch
held standing vote retries = record { standing = standing; starter = 1; vote = vote; retries = retries }

abbrev xid : (qualifier : ℕ) → Xid
xid qualifier = record { format = pos 1; gtrid = 1 ∷ []; bqual = qualifier ∷ [] }

-- ** scripts

-- a vote after retries keeps the retries, and retries after a vote keep the vote
vote_after_retries : voting (Votes.No Deadlock) (retrying 3 (held Idle Votes.Yes 0)) ≡ held Idle (Votes.No Deadlock) 3
vote_after_retries = refl

retries_after_vote : retrying 3 (voting Votes.ReadOnly (held Idle Votes.Yes 0)) ≡ held Idle Votes.ReadOnly 3
retries_after_vote = refl

-- and the branch then votes so, and puts its commits off
scripted : called 1 Prepare (voting (Votes.No Deadlock) (held Idle Votes.Yes 0)) ∷ called 1 Commit (retrying 3 (held Prepared Votes.Yes 0)) ∷ []
    ≡ held RolledBack (Votes.No Deadlock) 0 ∷ held Prepared Votes.Yes 2 ∷ []
scripted = refl

-- only the named branch
one_named : map (λ x. changed_at (xid 2) (retrying 3) x (held Idle Votes.Yes 0)) (xid 1 ∷ xid 2 ∷ xid 3 ∷ [])
    ≡ held Idle Votes.Yes 0 ∷ held Idle Votes.Yes 3 ∷ held Idle Votes.Yes 0 ∷ []
one_named = refl

-- ** answers

-- xa_open and xa_close are answered XA_OK, whatever is held, in doubt or listed
opened : (look : Look) (thread : ℕ) → answer_to look thread Calls.OpenRm ∷ answer_to look thread Calls.CloseRm ∷ [] ≡ Ret Codes.Success ∷ Ret Codes.Success ∷ []
opened look thread = refl

-- the branches in doubt
doubted : List Xid
doubted = xid 1 ∷ xid 2 ∷ xid 3 ∷ []

-- a page from where the scan stands, and XAER_INVAL for a negative count
pages : map (answer_to (record { held = λ x. held Prepared Votes.Yes 0; scan = λ t. Behind (Some (xid 1)); in_doubt = doubted }) 1)
    (Calls.Recover (pos 1) false false ∷ Calls.Recover (negsuc 0) false false ∷ Calls.Recover (pos 1) true false ∷ [])
    ≡ Page (xid 2 ∷ []) ∷ Ret Codes.Invalid ∷ Page (xid 1 ∷ []) ∷ []
unfolding doubted
pages = refl

-- the refused call leaves the caller's scan where it stood, and no call moves another thread's scan
scans : map (λ call. scan_after_call 1 call doubted 1 (Behind (Some (xid 1))))
    (Calls.Recover (pos 1) false false ∷ Calls.Recover (negsuc 0) false true ∷ Calls.Recover (pos 1) false true ∷ Calls.OpenRm ∷ [])
    ≡ Behind (Some (xid 2)) ∷ Behind (Some (xid 1)) ∷ NotOpen ∷ Behind (Some (xid 1)) ∷ []
unfolding doubted
scans = refl

others_scan : map (λ thread. scan_after_call 1 (Calls.Recover (pos 2) true false) doubted thread NotOpen) (0 ∷ 1 ∷ 2 ∷ [])
    ≡ NotOpen ∷ Behind (Some (xid 2)) ∷ NotOpen ∷ []
unfolding doubted
others_scan = refl

-- Where a branch stands at its resource manager (XA, chapter 6, State Tables), and what that was told to vote and to put off.
use Rattle.std.specs.Prelude.{ℕ, ◌-◌, ◌^◌, Bool, ◌&&◌, nat_lt, if◌then◌else◌, Option, Some, None, false}
use Rattle.xa_base.specs.Branch.{xid_of_branch, branch_eq}
use Rattle.xa_base.specs.HeldBranch.{HeldBranch, new_branch}
use Rattle.xa_base.specs.StateTable.{Kind, asks_of, moved, broken, completed}
use Rattle.xa_base.specs.declared.code.Code.{Code}
use Rattle.xa_base.specs.declared.code.Code.TheVariants as Codes
use Rattle.xa_base.specs.declared.state.Fate.{Fate}
use Rattle.xa_base.specs.declared.state.Standing.{Standing}
use Rattle.xa_base.specs.Standing.{fate_of}
use Rattle.xa_model.specs.Facts.Manager.{breaks}
use Rattle.xa_base.specs.declared.call.Call.TheVariants as Calls
use Rattle.xa_base.specs.declared.answer.Answer.TheVariants.{Ret}
use Rattle.xa_model.specs.Trace.{Branch, Vote, Happening, Happening.Took, Happening.CompletedAlone, Happening.Voted, Happening.PutOff, Origin, Trace, Trace.From, Trace.Then, line_of}

-- whether the numbers of a branch fit its identifier
abbrev pub fits : Branch → Bool
fits b =
    (nat_lt b.gtrid.incarnation (2 ^ 64) && nat_lt b.gtrid.sequence (2 ^ 64)) && (nat_lt b.thread (2 ^ 32) && nat_lt b.rm (2 ^ 32))

-- what the branch's resource manager held of it at the start: nothing, where it has no identifier of its own
abbrev pub held_of : Origin → Branch → HeldBranch
held_of o b = if fits b then o.held b.rm (xid_of_branch b) else new_branch

-- a branch after what was asked of one, and answered so
abbrev pub moved_by : Option (Kind × Branch) → Code → Branch → Standing → Standing
moved_by (Some (k, c)) a b f = if branch_eq c b then moved f k a else f
moved_by None a b f = f

-- a call that is taken moves its branch by the state table; its resource manager may end it alone; a break of its line loses it
abbrev pub standing_after : Trace → Happening → Branch → Standing → Standing
standing_after tr (Took l c (Ret a)) b f = moved_by (asks_of c) a b f
standing_after tr (CompletedAlone c how) b f = if branch_eq c b then completed f how else f
standing_after tr e b f = if breaks tr e (line_of b) then broken f else f

-- where a branch stands: at the start, as its resource manager holds it
abbrev pub standing : Trace → Branch → Standing
standing (From o) b = (held_of o b).standing
standing (Then tr e) b = standing_after tr e b (standing tr b)

-- the fate of a branch: its state or, where it is in none, its last end
abbrev pub fate : Trace → Branch → Fate
fate tr b = fate_of (standing tr b)

-- the vote that was set last
abbrev pub vote : Trace → Branch → Vote
vote (From o) b = (held_of o b).vote
vote (Then tr (Voted c v)) b = if branch_eq c b then v else vote tr b
vote (Then tr _) b = vote tr b

-- how many commits are still put off: as was set last, less the XA_RETRY answers since
abbrev pub retries : Trace → Branch → ℕ
retries (From o) b = (held_of o b).retries
retries (Then tr (PutOff c n)) b = if branch_eq c b then n else retries tr b
retries (Then tr (Took l (Calls.Commit c false) (Ret Codes.Retry))) b = if branch_eq c b then retries tr b - 1 else retries tr b
retries (Then tr _) b = retries tr b

-- Of which transactions nobody knows how they ended: those whose one branch was to be committed in
-- one phase, and whose line was lost.
use Rattle.std.specs.Prelude.{◌≡◌, ◌⊎◌, ℕ, true, List, Option}
use Rattle.xa_base.specs.Branch.{gtrid_eq}
use Rattle.xa_base.specs.declared.branch.Branch.{Branch}
use Rattle.xa_base.specs.declared.branch.Gtrid.{Gtrid}
use Rattle.xa_base.specs.declared.call.Call.TheVariants as Calls
use Rattle.xa_base.specs.declared.state.Standing.{Standing}
use Rattle.xa_log.specs.Contract.{Moment}
use Rattle.xa_model.specs.Trace.{Happening.Issued, Line}
use Rattle.xa_monitor.specs.Seen.{Seen, Seen.Answered, Seen.Did, Seen.Lost, Seen.Start}
use Rattle.xa_server.specs.Sessions.{AreServed, AreServed.Between, AreServed.NoneYet, AreServed.OneMore}
use Rattle.xa_server.specs.declared.server.Server.{Server}

-- an xa_commit in one phase of a branch of it waited on this line
abbrev pub IsIssuedAtOnce : Gtrid → Line → Seen → Type 0
IsIssuedAtOnce g l Start = ⊥
IsIssuedAtOnce g l (Did seen (Issued m (Calls.Commit b true))) = ((gtrid_eq b.gtrid g ≡ true) × (m ≡ l)) ⊎ IsIssuedAtOnce g l seen
IsIssuedAtOnce g l (Did seen e) = IsIssuedAtOnce g l seen
IsIssuedAtOnce g l (Answered seen m c a) = IsIssuedAtOnce g l seen
IsIssuedAtOnce g l (Lost seen m c) = IsIssuedAtOnce g l seen

-- the line was lost
abbrev pub IsLineLost : Line → Seen → Type 0
IsLineLost l Start = ⊥
IsLineLost l (Did seen e) = IsLineLost l seen
IsLineLost l (Answered seen m c a) = IsLineLost l seen
IsLineLost l (Lost seen m c) = (m ≡ l) ⊎ IsLineLost l seen

-- both were seen of the transaction
pub record LeavesUnknown (g : Gtrid) (seen : Seen) : Type 0 where
  pub line : Line
  pub issued : IsIssuedAtOnce g line seen
  pub lost : IsLineLost line seen

-- the lines of one of these sessions and their replies told both
abbrev pub WasLeftUnknown : {L : Type 0} (moment : L → Moment) (name : List ℕ) (g : Gtrid) (last : Option (Server L)) (f : Branch → Standing)
    → AreServed moment name last f → Type 0
WasLeftUnknown moment name g _ _ NoneYet = ⊥
WasLeftUnknown moment name g _ _ (OneMore last from to handed o told seen now left done cut before handed_on is is_left honest may) =
    LeavesUnknown g told ⊎ WasLeftUnknown moment name g last from before
WasLeftUnknown moment name g _ _ (Between last from to d how before was final) = WasLeftUnknown moment name g last from before

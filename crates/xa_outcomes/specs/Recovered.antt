-- A recovery ends what it lists: what a page listed and was told to have ended is prepared no more.
use Rattle.std.specs.Prelude.{◌≡◌, ◌<◌, ◌≤◌, ◌⊎◌, ℕ, List, Option, Some}
use Rattle.xa_base.specs.declared.answer.Answer.TheVariants.{Page, Ret}
use Rattle.xa_base.specs.declared.state.Standing.{Standing}
use Rattle.xa_base.specs.declared.state.Standing.TheVariants.{Committed, Prepared, RolledBack}
use Rattle.xa_log.specs.Content.{Content}
use Rattle.xa_log.specs.Contract.{Moment}
use Rattle.xa_model.specs.Protocol.{Lists}
use Rattle.xa_model.specs.Trace.{Branch, How, Name, Name.Ours, Origin}
use Rattle.xa_monitor.specs.Seen.{Seen, Seen.Answered, Seen.Did, Seen.Lost, Seen.Start}
use Rattle.xa_outcomes.specs.Outcomes.{TellsHeuristic}
use Rattle.xa_server.specs.HeardEnds.{TellsEnd}
use Rattle.xa_server.specs.Sessions.{AreServed, AreServed.Between, AreServed.NoneYet, AreServed.OneMore}
use Rattle.xa_server.specs.declared.server.Server.{Server}
use Rattle.xa_session.specs.Logging.{LeavesContent}

-- an answer told that the branch has ended: that it is committed or rolled back, or that its
-- database ended it by itself
abbrev pub TellsOver : Branch → Seen → Type 0
TellsOver b seen = TellsEnd b Committed seen ⊎ (TellsEnd b RolledBack seen ⊎ ((how : How) × TellsHeuristic b how seen))

-- a page of the resource manager was heard, which lists these
abbrev pub TellsPage : (rm : ℕ) → List Name → Seen → Type 0
TellsPage rm names Start = ⊥
TellsPage rm names (Did seen e) = TellsPage rm names seen
TellsPage rm names (Answered seen l c (Page listed)) = ((l.rm ≡ rm) × (listed ≡ names)) ⊎ TellsPage rm names seen
TellsPage rm names (Answered seen l c (Ret code)) = TellsPage rm names seen
TellsPage rm names (Lost seen l c) = TellsPage rm names seen

-- A recovery of a resource manager, as lines and their replies tell it: a page of it, and that each
-- branch of an earlier start has ended which that lists.
pub record TellsRecovery (o : Origin) (rm : ℕ) (names : List Name) (told : Seen) : Type 0 where
  pub page : TellsPage rm names told
  pub ended : (b : Branch) → b.gtrid.incarnation < o.incarnation → Lists names (Ours b) → TellsOver b told

-- The last of these sessions, which began in this incarnation, told it.
abbrev pub TellsEndsFound : {L : Type 0} (moment : L → Moment) (name : List ℕ) (incarnation rm : ℕ) (names : List Name) (last : Option (Server L))
    (f : Branch → Standing) → AreServed moment name last f → Type 0
TellsEndsFound moment name i rm names _ _ NoneYet = ⊥
TellsEndsFound moment name i rm names _ _ (OneMore last from to handed o told seen now left done cut before handed_on is is_left honest may) =
    (i ≡ o.incarnation) × TellsRecovery o rm names told
TellsEndsFound moment name i rm names _ _ (Between last from to d how before was final) = TellsEndsFound moment name i rm names last from before

-- If that page left out no branch of an earlier start that is prepared still, none is prepared at
-- the resource manager.
abbrev pub ServedRecoveriesComplete : {L : Type 0} → (L → Moment) → Type 0
ServedRecoveriesComplete {L} moment =
    (name : List ℕ) (last : Server L) (f : Branch → Standing) (c : Content) (served : AreServed moment name (Some last) f) (i rm : ℕ) (names : List Name)
    → LeavesContent moment last.session.manager c → TellsEndsFound moment name i rm names (Some last) f served
    → ((b : Branch) → b.rm ≡ rm → b.gtrid.incarnation < i → f b ≡ Prepared → Lists names (Ours b))
    → (b : Branch) → b.rm ≡ rm → f b ≡ Prepared → i ≤ b.gtrid.incarnation

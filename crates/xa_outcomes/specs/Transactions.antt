-- What a session was told of a whole transaction, that it is committed or that it is rolled back,
-- and where its branches then stand, after all sessions.
use Rattle.std.specs.Prelude.{◌≡◌, ◌⊎◌, true}
use Rattle.xa_base.specs.Branch.{gtrid_eq}
use Rattle.xa_base.specs.declared.answer.Answer.TheVariants.{Ret}
use Rattle.xa_base.specs.declared.branch.Gtrid.{Gtrid}
use Rattle.xa_base.specs.declared.call.Call.TheVariants as Calls
use Rattle.xa_base.specs.declared.code.Code.TheVariants.{RolledBack, Success}
use Rattle.xa_base.specs.declared.state.Standing.{Standing}
use Rattle.xa_base.specs.declared.state.Standing.TheVariants.{Committed, Prepared, ReadOnly, Unstarted}
use Rattle.xa_base.specs.declared.step.Outcome.TheVariants as Outcomes
use Rattle.xa_model.specs.Facts.{lists_row}
use Rattle.xa_model.specs.Trace.{Branch, Happening.Decided, Origin}
use Rattle.xa_monitor.specs.Seen.{Seen, Seen.Answered, Seen.Did, Seen.Lost, Seen.Start}
use Rattle.xa_monitor.specs.Sessions.{AfterSessions, AfterSessions.Between, AfterSessions.NoneYet, AfterSessions.OneMore, Finds, IsCommitting, Log}
use Rattle.xa_outcomes.specs.Outcomes.{IsSeenDecided, IsHandedOver}

-- ** what is seen of it

-- it was decided to roll back
abbrev pub IsRollbackDecided : Gtrid → Seen → Type 0
IsRollbackDecided g Start = ⊥
IsRollbackDecided g (Did seen (Decided h Outcomes.Rollback)) = (gtrid_eq h g ≡ true) ⊎ IsRollbackDecided g seen
IsRollbackDecided g (Did seen e) = IsRollbackDecided g seen
IsRollbackDecided g (Answered seen l c a) = IsRollbackDecided g seen
IsRollbackDecided g (Lost seen l c) = IsRollbackDecided g seen

-- the xa_commit of a branch of it was answered XA_OK
abbrev pub IsCommitHeard : Gtrid → Seen → Type 0
IsCommitHeard g Start = ⊥
IsCommitHeard g (Did seen e) = IsCommitHeard g seen
IsCommitHeard g (Answered seen l (Calls.Commit b one_phase) (Ret Success)) = (gtrid_eq b.gtrid g ≡ true) ⊎ IsCommitHeard g seen
IsCommitHeard g (Answered seen l c a) = IsCommitHeard g seen
IsCommitHeard g (Lost seen l c) = IsCommitHeard g seen

-- or by one of the XA_RB codes, as it may be in one phase
abbrev pub IsCommitRefused : Gtrid → Seen → Type 0
IsCommitRefused g Start = ⊥
IsCommitRefused g (Did seen e) = IsCommitRefused g seen
IsCommitRefused g (Answered seen l (Calls.Commit b one_phase) (Ret (RolledBack why))) = (gtrid_eq b.gtrid g ≡ true) ⊎ IsCommitRefused g seen
IsCommitRefused g (Answered seen l c a) = IsCommitRefused g seen
IsCommitRefused g (Lost seen l c) = IsCommitRefused g seen

-- the session told that it is committed
abbrev pub TellsCommit : Gtrid → Seen → Type 0
TellsCommit g seen = IsSeenDecided g seen ⊎ IsCommitHeard g seen

-- or that it is rolled back
abbrev pub TellsRollback : Gtrid → Seen → Type 0
TellsRollback g seen = IsRollbackDecided g seen ⊎ IsCommitRefused g seen

-- ** where its branches stand

-- A branch of a committed transaction is committed, or stands prepared still, or its database ended
-- it by itself; or it only read, or it never began.
abbrev pub MayStandCommitted : Standing → Type 0
MayStandCommitted ReadOnly = Unit
MayStandCommitted Unstarted = Unit
MayStandCommitted s = IsCommitting s

-- Each branch of the transaction stands so; and as long as one stands prepared, each start over the
-- log finds the row.
pub record StandsCommitted (log : Log) (f : Branch → Standing) (g : Gtrid) : Type 0 where
  pub each : (b : Branch) → b.gtrid ≡ g → MayStandCommitted (f b)
  pub row_stays : (b : Branch) (next : Origin) → b.gtrid ≡ g → f b ≡ Prepared → Finds log next → lists_row next.rows g ≡ true

-- no branch of it is committed
abbrev pub HasNoCommit : (Branch → Standing) → Gtrid → Type 0
HasNoCommit f g = (b : Branch) → b.gtrid ≡ g → f b ≡ Committed → ⊥

-- no more than one branch of it ever began
abbrev pub HasOneBranch : (Branch → Standing) → Gtrid → Type 0
HasOneBranch f g =
    (b c : Branch) → b.gtrid ≡ g → c.gtrid ≡ g → (f b ≡ Unstarted → ⊥) → (f c ≡ Unstarted → ⊥) → b ≡ c

-- ** after all sessions

-- one of these sessions told that it is committed
abbrev pub WasToldCommit : Gtrid → (log : Log) (f : Branch → Standing) → AfterSessions log f → Type 0
WasToldCommit g _ _ (NoneYet i) = ⊥
WasToldCommit g _ _ (OneMore log from to o seen fails done cut before found session may) = TellsCommit g seen ⊎ WasToldCommit g log from before
WasToldCommit g _ _ (Between log from to d how before was final) = WasToldCommit g log from before

abbrev pub ToldCommitStands : Type 0
ToldCommitStands = (log : Log) (f : Branch → Standing) (after : AfterSessions log f) (g : Gtrid) → WasToldCommit g log f after → StandsCommitted log f g

-- one of them told that it is rolled back
abbrev pub WasToldRollback : Gtrid → (log : Log) (f : Branch → Standing) → AfterSessions log f → Type 0
WasToldRollback g _ _ (NoneYet i) = ⊥
WasToldRollback g _ _ (OneMore log from to o seen fails done cut before found session may) = TellsRollback g seen ⊎ WasToldRollback g log from before
WasToldRollback g _ _ (Between log from to d how before was final) = WasToldRollback g log from before

abbrev pub ToldRollbackStands : Type 0
ToldRollbackStands = (log : Log) (f : Branch → Standing) (after : AfterSessions log f) (g : Gtrid) → WasToldRollback g log f after → HasNoCommit f g

-- one of them asked to commit it in one phase
abbrev pub WasHandedOver : Gtrid → (log : Log) (f : Branch → Standing) → AfterSessions log f → Type 0
WasHandedOver g _ _ (NoneYet i) = ⊥
WasHandedOver g _ _ (OneMore log from to o seen fails done cut before found session may) = IsHandedOver g seen ⊎ WasHandedOver g log from before
WasHandedOver g _ _ (Between log from to d how before was final) = WasHandedOver g log from before

abbrev pub HandedOverIsAlone : Type 0
HandedOverIsAlone = (log : Log) (f : Branch → Standing) (after : AfterSessions log f) (g : Gtrid) → WasHandedOver g log f after → HasOneBranch f g

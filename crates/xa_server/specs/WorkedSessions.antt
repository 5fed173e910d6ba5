-- Two sessions, worked out: of a transaction with a branch at each of two databases the first session hears both votes, and is left in its
-- `decide`; the second finds the row and has one of the two committed. So what is supposed of sessions can be met.
use Rattle.std.specs.Prelude.{◌≡◌, ◌≢◌, ◌⊎◌, [], ◌∷◌, Some}
use Rattle.xa_base.specs.declared.branch.Gtrid.{Gtrid}
use Rattle.xa_base.specs.declared.state.Standing.{Standing}
use Rattle.xa_base.specs.declared.state.Standing.TheVariants.{Committed, Completed, Prepared}
use Rattle.xa_model.specs.Trace.{Branch, Fault.InDecide, How}
use Rattle.xa_monitor.specs.Sessions.{AfterSessions, AfterSessions.Between, AfterSessions.NoneYet, AfterSessions.OneMore, Log}

-- one of these sessions was left in a `decide` of this transaction alone, in which its log failed, as it does where the program is killed there
abbrev pub WasLeftDeciding : Gtrid → (log : Log) (f : Branch → Standing) → AfterSessions log f → Type 0
WasLeftDeciding g _ _ (NoneYet i) = ⊥
WasLeftDeciding g _ _ (OneMore log from to o seen fails done cut before found session may) =
    (fails ≡ Some (InDecide (g ∷ []))) ⊎ WasLeftDeciding g log from before
WasLeftDeciding g _ _ (Between log from to d how before was final) = WasLeftDeciding g log from before

-- Sessions left two branches of a transaction at two databases so, one of them in its `decide`: the one is committed, and the other one so.
pub record AreWorked (s : Standing) : Type 0 where
  pub log : Log
  pub stand : Branch → Standing
  pub after : AfterSessions log stand
  pub one : Branch
  pub other : Branch
  pub same : one.gtrid ≡ other.gtrid
  pub apart : one.rm ≢ other.rm
  pub deciding : WasLeftDeciding one.gtrid log stand after
  pub committed : stand one ≡ Committed
  pub so : stand other ≡ s

-- There are such sessions with the other one prepared still, and such where its database ended it by itself.
abbrev pub SessionsAreThere : Type 0
SessionsAreThere = AreWorked Prepared × ((how : How) → AreWorked (Completed how))

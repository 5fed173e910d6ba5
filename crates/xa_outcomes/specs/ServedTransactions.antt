-- The same of sessions that a server serves: what their lines and replies told of a whole
-- transaction, and where its branches then stand.
use Rattle.std.specs.Prelude.{◌≡◌, ◌⊎◌, ℕ, true, List, Option, Some, is_some}
use Rattle.std.specs.FinMap.{get}
use Rattle.xa_base.specs.declared.branch.Gtrid.{Gtrid}
use Rattle.xa_base.specs.declared.state.Standing.{Standing}
use Rattle.xa_base.specs.declared.state.Standing.TheVariants.{Prepared}
use Rattle.xa_log.specs.Content.{Content}
use Rattle.xa_log.specs.Contract.{Moment}
use Rattle.xa_model.specs.Trace.{Branch}
use Rattle.xa_outcomes.specs.Outcomes.{IsHandedOver}
use Rattle.xa_outcomes.specs.Transactions.{HasNoCommit, HasOneBranch, MayStandCommitted, TellsCommit, TellsRollback}
use Rattle.xa_server.specs.Sessions.{AreServed, AreServed.Between, AreServed.NoneYet, AreServed.OneMore}
use Rattle.xa_server.specs.declared.server.Server.{Server}
use Rattle.xa_session.specs.Logging.{LeavesContent}

-- ** committed

-- the lines of one of these sessions and their replies told that it is committed
abbrev pub WasToldCommitServed : {L : Type 0} (moment : L → Moment) (name : List ℕ) (g : Gtrid) (last : Option (Server L)) (f : Branch → Standing)
    → AreServed moment name last f → Type 0
WasToldCommitServed moment name g _ _ NoneYet = ⊥
WasToldCommitServed moment name g _ _ (OneMore last from to handed o told seen now left done cut before handed_on is is_left honest may) =
    TellsCommit g told ⊎ WasToldCommitServed moment name g last from before
WasToldCommitServed moment name g _ _ (Between last from to d how before was final) = WasToldCommitServed moment name g last from before

-- So each branch of the transaction stands after all of them.
abbrev pub ServedCommitStands : {L : Type 0} → (L → Moment) → Type 0
ServedCommitStands {L} moment =
    (name : List ℕ) (last : Option (Server L)) (f : Branch → Standing) (served : AreServed moment name last f) (g : Gtrid)
    → WasToldCommitServed moment name g last f served → (b : Branch) → b.gtrid ≡ g → MayStandCommitted (f b)

-- And as long as one stands prepared, the log that is left has the row.
abbrev pub ServedCommitRowStays : {L : Type 0} → (L → Moment) → Type 0
ServedCommitRowStays {L} moment =
    (name : List ℕ) (last : Server L) (f : Branch → Standing) (c : Content) (served : AreServed moment name (Some last) f) (g : Gtrid)
    → LeavesContent moment last.session.manager c → WasToldCommitServed moment name g (Some last) f served
    → (b : Branch) → b.gtrid ≡ g → f b ≡ Prepared → is_some (get c.decisions g) ≡ true

-- ** rolled back

-- one of them told that it is rolled back
abbrev pub WasToldRollbackServed : {L : Type 0} (moment : L → Moment) (name : List ℕ) (g : Gtrid) (last : Option (Server L))
    (f : Branch → Standing) → AreServed moment name last f → Type 0
WasToldRollbackServed moment name g _ _ NoneYet = ⊥
WasToldRollbackServed moment name g _ _ (OneMore last from to handed o told seen now left done cut before handed_on is is_left honest may) =
    TellsRollback g told ⊎ WasToldRollbackServed moment name g last from before
WasToldRollbackServed moment name g _ _ (Between last from to d how before was final) = WasToldRollbackServed moment name g last from before

-- So no branch of it is committed.
abbrev pub ServedRollbackStands : {L : Type 0} → (L → Moment) → Type 0
ServedRollbackStands {L} moment =
    (name : List ℕ) (last : Option (Server L)) (f : Branch → Standing) (served : AreServed moment name last f) (g : Gtrid)
    → WasToldRollbackServed moment name g last f served → HasNoCommit f g

-- ** handed over

-- one of them told that an xa_commit in one phase of a branch of it waits
abbrev pub WasToldHandedOver : {L : Type 0} (moment : L → Moment) (name : List ℕ) (g : Gtrid) (last : Option (Server L)) (f : Branch → Standing)
    → AreServed moment name last f → Type 0
WasToldHandedOver moment name g _ _ NoneYet = ⊥
WasToldHandedOver moment name g _ _ (OneMore last from to handed o told seen now left done cut before handed_on is is_left honest may) =
    IsHandedOver g told ⊎ WasToldHandedOver moment name g last from before
WasToldHandedOver moment name g _ _ (Between last from to d how before was final) = WasToldHandedOver moment name g last from before

-- So no more than one branch of it ever began.
abbrev pub ServedHandedOverIsAlone : {L : Type 0} → (L → Moment) → Type 0
ServedHandedOverIsAlone {L} moment =
    (name : List ℕ) (last : Option (Server L)) (f : Branch → Standing) (served : AreServed moment name last f) (g : Gtrid)
    → WasToldHandedOver moment name g last f served → HasOneBranch f g

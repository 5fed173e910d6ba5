-- One transaction alone: sessions of a manager one after another, where nothing is supposed of the branches of any other transaction. So one
-- branch that a database forgot, or that somebody ended against the log, is the trouble of its own transaction.
use Rattle.std.specs.Prelude.{◌≡◌, ◌≤◌, ◌⊎◌, ℕ, true, false, if◌then◌else◌, Bool, List, [], ◌∷◌, Some, is_some}
use Rattle.std.specs.FinMap.{get}
use Rattle.xa_base.specs.Branch.{branch_eq}
use Rattle.xa_base.specs.StateTable.{asks_of, broken}
use Rattle.xa_base.specs.declared.state.Standing.{Standing}
use Rattle.xa_base.specs.declared.state.Standing.TheVariants.{Committed, Completed, Forgotten, Prepared, RolledBack, Unstarted}
use Rattle.xa_log.specs.Content.{Content}
use Rattle.xa_log.specs.Contract.{Moment}
use Rattle.xa_model.specs.Promises.Agreement.{IsUndone}
use Rattle.xa_model.specs.Trace.{Branch, Call, Code, Gtrid, How, Line, Origin, line_eq, line_of}
use Rattle.xa_monitor.specs.Agreement.{IsLineOf, WaitsAt, is_line_among, times}
use Rattle.xa_monitor.specs.Seen.{Seen}
use Rattle.xa_monitor.specs.Standings.{Comes, ExplainsAsked}
use Rattle.xa_server.specs.Sessions.{HoldsLeft, IsEmptyLog, IsSession, IsSessionLeft}
use Rattle.xa_server.specs.declared.server.Server.{Server}
use Rattle.xa_session.specs.Logging.{LeavesContent}
use Rattle.xa_tm.specs.Calls.{log_in}

-- ** in a session

-- the call was done with some answer, and each branch of the transaction came from the one standing to the other by that
abbrev pub WasDoneFor : Gtrid → Call → (from to : Branch → Standing) → Type 0
WasDoneFor g c from to = (a : Code) × ((b : Branch) → b.gtrid ≡ g → ExplainsAsked (asks_of c) a b (from b) (to b))

-- Where the branches of one transaction may stand after what was told, and after what wasn't told yet: `MayAllStand` of `xa_monitor`, which
-- says it of all branches. Where the branches of other transactions stand isn't said.
pub data MayStandFor (g : Gtrid) (o : Origin) (seen : Seen) (Told : Branch → Standing → Type 0) : List Line → List Line → (Branch → Standing) → Type 0 where
  AsTold : (f : Branch → Standing) → ((b : Branch) → b.gtrid ≡ g → Told b (f b)) → MayStandFor g o seen Told [] [] f
  UnderWay :
      (done cut : List Line) (from to : Branch → Standing) (l : Line) (c : Call) → MayStandFor g o seen Told done cut from → IsLineOf o l
      → is_line_among cut l ≡ false → WaitsAt o seen l (times done l) (Some c) → WasDoneFor g c from to → MayStandFor g o seen Told (l ∷ done) cut to
  CutOff :
      (done cut : List Line) (from to : Branch → Standing) (l : Line) → MayStandFor g o seen Told done cut from
      → ((b : Branch) → b.gtrid ≡ g → to b ≡ (if line_eq l (line_of b) then broken (from b) else from b)) → MayStandFor g o seen Told done (l ∷ cut) to
  EndedAlone :
      (done cut : List Line) (from to : Branch → Standing) (d : Branch) (how : How) → MayStandFor g o seen Told done cut from → from d ≡ Prepared
      → ((b : Branch) → b.gtrid ≡ g → to b ≡ (if branch_eq d b then Completed how else from b)) → MayStandFor g o seen Told done cut to

-- ** between sessions

-- What may become of a branch behind a session, before the next one starts, where the log that was left has a row of its transaction, or has
-- none. Its database ends it by itself, and reports that; or forgets by itself that it did. Somebody ends it by hand, as the log says: with a
-- row it is committed, without one it is rolled back, by the database itself too, and none of them has to report that. And where there is no
-- row a database may forget that it rolled the branch back, and have it prepared again.
pub data MayTurn (has_row : Bool) : (from to : Standing) → Type 0 where
  EndsByItself : (how : How) → MayTurn has_row Prepared (Completed how)
  ForgetsByItself : (how : How) → MayTurn has_row (Completed how) (Forgotten how)
  CommittedByHand : has_row ≡ true → MayTurn has_row Prepared Committed
  RolledBackByHand : has_row ≡ false → MayTurn has_row Prepared RolledBack
  ForgetsItsRollback : has_row ≡ false → MayTurn has_row RolledBack Prepared

-- ** all of them

-- Where the branches of one transaction may stand after sessions of the manager of this name, one after another, and what log is left. Each is
-- over a log in order that holds what was left before it, and that was honest to the end. Databases obey the table as far as the branches of
-- this transaction go: before the first session none is there; in each they come to where they may by what was seen and by what is under way;
-- and between two they turn as `MayTurn` says. Nothing is supposed of any other branch.
pub data AreServedFor {L : Type 0} (moment : L → Moment) (name : List ℕ) (g : Gtrid) : Content → (Branch → Standing) → Type 0 where
  NoneYet : (c : Content) → IsEmptyLog c → AreServedFor moment name g c (λ b. Unstarted)
  OneMore :
      (c d : Content) (from to : Branch → Standing) (handed : L) (o : Origin) (told seen : Seen) (now left : Server L) (done cut : List Line)
      → AreServedFor moment name g c from → HoldsLeft moment c handed → IsSession moment name handed o told now → IsSessionLeft moment told now seen left
      → (moment (log_in left.session.manager)).is_honest → MayStandFor g o seen (λ b. Comes seen b (broken (from b))) done cut to
      → LeavesContent moment left.session.manager d → AreServedFor moment name g d to
  Between :
      (c : Content) (from to : Branch → Standing) (d : Branch) → AreServedFor moment name g c from → MayTurn (is_some (get c.decisions g)) (from d) (to d)
      → ((b : Branch) → b.gtrid ≡ g → branch_eq d b ≡ false → to b ≡ from b) → AreServedFor moment name g c to

-- None of its branches then stands committed beside one that stands rolled back or lost; and the log that is left decides of those that stand
-- prepared: it has the row where one stands committed beside them, and has none where one stands rolled back or lost.
pub record IsAlike (g : Gtrid) (f : Branch → Standing) (log : Content) : Type 0 where
  pub agree : (b c : Branch) → b.gtrid ≡ g → c.gtrid ≡ g → f b ≡ Committed → IsUndone (f c) → ⊥
  pub committed : (b c : Branch) → b.gtrid ≡ g → c.gtrid ≡ g → f b ≡ Committed → f c ≡ Prepared → is_some (get log.decisions g) ≡ true
  pub undone : (b : Branch) → b.gtrid ≡ g → IsUndone (f b) → is_some (get log.decisions g) ≡ false

abbrev pub ServedTransactionsAgree : {L : Type 0} → (L → Moment) → Type 0
ServedTransactionsAgree {L} moment =
    (name : List ℕ) (g : Gtrid) (c : Content) (f : Branch → Standing) → AreServedFor moment name g c f → IsAlike g f c

-- ** what the log that is left tells

-- it has a row of the transaction, or none
abbrev pub HasRowOf : Content → Gtrid → Type 0
HasRowOf c g = is_some (get c.decisions g) ≡ true

abbrev pub HasNoRowOf : Content → Gtrid → Type 0
HasNoRowOf c g = is_some (get c.decisions g) ≡ false

-- the log that one of these sessions left has the row of the transaction
abbrev pub WasLeftDecided : {L : Type 0} (moment : L → Moment) (name : List ℕ) (g : Gtrid) (c : Content) (f : Branch → Standing)
    → AreServedFor moment name g c f → Type 0
WasLeftDecided moment name g _ _ (NoneYet c empty) = ⊥
WasLeftDecided moment name g _ _ (OneMore c d from to handed o told seen now left done cut before has is is_left honest may leaves) =
    HasRowOf d g ⊎ WasLeftDecided moment name g c from before
WasLeftDecided moment name g _ _ (Between c from to d before turns others) = WasLeftDecided moment name g c from before

-- So it is committed, whenever that session ended: none of its branches is ever rolled back or lost, and as long as one stands prepared, the
-- log has the row.
pub record IsToCommit (g : Gtrid) (f : Branch → Standing) (log : Content) : Type 0 where
  pub never_undone : (b : Branch) → b.gtrid ≡ g → IsUndone (f b) → ⊥
  pub row_stays : (b : Branch) → b.gtrid ≡ g → f b ≡ Prepared → HasRowOf log g

abbrev pub LeftDecisionsStand : {L : Type 0} → (L → Moment) → Type 0
LeftDecisionsStand {L} moment =
    (name : List ℕ) (g : Gtrid) (c : Content) (f : Branch → Standing) (served : AreServedFor moment name g c f)
    → WasLeftDecided moment name g c f served → IsToCommit g f c

-- The log that one of these sessions left has no row of the transaction, which is begun no more, and none of its branches stood committed
-- behind it.
abbrev pub WasLeftUndecided : {L : Type 0} (moment : L → Moment) (name : List ℕ) (g : Gtrid) (c : Content) (f : Branch → Standing)
    → AreServedFor moment name g c f → Type 0
WasLeftUndecided moment name g _ _ (NoneYet c empty) = ⊥
WasLeftUndecided moment name g _ _ (OneMore c d from to handed o told seen now left done cut before has is is_left honest may leaves) =
    (HasNoRowOf d g × (g.incarnation ≤ d.incarnation) × ((b : Branch) → b.gtrid ≡ g → to b ≡ Committed → ⊥))
    ⊎ WasLeftUndecided moment name g c from before
WasLeftUndecided moment name g _ _ (Between c from to d before turns others) = WasLeftUndecided moment name g c from before

-- So none of its branches ever is, and no log has a row of it.
pub record IsNeverCommitted (g : Gtrid) (f : Branch → Standing) (log : Content) : Type 0 where
  pub never_committed : (b : Branch) → b.gtrid ≡ g → f b ≡ Committed → ⊥
  pub no_row : HasNoRowOf log g

abbrev pub LeftUndecidedStays : {L : Type 0} → (L → Moment) → Type 0
LeftUndecidedStays {L} moment =
    (name : List ℕ) (g : Gtrid) (c : Content) (f : Branch → Standing) (served : AreServedFor moment name g c f)
    → WasLeftUndecided moment name g c f served → IsNeverCommitted g f c

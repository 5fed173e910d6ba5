-- There is one right history of sessions over a log and over one that was made anew of a mirror of
-- it. The decisions that the mirror lacks are left out of it.
use Rattle.std.specs.Prelude.{◌≡◌, ◌≤◌, ℕ, All, List, [], ◌∷◌, Option}
use Rattle.xa_base.specs.StateTable.{broken}
use Rattle.xa_base.specs.declared.state.Standing.{Standing}
use Rattle.xa_log.specs.Content.{Content, without_decisions}
use Rattle.xa_log.specs.Contract.{Moment}
use Rattle.xa_mirror.specs.HistoryWithout.{history_without}
use Rattle.xa_mirror.specs.ToldMirrors.{NoCommitIssued}
use Rattle.xa_model.specs.Trace.{Branch, Gtrid, Line, Origin, Trace}
use Rattle.xa_monitor.specs.Agreement.{MayAllStand}
use Rattle.xa_monitor.specs.Seen.{Seen}
use Rattle.xa_monitor.specs.Standings.{Comes}
use Rattle.xa_outcomes.specs.Served.{IsOfServed, IsServedPart}
use Rattle.xa_server.specs.Sessions.{AreServed, HasOneHistory, HoldsLeft, IsSession, IsSessionLeft, WasLeft}
use Rattle.xa_server.specs.declared.server.Server.{Server}
use Rattle.xa_session.specs.Logging.{LeavesContent}
use Rattle.xa_session.specs.Tracking.{IsRaisedFrom}
use Rattle.xa_tm.specs.Calls.{log_in}

-- The mirror has the rows and the records of the log, except the rows of these transactions.
pub record LacksOnly (gs : List Gtrid) (log mirror : Content) : Type 0 where
  pub rows : mirror.decisions ≡ (without_decisions gs log).decisions
  pub records : mirror.heuristics ≡ log.heuristics
  pub later : log.incarnation ≤ mirror.incarnation

-- Sessions of a manager are served over a log, and of these transactions no xa_commit is issued.
-- Then each start over a log that has what such a mirror has goes on from one right history of the
-- sessions.
abbrev pub MadeLogsHaveOneHistory : {L : Type 0} → (L → Moment) → Type 0
MadeLogsHaveOneHistory {L} moment =
    (name : List ℕ) (last : Option (Server L)) (f : Branch → Standing) (log mirror : Content) (gs : List Gtrid) (next : Origin)
    (served : AreServed moment name last f) → WasLeft moment last log → LacksOnly gs log mirror
    → All (λ g. NoCommitIssued moment name g last f served) gs → IsRaisedFrom mirror next → HasOneHistory f next

-- a history without the decisions of these transactions
abbrev pub history_without_each : List Gtrid → Trace → Trace
history_without_each [] tr = tr
history_without_each (g ∷ gs) tr = history_without_each gs (history_without g tr)

-- One right history of the sessions over the log that was lost, and of a session over the new one.
-- That session is the last part of it, and before it comes the history of the others, without the
-- decisions of these transactions.
pub record HaveHistoryAnew {L : Type 0} (moment : L → Moment) (name : List ℕ) (last : Option (Server L)) (from : Branch → Standing)
    (served : AreServed moment name last from) (gs : List Gtrid) (o : Origin) (told seen : Seen) (to : Branch → Standing) (next : Origin) : Type 0 where
  pub history : HasOneHistory to next
  pub before : Trace
  pub parts : IsOfServed moment name last from served before
  pub session : IsServedPart o told seen (history_without_each gs before) history.whole

-- So there is one after each session over such a log, wherever branches then stand.
abbrev pub FailoversHaveOneHistory : {L : Type 0} → (L → Moment) → Type 0
FailoversHaveOneHistory {L} moment =
    (name : List ℕ) (last : Option (Server L)) (from to : Branch → Standing) (log mirror after : Content) (gs : List Gtrid) (handed : L) (o next : Origin)
    (told seen : Seen) (now left : Server L) (done cut : List Line) (served : AreServed moment name last from) → WasLeft moment last log
    → LacksOnly gs log mirror → All (λ g. NoCommitIssued moment name g last from served) gs → HoldsLeft moment mirror handed
    → IsSession moment name handed o told now → IsSessionLeft moment told now seen left → (moment (log_in left.session.manager)).is_honest
    → MayAllStand o seen (λ b. Comes seen b (broken (from b))) done cut to → LeavesContent moment left.session.manager after
    → IsRaisedFrom after next → HaveHistoryAnew moment name last from served gs o told seen to next

-- What is supposed of a log that was made anew can be met.
use Rattle.std.specs.Prelude.{◌≤◌, ℕ, []}
use Rattle.xa_base.specs.declared.state.Standing.TheVariants.{Committed, Prepared}
use Rattle.xa_log.specs.Content.{Content, without_decision}
use Rattle.xa_log.specs.Contract.{Moment}
use Rattle.xa_mirror.specs.Mirrors.{AreServedAnew, copied}
use Rattle.xa_model.specs.Trace.{Origin}
use Rattle.xa_outcomes.specs.WorkedSessions.{first_gtrid, stand_at}
use Rattle.xa_server.specs.Sessions.{HasOneHistory}
use Rattle.xa_server.specs.declared.server.Server.{Server}
use Rattle.xa_session.specs.Logging.{LeavesContent}
use Rattle.xa_session.specs.Tracking.{IsRaisedFrom}

-- After the sessions that this server left, and a log made anew of a mirror that has the rows of
-- its log, one branch of a transaction may stand committed and another prepared still.
abbrev pub FailsOver : {L : Type 0} (moment : L → Moment) (last : Server L) → Type 0
FailsOver moment last =
    (c : Content) (n : ℕ) → LeavesContent moment last.session.manager c → c.incarnation ≤ n
    → AreServedAnew moment [] first_gtrid (copied n c) (stand_at first_gtrid Committed Prepared)

-- A server is left in its decision of a transaction with two prepared branches. A mirror lacks the
-- row of it, which its log may have. Then each start over a log that has what the mirror has goes
-- on from one right history, in which both branches are prepared.
pub record LosesDecision {L : Type 0} (moment : L → Moment) : Type 0 where
  pub first : Server L
  pub log : Content
  pub left : LeavesContent moment first.session.manager log
  pub goes_on :
      (n : ℕ) (next : Origin) → log.incarnation ≤ n → IsRaisedFrom (without_decision first_gtrid (record log { incarnation = n })) next
      → HasOneHistory (stand_at first_gtrid Prepared Prepared) next

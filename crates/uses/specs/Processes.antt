-- Processes of the manager one after another, of which each but the first goes on from what the one
-- before left.
use Rattle.std.specs.Prelude.{◌≡◌, ◌<◌, ◌≤◌, ◌++◌, ℕ, [], ◌∷◌, List, length, map, IfSome, Some}
use Rattle.xa_base.specs.Xid.{Xid}
use Rattle.xa_base.specs.declared.reply.Event.{Event}
use Rattle.xa_base.specs.declared.step.Step.{Step}
use Rattle.xa_log.specs.Content.{Content}
use Rattle.xa_model.specs.Facts.{issued, taken}
use Rattle.xa_model.specs.Facts.InDoubt.{in_doubt}
use Rattle.xa_model.specs.Promises.Processes.{Resumes, joined}
use Rattle.xa_model.specs.Promises.Recovery.{IsRecovered, NonePutOff, recovery}
use Rattle.xa_model.specs.Protocol.{AllRight, RightOrigin}
use Rattle.xa_model.specs.Replies.History.{AreAllowed, history, read}
use Rattle.xa_model.specs.Trace.{Answer, Call, Name, Origin, Trace, line}
use Rattle.xa_system.specs.NextProcess.{Leaves}
use Rattle.xa_system.specs.SystemView.{MayRestart, Observes, SystemView, trace_in}
use Rattle.xa_system.specs.declared.system.remains.Remains.{Remains}
use Rattle.xa_system.specs.declared.system.TheConstants.{EVENT_LIMIT}

-- ** what a process did

-- each step has its event, in order; or there are more steps than a trace has room for, and none
-- was done
pub record AreDone (steps : List (Step Xid)) (events : List Event) : Type 0 where
  pub all : length steps ≤ EVENT_LIMIT → map (λ event. event.step) events ≡ steps
  pub none : EVENT_LIMIT < length steps → events ≡ []

-- The whole history of processes that did these lists of steps: the first had a right start, and
-- the start of each later one resumes all that was before.
pub data HaveRun : List (List (Step Xid)) → Trace → Type 0 where
  First :
      (o : Origin) (steps : List (Step Xid)) (events : List Event) → RightOrigin o → AreAllowed o events → AreDone steps events
      → HaveRun (steps ∷ []) (history o events)
  Next :
      (lists : List (List (Step Xid))) (past : Trace) (o : Origin) (steps : List (Step Xid)) (events : List Event) → HaveRun lists past
      → Resumes past o → AreAllowed o events → AreDone steps events → HaveRun (lists ++ steps ∷ []) (joined past o events)

-- ** the last process, and what it leaves

module _ {R L : Type 0} (see : Observes R L) where
  -- A right history whose last process is this system: a start that resumes the system's own
  -- history resumes the whole. The system's log was in order as it was handed in, and a restart may
  -- follow.
  pub record IsLastOf (whole : Trace) (s : SystemView R L) : Type 0 where
    pub right : AllRight whole
    pub passes_on : (next : Origin) → Resumes (trace_in see.look s) next → Resumes whole next
    pub order : (see.moment s.handed).is_in_order
    pub near : MayRestart see s

  -- A right history whose last process left these resource managers and this log: a start that
  -- resumes the last process's own history resumes the whole. The log is in order, and if it is
  -- honest, what it and the resource managers hold is what that own history leaves.
  pub record IsEndOf (whole : Trace) (remains : Remains R L) : Type 0 where
    pub right : AllRight whole
    pub last : Trace
    pub passes_on : (next : Origin) → Resumes last next → Resumes whole next
    pub order : IfSome remains.log (λ log. (see.moment log).is_in_order)
    pub leaves : IfSome remains.log (λ log. (see.moment log).is_honest → (c : Content) → (see.moment log).content ≡ Some c
        → Leaves see.look last remains.rms.items c)

  -- these lists of steps were done by processes of which this system is the last
  pub record AreProcesses (lists : List (List (Step Xid))) (s : SystemView R L) : Type 0 where
    pub whole : Trace
    pub ran : HaveRun lists whole
    pub last : IsLastOf whole s

-- ** a recovery

-- If these events end with a whole recovery, what is then still prepared at that resource
-- manager is of live transactions: if no call waited on its line before, the page had room for all
-- that was in doubt, and no call was put off.
abbrev pub EndsRecovered : Origin → (before events : List Event) → Type 0
EndsRecovered o before events =
    (r count : ℕ) (names : List Name) (answers : List (Call × Answer)) → map read events ≡ map read before ++ recovery r count names answers
    → length (taken (history o before) (line 0 r)) ≡ length (issued (history o before) (line 0 r))
    → length (in_doubt (history o before) r) ≤ count → NonePutOff answers → IsRecovered (history o events) r
